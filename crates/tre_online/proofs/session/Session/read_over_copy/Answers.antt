use Rattle.std.proofs.Common.{◌∙◌, subst, sym}
use Rattle.std.specs.Prelude.{ℕ}
use Rattle.tre_node.specs.IsNode.{IsNode}
use Rattle.tre_online.proofs.Finding.{reads_as}
use Rattle.tre_online.proofs.session.Session.read_over_copy.Goals as goal

pub read-requires-clause-node : goal.read-requires-clause-node
read-requires-clause-node c =
    subst (λ (time : ℕ). IsNode time c.in_ok-copy.copy.node) (sym c.requires.begin)
    (c.in_ok-copy.ensures.node.node_is _ c.args.self.now.well.node_is)

pub read-requires-clause-made : goal.read-requires-clause-made
read-requires-clause-made c =
    let made = c.in_ok-copy.ensures.node.like.made in
    let old = c.args.self.now.well.made in
    record { counts = made.counts ∙ old.counts; enters = made.enters ∙ old.enters }

pub returns-clause-reads : goal.returns-clause-reads
returns-clause-reads c =
    reads_as c.in_ok-copy.ensures.node c.in_ok-copy.ensures.ended c.in_ok-read.ensures.reads
