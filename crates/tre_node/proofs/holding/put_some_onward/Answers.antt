use Rattle.std.proofs.Common.{◌∙◌, ◌++◌, ap, subst}
use Rattle.std.proofs.lemmas.Result.{on_ok_weaker}
use Rattle.tre_zone.specs.Zone.{IsOnward}
use Rattle.tre_zone.specs.Held.{IsSetOf, Held}
use Rattle.tre_pairs.specs.Pairs.{Composed}
use Rattle.tre_edges.specs.Piece.{end_of_piece}
use Rattle.tre_node.specs.NodeTree.{begun_at}
use Rattle.tre_node.proofs.BegunAt.{onward_set}
use Rattle.tre_node.proofs.Lists.{exact_alone}
use Rattle.tre_node.proofs.holding.put_some_onward.Goals as goal

pub returns : goal.returns
returns c =
    let T = c.args.piece.now.begin in
    let T' = end_of_piece c.args.piece.now in
    on_ok_weaker c.gather_behind.result
    (λ held.
    subst (λ list. IsSetOf c.gather_behind.new.found.items (Composed (Held list) (IsOnward T T')))
    (c.deref-2.ensures.value ∙ c.in_ok-put_begun.ensures
    ∙ ap (λ list. list ++ begun_at T c.args.begun.now) c.clear-2.ensures.items)
    (onward_set T T' c.deref-2.result.now c.gather_behind.new.found.items c.onward.result
    (rw c.deref-2.ensures.value (rw c.deref.ensures.value at c.known.ensures))
    c.onward.ensures.held (exact_alone c.clear.ensures.items held))) c.gather_behind.ensures
