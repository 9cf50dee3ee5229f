use Rattle.std.proofs.Common.{sym, subst, refl, arith}
use Rattle.std.specs.Prelude.{ℕ}
use Rattle.tre_node.specs.IsNode.{IsNode}
use Rattle.tre_online.proofs.NewZones.{none_apart}
use Rattle.tre_online.proofs.Standing.{stands_after, tells_after, in_time_after, apart_after, well_after, well_new}
use Rattle.tre_online.proofs.session.Session.go_on.Goals as goal

pub read-requires-clause-node : goal.read-requires-clause-node
read-requires-clause-node c =
    let old = c.args.self.now in
    subst (λ (time : ℕ). IsNode time old.progress.node) (sym c.in_ok-piece.ensures.ok.begin)
    old.well.node_is

pub read-requires-clause-made : goal.read-requires-clause-made
read-requires-clause-made c = c.args.self.now.well.made

pub invariant_of-self : goal.invariant_of-self
invariant_of-self c =
    let old = c.args.self.now in
    let progress = c.read.new.progress in
    record {
      in_time = in_time_after c.in_ok-piece.piece progress.told.items progress
          c.in-Ok.ensures.behind;
      well = well_after c.in-Ok.ensures.reads c.in-Ok.ensures.behind old.well.count;
      apart = apart_after c.in-Ok.ensures.reads;
    }

pub invariant_of-self-in-Err : goal.invariant_of-self-in-Err
invariant_of-self-in-Err c = record {
  in_time = rw c.none.ensures.at (omega arith);
  well = well_new _ c.none.ensures.node c.empty_pattern.ensures;
  apart = rw c.none.ensures.told none_apart;
}

pub returns-in-Ok-clause-tells : goal.returns-in-Ok-clause-tells
returns-in-Ok-clause-tells c u standing =
    let progress = c.read.new.progress in
    tells_after c.args.self.now progress.node u c.args.segment c.in_ok-piece.piece
    progress.told.items standing c.in_ok-piece.ensures.ok c.in-Ok.ensures.reads

pub returns-in-Ok-clause-stands : goal.returns-in-Ok-clause-stands
returns-in-Ok-clause-stands c u standing =
    let progress = c.read.new.progress in
    stands_after c.args.self.now progress.node u c.args.segment c.in_ok-piece.piece
    progress.told.items standing c.in_ok-piece.ensures.ok c.in-Ok.ensures.reads _ refl refl
    c.in-Ok.ensures.behind
