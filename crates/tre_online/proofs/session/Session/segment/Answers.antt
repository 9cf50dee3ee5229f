use Rattle.std.proofs.Common.{refl}
use Rattle.tre_online.proofs.Standing.{stands_after, tells_after, in_time_after, apart_after, well_after}
use Rattle.tre_online.proofs.session.Session.segment.Goals as goal

pub invariant_of-self : goal.invariant_of-self
invariant_of-self c =
    let old = c.args.self.now in
    let progress = c.in-Ok.progress in
    record {
      in_time = in_time_after c.in_ok-piece.piece progress.told.items progress
          c.in-Ok.ensures.behind;
      well = well_after c.in-Ok.ensures.reads c.in-Ok.ensures.behind old.well.count;
      apart = apart_after c.in-Ok.ensures.reads;
    }

pub returns-in-Ok-clause-tells : goal.returns-in-Ok-clause-tells
returns-in-Ok-clause-tells c u standing =
    let progress = c.in-Ok.progress in
    tells_after c.args.self.now progress.node u c.args.segment c.in_ok-piece.piece
    progress.told.items standing c.in_ok-piece.ensures.ok c.in-Ok.ensures.reads

pub returns-in-Ok-clause-stands : goal.returns-in-Ok-clause-stands
returns-in-Ok-clause-stands c u standing =
    let progress = c.in-Ok.progress in
    stands_after c.args.self.now progress.node u c.args.segment c.in_ok-piece.piece
    progress.told.items standing c.in_ok-piece.ensures.ok c.in-Ok.ensures.reads _ refl refl
    c.in-Ok.ensures.behind
