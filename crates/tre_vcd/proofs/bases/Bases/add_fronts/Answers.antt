use Rattle.tre_vcd.proofs.Signalling.{fronts-more}
use Rattle.tre_vcd.proofs.bases.Bases.add_fronts.Goals as goal

pub loop-place-preserved : goal.loop-place-preserved
loop-place-preserved c =
    let kept = c.in_ok-add_front.ensures.kept in
    record {
      added =
          fronts-more c.loop-place.self c.add_front.new.self c.args.text.now c.loop-place.place
          c.loop-place.invariant.added c.in_ok-add_front.ensures.added kept;
      kept = λ other has. kept other (c.loop-place.invariant.kept other has);
    }
