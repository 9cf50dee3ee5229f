use Rattle.std.proofs.Common.{◌∷◌, refl, arith}
use Rattle.tre_edges.specs.RunSets.{zones_of}
use Rattle.tre_answer.proofs.Wanted.{listed-themselves, wanted-one}
use Rattle.tre_answer.proofs.offline.listed_matches.Goals as goal

pub returns-in-Ok : goal.returns-in-Ok
returns-in-Ok c = record {
  set = zones_of c.in-Ok.runs;
  is_set = c.len-count.ensures.set;
  exact = wanted-one c.args.patterns.now (c.args.first ∷ c.args.others.now) _ c.args.first _
      (omega (arith, c.requires)) (omega arith) (omega (arith, c.requires))
      c.index-patterns-0.is refl (rw c.in-Ok.is at c.in_ok-runs.ensures.runs);
  asked = listed-themselves c.args.normal (zones_of c.in-Ok.runs) c.if-normal.false
      c.len-count.ensures.set c.len-count.ensures.tight
      (c.later_rise.ensures (zones_of c.in-Ok.runs) c.len-count.ensures.order);
}
