use Rattle.tre_zone.proofs.Scaling.{canonical-frame}
use Rattle.tre_zone.proofs.TightBounds.{canonical_from_tight}
use Rattle.tre_zone.proofs.Tightness.{canonical-some, canonical-tight, same_pairs}
use Rattle.tre_zone.proofs.ZoneListLemmas.{AreCanonical-tight}
use Rattle.tre_zone.proofs.laws.canonical_bounds.Goals as goal

pub returns : goal.returns
returns c = record {
  some = canonical-some;
  tight = canonical-tight;
  rising = λ zone canonical a b n some held.
      (canonical-frame zone canonical a b n some held).rising;
  framed = canonical-frame;
  enough = canonical_from_tight;
  same = same_pairs;
  lists = AreCanonical-tight;
}
