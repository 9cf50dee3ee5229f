use Rattle.std.proofs.Common.{ℕ, refl}
use Rattle.tre_zone.specs.Ranges.{begin_range, end_range, duration_range}
use Rattle.tre_zone.specs.Zone.{IsCanonical}
use Rattle.tre_zone.specs.declared.zone_bounds.ZoneBounds.{ZoneBounds}
use Rattle.tre_zone.proofs.Ranges.{canonical-ranges}
use Rattle.tre_show.specs.Line.{line_of, TellsZone}
use Rattle.tre_show.proofs.laws.line_tells_zone.Goals as goal

line_tells : (scale : ℕ) (zone : ZoneBounds) → IsCanonical zone
    → TellsZone scale (line_of scale zone) zone
line_tells scale zone canonical = record {
  begin = begin_range zone;
  end = end_range zone;
  duration = duration_range zone;
  text = refl;
  exact = λ a b n some.
      let same = canonical-ranges zone canonical a b n some in (
        (λ held. let is = same.0 held in
            record { rising = is.rising; begins = is.begin; ends = is.end; lasts = is.duration }),
        (λ is. same.1
            (record { rising = is.rising; begin = is.begins; end = is.ends; duration = is.lasts })),
      );
}

pub returns : goal.returns
returns c = line_tells
