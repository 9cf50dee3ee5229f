use Rattle.std.proofs.Common.{◌≡◌, sym, subst, ◌∙◌, rules}
use Rattle.tre_zone.specs.Zone.{IsCanonical, IsZoneOf}
use Rattle.tre_zone.specs.declared.zone_bounds.ZoneBounds.{ZoneBounds}
use Rattle.tre_edges.specs.RunParts.{IsPart}
use Rattle.tre_edges.specs.RunsInTime.{part_of}
use Rattle.tre_edges.proofs.PartsOfRuns.{part-canonical, part-exact, part-is}
use Rattle.tre_edges.proofs.part_within.part_of_run.Goals as goal
use Rattle.tre_edges.proofs.part_within.part_of_run.Goals.{After-weak-3}

-- the bounds that are made
abbrev made : After-weak-3 → ZoneBounds
made c = record {
  begin_low = c.weak.result;
  begin_high = c.latest_begin.result;
  end_low = c.earliest_end.result;
  end_high = c.weak-2.result;
  dur_low = c.least_length.result;
  dur_high = c.weak-3.result;
}

made-is : (c : After-weak-3)
    → made c ≡ part_of c.args.edges.rise c.args.edges.fall c.args.begin c.args.end
made-is c = search (rules, part-is, c.args.edges, c.args.begin, c.latest_begin.ensures)

pub from_canonical-requires : goal.from_canonical-requires
from_canonical-requires c =
    subst IsCanonical (sym (made-is (goal.at.from_canonical-requires c).After-weak-3))
    (part-canonical c.args.begin c.args.end c.requires.rising c.requires.limit
    c.args.edges.rise c.args.edges.fall)

pub returns-clause-bounds : goal.returns-clause-bounds
returns-clause-bounds c =
    c.from_canonical.ensures ∙ made-is (goal.at.returns-clause-bounds c).After-weak-3

pub returns-clause-held : goal.returns-clause-held
returns-clause-held c =
    let is = c.from_canonical.ensures ∙ made-is (goal.at.returns-clause-held c).After-weak-3 in
    subst (λ zone. IsZoneOf zone (IsPart c.args.edges c.args.begin c.args.end)) (sym is)
    (part-exact c.args.edges.rise c.args.edges.fall c.args.begin c.args.end c.requires.rising)
