use Rattle.std.proofs.Common.{◌∙◌, refl, sym}
use Rattle.tre_show.proofs.Rising.{compared, compare_bounds, then_kept}
use Rattle.tre_show.proofs.order.compare.Goals as goal

pub returns-in_default-compare_ranges : goal.returns-in_default-compare_ranges
returns-in_default-compare_ranges c =
    let one = c.args.one.now in
    let other = c.args.other.now in
    let begins = rw (c.bounds-zone.ensures.same, c.bounds-next.ensures.same)
    at c.compare_ranges.ensures in
    let ends = rw (c.bounds-zone.ensures.same, c.bounds-next.ensures.same)
    at c.compare_ranges-2.ensures in
    let lasts = compare_bounds one.dur_low one.dur_high other.dur_low other.dur_high in
    sym (then_kept c.compare_ranges-2.result lasts c.in_default-compare_ranges.not-Equal)
    ∙ (rw c.in-Equal.is at (compared one other _ _ lasts begins ends refl))

pub returns : goal.returns
returns c =
    let begins = rw (c.bounds-zone.ensures.same, c.bounds-next.ensures.same)
    at c.compare_ranges.ensures in
    let ends = rw (c.bounds-zone.ensures.same, c.bounds-next.ensures.same)
    at c.compare_ranges-2.ensures in
    let lasts = rw (c.bounds-zone.ensures.same, c.bounds-next.ensures.same)
    at c.compare_ranges-3.ensures in
    rw (c.in-Equal.is, c.in-Equal-compare_ranges.is)
    at (compared c.args.one.now c.args.other.now _ _ _ begins ends lasts)
