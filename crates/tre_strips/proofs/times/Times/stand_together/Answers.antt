use Rattle.std.proofs.Common.{rules}
use Rattle.tre_strips.specs.Times.{sample_of}
use Rattle.tre_strips.proofs.Ends.{alike, fixed, place_differs, place_same, place_met}
use Rattle.tre_strips.proofs.StripZones.{same_flags}
use Rattle.tre_strips.proofs.times.Times.stand_together.Goals as goal

pub returns-then-one-other : goal.returns-then-one-other
returns-then-one-other c =
    search (rules, place_differs, sample_of, c.args.one.now, c.args.other.now, c.if-one-other.true)

pub returns-then-one-other-2 : goal.returns-then-one-other-2
returns-then-one-other-2 c =
    let both = place_same c.args.one.now c.args.other.now (sample_of c.args.self.now)
    (alike _ _ c.if-one-other-2.true) (same_flags _ _ c.if-one-other.false) in (
      (λ e. both.0 (c.is_same.ensures.0 e)),
      (λ same. c.is_same.ensures.1 (both.1 same)),
    )

pub returns-then-one : goal.returns-then-one
returns-then-one c =
    let both = place_met c.args.one.now c.args.other.now (sample_of c.args.self.now)
    c.if-one.true (fixed _ _ c.if-one-other-2.false c.if-one.true)
    (same_flags _ _ c.if-one-other.false) in (
      (λ e. both.0 (c.meet.ensures.0 e)),
      (λ same. c.meet.ensures.1 (both.1 same)),
    )

pub returns-else-one : goal.returns-else-one
returns-else-one c =
    search (rules, place_met, sample_of, c.args.other.now, c.args.one.now, c.if-one-other-2.false)
