use Rattle.std.proofs.Common.{◌≢◌, ◌∷◌, [], ◌++◌, append-nil, refl, sym, ap, ◌∙◌, arith}
use Rattle.std.specs.Option.{option_map}
use Rattle.std.specs.Str.Parse.{digits_value}
use Rattle.tre_vcd.specs.VcdReading.{time_at, timescale_at, stretch_until}
use Rattle.tre_vcd.specs.Sections.{terms_kept}
use Rattle.tre_vcd.proofs.Skimming.{holds-again, holds-later}
use Rattle.tre_vcd.specs.Kept.{tick_kept}
use Rattle.tre_vcd.proofs.Pasts.{tick-is}
use Rattle.tre_vcd.proofs.Timing.{capped, units-kept, time-again, time-later}
use Rattle.tre_vcd.proofs.token_reader.TokenReader.skim_time.Goals as goal

pub returns-then-ticks-self-2-clause-taken : goal.returns-then-ticks-self-2-clause-taken
returns-then-ticks-self-2-clause-taken c = λ past letters holds defined.
    let reader = c.args.self.now in
    let digits = c.args.digits.now in
    let same = c.if-ticks-self-2.true ∙ holds.knows.past.time in
    let tick = tick-is reader.past.tick (timescale_at past) holds.knows.past.tick in
    let value = ap (option_map capped)
    (units-kept reader past (tick_kept reader.past) (digits_value 10 digits) tick)
    ∙ c.time_or_late-ticks.ensures.value c.if-ticks-gt-TIME_MAX.false in
    record {
      stretches = [];
      added = sym (append-nil _);
      goes_on = time-again (terms_kept reader) past digits c.time_or_late-ticks.result
          (c.time_or_late-ticks.ensures.digits c.if-ticks-gt-TIME_MAX.false) value
          c.if-ticks-gt-TIME_MAX.false same
          (holds-again reader past c.time_or_late-ticks.result c.reach.new.self same
          (c.reach.ensures.knows reader.names reader.events past holds.knows.past) holds);
    }

pub returns-in-Ok-clause-taken : goal.returns-in-Ok-clause-taken
returns-in-Ok-clause-taken c = λ past letters holds defined.
    let reader = c.args.self.now in
    let ticks = c.time_or_late-ticks.result in
    let apart : ticks ≢ time_at past =
    λ e. c.if-ticks-self-2.false (e ∙ sym holds.knows.past.time) in
    let digits = c.args.digits.now in
    let tick = tick-is reader.past.tick (timescale_at past) holds.knows.past.tick in
    let value = ap (option_map capped)
    (units-kept reader past (tick_kept reader.past) (digits_value 10 digits) tick)
    ∙ c.time_or_late-ticks.ensures.value c.if-ticks-gt-TIME_MAX.false in
    record {
      stretches = stretch_until reader.signals.definitions.items past ticks ∷ [];
      added = c.in-Ok.ensures.items
          ∙ ap (λ segment. c.args.segments.now.items ++ segment ∷ [])
          (c.segment_until-segment.ensures past holds.knows);
      goes_on = time-later (terms_kept reader) past digits ticks
          (c.time_or_late-ticks.ensures.digits c.if-ticks-gt-TIME_MAX.false) value
          c.if-ticks-gt-TIME_MAX.false
          (omega (arith, holds.knows.past.time, c.if-ticks-self.false)) apart
          (holds-later reader past ticks c.reach_next.new.self c.reach-in-Ok.new.self
          (c.reach_next.ensures.knows reader.names reader.events past c.if-ticks-self-2.false
          holds.knows.past)
          (c.reach-in-Ok.ensures _ reader.events past ticks apart holds.knows.signals.changes)
          holds);
    }

pub returns-then-ticks-self-clause-taken : goal.returns-then-ticks-self-clause-taken
returns-then-ticks-self-clause-taken c = λ past letters holds defined. (holds, refl)
