use Rattle.std.proofs.Common.{◌≢◌, sym, ap, ◌∙◌, arith}
use Rattle.std.specs.Option.{option_map}
use Rattle.std.specs.Str.Parse.{digits_value}
use Rattle.tre_vcd.specs.VcdReading.{time_at, timescale_at, stretch_until}
use Rattle.tre_vcd.specs.Sections.{terms_kept}
use Rattle.tre_vcd.proofs.Skimming.{holds-again, holds-later}
use Rattle.tre_vcd.specs.Kept.{tick_kept}
use Rattle.tre_vcd.proofs.Pasts.{tick-is}
use Rattle.tre_vcd.proofs.Timing.{capped, units-kept, time-again, time-later}
use Rattle.tre_vcd.proofs.token_reader.TokenReader.read_time.Goals as goal

pub returns-then-ticks-self-2-clause-tells : goal.returns-then-ticks-self-2-clause-tells
returns-then-ticks-self-2-clause-tells c = λ past holds defined.
    let reader = c.args.self.now in
    let digits = c.args.digits.now in
    let same = c.if-ticks-self-2.true ∙ holds.knows.past.time in
    let tick = tick-is reader.past.tick (timescale_at past) holds.knows.past.tick in
    let value = ap (option_map capped)
    (units-kept reader past (tick_kept reader.past) (digits_value 10 digits) tick)
    ∙ c.in-Some.ensures.value in
    time-again (terms_kept reader) past digits c.in-Some.ticks c.in-Some.ensures.digits value
    c.if-ticks-gt-TIME_MAX.false same
    (holds-again reader past c.in-Some.ticks c.reach.new.self same
    (c.reach.ensures.knows reader.names reader.events past holds.knows.past) holds)

pub returns-clause-tells : goal.returns-clause-tells
returns-clause-tells c = λ past holds defined.
    let reader = c.args.self.now in
    let digits = c.args.digits.now in
    let ticks = c.in-Some.ticks in
    let apart : ticks ≢ time_at past =
    λ e. c.if-ticks-self-2.false (e ∙ sym holds.knows.past.time) in
    let tick = tick-is reader.past.tick (timescale_at past) holds.knows.past.tick in
    let value = ap (option_map capped)
    (units-kept reader past (tick_kept reader.past) (digits_value 10 digits) tick)
    ∙ c.in-Some.ensures.value in
    record {
      stretch = stretch_until reader.signals.definitions.items past ticks;
      is = c.segment_until-segment.ensures past holds.knows;
      goes_on = time-later (terms_kept reader) past digits ticks c.in-Some.ensures.digits value
          c.if-ticks-gt-TIME_MAX.false
          (omega (arith, holds.knows.past.time, c.if-ticks-self.false)) apart
          (holds-later reader past ticks c.reach-2.new.self c.reach-3.new.self
          (c.reach-2.ensures.knows reader.names reader.events past holds.knows.past)
          (c.reach-3.ensures _ reader.events past ticks apart holds.knows.signals.changes) holds);
    }
