-- What a time says, by the number of units that is read.
use Rattle.std.proofs.Common.{◌≡◌, ◌≢◌, ℕ, ◌<◌, ◌≤◌, ◌-◌, ◌^◌, ◌==◌, min, nat_lt, true, false, List, [], ◌∷◌, Option, None, Some, Result, Err, refl, sym, ap, ◌∙◌, arith}
use Rattle.std.specs.Option.{option_map, option_map_or}
use Rattle.std.specs.Str.Parse.{digits_value}
use Rattle.std.proofs.lemmas.Bool.Decides.{nat_tests}
use Rattle.tre_decimal.specs.Decimal.{is_numeral}
use Rattle.tre_pairs.specs.declared.TheConstants.{TIME_MAX}
use Rattle.tre_parts.specs.Format.{Step}
use Rattle.tre_parts.specs.Walk.{PartGoesOn}
use Rattle.tre_trace.specs.declared.fault.TraceKind.{TraceKind}
use Rattle.tre_trace.specs.declared.fault.TraceKind.TheVariants.{TooFine}
use Rattle.tre_vcd.specs.Sections.{terms_kept}
use Rattle.tre_vcd.specs.Timescale.{units_by}
use Rattle.tre_vcd.specs.VcdReading.{Terms, Statement, time, nothing, Place, tick_at, time_at, units_at, stretch_until, time_says, ticks_say}
use Rattle.tre_vcd.specs.declared.timescale.Tick.{Tick}
use Rattle.tre_vcd.specs.declared.token_reader.TokenReader.{TokenReader}

abbrev pub capped : ℕ → ℕ
capped n = min n (2 ^ 64 - 1)

-- by the tick that a reader knows
pub units-kept : (reader : TokenReader) (past : List Statement) (tick : Option Tick) (n : ℕ)
    → tick ≡ tick_at past
    → units_at (terms_kept reader) past n ≡ units_by reader.scale.exponent reader.scale.unit tick n
units-kept reader past tick n is =
    ap (λ own. units_by reader.scale.exponent reader.scale.unit own n) (sym is)

-- ---- numbers that are read

module _ (terms : Terms) (past : List Statement) (digits : List ℕ) (ticks : ℕ)
    (numeral : is_numeral digits ≡ true)
    (value : option_map capped (units_at terms past (digits_value 10 digits)) ≡ Some ticks) where
  said_of : Option ℕ → Result (Step Place) TraceKind
  said_of found = option_map_or (time_says terms.definitions past) found (Err TooFine)

  by-units : ticks_say terms past digits ≡ said_of (units_at terms past (digits_value 10 digits))
  unfolding said_of
  by-units = rw numeral refl

  fits-same : (found : Option ℕ) → option_map capped found ≡ Some ticks → ticks < 2 ^ 64 - 1
      → said_of found ≡ time_says terms.definitions past ticks
  unfolding said_of
  fits-same None is short = cc (is)
  fits-same (Some units) is short =
      let own : capped units ≡ ticks = cc (is) in
      let same : units ≡ ticks = omega (arith, own, short) in
      ap (time_says terms.definitions past) same

  module _ (in_time : ticks ≤ TIME_MAX) where
    ticks-said : ticks_say terms past digits ≡ time_says terms.definitions past ticks
    ticks-said = by-units ∙ fits-same _ value (omega (arith, in_time))

    -- the time that it was
    pub time-again : {holds : Place → Type 0} → ticks ≡ time_at past
        → holds (record { past = time ticks ∷ past; inside = nothing })
        → PartGoesOn (ticks_say terms past digits) [] holds
    time-again same held =
        let not_before : nat_lt ticks (time_at past) ≡ false = grind (arith, nat_tests) in
        let fits : nat_lt TIME_MAX ticks ≡ false = grind (arith, nat_tests) in
        let again : (ticks == time_at past) ≡ true = grind (arith, nat_tests) in
        record {
          state = record { past = time ticks ∷ past; inside = nothing };
          says = ticks-said ∙ rw (not_before, fits, again) refl;
          is_held = held;
        }

    -- a later one, which ends a stretch
    pub time-later : {holds : Place → Type 0} → time_at past ≤ ticks → ticks ≢ time_at past
        → holds (record { past = time ticks ∷ past; inside = nothing })
        → PartGoesOn (ticks_say terms past digits)
        (stretch_until terms.definitions past ticks ∷ []) holds
    time-later late apart held =
        let not_before : nat_lt ticks (time_at past) ≡ false = grind (arith, nat_tests) in
        let fits : nat_lt TIME_MAX ticks ≡ false = grind (arith, nat_tests) in
        let other : (ticks == time_at past) ≡ false = grind (arith, nat_tests) in
        record {
          state = record { past = time ticks ∷ past; inside = nothing };
          says = ticks-said ∙ rw (not_before, fits, other) refl;
          is_held = held;
        }
