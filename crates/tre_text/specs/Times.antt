-- A line says its segment in the order of time.
use Rattle.std.proofs.Common.{◌≡◌, ℕ, ◌+◌, ◌≤◌, nat_le, ◌==◌, Bool, true, false, List, [], ◌∷◌, ◌++◌, map, Option, None, Some, Result, Ok, Err, refl, arith, subst, if◌then◌else◌}
use Rattle.std.proofs.lemmas.Bool.Decides.{nat_tests}
use Rattle.std.specs.List.{list_all}
use Rattle.tre_pairs.specs.declared.TheConstants.{TIME_MAX}
use Rattle.tre_parts.specs.Format.{Step, LeadsInTime, KeepsTime}
use Rattle.tre_decimal.specs.Decimal.{units_of}
use Rattle.tre_text.specs.TextReading.{Past, begins_comment, begins_events, spells_word, past_at, no_stretch, one_stretch, entry_says, events_say, fields_say, fields_of, line_says, text_format}
use Rattle.tre_trace.specs.Reading.{Vocabulary, segment_for}
use Rattle.tre_trace.specs.declared.fault.TraceKind.{TraceKind}
use Rattle.tre_trace.specs.declared.fault.TraceKind.TheVariants.{Zero, TooLate, BadName}

module _ (asked : Vocabulary) where
  leads-nothing : (past now : Past) (step : Step Past) → past.end ≡ now.end
      → ◌≡◌ {A = Result (Step Past) TraceKind} (Ok (no_stretch now)) (Ok step)
      → LeadsInTime past.end (map (segment_for asked) step.stretches) step.state.end
  leads-nothing past now step same is =
      let e : no_stretch now ≡ step = cc in
      subst (λ (s : Step Past). LeadsInTime past.end (map (segment_for asked) s.stretches)
      s.state.end) e
      (record { long = tt; ends = same; in_time = λ h. subst (λ n. n ≤ TIME_MAX) same h })

  leads-stretch : (past : Past) (len : ℕ) (fields : List (List ℕ)) (step : Step Past) → 1 ≤ len
      → past.end + len ≤ TIME_MAX
      → ◌≡◌ {A = Result (Step Past) TraceKind} (Ok (one_stretch past len fields)) (Ok step)
      → LeadsInTime past.end (map (segment_for asked) step.stretches) step.state.end
  leads-stretch past len fields step long fits is =
      let e : one_stretch past len fields ≡ step = cc in
      subst (λ (s : Step Past). LeadsInTime past.end (map (segment_for asked) s.stretches)
      s.state.end) e
      (record { long = (long, tt); ends = refl; in_time = λ h. fits })

  leads-words : (past : Past) (len : ℕ) (fields : List (List ℕ)) (step : Step Past) → 1 ≤ len
      → past.end + len ≤ TIME_MAX → (words : Bool)
      → (if words then Ok (one_stretch past len fields) else Err BadName) ≡ Ok step
      → LeadsInTime past.end (map (segment_for asked) step.stretches) step.state.end
  leads-words past len fields step long fits true is = leads-stretch
      past len fields step long fits is
  leads-words past len fields step long fits false is = cc

  leads-time : (past : Past) (len : ℕ) (fields : List (List ℕ)) (step : Step Past) → 1 ≤ len
      → (words in_time : Bool) → nat_le (past.end + len) TIME_MAX ≡ in_time
      → (if in_time then (if words then Ok (one_stretch past len fields) else Err BadName)
      else Err TooLate) ≡ Ok step
      → LeadsInTime past.end (map (segment_for asked) step.stretches) step.state.end
  leads-time past len fields step long words true e is =
      leads-words past len fields step long (grind (arith, nat_tests)) words is
  leads-time past len fields step long words false e is = cc

  leads-entry : (past : Past) (len : ℕ) (fields : List (List ℕ)) (step : Step Past)
      (words none : Bool) → (len == 0) ≡ none
      → (if none then Err Zero else (if nat_le (past.end + len) TIME_MAX then
      (if words then Ok (one_stretch past len fields) else Err BadName) else Err TooLate)) ≡ Ok step
      → LeadsInTime past.end (map (segment_for asked) step.stretches) step.state.end
  leads-entry past len fields step words true e is = cc
  leads-entry past len fields step words false e is =
      let long : 1 ≤ len = grind (arith, nat_tests) in
      leads-time past len fields step long words (nat_le (past.end + len) TIME_MAX) refl is

  leads-events : (past : Past) (said : List (List ℕ)) (step : Step Past) (words : Bool)
      → (if words then Ok (no_stretch (past_at past.end said)) else Err BadName) ≡ Ok step
      → LeadsInTime past.end (map (segment_for asked) step.stretches) step.state.end
  leads-events past said step true is = leads-nothing past (past_at past.end said) step refl is
  leads-events past said step false is = cc

  leads-duration : (past : Past) (fields : List (List ℕ)) (step : Step Past) → (units : Option ℕ)
      → entry_says past units fields ≡ Ok step
      → LeadsInTime past.end (map (segment_for asked) step.stretches) step.state.end
  leads-duration past fields step None is = cc
  leads-duration past fields step (Some len) is =
      leads-entry past len fields step (list_all spells_word fields) (len == 0) refl is

  leads-first : (past : Past) (fields : List (List ℕ)) (step : Step Past)
      → (comment events : Bool) (units : Option ℕ)
      → (if comment then Ok (no_stretch past) else (if events then events_say past fields
      else entry_says past units fields)) ≡ Ok step
      → LeadsInTime past.end (map (segment_for asked) step.stretches) step.state.end
  leads-first past fields step true events units is = leads-nothing past past step refl is
  leads-first past fields step false true units is =
      leads-events past (past.said ++ fields) step (list_all spells_word fields) is
  leads-first past fields step false false units is = leads-duration past fields step units is

  leads-fields : (scale : ℕ) (past : Past) (fields : List (List ℕ)) (step : Step Past)
      → fields_say scale past fields ≡ Ok step
      → LeadsInTime past.end (map (segment_for asked) step.stretches) step.state.end
  leads-fields scale past [] step is = leads-nothing past past step refl is
  leads-fields scale past (first ∷ fields) step is =
      leads-first past fields step (begins_comment first) (begins_events first)
      (units_of scale first) is

  leads-line : (scale : ℕ) (past : Past) (line : List ℕ) (step : Step Past)
      → line_says scale past line ≡ Ok step
      → LeadsInTime past.end (map (segment_for asked) step.stretches) step.state.end
  unfolding line_says
  leads-line scale past line step is = leads-fields scale past (fields_of line) step is

pub text-keeps_time : (scale : ℕ) → KeepsTime (text_format scale)
text-keeps_time scale = record {
  begins = refl;
  leads = λ asked past line step is. leads-line asked scale past line step is;
}
