-- What a text reads as, by its lines.
use Rattle.std.proofs.Common.{◌≡◌, ◌≢◌, ⊎_elim, ℕ, ◌+◌, ◌≤◌, Bool, true, false, List, [], ◌∷◌, ◌++◌, append_assoc, append-nil, length, map, None, Some, Result, Ok, Err, refl, sym, ap, ◌∙◌, subst, arith, inl, inr}
use Rattle.std.proofs.lemmas.List.Elements.{All-nil}
use Rattle.std.specs.Char.{is_newline}
use Rattle.tre_decimal.specs.Decimal.{units_of}
use Rattle.tre_pairs.specs.declared.TheConstants.{TIME_MAX}
use Rattle.tre_parts.proofs.Walks.{reading-part, reading-last}
use Rattle.tre_parts.specs.Growing.{too_long, reading-grows}
use Rattle.tre_parts.specs.Format.{Step, nothing, faulty, behind, read_on, after_part, part_says, recording_from, first_spot}
use Rattle.tre_parts.specs.declared.TheConstants.{PART_MAX}
use Rattle.tre_parts.specs.declared.spot.Spot.{Spot}
use Rattle.tre_text.proofs.Entries.{BeginWithDigits, IsEntryOf, number-no_comment, number-no_events, sign-no_comment, within, fields-events, fields-no_event, says-fields, says-nothing, says-marked, says-no_number, says-zero, says-late, says-no_name, says-stretch}
use Rattle.tre_text.specs.TextReading.{Past, is_among, past_at, no_stretch, fields_of, line_says, text_format, text_recording}
use Rattle.tre_text.specs.TraceLines.{IsLine, IsOverlong, AreLines, with_line_ends, HasFields, IsSilent, SaysEvents, IsEntry, Say, HasNoName, HasNoEvent, LineHasFault}
use Rattle.tre_trace.proofs.Segments.{end_of-le}
use Rattle.tre_trace.specs.Reading.{Recording, Stretch, no_names, segment_for}
use Rattle.tre_trace.specs.Trace.{end_of, AreLong, IsTrace}
use Rattle.tre_trace.specs.declared.segment.Segment.{Segment}
use Rattle.tre_trace.specs.declared.fault.TraceKind.{TraceKind}
use Rattle.tre_trace.specs.declared.fault.TraceKind.TheVariants.{LineTooLong, BadNumber, Zero, TooLate, BadName, BadToken, BadScale, UnknownName, TooFine, TimeBack, CutShort, Spent, Memory}

-- the segments of stretches, for nobody
abbrev bare : List Stretch → List Segment
bare stretches = map (segment_for no_names) stretches

-- a short line says what stands on it
short_says : (scale : ℕ) (past : Past) (line : List ℕ) → length line ≤ PART_MAX
    → part_says (text_format scale) past line ≡ line_says scale past line
short_says scale past line short = rw (within (length line) PART_MAX short) refl

one_line : (scale : ℕ) (closed : Bool) (past : Past) (spot : Spot)
    (line rest : List ℕ) → IsLine line
    → recording_from (text_format scale) closed past spot (line ++ 10 ∷ rest)
    ≡ read_on spot.number (line_says scale past line)
    (λ now. recording_from (text_format scale) closed now (after_part spot (length line)) rest)
one_line scale closed past spot line rest is =
    reading-part (text_format scale) closed past spot line 10 rest is.unbroken refl
    ∙ ap (λ (said : Result (Step Past) TraceKind). read_on spot.number said
    (λ now. recording_from (text_format scale) closed now (after_part spot (length line)) rest))
    (short_says scale past line is.short)

-- where the next line begins behind these
abbrev spot_after : Spot → List (List ℕ) → Spot
spot_after spot [] = spot
spot_after spot (line ∷ lines) = spot_after (after_part spot (length line)) lines

spot_after-number : (spot : Spot) (lines : List (List ℕ)) → (spot_after spot lines).number
    ≡ spot.number + length lines
spot_after-number spot [] = omega arith
spot_after-number spot (line ∷ lines) = omega (
  arith,
  spot_after-number
      (after_part spot (length line)) lines,
)

silent_says : (scale : ℕ) (past : Past) (line : List ℕ) → IsSilent line
    → line_says scale past line ≡ Ok (no_stretch past)
silent_says scale past line silent =
    ⊎_elim (says-nothing scale past line) (λ marked. says-marked scale past line
    marked.first marked.others marked.fields marked.holds) silent

events_say : (scale : ℕ) (past : Past) (line : List ℕ) (Later : List (List ℕ) → Type 0)
    → (said : HasFields line (SaysEvents past.said Later))
    → line_says scale past line
    ≡ Ok (no_stretch (past_at past.end (past.said ++ said.others)))
events_say scale past line Later said =
    says-fields scale past line (said.first ∷ said.others) said.fields
    ∙ fields-events scale past said.first said.others
    (sign-no_comment said.first said.holds.sign) said.holds.sign said.holds.words

-- the fields of a line that begins with a number of units
number_of : BeginWithDigits → (scale : ℕ) (line first : List ℕ) (others : List (List ℕ))
    (units : ℕ) → fields_of line ≡ first ∷ others → units_of scale first ≡ Some units
    → IsEntryOf line first others
number_of digits scale line first others units fields is = record {
  is = fields;
  no_comment = number-no_comment digits scale units first is;
  no_events = number-no_events digits scale units first is;
}

-- what is said and known behind a stretch
abbrev step_with : Past → Stretch → Step Past
step_with past stretch = record {
  stretches = stretch ∷ [];
  state = past_at (past.end + stretch.len) [];
}

-- a line that says a stretch which fits
first_says : BeginWithDigits → (scale : ℕ) (past : Past) (line : List ℕ) (stretch : Stretch)
    (rest : List Stretch) → HasFields line (IsEntry scale past.said stretch)
    → AreLong (bare (stretch ∷ rest)) → end_of past.end (bare (stretch ∷ rest)) ≤ TIME_MAX
    → line_says scale past line ≡ Ok (step_with past stretch)
first_says digits scale past line stretch rest entry long fits =
    let number = entry.holds in
    let marked = number_of digits scale line entry.first entry.others stretch.len entry.fields
    number.duration in
    let some : stretch.len ≢ 0 = λ zero. absurd (omega (arith, long.0, zero)) in
    let in_time : past.end + stretch.len ≤ TIME_MAX = omega (
      arith,
      fits,
      end_of-le (past.end + stretch.len) (bare rest),
    ) in
    says-stretch scale past line entry.first entry.others marked stretch.len number.duration some
    in_time number.words
    ∙ ap (λ (s : Stretch). Ok (record {
      stretches = s ∷ [];
      state = past_at (past.end + stretch.len) [];
    }))
    (sym number.is)

-- lines that say stretches and events in front of more
read_through : BeginWithDigits → (scale : ℕ) (closed : Bool) (past : Past) (spot : Spot)
    (lines : List (List ℕ)) (stretches : List Stretch) (last : List (List ℕ)) (rest : List ℕ)
    → AreLines lines → Say scale past.said lines stretches last → AreLong (bare stretches)
    → end_of past.end (bare stretches) ≤ TIME_MAX
    → recording_from (text_format scale) closed past spot (with_line_ends lines ++ rest)
    ≡ behind stretches (recording_from (text_format scale) closed
    (past_at (end_of past.end (bare stretches)) last) (spot_after spot lines) rest)
read_through digits scale closed past spot [] stretches last rest are say long fits =
    rw (say.0, say.1) refl
read_through digits scale closed past spot (line ∷ lines) stretches last rest are say long fits =
    let next = after_part spot (length line) in
    ap (recording_from (text_format scale) closed past spot)
    (append_assoc line (10 ∷ with_line_ends lines) rest)
    ∙ one_line scale closed past spot line (with_line_ends lines ++ rest) are.0
    ∙ elim say [
      | inl silent ↦
          rw (silent_says scale past line silent.0)
          (read_through digits scale closed past next lines stretches last rest are.1 silent.1 long
          fits)
      | inr (inl said) ↦
          let now = past_at past.end (past.said ++ said.others) in
          rw (events_say scale past line _ said)
          (read_through digits scale closed now next lines stretches last rest are.1
          said.holds.later long fits)
      | inr (inr first) ↦
          let long_all : AreLong (bare (first.stretch ∷ first.rest)) =
          subst (λ (all : List Stretch). AreLong (bare all)) first.is long in
          let fits_all : end_of past.end (bare (first.stretch ∷ first.rest)) ≤ TIME_MAX = subst
          (λ (all : List Stretch). end_of past.end (bare all) ≤ TIME_MAX) first.is fits in
          let now = past_at (past.end + first.stretch.len) [] in
          rw (
            first.is,
            first_says digits scale past line first.stretch first.rest first.entry long_all
                fits_all,
          )
          (ap (behind (first.stretch ∷ []))
          (read_through digits scale closed now next lines first.rest last rest are.1 first.later
          long_all.1 fits_all))
    ]

-- no bytes say nothing, but where the input ends the events that were said
read_end : (scale : ℕ) (past : Past) (spot : Spot)
    → recording_from (text_format scale) true past spot []
    ≡ record { stretches = []; last = is_among past.said; fault = None }
read_end scale past spot =
    reading-last (text_format scale) true past spot []
    (All-nil (λ byte. is_newline byte ≡ false))
    ∙ rw (says-nothing scale past [] refl) refl

read_none : (scale : ℕ) (past : Past) (spot : Spot)
    → recording_from (text_format scale) false past spot [] ≡ nothing
read_none scale past spot = reading-last (text_format scale) false past spot []
    (All-nil (λ byte. is_newline byte ≡ false))

-- lines that say stretches and events, behind which nothing stands
read_all : BeginWithDigits → (scale : ℕ) (closed : Bool) (lines : List (List ℕ))
    (stretches : List Stretch) (last : List (List ℕ)) → AreLines lines
    → Say scale [] lines stretches last
    → IsTrace (bare stretches)
    → text_recording scale closed (with_line_ends lines) ≡ behind stretches
    (recording_from (text_format scale) closed (past_at (end_of 0 (bare stretches)) last)
    (spot_after first_spot lines) [])
read_all digits scale closed lines stretches last are say trace =
    ap (text_recording scale closed) (sym (append-nil (with_line_ends lines)))
    ∙ read_through digits scale closed (past_at 0 []) first_spot lines stretches last [] are say
    trace.long trace.in_time

pub read_trace : BeginWithDigits → (scale : ℕ) (lines : List (List ℕ)) (stretches : List Stretch)
    (last : List (List ℕ)) → AreLines lines → Say scale [] lines stretches last
    → IsTrace (bare stretches)
    → text_recording scale true (with_line_ends lines)
    ≡ record { stretches = stretches; last = is_among last; fault = None }
read_trace digits scale lines stretches last are say trace =
    read_all digits scale true lines stretches last are say trace
    ∙ ap (behind stretches) (read_end scale (past_at (end_of 0 (bare stretches)) last)
    (spot_after first_spot lines))
    ∙ ap (λ all. record { stretches = all; last = is_among last; fault = None })
    (append-nil stretches)

pub read_part : BeginWithDigits → (scale : ℕ) (lines : List (List ℕ)) (stretches : List Stretch)
    (last : List (List ℕ)) → AreLines lines → Say scale [] lines stretches last
    → IsTrace (bare stretches)
    → text_recording scale false (with_line_ends lines)
    ≡ record { stretches = stretches; last = λ name. false; fault = None }
read_part digits scale lines stretches last are say trace =
    read_all digits scale false lines stretches last are say trace
    ∙ ap (behind stretches) (read_none scale (past_at (end_of 0 (bare stretches)) last)
    (spot_after first_spot lines))
    ∙ ap (λ all. record { stretches = all; last = λ name. false; fault = None })
    (append-nil stretches)

no_name_says : BeginWithDigits → (scale : ℕ) (past : Past) (line : List ℕ)
    → HasFields line (HasNoName scale past.end) → line_says scale past line ≡ Err BadName
no_name_says digits scale past line has =
    let bad = has.holds in
    says-no_name scale past line has.first has.others
    (number_of digits scale line has.first has.others bad.units has.fields bad.is) bad.units bad.is
    bad.some bad.in_time bad.no_words

no_event_says : (scale : ℕ) (past : Past) (line : List ℕ)
    → HasFields line HasNoEvent → line_says scale past line ≡ Err BadName
no_event_says scale past line has =
    says-fields scale past line (has.first ∷ has.others) has.fields
    ∙ fields-no_event scale past has.first has.others
    (sign-no_comment has.first has.holds.sign) has.holds.sign has.holds.no_words

fault_says : BeginWithDigits → (scale : ℕ) (past : Past) (line : List ℕ) (kind : TraceKind)
    → LineHasFault scale past.end line kind → line_says scale past line ≡ Err kind
fault_says digits scale past line BadNumber has =
    says-no_number scale past line has.first has.others (record {
      is = has.fields;
      no_comment = has.holds.no_comment;
      no_events = has.holds.no_events;
    }) has.holds.no_number
fault_says digits scale past line Zero has =
    says-zero scale past line has.first has.others
    (number_of digits scale line has.first has.others 0 has.fields has.holds.zero) 0 has.holds.zero
    refl
fault_says digits scale past line TooLate has =
    let bad = has.holds in
    says-late scale past line has.first has.others
    (number_of digits scale line has.first has.others bad.units has.fields bad.is) bad.units bad.is
    bad.some bad.late
fault_says digits scale past line BadName has =
    ⊎_elim (no_name_says digits scale past line) (no_event_says scale past line) has
fault_says digits scale past line LineTooLong has = absurd has
fault_says digits scale past line BadToken has = absurd has
fault_says digits scale past line BadScale has = absurd has
fault_says digits scale past line UnknownName has = absurd has
fault_says digits scale past line TooFine has = absurd has
fault_says digits scale past line TimeBack has = absurd has
fault_says digits scale past line CutShort has = absurd has
fault_says digits scale past line Spent has = absurd has
fault_says digits scale past line Memory has = absurd has

-- the reading of these stretches that ends with a fault on the line behind so many
abbrev fault_behind : List Stretch → ℕ → TraceKind → Recording
fault_behind stretches lines kind = record {
  stretches = stretches;
  last = λ name. false;
  fault = Some (record { place = lines + 1; kind = kind });
}

pub read_fault : BeginWithDigits → (scale : ℕ) (closed : Bool) (front : List (List ℕ))
    (line back : List ℕ) (stretches : List Stretch) (last : List (List ℕ)) (kind : TraceKind)
    → AreLines front → IsLine line → Say scale [] front stretches last → IsTrace (bare stretches)
    → LineHasFault scale (end_of 0 (bare stretches)) line kind
    → text_recording scale closed (with_line_ends front ++ (line ++ 10 ∷ back))
    ≡ fault_behind stretches (length front) kind
read_fault digits scale closed front line back stretches last kind are is say trace has =
    let spot = spot_after first_spot front in
    let number : spot.number ≡ length front + 1 = omega (arith, spot_after-number first_spot front)
    in
    let past = past_at (end_of 0 (bare stretches)) last in
    read_through digits scale closed (past_at 0 []) first_spot front stretches last
    (line ++ 10 ∷ back) are say trace.long trace.in_time
    ∙ ap (behind stretches)
    (one_line scale closed past spot line back is
    ∙ ap (λ (said : Result (Step Past) TraceKind). read_on spot.number said
    (λ now. recording_from (text_format scale) closed now (after_part spot (length line)) back))
    (fault_says digits scale past line kind has)
    ∙ ap (λ n. faulty n kind) number)
    ∙ ap (λ all. fault_behind all (length front) kind) (append-nil stretches)

-- more bytes than a line may have, behind which more may come
overlong_open : (scale : ℕ) (past : Past) (spot : Spot) (line : List ℕ)
    → IsOverlong line
    → recording_from (text_format scale) false past spot line ≡ faulty spot.number LineTooLong
overlong_open scale past spot line is =
    reading-last (text_format scale) false past spot line is.unbroken
    ∙ rw (too_long (length line) PART_MAX is.long) refl

read_open : BeginWithDigits → (scale : ℕ) (front : List (List ℕ)) (line : List ℕ)
    (stretches : List Stretch) (last : List (List ℕ))
    → AreLines front → IsOverlong line → Say scale [] front stretches last
    → IsTrace (bare stretches)
    → text_recording scale false (with_line_ends front ++ line)
    ≡ fault_behind stretches (length front) LineTooLong
read_open digits scale front line stretches last are is say trace =
    let spot = spot_after first_spot front in
    let number : spot.number ≡ length front + 1 = omega (arith, spot_after-number first_spot front)
    in
    read_through digits scale false (past_at 0 []) first_spot front stretches last line are say
    trace.long trace.in_time
    ∙ ap (behind stretches)
    (overlong_open scale (past_at (end_of 0 (bare stretches)) last) spot line is
    ∙ ap (λ n. faulty n LineTooLong) number)
    ∙ ap (λ all. fault_behind all (length front) LineTooLong) (append-nil stretches)

pub read_overlong : BeginWithDigits → (scale : ℕ) (closed : Bool) (front : List (List ℕ))
    (line more : List ℕ) (stretches : List Stretch) (last : List (List ℕ))
    → AreLines front → IsOverlong line → Say scale [] front stretches last
    → IsTrace (bare stretches)
    → text_recording scale closed ((with_line_ends front ++ line) ++ more)
    ≡ fault_behind stretches (length front) LineTooLong
read_overlong digits scale closed front line more stretches last are is say trace =
    let open_one = read_open digits scale front line stretches last are is say trace in
    (reading-grows (text_format scale) closed (with_line_ends front ++ line) more).fault
    (record { place = length front + 1; kind = LineTooLong })
    (ap (λ (r : Recording). r.fault) open_one) ∙ open_one

read_on-same : (place : ℕ) (said : Result (Step Past) TraceKind) (one other : Past → Recording)
    → ((now : Past) → one now ≡ other now) → read_on place said one ≡ read_on place said other
read_on-same place (Err kind) one other same = refl
read_on-same place (Ok step) one other same = ap (behind step.stretches) (same step.state)

-- nothing is left, and the events that were said happen at the end
abbrev at_end : Past → Recording
at_end past = record { stretches = []; last = is_among past.said; fault = None }

last_from : (scale : ℕ) (past : Past) (spot : Spot) (lines : List (List ℕ))
    (last : List ℕ) → AreLines lines → IsLine last
    → recording_from (text_format scale) true past spot (with_line_ends lines ++ last) ≡ recording_from
    (text_format scale) true past spot (with_line_ends lines ++ (last ++ 10 ∷ []))
last_from scale past spot [] last are is =
    reading-last (text_format scale) true past spot last is.unbroken
    ∙ ap (λ (said : Result (Step Past) TraceKind). read_on spot.number said at_end)
    (short_says scale past last is.short)
    ∙ read_on-same spot.number (line_says scale past last) at_end
    (λ now. recording_from (text_format scale) true now (after_part spot (length last)) [])
    (λ now. sym (read_end scale now (after_part spot (length last))))
    ∙ sym (one_line scale true past spot last [] is)
last_from scale past spot (line ∷ lines) last are is =
    let next = after_part spot (length line) in
    ap (recording_from (text_format scale) true past spot)
    (append_assoc line (10 ∷ with_line_ends lines) last)
    ∙ one_line scale true past spot line (with_line_ends lines ++ last) are.0
    ∙ read_on-same spot.number (line_says scale past line)
    (λ now. recording_from (text_format scale) true now next (with_line_ends lines ++ last))
    (λ now. recording_from (text_format scale) true now next
    (with_line_ends lines ++ (last ++ 10 ∷ [])))
    (λ now. last_from scale now next lines last are.1 is)
    ∙ sym (one_line scale true past spot line (with_line_ends lines ++ (last ++ 10 ∷ [])) are.0)
    ∙ ap (recording_from (text_format scale) true past spot)
    (sym (append_assoc line (10 ∷ with_line_ends lines) (last ++ 10 ∷ [])))

pub read_last : (scale : ℕ) (lines : List (List ℕ)) (last : List ℕ)
    → AreLines lines → IsLine last
    → text_recording scale true (with_line_ends lines ++ last) ≡ text_recording scale true
    (with_line_ends lines ++ (last ++ 10 ∷ []))
read_last scale lines last are is =
    last_from scale (past_at 0 []) first_spot lines last are is
