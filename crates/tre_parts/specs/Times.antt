-- The stretches that bytes say are a trace.
use Rattle.std.proofs.Common.{◌≡◌, ℕ, ◌+◌, ◌≤◌, nat_le, Bool, true, false, List, [], ◌∷◌, ◌++◌, length, map, Option, None, Some, Result, Ok, Err, refl, arith, subst, if◌then◌else◌}
use Rattle.std.specs.List.{slice_split}
use Rattle.std.proofs.lemmas.List.{map-append}
use Rattle.tre_pairs.specs.declared.TheConstants.{TIME_MAX}
use Rattle.tre_parts.specs.Format.{Format, Step, nothing, faulty, ending, read_on, after_part, parts_recording, recording_from, recording_of, first_spot, LeadsInTime, KeepsTime}
use Rattle.tre_parts.specs.declared.TheConstants.{PART_MAX}
use Rattle.tre_parts.specs.declared.spot.Spot.{Spot}
use Rattle.tre_trace.proofs.Segments.{end_of-append}
use Rattle.tre_trace.specs.Reading.{Recording, Vocabulary, segment_for, reading_for}
use Rattle.tre_trace.specs.Trace.{end_of, AreLong, IsTrace}
use Rattle.tre_trace.specs.declared.segment.Segment.{Segment}
use Rattle.tre_trace.specs.declared.fault.TraceKind.{TraceKind}
use Rattle.tre_trace.specs.declared.fault.TraceKind.TheVariants.{LineTooLong}

-- what is read from a time within the limit on stays within it
record StaysInTime (before : ℕ) (segments : List Segment) : Type 0 where
  long : AreLong segments
  in_time : before ≤ TIME_MAX → end_of before segments ≤ TIME_MAX

none-stays : (before : ℕ) → StaysInTime before []
none-stays before = record { long = tt; in_time = λ h. h }

AreLong-append : (xs ys : List Segment) → AreLong xs → AreLong ys → AreLong (xs ++ ys)
AreLong-append [] ys long later = later
AreLong-append (x ∷ xs) ys long later = (long.0, AreLong-append xs ys long.1 later)

leads-stays : (before now : ℕ) (segments more : List Segment) → LeadsInTime before segments now
    → StaysInTime now more → StaysInTime before (segments ++ more)
leads-stays before now segments more leads stays = record {
  long = AreLong-append segments more leads.long stays.long;
  in_time = λ h. rw (end_of-append before segments more, leads.ends)
      (stays.in_time (leads.in_time h));
}

module _ (asked : Vocabulary) where
  read_on-stays : {S : Type 0} (format : Format S) (place : ℕ) (state : S) (part : List ℕ)
      (more : S → Recording) → KeepsTime format
      → ((now : S) → StaysInTime (format.time now) (map (segment_for asked) (more now).stretches))
      → (short : Bool)
      (said : Result (Step S) TraceKind) → format.says state part ≡ said
      → StaysInTime (format.time state) (map (segment_for asked)
      (read_on place (if short then said else Err LineTooLong) more).stretches)
  read_on-stays format place state part more keeps later false said is = none-stays
      (format.time state)
  read_on-stays format place state part more keeps later true (Err kind) is = none-stays
      (format.time state)
  read_on-stays format place state part more keeps later true (Ok step) is =
      rw (map-append (segment_for asked) step.stretches (more step.state).stretches)
      (leads-stays (format.time state) (format.time step.state)
      (map (segment_for asked) step.stretches) (map (segment_for asked) (more step.state).stretches)
      (keeps.leads asked state part step is) (later step.state))

  ending-stays : (before offset : ℕ) (last : List ℕ → Bool) (fault : Option TraceKind)
      → StaysInTime before (map (segment_for asked) (ending offset last fault).stretches)
  ending-stays before offset last None = none-stays before
  ending-stays before offset last (Some kind) = none-stays before

  long-stays : (before place : ℕ) (short : Bool) → StaysInTime before (map (segment_for asked)
      (if short then nothing else faulty place LineTooLong).stretches)
  long-stays before place true = none-stays before
  long-stays before place false = none-stays before

  parts-stay : {S : Type 0} (format : Format S) (closed : Bool) → KeepsTime format → (state : S)
      (spot : Spot) (parts : List (List ℕ))
      → StaysInTime (format.time state)
      (map (segment_for asked) (parts_recording format closed state spot parts).stretches)
  parts-stay format closed keeps state spot [] = none-stays (format.time state)
  parts-stay format true keeps state spot (part ∷ []) =
      read_on-stays format (format.place spot) state part (λ now. ending (spot.offset + length part)
      (format.last now) (format.at_end now)) keeps
      (λ now. ending-stays (format.time now) (spot.offset + length part) (format.last now)
      (format.at_end now))
      (nat_le (length part) PART_MAX) (format.says state part) refl
  parts-stay format false keeps state spot (part ∷ []) = long-stays (format.time state)
      (format.place spot) (nat_le (length part) PART_MAX)
  parts-stay format closed keeps state spot (part ∷ next ∷ parts) =
      read_on-stays format (format.place spot) state part (λ now. parts_recording format closed now
      (after_part spot (length part)) (next ∷ parts)) keeps
      (λ now. parts-stay format closed keeps now (after_part spot (length part)) (next ∷ parts))
      (nat_le (length part) PART_MAX) (format.says state part) refl

  pub reading-is_trace : {S : Type 0} (format : Format S) (closed : Bool) (bytes : List ℕ)
      → KeepsTime format
      → IsTrace (reading_for asked (recording_of format closed bytes)).segments
  unfolding recording_from
  reading-is_trace format closed bytes keeps =
      let stays = parts-stay format closed keeps format.start first_spot
      (slice_split format.separates
      bytes) in
      let P : ℕ → Type 0 = λ time. end_of time (map (segment_for asked)
      (parts_recording format closed format.start first_spot
      (slice_split format.separates bytes)).stretches) ≤ TIME_MAX in
      let early : format.time format.start ≤ TIME_MAX = omega (arith, keeps.begins) in
      record {
        long = stays.long;
        in_time = subst P keeps.begins (stays.in_time early);
      }
