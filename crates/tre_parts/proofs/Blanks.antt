-- One more separator beside another.
use Rattle.std.proofs.Common.{◌≡◌, ℕ, ◌+◌, ◌<◌, ◌≤◌, nat_le, Bool, true, false, cond, List, [], ◌∷◌, ◌++◌, append-nil, length, Option, None, Some, Result, Ok, Err, refl, sym, ap, ◌∙◌, arith, rules}
use Rattle.std.proofs.lemmas.Bool.Decides.{nat_tests}
use Rattle.std.proofs.lemmas.List.Splits.{slice_split_at}
use Rattle.std.proofs.lemmas.List.Elements.{All-nil}
use Rattle.std.specs.List.{slice_split, onto_first}
use Rattle.tre_parts.specs.Blanks.{SkipsBlanks, moved_recording}
use Rattle.tre_parts.specs.Format.{Format, Step, faulty, ending, read_on, after_part, part_says, last_part, parts_recording, recording_from, recording_of, first_spot}
use Rattle.tre_parts.specs.Growing.{more_parts}
use Rattle.tre_parts.specs.Joins.{join_parts, HasFirst, slice_split-has, slice_split-append}
use Rattle.tre_parts.specs.declared.spot.Spot.{Spot}
use Rattle.tre_trace.specs.Reading.{Recording}
use Rattle.tre_trace.specs.declared.fault.TraceKind.{TraceKind}

-- ---- parts

join-blank : (parts others : List (List ℕ)) → HasFirst parts
    → join_parts parts ([] ∷ others) ≡ parts ++ others
join-blank [] others has = absurd (cc (has.is))
join-blank (part ∷ []) others has = ap (λ all. all ∷ others) (append-nil part)
join-blank (part ∷ next ∷ parts) others has =
    ap (λ all. part ∷ all)
    (join-blank (next ∷ parts) others (record { first = next; later = parts; is = refl }))

-- a separator parts what stands before it from what stands behind it
split_behind : (separates : ℕ → Bool) (front back : List ℕ) (byte : ℕ) → separates byte ≡ true
    → slice_split separates (front ++ byte ∷ back)
    ≡ slice_split separates front ++ slice_split separates back
split_behind separates front back byte is =
    slice_split-append separates front (byte ∷ back)
    ∙ ap (join_parts (slice_split separates front))
    (slice_split_at separates [] byte back (All-nil (λ b. separates b ≡ false)) is)
    ∙ join-blank (slice_split separates front) (slice_split separates back)
    (slice_split-has separates front)

-- how many bytes the parts take, each with a separator behind it
abbrev width : List (List ℕ) → ℕ
width [] = 0
width (part ∷ parts) = length part + 1 + width parts

width-onto : (byte : ℕ) (parts : List (List ℕ)) → HasFirst parts
    → width (onto_first byte parts) ≡ width parts + 1
width-onto byte [] has = absurd (cc (has.is))
width-onto byte (part ∷ parts) has = omega arith

width-cond : (parted : Bool) (byte : ℕ) (parts : List (List ℕ)) → HasFirst parts
    → width (cond parted ([] ∷ parts) (onto_first byte parts)) ≡ width parts + 1
width-cond true byte parts has = omega arith
width-cond false byte parts has = width-onto byte parts has

width-split : (separates : ℕ → Bool) (bytes : List ℕ)
    → width (slice_split separates bytes) ≡ length bytes + 1
width-split separates [] = refl
width-split separates (byte ∷ bytes) =
    width-cond (separates byte) byte (slice_split separates bytes)
    (slice_split-has separates bytes)
    ∙ omega (arith, width-split separates bytes)

has-append : (parts others : List (List ℕ)) → HasFirst others → HasFirst (parts ++ others)
has-append [] others has = has
has-append (part ∷ parts) others has = search rules

-- ---- faults

at_or_behind : (from offset : ℕ) → from ≤ offset → nat_le from offset ≡ true
at_or_behind from offset le = grind (arith, nat_tests)

in_front : (from offset : ℕ) → offset < from → nat_le from offset ≡ false
in_front from offset lt = grind (arith, nat_tests)

fault_moves : (from offset later : ℕ) (kind : TraceKind) → from ≤ offset → later ≡ offset + 1
    → faulty later kind ≡ moved_recording from (faulty offset kind)
fault_moves from offset later kind le is = rw (at_or_behind from offset le, is) refl

fault_stays : (from offset : ℕ) (kind : TraceKind) → offset < from
    → faulty offset kind ≡ moved_recording from (faulty offset kind)
fault_stays from offset kind lt = rw (in_front from offset lt) refl

ending_moves : (from offset later : ℕ) (last : List ℕ → Bool) (fault : Option TraceKind)
    → from ≤ offset
    → later ≡ offset + 1 → ending later last fault ≡ moved_recording from (ending offset last fault)
ending_moves from offset later last None le is = refl
ending_moves from offset later last (Some kind) le is = fault_moves from offset later kind le is

-- what is read on behind a part, whose own fault is moved or not
read_on-moves : {State : Type 0} (from offset later : ℕ) (said : Result (Step State) TraceKind)
    (one other : State → Recording)
    → ((kind : TraceKind) → said ≡ Err kind → faulty later kind ≡ moved_recording from
    (faulty offset kind))
    → ((now : State) → other now ≡ moved_recording from (one now))
    → read_on later said other ≡ moved_recording from (read_on offset said one)
read_on-moves from offset later (Err kind) one other fault more = fault kind refl
read_on-moves from offset later (Ok step) one other fault more = search rules

pub blank_alike : {State : Type 0} (format : Format State) (closed : Bool) (front back : List ℕ)
    (one other : ℕ) → format.separates one ≡ true → format.separates other ≡ true
    → recording_of format closed (front ++ one ∷ back)
    ≡ recording_of format closed (front ++ other ∷ back)
unfolding recording_from
blank_alike format closed front back one other first second =
    ap (parts_recording format closed format.start first_spot)
    (split_behind format.separates front back one first
    ∙ sym (split_behind format.separates front back other second))

module _ {State : Type 0} (format : Format State) (skips : SkipsBlanks format) where
  -- what is read on behind a part whose fault is told with its offset
  part-moves : (from : ℕ) (spot later : Spot) (said : Result (Step State) TraceKind)
      (one other : State → Recording)
      → ((kind : TraceKind) → said ≡ Err kind → faulty later.offset kind ≡ moved_recording from
      (faulty spot.offset kind))
      → ((now : State) → other now ≡ moved_recording from (one now))
      → read_on (format.place later) said other
      ≡ moved_recording from (read_on (format.place spot) said one)
  part-moves from spot later said one other fault more =
      rw (skips.place spot, skips.place later)
      (read_on-moves from spot.offset later.offset said one other fault more)

  no_part : (state : State) → part_says format state []
      ≡ Ok (record { stretches = []; state = state })
  no_part state = skips.blank state

  -- parts that begin one byte later say the same
  later_parts : (closed : Bool) (from : ℕ) (state : State) (spot next : Spot)
      (parts : List (List ℕ)) → from ≤ spot.offset → next.offset ≡ spot.offset + 1
      → parts_recording format closed state next parts
      ≡ moved_recording from (parts_recording format closed state spot parts)
  later_parts closed from state spot next [] le is = refl
  later_parts true from state spot next (part ∷ []) le is =
      part-moves from spot next (part_says format state part)
      (λ now. ending (spot.offset + length part) (format.last now) (format.at_end now))
      (λ now. ending (next.offset + length part) (format.last now) (format.at_end now))
      (λ kind _. fault_moves from spot.offset next.offset kind le is)
      (λ now. ending_moves from (spot.offset + length part) (next.offset + length part)
      (format.last now) (format.at_end now) (omega (arith, le)) (omega (arith, is)))
  later_parts false from state spot next (part ∷ []) le is =
      rw (skips.place spot, skips.place next) (search rules)
  later_parts closed from state spot next (part ∷ more ∷ parts) le is =
      part-moves from spot next (part_says format state part)
      (λ now. parts_recording format closed now (after_part spot (length part)) (more ∷ parts))
      (λ now. parts_recording format closed now (after_part next (length part)) (more ∷ parts))
      (λ kind _. fault_moves from spot.offset next.offset kind le is)
      (λ now. later_parts closed from now (after_part spot (length part))
      (after_part next (length part)) (more ∷ parts) (omega (arith, le)) (omega (arith, is)))

  -- a part of no bytes says nothing
  blank_first : (closed : Bool) (state : State) (spot : Spot) (parts : List (List ℕ))
      → HasFirst parts → parts_recording format closed state spot ([] ∷ parts)
      ≡ parts_recording format closed state (after_part spot 0) parts
  blank_first closed state spot parts has =
      more_parts format closed state spot [] parts has
      ∙ ap (λ said. read_on (format.place spot) said (λ now. parts_recording format closed now
      (after_part spot 0) parts)) (no_part state)

  blank_between : (closed : Bool) (state : State) (spot : Spot) (parts others : List (List ℕ))
      (from : ℕ) → HasFirst others → from ≡ spot.offset + width parts
      → parts_recording format closed state spot (parts ++ [] ∷ others)
      ≡ moved_recording from (parts_recording format closed state spot (parts ++ others))
  blank_between closed state spot [] others from has is =
      blank_first closed state spot others has
      ∙ later_parts closed from state spot (after_part spot 0) others (omega (arith, is))
      (omega arith)
  blank_between closed state spot (part ∷ parts) others from has is =
      more_parts format closed state spot part (parts ++ [] ∷ others)
      (has-append parts ([] ∷ others) (record { first = []; later = others; is = refl }))
      ∙ part-moves from spot spot (part_says format state part)
      (λ now. parts_recording format closed now (after_part spot (length part))
      (parts ++ others))
      (λ now. parts_recording format closed now (after_part spot (length part))
      (parts ++ [] ∷ others))
      (λ kind _. fault_stays from spot.offset kind (omega (arith, is)))
      (λ now. blank_between closed now (after_part spot (length part)) parts others from has
      (omega (arith, is)))
      ∙ ap (moved_recording from) (sym (more_parts format closed state spot part
      (parts ++ others) (has-append parts others has)))

  -- the last part, behind which the input ends or one more part of no bytes follows
  end_blank : (state : State) (spot : Spot)
      → last_part format true state spot []
      ≡ ending (spot.offset + 0) (format.last state) (format.at_end state)
  end_blank state spot = rw (no_part state) (search rules)

  no_fault : (state : State) (from : ℕ) (offset : ℕ) (part : List ℕ) (kind : TraceKind)
      → from ≡ offset + length part → part_says format state part ≡ Err kind
      → faulty offset kind ≡ moved_recording from (faulty offset kind)
  no_fault state from offset [] kind is said = absurd (cc (said, no_part state))
  no_fault state from offset (byte ∷ bytes) kind is said =
      fault_stays from offset kind (omega (arith, is))

  blank_last : (state : State) (spot : Spot) (parts : List (List ℕ)) (from : ℕ) → HasFirst parts
      → from + 1 ≡ spot.offset + width parts
      → parts_recording format true state spot (parts ++ [] ∷ [])
      ≡ moved_recording from (parts_recording format true state spot parts)
  blank_last state spot [] from has is = absurd (cc (has.is))
  blank_last state spot (part ∷ []) from has is =
      part-moves from spot spot (part_says format state part)
      (λ now. ending (spot.offset + length part) (format.last now) (format.at_end now))
      (λ now. last_part format true now (after_part spot (length part)) [])
      (λ kind said. no_fault state from spot.offset part kind (omega (arith, is)) said)
      (λ now. end_blank now (after_part spot (length part))
      ∙ ending_moves from (spot.offset + length part) (spot.offset + length part + 1 + 0)
      (format.last now) (format.at_end now) (omega (arith, is)) (omega arith))
  blank_last state spot (part ∷ next ∷ parts) from has is =
      part-moves from spot spot (part_says format state part)
      (λ now. parts_recording format true now (after_part spot (length part)) (next ∷ parts))
      (λ now. parts_recording format true now (after_part spot (length part))
      (next ∷ (parts ++ [] ∷ [])))
      (λ kind _. fault_stays from spot.offset kind (omega (arith, is)))
      (λ now. blank_last now (after_part spot (length part)) (next ∷ parts) from
      (record { first = next; later = parts; is = refl }) (omega (arith, is)))

pub blank_more : {State : Type 0} (format : Format State) (closed : Bool) (front back : List ℕ)
    (one other : ℕ) → SkipsBlanks format → format.separates one ≡ true
    → format.separates other ≡ true → recording_of format closed (front ++ one ∷ other ∷ back)
    ≡ moved_recording (length front + 1) (recording_of format closed (front ++ other ∷ back))
unfolding recording_from
blank_more format closed front back one other skips first second =
    let split = slice_split format.separates in
    ap (parts_recording format closed format.start first_spot)
    (split_behind format.separates front (other ∷ back) one first
    ∙ ap (λ all. split front ++ all) (slice_split_at format.separates [] other back
    (All-nil (λ b. format.separates b ≡ false)) second))
    ∙ blank_between format skips closed format.start first_spot (split front) (split back)
    (length front + 1) (slice_split-has format.separates back)
    (omega (arith, width-split format.separates front))
    ∙ ap (λ all. moved_recording (length front + 1)
    (parts_recording format closed format.start first_spot all))
    (sym (split_behind format.separates front back other second))

pub blank_end : {State : Type 0} (format : Format State) (bytes : List ℕ) (one : ℕ)
    → SkipsBlanks format → format.separates one ≡ true
    → recording_of format true (bytes ++ one ∷ [])
    ≡ moved_recording (length bytes) (recording_of format true bytes)
unfolding recording_from
blank_end format bytes one skips is =
    ap (parts_recording format true format.start first_spot)
    (split_behind format.separates bytes [] one is)
    ∙ blank_last format skips format.start first_spot (slice_split format.separates bytes)
    (length bytes) (slice_split-has format.separates bytes)
    (omega (arith, width-split format.separates bytes))
