-- Nothing is taken back when more bytes come.
use Rattle.std.proofs.Common.{◌≡◌, ℕ, ◌<◌, ◌≤◌, nat_le, Bool, true, false, List, [], ◌∷◌, ◌++◌, append_assoc, append-nil, length, length-append, Result, Ok, Err, refl, sym, ap, ◌∙◌, arith, if◌then◌else◌}
use Rattle.std.proofs.lemmas.Bool.Decides.{nat_tests}
use Rattle.std.specs.List.{slice_split}
use Rattle.tre_parts.specs.Joins.{join_parts, HasFirst, slice_split-has, slice_split-append}
use Rattle.tre_parts.specs.Format.{Format, Step, nothing, faulty, behind, read_on, after_part, part_says, parts_recording, recording_from, recording_of, first_spot}
use Rattle.tre_parts.specs.declared.TheConstants.{PART_MAX}
use Rattle.tre_parts.specs.declared.spot.Spot.{Spot}
use Rattle.tre_trace.specs.Reading.{Recording, Stretch, Grows}
use Rattle.tre_trace.specs.declared.fault.TraceKind.{TraceKind}
use Rattle.tre_trace.specs.declared.fault.TraceKind.TheVariants.{LineTooLong}

pub Grows-nothing : (now : Recording) → Grows nothing now
Grows-nothing now = record {
  added = now.stretches;
  stretches = refl;
  fault = λ fault none. cc (none);
}

pub Grows-same : (before now : Recording) → now ≡ before → Grows before now
Grows-same before now same = record {
  added = [];
  stretches = ap (λ (r : Recording). r.stretches) same ∙ sym (append-nil before.stretches);
  fault = λ fault told. same;
}

pub Grows-behind : (stretches : List Stretch) (before now : Recording) → Grows before now
    → Grows (behind stretches before) (behind stretches now)
Grows-behind stretches before now grows = record {
  added = grows.added;
  stretches = ap (λ rest. stretches ++ rest) grows.stretches
      ∙ sym (append_assoc stretches before.stretches grows.added);
  fault = λ fault told. ap (behind stretches) (grows.fault fault told);
}

pub too_long : (a b : ℕ) → b < a → nat_le a b ≡ false
too_long a b h = grind (arith, nat_tests)

pub short_enough : (a b : ℕ) → a ≤ b → nat_le a b ≡ true
short_enough a b h = grind (arith, nat_tests)

-- a part that is too long stays so when bytes are put behind it, whether it is the last or not
long_parts : {S : Type 0} (format : Format S) (closed : Bool) (state : S) (spot : Spot)
    (part more : List ℕ) (parts : List (List ℕ)) → PART_MAX < length part
    → parts_recording format closed state spot ((part ++ more) ∷ parts) ≡ faulty (format.place spot)
    LineTooLong
long_parts format true state spot part more [] long =
    rw (too_long (length (part ++ more)) PART_MAX (omega (arith, length-append part more))) refl
long_parts format false state spot part more [] long =
    rw (too_long (length (part ++ more)) PART_MAX (omega (arith, length-append part more))) refl
long_parts format closed state spot part more (next ∷ parts) long =
    rw (too_long (length (part ++ more)) PART_MAX (omega (arith, length-append part more))) refl

last_grows : {S : Type 0} (format : Format S) (closed : Bool) (state : S) (spot : Spot)
    (part more : List ℕ) (parts : List (List ℕ)) (short : Bool)
    → nat_le (length part) PART_MAX ≡ short
    → Grows (if short then nothing else faulty (format.place spot) LineTooLong)
    (parts_recording format closed state spot ((part ++ more) ∷ parts))
last_grows format closed state spot part more parts true is = Grows-nothing _
last_grows format closed state spot part more parts false is =
    let long : PART_MAX < length part = grind (arith, nat_tests) in
    Grows-same _ _ (long_parts format closed state spot part more parts long)

read_on-grows : {S : Type 0} (place : ℕ) (said : Result (Step S) TraceKind) (less more : S
    → Recording) → ((now : S) → Grows (less now) (more now))
    → Grows (read_on place said less) (read_on place said more)
read_on-grows place (Err kind) less more grows = Grows-same _ _ refl
read_on-grows place (Ok step) less more grows = Grows-behind step.stretches _ _ (grows step.state)

-- a part with parts behind it
pub more_parts : {S : Type 0} (format : Format S) (closed : Bool) (state : S) (spot : Spot)
    (part : List ℕ) (parts : List (List ℕ)) → HasFirst parts
    → parts_recording format closed state spot (part ∷ parts)
    ≡ read_on (format.place spot) (part_says format state part) (λ now. parts_recording format
    closed now (after_part spot (length part)) parts)
more_parts format closed state spot part [] has = cc (has.is)
more_parts format closed state spot part (next ∷ parts) has = refl

join-has : (part : List ℕ) (parts others : List (List ℕ)) → HasFirst (join_parts (part ∷ parts)
    others)
join-has part [] [] = record { first = part; later = []; is = refl }
join-has part [] (other ∷ others) = record { first = part ++ other; later = others; is = refl }
join-has part (next ∷ parts) others = record {
  first = part;
  later = join_parts (next ∷ parts)
      others;
  is = refl;
}

parts-grow : {S : Type 0} (format : Format S) (closed : Bool) (state : S) (spot : Spot)
    (parts others : List (List ℕ)) → HasFirst others
    → Grows (parts_recording format false state spot parts)
    (parts_recording format closed state spot
    (join_parts parts others))
parts-grow format closed state spot [] others has = Grows-nothing _
parts-grow format closed state spot (part ∷ []) [] has = cc (has.is)
parts-grow format closed state spot (part ∷ []) (other ∷ others) has = last_grows format closed
    state spot part other others _ refl
parts-grow format closed state spot (part ∷ next ∷ parts) others has =
    rw (more_parts format closed state spot part (join_parts (next ∷ parts) others)
    (join-has next parts others))
    (read_on-grows (format.place spot) (part_says format state part)
    (λ now. parts_recording format false now (after_part spot (length part)) (next ∷ parts))
    (λ now. parts_recording format closed now (after_part spot (length part))
    (join_parts (next ∷ parts) others))
    (λ now. parts-grow format closed now (after_part spot (length part)) (next ∷ parts) others
    has))

-- without a byte nothing is said while more may come
pub reading-starts : {S : Type 0} (format : Format S)
    → (recording_of format false []).stretches ≡ []
unfolding recording_from
reading-starts format = refl

pub reading-grows : {S : Type 0} (format : Format S) (closed : Bool) (first more : List ℕ)
    → Grows (recording_of format false first) (recording_of format closed (first ++ more))
unfolding recording_from
reading-grows format closed first more =
    rw (slice_split-append format.separates first more)
    (parts-grow format closed format.start first_spot (slice_split format.separates first)
    (slice_split format.separates more) (slice_split-has format.separates more))
