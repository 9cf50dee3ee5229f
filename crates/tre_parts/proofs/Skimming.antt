-- Parts that are read at once, among the others of a piece.
use Rattle.std.proofs.Common.{◌≡◌, ℕ, ◌+◌, ◌-◌, ◌≤◌, false, List, [], ◌++◌, ◌<◌, true, ◌∷◌, append_assoc, append-nil, length, length-append, take, drop, take-append-drop, get_or, Result, refl, sym, ap, ap₂, subst, ◌∙◌, arith, rules}
use Rattle.std.proofs.lemmas.List.{length-take, map-append, take-append-le}
use Rattle.std.proofs.lemmas.List.Elements.{All-nil}
use Rattle.tre_parts.proofs.Cuts.{length-between, take-between, inside-between}
use Rattle.tre_parts.proofs.Walks.{at-nothing, behind-behind, reading-part}
use Rattle.tre_parts.specs.Bytes.{between, IsNextAt}
use Rattle.tre_parts.specs.Format.{Format, Step, behind, read_on, after_part, part_says, recording_from, recording_of}
use Rattle.tre_parts.specs.Growing.{short_enough}
use Rattle.tre_parts.specs.Skims.{Skims, IsFed, spot_behind}
use Rattle.tre_parts.specs.Walk.{HasNoSeparator, PartGoesOn, IsAt, AddsPart}
use Rattle.tre_parts.specs.declared.TheConstants.{PART_MAX}
use Rattle.tre_parts.specs.declared.skimmed.Skimmed.{Skimmed}
use Rattle.tre_parts.specs.declared.spot.Spot.{Spot}
use Rattle.tre_trace.proofs.Readings.{Adds-none, Adds-trans}
use Rattle.tre_trace.specs.Reading.{Recording, Stretch, Vocabulary, Adds, segment_for, segments_for}
use Rattle.tre_trace.specs.declared.reader.TheConstants.{FED_MAX}
use Rattle.tre_trace.specs.declared.segment.Segment.{Segment}
use Rattle.tre_trace.specs.declared.fault.TraceKind.{TraceKind}

-- a part of few bytes says what stands in it
said-short : {S : Type 0} (format : Format S) (state : S) (part : List ℕ) → length part ≤ PART_MAX
    → part_says format state part ≡ format.says state part
said-short format state part short = rw (short_enough (length part) PART_MAX short) refl

pub fed-none : {Reader T S : Type 0} (gv : Reader → Vocabulary) (tm : Reader → T)
    (fm : T → Format S)
    (hd : Reader → S → Type 0) (reader : Reader) (part : List ℕ) (spot : Spot) (old : List Segment)
    (piece : List ℕ)
    → IsFed gv tm fm hd reader part spot old piece reader part spot old piece
fed-none gv tm fm hd reader part spot old piece = record {
  taken = [];
  cut = refl;
  same_terms = refl;
  same_names = refl;
  behind = λ terms bytes here few. rw (append-nil bytes) here;
  adds = λ terms bytes here few. rw (append-nil bytes) (Adds-none (gv reader) old _ _ refl);
}

pub fed-trans : {Reader T S : Type 0} {gv : Reader → Vocabulary} {tm : Reader → T}
    {fm : T → Format S}
    {hd : Reader → S → Type 0} {reader now next : Reader} {part part_now part_next : List ℕ}
    {spot spot_now spot_next : Spot} {old mid new : List Segment} {piece rest rest_next : List ℕ}
    → IsFed gv tm fm hd reader part spot old piece now part_now spot_now mid rest
    → IsFed gv tm fm hd now part_now spot_now mid rest next part_next spot_next new rest_next
    → IsFed gv tm fm hd reader part spot old piece next part_next spot_next new rest_next
fed-trans {gv = gv} {tm = tm} {fm = fm} {hd = hd} {reader = reader} {next = next}
    {part_next = part_next}
    {spot_next = spot_next} {old = old} {mid = mid} {new = new} {piece = piece} {rest = rest}
    {rest_next = rest_next} first second =
    let room : (bytes : List ℕ) → length bytes + length piece ≤ FED_MAX
    → length (bytes ++ first.taken) + length rest ≤ FED_MAX =
    λ bytes few. omega (
      arith,
      few,
      ap length first.cut,
      length-append first.taken rest,
      length-append bytes first.taken,
    ) in
    record {
      taken = first.taken ++ second.taken;
      cut = first.cut ∙ ap (λ more. first.taken ++ more) second.cut
          ∙ sym (append_assoc first.taken second.taken rest_next);
      same_terms = second.same_terms ∙ first.same_terms;
      same_names = second.same_names ∙ first.same_names;
      behind = λ terms bytes here few.
          subst (λ (all : List ℕ). IsAt tm fm hd terms next part_next spot_next all)
          (append_assoc bytes first.taken second.taken)
          (second.behind terms (bytes ++ first.taken) (first.behind terms bytes here few)
          (room bytes few));
      adds = λ terms bytes here few.
          subst (λ (all : List ℕ). Adds (gv reader) old new (recording_of (fm terms) false bytes)
          (recording_of (fm terms) false all)) (append_assoc bytes first.taken second.taken)
          (Adds-trans (gv reader) old mid new _ _ _ (first.adds terms bytes here few)
          (subst (λ (gs : Vocabulary). Adds gs mid new
          (recording_of (fm terms) false (bytes ++ first.taken))
          (recording_of (fm terms) false ((bytes ++ first.taken) ++ second.taken)))
          first.same_names
          (second.adds terms (bytes ++ first.taken) (first.behind terms bytes here few)
          (room bytes few))));
    }

skimmed-at : {Reader T S : Type 0} {gs : Vocabulary} {tm : Reader → T} {fm : T → Format S}
    {hd : Reader → S → Type 0} {terms : T} {reader now : Reader} {spot next : Spot}
    {bytes front : List ℕ} {old new : List Segment} {read : Skimmed}
    → (here : IsAt tm fm hd terms reader [] spot bytes)
    → Skims gs (fm terms) (hd now) here.state front old new read → read.bytes ≤ length front
    → tm now ≡ terms → next ≡ spot_behind spot read
    → IsAt tm fm hd terms now [] next (bytes ++ take read.bytes front)
skimmed-at {fm = fm} {terms = terms} {spot = spot} {bytes = bytes} {front = front} {read = read}
    here skims within named at =
    let f = fm terms in
    let taken = take read.bytes front in
    record {
      named = named;
      state = skims.now;
      is_held = skims.is_held;
      told = here.told ++ skims.told;
      follows = λ closed more.
          ap (recording_of f closed) (append_assoc bytes taken more)
          ∙ here.follows closed (taken ++ more)
          ∙ ap (behind here.told) (skims.follows closed spot more)
          ∙ behind-behind here.told skims.told (recording_from f closed skims.now
          (spot_behind spot read) more)
          ∙ ap (λ (s : Spot). behind (here.told ++ skims.told) (recording_from f closed skims.now s
          more)) (sym at);
      inside = All-nil (λ byte. f.separates byte ≡ false);
      short = omega arith;
      counts = rw at (omega (
        arith,
        length-append bytes taken,
        length-take read.bytes front,
        here.counts,
        within,
      ));
      few = rw at (omega (arith, here.few, skims.few));
    }

skimmed-adds : {Reader T S : Type 0} {gs : Vocabulary} {tm : Reader → T} {fm : T → Format S}
    {hd : Reader → S → Type 0} {terms : T} {reader now : Reader} {spot next : Spot}
    {bytes front : List ℕ} {old new : List Segment} {read : Skimmed}
    → (here : IsAt tm fm hd terms reader [] spot bytes)
    → (skims : Skims gs (fm terms) (hd now) here.state front old new read)
    → (there : IsAt tm fm hd terms now [] next (bytes ++ take read.bytes front))
    → there.told ≡ here.told ++ skims.told
    → Adds gs old new (recording_of (fm terms) false bytes)
    (recording_of (fm terms) false (bytes ++ take read.bytes front))
skimmed-adds here skims there told = record {
  added = skims.told;
  new_is = skims.added;
  beyond = ap (λ (r : Recording). r.stretches) (at-nothing there) ∙ told
      ∙ ap (λ (r : Recording). r.stretches ++ skims.told) (sym (at-nothing here));
}

pub fed-skimmed : {Reader T S : Type 0} (gv : Reader → Vocabulary) (tm : Reader → T)
    (fm : T → Format S)
    (hd : Reader → S → Type 0) (reader now : Reader) (spot next : Spot) (old new : List Segment)
    (bytes front later : List ℕ) (read : Skimmed)
    → bytes ≡ front ++ later → read.bytes ≤ length front → tm now ≡ tm reader
    → gv now ≡ gv reader
    → ((state : S) → hd reader state → Skims (gv reader) (fm (tm reader)) (hd now) state front old new read)
    → (spot.offset + read.bytes ≤ FED_MAX → spot.number + read.parts ≤ FED_MAX + 1
    → next ≡ spot_behind spot read)
    → IsFed gv tm fm hd reader [] spot old bytes now [] next new (drop read.bytes bytes)
unfolding skimmed-at
fed-skimmed {T = T} gv tm fm hd reader now spot next old new bytes front later read is within same
    same_names skims at =
    let whole : take read.bytes bytes ≡ take read.bytes front =
    ap (take read.bytes) is ∙ take-append-le read.bytes front later within in
    let there : (terms : T) (before : List ℕ)
    → (here : IsAt tm fm hd terms reader [] spot before)
    → length before + length bytes ≤ FED_MAX
    → IsAt tm fm hd terms now [] next (before ++ take read.bytes front) =
    λ terms before here few.
    let s : Skims (gv reader) (fm terms) (hd now) here.state front old new read =
    rw here.named at (skims here.state here.is_held) in
    skimmed-at here s within (same ∙ here.named)
    (at (omega (arith, few, here.counts, ap length is, length-append front later, within))
    (omega (
      arith,
      few,
      here.counts,
      here.few,
      s.few,
      ap length is,
      length-append front later,
      within,
    ))) in
    record {
      taken = take read.bytes bytes;
      cut = sym (take-append-drop read.bytes bytes);
      same_terms = same;
      same_names = same_names;
      behind = λ terms before here few. rw whole (there terms before here few);
      adds = λ terms before here few.
          let s : Skims (gv reader) (fm terms) (hd now) here.state front old new read =
          rw here.named at (skims here.state here.is_held) in
          rw whole (skimmed-adds here s (there terms before here few) refl);
    }

-- ---- what formats build a skim of

-- nothing was read
pub skims-none : {S : Type 0} (gs : Vocabulary) (format : Format S) (holds : S → Type 0) (state : S)
    (bytes : List ℕ) (old : List Segment) → holds state
    → Skims gs format holds state bytes old old (record { bytes = 0; parts = 0 })
skims-none gs format holds state bytes old held = search rules

-- One more part was read, that ends at a separator.
pub skims-part : {S : Type 0} {gs : Vocabulary} {format : Format S} {before after : S → Type 0} {state : S}
    {bytes : List ℕ} {old mid new : List Segment} {told : List Stretch} {read : Skimmed}
    → (skims : Skims gs format before state bytes old mid read) → (end : ℕ) → read.bytes ≤ end
    → end < length bytes → length bytes ≤ PART_MAX
    → HasNoSeparator format.separates (between bytes read.bytes end)
    → format.separates (get_or bytes end 0) ≡ true
    → PartGoesOn (format.says skims.now (between bytes read.bytes end)) told after
    → new ≡ mid ++ segments_for gs told
    → Skims gs format after state bytes old new
    (record { bytes = end + 1; parts = read.parts + 1 })
skims-part {gs = gs} {format = format} {state = state} {bytes = bytes} {old = old} {mid = mid}
    {new = new} {told = told} {read = read} skims end past within short inside ends goes is =
    let part = between bytes read.bytes end in
    let separator = get_or bytes end 0 in
    let len : length part ≡ end - read.bytes = length-between bytes read.bytes end within in
    record {
      few = omega (arith, skims.few, past);
      now = goes.state;
      is_held = goes.is_held;
      told = skims.told ++ told;
      added = is ∙ ap (λ front. front ++ segments_for gs told) skims.added
          ∙ append_assoc old (segments_for gs skims.told) (segments_for gs told)
          ∙ ap (λ more. old ++ more) (sym (map-append (segment_for gs) skims.told told));
      follows = λ closed spot more.
          let next = spot_behind spot read in
          ap (λ front. recording_from format closed state spot (front ++ more))
          (take-between bytes read.bytes end past within)
          ∙ ap (recording_from format closed state spot)
          (append_assoc (take read.bytes bytes) (part ++ separator ∷ []) more
          ∙ ap (λ rest. take read.bytes bytes ++ rest) (append_assoc part (separator ∷ []) more))
          ∙ skims.follows closed spot (part ++ separator ∷ more)
          ∙ ap (behind skims.told) (reading-part format closed skims.now next part separator more
          inside ends
          ∙ ap (λ (said : Result (Step _) TraceKind). read_on (format.place next) said
          (λ now. recording_from format closed now (after_part next (length part)) more))
          (said-short format skims.now part (omega (arith, len, within, short)) ∙ goes.says))
          ∙ behind-behind skims.told told _
          ∙ ap (λ (s : Spot). behind (skims.told ++ told) (recording_from format closed goes.state
          s more)) (ap₂ (λ number offset. record { number = number; offset = offset })
          (omega arith) (omega (arith, len, past)));
    }

-- No part was read besides.
pub skims-kept : {S : Type 0} {gs : Vocabulary} {format : Format S} {before after : S → Type 0} {state : S}
    {bytes : List ℕ} {old mid new : List Segment} {read : Skimmed}
    → (skims : Skims gs format before state bytes old mid read) → after skims.now → new ≡ mid
    → Skims gs format after state bytes old new read
skims-kept skims held is = search rules

-- The next part was read, which ends at the first separator from there on.
pub skims-next : {S : Type 0} {gs : Vocabulary} {format : Format S} {before after : S → Type 0} {state : S}
    {bytes : List ℕ} {old mid new : List Segment} {read : Skimmed} {end : ℕ}
    → (skims : Skims gs format before state bytes old mid read)
    → IsNextAt format.separates bytes read.bytes end → length bytes ≤ PART_MAX
    → AddsPart gs (format.says skims.now (between bytes read.bytes end)) after mid new
    → Skims gs format after state bytes old new
    (record { bytes = end + 1; parts = read.parts + 1 })
skims-next {format = format} {bytes = bytes} {read = read} {end = end} skims next short adds =
    skims-part skims end next.behind next.within short
    (inside-between format.separates bytes read.bytes end next.within next.none) next.here
    adds.goes_on adds.added
