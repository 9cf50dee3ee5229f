-- A piece, part by part.
use Rattle.std.proofs.Common.{◌≡◌, ℕ, suc, ◌+◌, ◌<◌, ◌≤◌, true, false, List, [], ◌∷◌, ◌++◌, append_assoc, length, length-append, take, drop, get_or, sym, ap, subst, ◌∙◌, arith}
use Rattle.tre_parts.proofs.Cuts.{split_around}
use Rattle.tre_parts.specs.Growing.{reading-grows}
use Rattle.tre_parts.specs.Format.{Format, recording_of}
use Rattle.tre_parts.specs.Skims.{IsFed}
use Rattle.tre_parts.specs.Walk.{HasNoSeparator, SeparatedAt, IsAt}
use Rattle.tre_parts.specs.declared.spot.Spot.{Spot}
use Rattle.tre_trace.specs.declared.reader.TheConstants.{FED_MAX}
use Rattle.tre_trace.proofs.Readings.{Adds-trans, IsRefused-after, IsRefused-grows}
use Rattle.tre_trace.specs.Reading.{Vocabulary, Adds, IsRefused}
use Rattle.tre_trace.specs.declared.segment.Segment.{Segment}
use Rattle.tre_trace.specs.declared.fault.TraceFault.{TraceFault}

-- all bytes of the piece, in three stretches
pub in_stretches : (bytes piece taken rest front later : List ℕ) → piece ≡ taken ++ rest → rest
    ≡ front ++ later
    → ((bytes ++ taken) ++ front) ++ later ≡ bytes ++ piece
in_stretches bytes piece taken rest front later cut is =
    append_assoc (bytes ++ taken) front later ∙ append_assoc bytes taken (front ++ later)
    ∙ ap (λ more. bytes ++ more) (ap (λ more. taken ++ more) (sym is) ∙ sym cut)

pub in_two : (bytes piece taken rest : List ℕ) → piece ≡ taken ++ rest → (bytes ++ taken) ++ rest
    ≡ bytes ++ piece
in_two bytes piece taken rest cut = append_assoc bytes taken rest ∙ ap (λ more. bytes ++ more)
    (sym cut)

-- the rest of a piece, where its first separator stands at this place
pub around : (rest : List ℕ) (k : ℕ) → k < length rest → rest
    ≡ (take k rest ++ get_or rest k 0 ∷ []) ++ drop (suc k) rest
around rest k below = split_around rest k below
    ∙ sym (append_assoc (take k rest) (get_or rest k 0 ∷ []) (drop (suc k) rest))

-- a fault behind what was read of the piece is a fault of the whole
pub fed-refused : {Reader T S : Type 0} {gv : Reader → Vocabulary} {tm : Reader → T} {fm : T
    → Format S}
    {hd : Reader → S → Type 0} {reader now : Reader} {part part_now : List ℕ} {spot spot_now : Spot}
    {old mid new : List Segment} {piece rest : List ℕ} {fault : TraceFault}
    → (fed : IsFed gv tm fm hd reader part spot old piece now part_now spot_now mid rest)
    (terms : T) (bytes : List ℕ)
    → IsAt tm fm hd terms reader part spot bytes → length bytes + length piece ≤ FED_MAX
    → (front later : List ℕ) → rest ≡ front ++ later
    → IsRefused (gv now) mid new (recording_of (fm terms) false (bytes ++ fed.taken))
    (recording_of (fm terms) false ((bytes ++ fed.taken) ++ front)) fault
    → IsRefused (gv reader) old new (recording_of (fm terms) false bytes)
    (recording_of (fm terms) false
    (bytes ++ piece)) fault
fed-refused {gv = gv} {fm = fm} {reader = reader} {old = old} {mid = mid} {new = new}
    {piece = piece} {rest = rest}
    {fault = fault} fed terms bytes here few front later is refused =
    let f = fm terms in
    let whole = in_stretches bytes piece fed.taken rest front later fed.cut is in
    subst (λ (all : List ℕ). IsRefused (gv reader) old new (recording_of f false bytes)
    (recording_of f false all)
    fault) whole
    (IsRefused-grows (gv reader) old new _ _ _ fault
    (IsRefused-after (gv reader) old mid new _ _ _ fault (fed.adds terms bytes here few)
    (subst (λ (gs : Vocabulary). IsRefused gs mid new
    (recording_of f false (bytes ++ fed.taken))
    (recording_of f false ((bytes ++ fed.taken) ++ front)) fault) fed.same_names refused))
    (reading-grows f false ((bytes ++ fed.taken) ++ front) later))

-- what a part needs of where it stands
pub record HasRoom {Reader T S : Type 0} (tm : Reader → T) (fm : T → Format S)
    (hd : Reader → S → Type 0) (terms : T)
    (now : Reader) (part_now : List ℕ) (spot_now : Spot) (bytes front : List ℕ) (separator : ℕ) :
    Type 0 where
  pub at : IsAt tm fm hd terms now part_now spot_now bytes
  pub inside : HasNoSeparator (fm terms).separates front
  pub ends : (fm terms).separates separator ≡ true
  pub few : length bytes + length front + 1 ≤ FED_MAX

pub fed-room : {Reader T S : Type 0} {gv : Reader → Vocabulary} {tm : Reader → T} {fm : T
    → Format S}
    {hd : Reader → S → Type 0} {reader now : Reader} {part part_now : List ℕ} {spot spot_now : Spot}
    {old mid : List Segment} {piece rest : List ℕ} {k : ℕ}
    → (fed : IsFed gv tm fm hd reader part spot old piece now part_now spot_now mid rest)
    (terms : T) (bytes : List ℕ)
    → IsAt tm fm hd terms reader part spot bytes → length bytes + length piece ≤ FED_MAX
    → SeparatedAt (fm (tm now)).separates rest k
    → HasRoom tm fm hd terms now part_now spot_now (bytes ++ fed.taken) (take k rest)
    (get_or rest k 0)
fed-room {piece = piece} {rest = rest} {k = k} fed terms bytes here few ends =
    let at = fed.behind terms bytes here few in
    let there = rw at.named at ends in
    record {
      at = at;
      inside = there.inside;
      ends = there.ends;
      few = omega (
        arith,
        length-append bytes fed.taken,
        ap length fed.cut,
        length-append fed.taken
            rest,
        ap length (around rest k ends.within),
        length-append (take k rest ++ get_or rest k 0 ∷ []) (drop (suc k) rest),
        length-append
            (take k rest) (get_or rest k 0 ∷ []),
      );
    }

pub fed-step : {Reader T S : Type 0} {gv : Reader → Vocabulary} {tm : Reader → T} {fm : T
    → Format S}
    {hd : Reader → S → Type 0} {reader now next : Reader} {part part_now part_next : List ℕ}
    {spot spot_now spot_next : Spot} {old mid new : List Segment} {piece rest rest_next : List ℕ}
    {k : ℕ}
    → IsFed gv tm fm hd reader part spot old piece now part_now spot_now mid rest
    → SeparatedAt (fm (tm now)).separates rest k → tm next ≡ tm now → gv next ≡ gv now
    → ((terms : T) (bytes : List ℕ) → HasRoom tm fm hd terms now part_now spot_now bytes
    (take k rest) (get_or rest k 0)
    → IsAt tm fm hd terms next part_next spot_next
    (bytes ++ (take k rest ++ get_or rest k 0 ∷ []))
    × Adds (gv now) mid new (recording_of (fm terms) false bytes) (recording_of (fm terms) false
    (bytes ++ (take k rest ++ get_or rest k 0 ∷ []))))
    → rest_next ≡ drop (suc k) rest
    → IsFed gv tm fm hd reader part spot old piece next part_next spot_next new rest_next
fed-step {gv = gv} {tm = tm} {fm = fm} {hd = hd} {reader = reader} {next = next}
    {part_next = part_next} {spot_next = spot_next}
    {old = old} {mid = mid} {new = new} {rest = rest} {k = k} fed ends same same_gs takes is =
    let front = take k rest ++ get_or rest k 0 ∷ [] in
    record {
      taken = fed.taken ++ front;
      cut = fed.cut ∙ ap (λ more. fed.taken ++ more) (around rest k ends.within
          ∙ ap (λ later. front ++ later) (sym is)) ∙ sym (append_assoc fed.taken front _);
      same_terms = same ∙ fed.same_terms;
      same_names = same_gs ∙ fed.same_names;
      behind = λ terms bytes here few.
          subst (λ (all : List ℕ). IsAt tm fm hd terms next part_next spot_next all)
          (append_assoc bytes fed.taken front)
          (takes terms (bytes ++ fed.taken) (fed-room fed terms bytes here few ends)).0;
      adds = λ terms bytes here few.
          subst (λ (all : List ℕ). Adds (gv reader) old new (recording_of (fm terms) false bytes)
          (recording_of (fm terms) false all)) (append_assoc bytes fed.taken front)
          (Adds-trans (gv reader) old mid new _ _ _ (fed.adds terms bytes here few)
          (subst (λ (gs : Vocabulary). Adds gs mid new
          (recording_of (fm terms) false (bytes ++ fed.taken))
          (recording_of (fm terms) false ((bytes ++ fed.taken) ++ front))) fed.same_names
          (takes terms (bytes ++ fed.taken) (fed-room fed terms bytes here few ends)).1));
    }
