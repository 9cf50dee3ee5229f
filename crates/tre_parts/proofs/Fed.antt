-- A reader of pieces, before its first byte and between them.
use Rattle.std.proofs.Common.{◌≡◌, ℕ, false, List, [], length, refl, ap, rules}
use Rattle.tre_parts.proofs.Walks.{at-nothing}
use Rattle.tre_parts.specs.Format.{Format, first_spot}
use Rattle.tre_parts.specs.Parts.{IsFedWith}
use Rattle.tre_parts.specs.Walk.{IsAt}
use Rattle.tre_parts.specs.declared.spot.Spot.{Spot}
use Rattle.tre_trace.specs.Reading.{Recording}

at-start : {Reader T S : Type 0} (tm : Reader → T) (fm : T → Format S)
    (hd : Reader → S → Type 0) (reader : Reader) → hd reader (fm (tm reader)).start
    → IsAt tm fm hd (tm reader) reader [] first_spot []
at-start tm fm hd reader held = search rules

pub fed-start : {Reader T S : Type 0} (tm : Reader → T) (fm : T → Format S)
    (hd : Reader → S → Type 0) (reader : Reader) → hd reader (fm (tm reader)).start
    → IsFedWith tm fm hd reader [] first_spot 0 false []
fed-start tm fm hd reader held = record {
  at = at-start tm fm hd reader held;
  counts = refl;
  faultless = ap (λ (r : Recording). r.fault) (at-nothing (at-start tm fm hd reader held));
  goes_on = refl;
}

pub fed-more : {Reader T S : Type 0} (tm : Reader → T) (fm : T → Format S)
    (hd : Reader → S → Type 0) (terms : T) (reader : Reader) (part : List ℕ)
    (spot : Spot) (fed : ℕ) (bytes : List ℕ)
    → IsAt tm fm hd terms reader part spot bytes → tm reader ≡ terms → fed ≡ length bytes
    → IsFedWith tm fm hd reader part spot fed false bytes
fed-more tm fm hd terms reader part spot fed bytes at named counts =
    let here : IsAt tm fm hd (tm reader) reader part spot bytes = rw named at in
    record {
      at = here;
      counts = counts;
      faultless = ap (λ (r : Recording). r.fault) (at-nothing here);
      goes_on = refl;
    }
