-- Where bytes are cut.
use Rattle.std.proofs.Common.{◌≡◌, ℕ, Bool, false, suc, ◌+◌, ◌-◌, ◌<◌, ◌≤◌, List, [], ◌∷◌, ◌++◌, length, get_or, take, drop, sym, ap, ◌∙◌, drop-cons, take-append-drop, append_assoc, arith}
use Rattle.std.proofs.Math.Seq.{take-length, take-suc, take-add}
use Rattle.std.proofs.lemmas.List.{length-drop, length-take-le, get_or-take, get_or-drop}
use Rattle.std.proofs.lemmas.List.Elements.{All-from_get_or}
use Rattle.tre_parts.specs.Bytes.{NoneBetween, between}
use Rattle.tre_parts.specs.Walk.{HasNoSeparator}

pub split_around : (xs : List ℕ) (k : ℕ) → k < length xs → xs ≡ take k xs ++ get_or xs k 0 ∷ drop
    (suc k) xs
split_around xs k below = sym (take-append-drop k xs) ∙ ap (λ rest. take k xs ++ rest)
    (drop-cons xs k 0 below)

pub take-rest : (i : ℕ) (xs : List ℕ) → take (length xs - i) (drop i xs) ≡ drop i xs
take-rest i xs = rw (← length-drop i xs) (take-length (drop i xs))

pub length-between : (xs : List ℕ) (from to : ℕ) → to < length xs
    → length (between xs from to) ≡ to - from
length-between xs from to within = length-take-le (to - from) (drop from xs)
    (omega (arith, length-drop from xs, within))

-- what stands before a place, the byte there among it, in two
pub take-between : (xs : List ℕ) (from to : ℕ) → from ≤ to → to < length xs
    → take (to + 1) xs ≡ take from xs ++ (between xs from to ++ get_or xs to 0 ∷ [])
take-between xs from to behind within =
    let back : from + (to - from) ≡ to = omega (arith, behind) in
    let one : to + 1 ≡ suc to = omega arith in
    ap (λ n. take n xs) one
    ∙ take-suc xs to 0 within
    ∙ ap (λ front. front ++ get_or xs to 0 ∷ []) (ap (λ n. take n xs) (sym back)
    ∙ take-add from (to - from) xs)
    ∙ append_assoc (take from xs) (between xs from to) (get_or xs to 0 ∷ [])

pub inside-between : (p : ℕ → Bool) (xs : List ℕ) (from to : ℕ) → to < length xs
    → NoneBetween p xs from to → HasNoSeparator p (between xs from to)
inside-between p xs from to within none =
    All-from_get_or (λ byte. p byte ≡ false) (between xs from to) 0 (λ k before.
    let small : k < to - from = omega (arith, before, length-between xs from to within) in
    ap p (get_or-take (to - from) (drop from xs) k 0 small ∙ get_or-drop from xs k 0)
    ∙ none (from + k) (omega arith) (omega (arith, small)))
