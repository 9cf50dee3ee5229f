-- Where a list is cut.
use Rattle.std.proofs.Common.{◌≡◌, ℕ, zero, suc, min, ◌-◌, ◌≤◌, List, [], ◌∷◌, ◌++◌, drop, length, take, refl, ap, arith, length-append, length-take}
use Rattle.std.proofs.lemmas.List.{length-drop, take_all}

-- a list no longer than that is its own front
pub take-over : {X : Type 0} (i : ℕ) (xs : List X) → length xs ≤ i → take i xs ≡ xs
take-over i xs short = take_all i xs short

-- the front of two lists, one behind the other
pub take_split : {X : Type 0} (n : ℕ) (xs ys : List X)
    → take n (xs ++ ys) ≡ take n xs ++ take (n - length xs) ys
take_split zero [] ys = refl
take_split (suc n) [] ys = let all : suc n - 0 ≡ suc n = omega arith in rw all refl
take_split zero (x ∷ xs) ys = let none : zero - length (x ∷ xs) ≡ zero = omega arith in rw none refl
take_split (suc n) (x ∷ xs) ys =
    let less : suc n - length (x ∷ xs) ≡ n - length xs = omega arith in
    rw less (ap (λ rest. x ∷ rest) (take_split n xs ys))

-- the shorter of two fronts is the one of the other
pub take_both : {X : Type 0} (m n : ℕ) (xs : List X) → take (min m n) xs ≡ take n (take m xs)
take_both zero zero xs = refl
take_both zero (suc n) xs = let none : min zero (suc n) ≡ zero = omega arith in rw none refl
take_both (suc m) zero xs = let none : min (suc m) zero ≡ zero = omega arith in rw none refl
take_both (suc m) (suc n) [] = let more : min (suc m) (suc n) ≡ suc (min m n) = omega arith in
    rw more refl
take_both (suc m) (suc n) (x ∷ xs) =
    let more : min (suc m) (suc n) ≡ suc (min m n) = omega arith in
    rw more (ap (λ rest. x ∷ rest) (take_both m n xs))

-- a front that was put back is as long as it was
pub put_back : (front buffer : List ℕ) (room : ℕ) → length front ≡ length (take room buffer)
    → length (front ++ drop room buffer) ≡ length buffer
put_back front buffer room same = omega (
  arith,
  same,
  length-append front (drop room buffer),
  length-take {A = ℕ} room buffer,
  length-drop room buffer,
)
