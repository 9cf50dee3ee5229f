-- The longest of some texts.
use Rattle.std.proofs.Common.{◌≡◌, ℕ, ◌+◌, ◌<◌, ◌≤◌, suc, max, List, [], ◌∷◌, get_or, length, map, take, sym, subst, arith}
use Rattle.std.specs.Prelude.{All}
use Rattle.std.proofs.lemmas.List.{take_more, take_all}
use Rattle.std.proofs.lemmas.List.Elements.{All-cons, All-nil, All-push}

-- the greater of two is neither below
pub both-below : (a b n : ℕ) → n ≡ max a b → (a ≤ n) × (b ≤ n)
both-below a b n is = (omega (arith, is), omega (arith, is))

module _ {X : Type 0} (len : X → ℕ) where
  pub longest-next : (xs : List X) (i longest new : ℕ) (x : X) → i < length xs
      → x ≡ get_or xs i x → longest ≤ new → len x ≤ new
      → All (λ y. len y ≤ longest) (take i xs) → All (λ y. len y ≤ new) (take (i + 1) xs)
  longest-next xs i longest new x below is more fits all =
      subst (All (λ y. len y ≤ new)) (sym (take_more xs i x below))
      (All-push (λ y. len y ≤ new) (take i xs) (get_or xs i x)
      (λ k d within. omega (arith, all k d within, more)) (subst (λ y. len y ≤ new) is fits))

  pub longest-all : (xs : List X) (i longest : ℕ) → length xs ≤ i
      → All (λ y. len y ≤ longest) (take i xs) → All (λ y. len y ≤ longest) xs
  longest-all xs i longest past all = subst (All (λ y. len y ≤ longest)) (take_all i xs past) all

module _ {X : Type 0} (f : X → List ℕ) where
  pub longest-map : (keys : List X) (n : ℕ) → All (λ key. length (f key) ≤ n) keys
      → All (λ name. length name ≤ n) (map f keys)
  longest-map [] n all = All-nil _
  longest-map (key ∷ keys) n all =
      All-cons (λ name. length name ≤ n) (f key) (map f keys) (all 0 key (omega arith))
      (longest-map keys n (λ k d below. all (suc k) d (omega (arith, below))))
