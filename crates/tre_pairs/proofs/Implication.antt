-- What implies, and what implies before a time, passes through every operator.
use Rattle.std.proofs.Common.{ℕ, ◌*◌, ◌<◌, List, [], ◌∷◌, inl, inr, ⊎_elim, arith, rules}
use Rattle.std.proofs.Math.Nat.{mul_left_comm, mul-lt-mul_of_pos_left}
use Rattle.tre_pairs.specs.Pairs.{Pairs, Composed, Either, Both, Lasting, LeadTo, Chain}
use Rattle.tre_pairs.proofs.Laws.{IsOrdered, IsInstant, Implies, ImpliesBefore}
use Rattle.tre_pairs.proofs.Order.{LeadTo-le}

module _ (R R' S S' : Pairs) where
  pub Implies-Composed : Implies R R' → Implies S S' → Implies (Composed R S) (Composed R' S')
  Implies-Composed r s = search rules

  pub Implies-Either : Implies R R' → Implies S S' → Implies (Either R S) (Either R' S')
  Implies-Either r s = search rules

  pub Implies-Both : Implies R R' → Implies S S' → Implies (Both R S) (Both R' S')
  Implies-Both r s = search rules

pub Implies-Lasting : (D : ℕ → ℕ → Type 0) (R R' : Pairs) → Implies R R'
    → Implies (Lasting D R) (Lasting D R')
Implies-Lasting D R R' r = search rules

module _ (R R' E E' : Pairs) where
  LeadTo-implies : Implies R R' → Implies E E' → (n from : ℕ) (cuts : List ℕ) (to : ℕ)
      → LeadTo R E n from cuts to → LeadTo R' E' n from cuts to
  LeadTo-implies r e n from [] to h = e.at from to n h
  LeadTo-implies r e n from (cut ∷ cuts) to h =
      (r.at from cut n h.0, LeadTo-implies r e n cut cuts to h.1)

  pub Implies-Chain : Implies R R' → Implies E E' → Implies (Chain R E) (Chain R' E')
  Implies-Chain r e = search (rules, LeadTo-implies)

-- a time that is before T is so under a finer name
finer_before : (k T b n : ℕ) → 0 < k → b < T * n → k * b < T * (k * n)
finer_before k T b n pos h = search (rules, mul-lt-mul_of_pos_left, mul_left_comm)

module _ (T : ℕ) (R R' S S' : Pairs) where
  pub ImpliesBefore-Composed : IsOrdered S → ImpliesBefore T R R' → ImpliesBefore T S S'
      → ImpliesBefore T (Composed R S) (Composed R' S')
  ImpliesBefore-Composed ordered r s = search (rules, finer_before, ordered.le, r.at, s.at)

  pub ImpliesBefore-Either : ImpliesBefore T R R' → ImpliesBefore T S S'
      → ImpliesBefore T (Either R S) (Either R' S')
  ImpliesBefore-Either r s = search rules

  pub ImpliesBefore-Both : ImpliesBefore T R R' → ImpliesBefore T S S'
      → ImpliesBefore T (Both R S) (Both R' S')
  ImpliesBefore-Both r s = search rules

pub ImpliesBefore-Lasting : (T : ℕ) (D : ℕ → ℕ → Type 0) (R R' : Pairs) → ImpliesBefore T R R'
    → ImpliesBefore T (Lasting D R) (Lasting D R')
ImpliesBefore-Lasting T D R R' r = search rules

module _ (T : ℕ) (R R' E E' : Pairs) (ordered : IsOrdered R) (same : IsInstant E) where
  LeadTo-before : ImpliesBefore T R R' → ImpliesBefore T E E'
      → (n from : ℕ) (cuts : List ℕ) (to : ℕ) → to < T * n → LeadTo R E n from cuts to
      → LeadTo R' E' n from cuts to
  LeadTo-before r e n from [] to before h = e.at from to n before h
  LeadTo-before r e n from (cut ∷ cuts) to before h =
      let le = LeadTo-le R E ordered same n cut cuts to h.1 in
      (r.at from cut n (omega (arith, before, le)) h.0, LeadTo-before r e n cut cuts to before h.1)

  pub ImpliesBefore-Chain : ImpliesBefore T R R' → ImpliesBefore T E E'
      → ImpliesBefore T (Chain R E) (Chain R' E')
  ImpliesBefore-Chain r e = search (rules, LeadTo-before, finer_before)
