-- What the operators make of relations that hold of the same pairs.
use Rattle.std.proofs.Common.{ℕ, ◌*◌, ◌<◌, ◌↔◌, List, [], ◌∷◌, inl, inr, ⊎_elim, arith, rules}
use Rattle.std.proofs.Math.Nat.{mul-pos}
use Rattle.tre_pairs.specs.Pairs.{Pairs, Composed, Either, Both, Lasting, LeadTo, Chain}
use Rattle.tre_pairs.proofs.Laws.{Agree}

pub Agree-Composed : (R R' S S' : Pairs) → Agree R R' → Agree S S'
    → Agree (Composed R S) (Composed R' S')
Agree-Composed R R' S S' r s = search rules

module _ (R R' E E' : Pairs) where
  LeadTo-agree : Agree R R' → Agree E E' → (n from : ℕ) (cuts : List ℕ) (to : ℕ) → 0 < n
      → LeadTo R E n from cuts to ↔ LeadTo R' E' n from cuts to
  LeadTo-agree r e n from [] to some = e.at from to n some
  LeadTo-agree r e n from (cut ∷ cuts) to some =
      let first = r.at from cut n some in
      let rest = LeadTo-agree r e n cut cuts to some in
      ((λ h. (first.0 h.0, rest.0 h.1)), (λ h. (first.1 h.0, rest.1 h.1)))

  pub Agree-Chain : Agree R R' → Agree E E' → Agree (Chain R E) (Chain R' E')
  Agree-Chain r e = search (rules, LeadTo-agree, mul-pos)

module _ (R R' S S' : Pairs) where
  pub Agree-Either : Agree R R' → Agree S S' → Agree (Either R S) (Either R' S')
  Agree-Either r s = search rules

  pub Agree-Both : Agree R R' → Agree S S' → Agree (Both R S) (Both R' S')
  Agree-Both r s = search rules

pub Agree-Lasting : (D : ℕ → ℕ → Type 0) (R R' : Pairs) → Agree R R'
    → Agree (Lasting D R) (Lasting D R')
Agree-Lasting D R R' r = search rules
