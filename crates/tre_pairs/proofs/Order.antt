-- Every operator keeps the order of the two times, and the bounds on them.
use Rattle.std.proofs.Common.{ℕ, ◌*◌, ◌<◌, ◌≤◌, List, [], ◌∷◌, ⊎_elim, arith, rules}
use Rattle.std.proofs.Math.Nat.{mul_left_comm, le_of_mul-le-mul_left}
use Rattle.tre_pairs.specs.Pairs.{Pairs, Composed, Either, Both, Lasting, LeadTo, Chain}
use Rattle.tre_pairs.proofs.Laws.{IsOrdered, IsInstant, IsBounded}

-- the bounds of the finer names are bounds of the times
begin_of : (k low a n : ℕ) → 0 < k → low * (k * n) ≤ k * a → low * n ≤ a
begin_of k low a n pos h = search (rules, mul_left_comm, le_of_mul-le-mul_left)

end_of : (k high b n : ℕ) → 0 < k → k * b ≤ high * (k * n) → b ≤ high * n
end_of k high b n pos h = search (rules, mul_left_comm, le_of_mul-le-mul_left)

module _ (R S : Pairs) where
  pub IsOrdered-Composed : IsOrdered R → IsOrdered S → IsOrdered (Composed R S)
  IsOrdered-Composed r s = search rules

  pub IsOrdered-Either : IsOrdered R → IsOrdered S → IsOrdered (Either R S)
  IsOrdered-Either r s = record { le = λ a b n h. ⊎_elim (r.le a b n) (s.le a b n) h }

  pub IsOrdered-Both : IsOrdered R → IsOrdered (Both R S)
  IsOrdered-Both r = record { le = λ a b n h. r.le a b n h.left }

  pub IsBounded-Composed : (low high : ℕ) → IsBounded low high R → IsBounded low high S
      → IsBounded low high (Composed R S)
  IsBounded-Composed low high r s = search (rules, begin_of, end_of, r.begin, s.end)

  pub IsBounded-Either : (low high : ℕ) → IsBounded low high R → IsBounded low high S
      → IsBounded low high (Either R S)
  IsBounded-Either low high r s = search rules

  pub IsBounded-Both : (low high : ℕ) → IsBounded low high R → IsBounded low high (Both R S)
  IsBounded-Both low high r = search rules

module _ (D : ℕ → ℕ → Type 0) (R : Pairs) where
  pub IsOrdered-Lasting : IsOrdered R → IsOrdered (Lasting D R)
  IsOrdered-Lasting r = record { le = λ a b n h. r.le a b n h.related }

  pub IsBounded-Lasting : (low high : ℕ) → IsBounded low high R → IsBounded low high (Lasting D R)
  IsBounded-Lasting low high r = search rules

module _ (R E : Pairs) where
  -- the cuts never fall
  pub LeadTo-le : IsOrdered R → IsInstant E → (n from : ℕ) (cuts : List ℕ) (to : ℕ)
      → LeadTo R E n from cuts to → from ≤ to
  LeadTo-le r e n from [] to h = let same = e.same from to n h in omega arith
  LeadTo-le r e n from (cut ∷ cuts) to h =
      let first = r.le from cut n h.0 in let rest = LeadTo-le r e n cut cuts to h.1 in omega arith

  pub IsOrdered-Chain : IsOrdered R → IsInstant E → IsOrdered (Chain R E)
  IsOrdered-Chain r e = search (rules, le_of_mul-le-mul_left, LeadTo-le)

  LeadTo-begin : (low high : ℕ) → IsBounded low high R → IsBounded low high E
      → (n from : ℕ) (cuts : List ℕ) (to : ℕ) → LeadTo R E n from cuts to → low * n ≤ from
  LeadTo-begin low high r e n from [] to h = e.begin from to n h
  LeadTo-begin low high r e n from (cut ∷ cuts) to h = r.begin from cut n h.0

  LeadTo-end : (low high : ℕ) → IsBounded low high E → (n from : ℕ) (cuts : List ℕ) (to : ℕ)
      → LeadTo R E n from cuts to → to ≤ high * n
  LeadTo-end low high e n from [] to h = e.end from to n h
  LeadTo-end low high e n from (cut ∷ cuts) to h = LeadTo-end low high e n cut cuts to h.1

  pub IsBounded-Chain : (low high : ℕ) → IsBounded low high R → IsBounded low high E
      → IsBounded low high (Chain R E)
  IsBounded-Chain low high r e = record {
    begin = λ a b n h. begin_of h.factor low a n h.positive
        (LeadTo-begin low high r e (h.factor * n) (h.factor * a) h.cuts (h.factor * b) h.steps);
    end = λ a b n h. end_of h.factor high b n h.positive
        (LeadTo-end low high e (h.factor * n) (h.factor * a) h.cuts (h.factor * b) h.steps);
  }
