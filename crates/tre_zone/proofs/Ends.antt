-- The ends of an interval as bounds on a duration.
use Rattle.std.proofs.Common.{◌≡◌, ℕ, ◌-◌, ◌*◌, ◌<◌, ◌≤◌, ◌↔◌, ℤ, pos, neg_ℤ, ◌-ℤ◌, rules}
use Rattle.std.specs.Int.{int_min}
use Rattle.tre_zone.specs.Bound.{Meets}
use Rattle.tre_zone.proofs.Bounds.{Meets-at_least, Meets-more}
use Rattle.tre_zone.proofs.Paths.{Meets-min}

pub weak_low : (key : ℤ) (low : ℕ) → key ≡ pos 1 -ℤ pos (2 * low) → (p q n : ℕ) → p ≤ q
    → Meets key p q n ↔ (low * n ≤ q - p)
weak_low key low e p q n le = search (rules, Meets-at_least)

pub strict_low : (key : ℤ) (low : ℕ) → key ≡ neg_ℤ (pos (2 * low)) → (p q n : ℕ) → p ≤ q
    → Meets key p q n ↔ (low * n < q - p)
strict_low key low e p q n le = search (rules, Meets-more)

-- A bound tightened by one that means P.
pub tightened : (key bound end : ℤ) → key ≡ int_min bound end → (p q n : ℕ) → 0 < n → (P : Type 0)
    → (Meets end p q n ↔ P)
    → Meets key p q n ↔ (Meets bound p q n × P)
tightened key bound end e p q n some P means = search (rules, Meets-min, means.0, means.1)
