-- A literal over segments: what one more segment does to the stretches on which it holds.
use Rattle.std.proofs.Common.{ℕ, ◌+◌, ◌*◌, ◌<◌, ◌≤◌, ◌↔◌, ◌⊎◌, List, [], ◌∷◌, arith, inl, inr, ⊎_elim, rules}
use Rattle.std.proofs.lemmas.Bool.{cases_lt}
use Rattle.std.proofs.Math.Nat.{mul-le-mul_right}
use Rattle.tre_trace.specs.declared.segment.Segment.{Segment}
use Rattle.tre_trace.specs.Trace.{end_of}
use Rattle.tre_trace.specs.Literal.{HoldsBetween}
use Rattle.tre_zone.specs.Zone.{IsInSpan}
use Rattle.tre_syntax.proofs.Atoms.{end_of-le}
use Rattle.tre_syntax.proofs.Growth.{between_after}

-- A stretch of the literal that begins at `begin` or later, where it has held from there until
-- `start` and the rest begins.
pub record HoldsFrom (P : ℕ → Type 0) (begin start : ℕ) (rest : List Segment)
    (a b n : ℕ) : Type 0 where
  pub starts : begin * n ≤ a
  pub lasts : a < b
  pub ends : b ≤ end_of start rest * n
  pub throughout : HoldsBetween P start rest a b n

-- a segment on which it holds makes the stretch longer
pub HoldsFrom-true : (P : ℕ → Type 0) (begin start : ℕ) (segment : Segment) (rest : List Segment)
    (a b n : ℕ) → P segment.val
    → HoldsFrom P begin start (segment ∷ rest) a b n
    ↔ HoldsFrom P begin (start + segment.len) rest a b n
HoldsFrom-true P begin start segment rest a b n holds = search rules

-- one on which it doesn't ends the stretch, and another may begin behind it
pub HoldsFrom-false : (P : ℕ → Type 0) (begin start : ℕ) (segment : Segment) (rest : List Segment)
    (a b n : ℕ) → begin ≤ start → ¬ P segment.val
    → HoldsFrom P begin start (segment ∷ rest) a b n
    ↔ (IsInSpan begin start a b n ⊎ HoldsFrom P (start + segment.len)
    (start + segment.len) rest a b n)
HoldsFrom-false P begin start segment rest a b n order fails =
    let here = start * n in
    let next = (start + segment.len) * n in
    let mono : here ≤ next = mul-le-mul_right n (omega arith) in
    let first : begin * n ≤ here = mul-le-mul_right n order in (
      λ h. ⊎_elim
          (λ late. ⊎_elim
          (λ inside. absurd (fails (h.throughout.0 late inside)))
          (λ behind.
          inr (record {
            starts = behind;
            lasts = h.lasts;
            ends = h.ends;
            throughout =
                h.throughout.1;
          }))
          (cases_lt a next))
          (λ early. inl (record { starts = h.starts; lasts = h.lasts; ends = early }))
          (cases_lt here b),
      λ h. ⊎_elim
          (λ span. record {
            starts = span.starts;
            lasts = span.lasts;
            ends = omega (arith, span.ends, mul-le-mul_right n (end_of-le start (segment ∷ rest)));
            throughout = between_after P a b n start (segment ∷ rest) span.ends;
          })
          (λ more. record {
            starts = omega (arith, first, mono, more.starts);
            lasts = more.lasts;
            ends = more.ends;
            throughout = (λ _ inside. absurd (omega (arith, more.starts, inside)), more.throughout);
          })
          h,
    )

-- at the end there is no more
pub HoldsFrom-end : (P : ℕ → Type 0) (begin start : ℕ) (a b n : ℕ)
    → HoldsFrom P begin start [] a b n ↔ IsInSpan begin start a b n
HoldsFrom-end P begin start a b n = search rules
