-- Bounds that are missed: the bound from the other side that is met there instead.
use Rattle.std.proofs.Common.{◌≡◌, ℕ, ◌-◌, ◌^◌, ◌<◌, ◌⊎◌, ◌↔◌, inl, inr, ⊎_elim, arith, ℤ, pos, neg_ℤ, ◌+ℤ◌, ◌-ℤ◌, ◌*ℤ◌}
use Rattle.std.proofs.lemmas.Int.{ints, clamps, by_lt_z}
use Rattle.std.specs.Int.{int_min}
use Rattle.tre_zone.specs.Bound.{value_of, weakness_of, Meets, IsKeyWithin, IsValueWithin}
use Rattle.tre_zone.proofs.Bounds.{Splits, split, split-unique}
use Rattle.tre_zone.proofs.Paths.{add_times, Meets-min}

denied-splits : (key : ℤ) → Splits (pos 1 -ℤ key) (neg_ℤ (value_of key)) (1 - weakness_of key)
denied-splits key =
    let s = split key in
    record { whole = omega (arith, ints); small = omega arith }

neg_times : (x : ℤ) (n : ℕ) → neg_ℤ x *ℤ pos n ≡ neg_ℤ (x *ℤ pos n)
neg_times x n =
    let none : x +ℤ neg_ℤ x ≡ pos 0 = omega (arith, ints) in
    let sum : pos 0 *ℤ pos n ≡ (x *ℤ pos n) +ℤ (neg_ℤ x *ℤ pos n) =
    rw none at (add_times x (neg_ℤ x) n) in
    omega (arith, ints)

-- A bound is met, or the denied one from the other side is.
pub Meets-cases : (key : ℤ) (p q n : ℕ) → Meets key p q n ⊎ Meets (pos 1 -ℤ key) q p n
Meets-cases key p q n =
    let s = split key in
    let same = split-unique _ _ _ (denied-splits key) in
    let times = neg_times (value_of key) n in
    by_lt_z (pos p) ((pos q +ℤ (value_of key *ℤ pos n)) +ℤ pos (weakness_of key))
    (λ lt. inl (record { met = lt }))
    (λ le. inr (record { met = rw (same.0, same.1, times) (omega (arith, ints)) }))

-- Never both.
pub Meets-never : (key : ℤ) (p q n : ℕ) → Meets key p q n → Meets (pos 1 -ℤ key) q p n → ⊥
Meets-never key p q n one two =
    let s = split key in
    let same = split-unique _ _ _ (denied-splits key) in
    let times = neg_times (value_of key) n in
    let met = one.met in
    let other = rw (same.0, same.1, times) at two.met in
    absurd (omega (arith, ints))

-- A bound, and that another one from the other side is missed.
pub Meets-missing : (x key : ℤ) (p q n : ℕ) → 0 < n
    → Meets (int_min x (pos 1 -ℤ key)) q p n ↔ (Meets x q p n × (Meets key p q n → ⊥))
Meets-missing x key p q n some =
    let both = Meets-min x (pos 1 -ℤ key) q p n some in (
      (λ m. ((both.0 m).0, (λ met. Meets-never key p q n met (both.0 m).1))),
      (λ h. both.1 (h.0, ⊎_elim (λ met. absurd (h.1 met)) (λ m. m) (Meets-cases key p q n))),
    )

-- ---- keys within limits

pub value-key : (x : ℤ) → IsKeyWithin (2 ^ 42) x → IsValueWithin (2 ^ 42) x
value-key x h =
    let s = split x in
    record { low = omega (arith, ints, h.low); high = omega (arith, ints, h.high) }

pub value-missing : (x key : ℤ) → IsKeyWithin (2 ^ 42) x → IsKeyWithin (2 ^ 42) key
    → IsValueWithin (2 ^ 42) (int_min x (pos 1 -ℤ key))
value-missing x key h k =
    let s = split (int_min x (pos 1 -ℤ key)) in
    record {
      low = omega (arith, ints, clamps, h.low, k.high);
      high = omega (arith, ints, clamps, h.high);
    }

pub key-meeting : (x y : ℤ) → IsKeyWithin (2 ^ 42) x → IsKeyWithin (2 ^ 42) y
    → IsKeyWithin (2 ^ 42) (int_min x y)
key-meeting x y h k = record {
  low = omega (arith, ints, clamps, h.low, k.low);
  high = omega (arith, ints, clamps, h.high);
}
