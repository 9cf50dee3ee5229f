-- Where two ends stand over one begin, in quarters of a tick.
use mathlib.Core.Bool.{beq}
use Rattle.std.proofs.Common.{◌≡◌, ℕ, ◌+◌, ◌*◌, ◌<◌, ◌↔◌, Bool, true, false, cond, not, refl, sym, true≢false, rules}
use Rattle.tre_strips.specs.Bar.{place_of}
use Rattle.tre_strips.specs.declared.bar.BarEnd.{BarEnd}

abbrev pub bit : Bool → ℕ
bit flag = cond flag 1 0

pub alike : (m k : Bool) → beq m k ≡ true → m ≡ k
alike true true e = refl
alike true false e = absurd (true≢false (sym e))
alike false true e = absurd (true≢false (sym e))
alike false false e = refl

pub fixed : (m k : Bool) → beq m k ≡ false → m ≡ true → k ≡ false
fixed true true e p = absurd (true≢false e)
fixed m false e p = refl
fixed false true e p = absurd (true≢false (sym p))

pub moving : (m k : Bool) → beq m k ≡ false → m ≡ false → k ≡ true
moving m true e p = refl
moving false false e p = absurd (true≢false e)
moving true false e p = absurd (true≢false p)

pub place_moving : (end : BarEnd) (s : ℕ) → end.moves ≡ true
    → place_of end s 2 ≡ 4 * end.ticks + (2 * s + bit end.after)
unfolding place_of
place_moving end s e = search rules

pub place_fixed : (end : BarEnd) (s : ℕ) → end.moves ≡ false
    → place_of end s 2 ≡ 4 * end.ticks + bit end.after
unfolding place_of
place_fixed end s e = search rules

pub place_alike : (one other : BarEnd) (s : ℕ) → one.moves ≡ other.moves
    → (4 * one.ticks + bit one.after < 4 * other.ticks + bit other.after)
    ↔ (place_of one s 2 < place_of other s 2)
unfolding place_of
place_alike one other s e = search rules

-- ---- ends at the same place

-- An end that stands just after a moment isn't where one stands just before a moment.
pub place_differs : (one other : BarEnd) (s : ℕ)
    → not (beq one.after other.after) ≡ true → place_of one s 2 ≡ place_of other s 2 → ⊥
unfolding place_of
place_differs one other s e same = search rules

-- Two fixed ends, or two that move, stand together where their ticks are the same.
pub place_same : (one other : BarEnd) (s : ℕ) → one.moves ≡ other.moves
    → one.after ≡ other.after
    → (one.ticks ≡ other.ticks) ↔ (place_of one s 2 ≡ place_of other s 2)
unfolding place_of
place_same one other s e e' = search rules

-- An end that moves and a fixed one stand together where their moments are the same.
pub place_met : (one other : BarEnd) (s : ℕ) → one.moves ≡ true → other.moves ≡ false
    → one.after ≡ other.after
    → (2 * one.ticks + s ≡ 2 * other.ticks) ↔ (place_of one s 2 ≡ place_of other s 2)
place_met one other s e e' e'' = search (rules, place_moving, place_fixed)
