-- Bounds from above on a difference of two times, each seen as its key.
use Rattle.std.specs.Prelude.{ℕ, ◌-◌, ◌/◌, ◌%◌, max, ℤ, pos, negsuc, ◌+ℤ◌, ◌-ℤ◌, ◌*ℤ◌, ◌<ℤ◌, ◌≤ℤ◌, neg_ℤ}

-- The key of the bound "at most c" is 2c + 1, that of "less than c" is 2c. So the key is twice the
-- value, and one more where the bound is weak; and the smaller key is the tighter bound.

-- The value c of a bound, in ticks: half of its key, rounded down.
unfoldable pub value_of : ℤ → ℤ
value_of (pos key) = pos (key / 2)
value_of (negsuc key) = negsuc (key / 2)

-- 1 where the bound is weak, that is "at most", and 0 where it is strict.
unfoldable pub weakness_of : ℤ → ℕ
weakness_of (pos key) = key % 2
weakness_of (negsuc key) = 1 - key % 2

-- The difference of the times p/n and q/n meets the bound: p - q is at most c * n where the bound
-- is weak, and less than c * n where it is strict, as one inequality of whole numbers.
pub record Meets (key : ℤ) (p q n : ℕ) : Type 0 where
  pub met : pos p <ℤ ((pos q +ℤ (value_of key *ℤ pos n)) +ℤ pos (weakness_of key))

-- The bound that two bounds put on a sum: the sum of the values, weak exactly where both are weak.
unfoldable pub sum_of : ℤ → ℤ → ℤ
sum_of left right = (left +ℤ right) -ℤ pos (max (weakness_of left) (weakness_of right))

-- The value is a whole number from -limit to limit.
pub record IsValueWithin (limit : ℕ) (key : ℤ) : Type 0 where
  pub low : neg_ℤ (pos limit) ≤ℤ value_of key
  pub high : value_of key ≤ℤ pos limit

-- The key is a whole number from -limit to limit.
pub record IsKeyWithin (limit : ℕ) (key : ℤ) : Type 0 where
  pub low : neg_ℤ (pos limit) ≤ℤ key
  pub high : key ≤ℤ pos limit
