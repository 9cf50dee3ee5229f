-- The bars over a begin: separate stretches of ends.
use Rattle.std.specs.Prelude.{ℕ, ◌+◌, ◌*◌, ◌<◌, ◌≤◌, ◌⊎◌, cond, List, [], ◌∷◌}
use Rattle.tre_pairs.specs.Pairs.{Pairs}
use Rattle.tre_strips.specs.declared.bar.Bar.{Bar}
use Rattle.tre_strips.specs.declared.bar.BarEnd.{BarEnd}

-- Where an end of a bar stands over the begin a/n, in halves of 1/n: at twice its moment where it
-- stands just before that, and one further where it stands just after it. The moment is `ticks`, or
-- so long after the begin where it moves with it.
unfoldable pub place_of : BarEnd → ℕ → ℕ → ℕ
place_of end a n = 2 * (end.ticks * n + cond end.moves a 0) + cond end.after 1 0

-- The time b/n is on the bar over the begin a/n.
pub record BarHolds (bar : Bar) (a b n : ℕ) : Type 0 where
  pub low : place_of bar.low a n ≤ 2 * b
  pub high : 2 * b < place_of bar.high a n

unfoldable pub BarsHold : List Bar → Pairs
BarsHold [] a b n = ⊥
BarsHold (bar ∷ bars) a b n = BarHolds bar a b n ⊎ BarsHold bars a b n

unfoldable pub AreFilled : List Bar → ℕ → ℕ → Type 0
AreFilled [] a n = Unit {0}
AreFilled (bar ∷ bars) a n = (place_of bar.low a n < place_of bar.high a n) × AreFilled bars a n

-- Over the begin a/n the low end of the first bar, its high end, the low end of the next bar, and
-- so on, each stand before the next, and the first not before the place `least`. So no bar is
-- empty, they rise, and between two neighbours some time is left out.
unfoldable pub RiseFrom : ℕ → List Bar → ℕ → ℕ → Type 0
RiseFrom least [] a n = Unit {0}
RiseFrom least (bar ∷ bars) a n =
    (least ≤ place_of bar.low a n) × (place_of bar.low a n < place_of bar.high a n)
    × RiseFrom (place_of bar.high a n + 1) bars a n
