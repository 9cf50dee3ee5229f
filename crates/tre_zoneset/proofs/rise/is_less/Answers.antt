use Rattle.std.proofs.Common.{refl, inl, inr}
use Rattle.tre_zoneset.specs.Rise.{IsLess}
use Rattle.tre_zoneset.proofs.rise.is_less.Goals as goal

pub returns-then-is_below : goal.returns-then-is_below
unfolding IsLess
returns-then-is_below c = λ yes. inl (c.is_below.ensures.0 yes)

pub returns-then-is_same : goal.returns-then-is_same
unfolding IsLess
returns-then-is_same c = λ yes.
    inr (c.if-is_same.ensures.0 refl, c.is_below-then-is_same.ensures.0 yes)
