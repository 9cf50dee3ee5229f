-- Comparisons of whole numbers.
use Rattle.std.specs.Prelude.{Bool, not, ℤ, int_le, int_lt}
use Rattle.std.specs.Ordering.{int_eq}
use Rattle.tre_define.specs.declared.comparison.Comparison.{Comparison}
use Rattle.tre_define.specs.declared.comparison.Comparison.TheVariants.{Less, AtMost, Greater, AtLeast, Equal, Unequal}

abbrev pub compares : Comparison → ℤ → ℤ → Bool
compares Less number other = int_lt number other
compares AtMost number other = int_le number other
compares Greater number other = int_lt other number
compares AtLeast number other = int_le other number
compares Equal number other = int_eq number other
compares Unequal number other = not (int_eq number other)
