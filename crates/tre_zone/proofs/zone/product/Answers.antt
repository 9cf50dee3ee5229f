use Rattle.std.proofs.Common.{ℕ, ◌^◌, ◌≤◌, ℤ, pos, negsuc, ◌*ℤ◌, Fits, FitsSigned, w32, w64, unsigned_abs, arith, rules}
use Rattle.std.proofs.Math.Facts.{to_z-of_z}
use Rattle.std.proofs.lemmas.Int.{fits_signed_mul}
use mir.Syntax.{w128}
use Rattle.tre_zone.proofs.zone.product.Goals as goal

abs_within : (c : ℤ) → FitsSigned w64 c → unsigned_abs c ≤ 2 ^ 63
abs_within (pos n) fits = omega (arith, fits)
abs_within (negsuc n) fits = omega (arith, fits)

product_fits : (c : ℤ) (n : ℕ) → FitsSigned w64 c → Fits w32 n → FitsSigned w128 (c *ℤ pos n)
product_fits c n signed unsigned =
    fits_signed_mul w128 c (pos n) (2 ^ 63) (2 ^ 32) (abs_within c signed)
    (omega (arith, unsigned)) (omega arith)

pub overflow_mul-result : goal.overflow_mul-result
overflow_mul-result c =
    search (rules, to_z-of_z, w128, product_fits, c.args.c, c.ranges.c, c.args.n)

pub returns : goal.returns
returns c = search (rules, to_z-of_z, w128, overflow_mul-result)
