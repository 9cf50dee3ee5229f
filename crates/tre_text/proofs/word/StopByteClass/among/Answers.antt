use Rattle.std.proofs.Common.{ℕ, leb, cond, refl, arith}
use Rattle.std.proofs.lemmas.Simd.{zip2_splat, zip2_of_maps, splat_is_map}
use Rattle.tre_parts.specs.Lanes.{masked}
use Rattle.tre_text.specs.Words.{stops_name}
use Rattle.tre_text.proofs.word.StopByteClass.among.Goals as goal

-- a lane is set where the one is at most the other
abbrev at_most : ℕ → ℕ → ℕ
at_most a b = cond (leb a b) 255 0

pub returns : goal.returns
returns c =
    let v = c.args.bytes in
    let long = c.fits-bytes.0 in
    masked _ stops_name v _ (omega (arith, long)) c.fits-bytes.1
    (zip2_of_maps _ _ _ v
    (zip2_of_maps _ _ _ v
    (zip2_of_maps at_most _ _ v (splat_is_map v 16 26 long)
    (zip2_of_maps _ _ _ v (zip2_splat {Y = ℕ} _ v 16 32 long) (splat_is_map v 16 97 long)))
    (zip2_of_maps at_most _ _ v (splat_is_map v 16 10 long)
    (zip2_splat {Y = ℕ} _ v 16 48 long)))
    (zip2_of_maps _ _ _ v (zip2_splat {Y = ℕ} _ v 16 95 long)
    (zip2_splat {Y = ℕ} _ v 16 46 long))) refl
