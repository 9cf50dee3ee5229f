use Rattle.std.proofs.Common.{refl, arith}
use Rattle.std.proofs.lemmas.Simd.{zip2_splat, zip2_of_maps, splat_is_map}
use Rattle.tre_parts.specs.Lanes.{masked}
use Rattle.tre_vcd.specs.VcdReading.{is_white}
use Rattle.tre_vcd.proofs.white.WhiteByteClass.among.Goals as goal

pub returns : goal.returns
returns c =
    let v = c.args.bytes in
    let long = c.fits-bytes.0 in
    masked _ is_white v _ (omega (arith, long)) c.fits-bytes.1
    (zip2_of_maps _ _ _ v (zip2_splat _ v 16 32 long)
    (zip2_of_maps _ _ _ v (zip2_splat _ v 16 9 long) (splat_is_map v 16 5 long))) refl
