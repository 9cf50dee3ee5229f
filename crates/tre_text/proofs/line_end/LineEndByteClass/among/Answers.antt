use Rattle.std.proofs.Common.{ℕ, refl, arith}
use Rattle.std.proofs.lemmas.Simd.{zip2_splat}
use Rattle.std.specs.Char.{is_newline}
use Rattle.tre_parts.specs.Lanes.{masked}
use Rattle.tre_text.proofs.line_end.LineEndByteClass.among.Goals as goal

pub returns : goal.returns
returns c =
    let v = c.args.bytes in
    let long = c.fits-bytes.0 in
    masked _ is_newline v _ (omega (arith, long)) c.fits-bytes.1
    (zip2_splat {Y = ℕ} _ v 16 10 long) refl
