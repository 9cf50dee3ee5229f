use Rattle.std.proofs.Common.{arith, w64}
use Rattle.std.proofs.lemmas.Nat.Bits.{bit_at-trailing_zeros}
use Rattle.tre_state.proofs.sieve.lowest.Goals as goal

pub returns : goal.returns
returns c =
    let bit = bit_at-trailing_zeros w64 c.args.bits (omega (arith, c.requires)) c.ranges.bits.fits in
    record { within = bit.0; set = bit.1 }
