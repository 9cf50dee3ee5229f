use Rattle.std.proofs.Common.{◌≡◌, ◌<◌, ◌^◌, length, get_or, true, refl, sym}
use Rattle.tre_define.specs.Values.{is_bit}
use Rattle.tre_define.proofs.Bits.{bit-at}
use Rattle.tre_define.proofs.Digits.{value-take, digit_value-bit, capped_step}
use Rattle.tre_define.proofs.test.read_bits.Goals as goal

pub loop-bit-preserved : goal.loop-bit-preserved
loop-bit-preserved c =
    let bits = c.args.bits.now in
    let i = c.loop-bit.bit-index in
    let below : i < length bits = c.loop-bit-test.true in
    let here : is_bit (get_or bits i 0) ≡ true = bit-at bits i below c.requires in
    rw (
      c.min-number.ensures,
      c.from.ensures,
      ←
          digit_value-bit _ here,
      c.loop-bit.invariant,
      value-take 2 0 bits i below,
    )
    (capped_step (2 ^ 64) _ _)
