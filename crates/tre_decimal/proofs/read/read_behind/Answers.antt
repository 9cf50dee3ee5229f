use Rattle.std.proofs.Common.{◌≡◌, ◌-◌, ◌<◌, ◌^◌, length, get_or, true, refl, sym}
use Rattle.std.specs.Char.{is_ascii_digit}
use Rattle.std.proofs.lemmas.List.Folds.{list_all_more}
use Rattle.tre_decimal.proofs.Digits.{value-take, digit_value-digit}
use Rattle.tre_decimal.proofs.Capped.{capped_step}
use Rattle.tre_decimal.proofs.read.read_behind.Goals as goal

pub loop-byte-preserved : goal.loop-byte-preserved
loop-byte-preserved c =
    let field = c.args.digits.now in
    let i = c.loop-byte.byte-index in
    let below : i < length field = c.loop-byte-test.true in
    let here : is_ascii_digit (get_or field i 0) ≡ true = sym c.if-not-is_ascii_digit.ensures.value
    in
    record {
      digits = rw (
        list_all_more is_ascii_digit field i 0 below,
        c.loop-byte.invariant.digits,
        here,
      ) refl;
      value = rw (
        c.with_digit-longer.ensures,
        ←
            digit_value-digit _ here,
        c.loop-byte.invariant.value,
        value-take c.args.number field i below,
      )
          (capped_step (2 ^ 64 - 1) _ _);
    }
