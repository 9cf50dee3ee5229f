use Rattle.std.proofs.Common.{◌≡◌, ◌+◌, ◌*◌, ◌<◌, true, false, Some, length, get_or, take, refl, sym, subst, ap, ◌∙◌, arith}
use Rattle.std.specs.Prelude.{◌==◌}
use Rattle.std.specs.Char.{digit_value, is_digit}
use Rattle.std.specs.List.{list_all}
use Rattle.std.specs.Str.Parse.{digits_value}
use Rattle.std.proofs.lemmas.Bool.Decides.{nat_tests}
use Rattle.std.proofs.lemmas.List.{take_all}
use Rattle.std.proofs.lemmas.List.Folds.{list_all_more}
use Rattle.std.proofs.lemmas.Str.Parse.{digits_value-take-le}
use Rattle.tre_define.proofs.Digits.{based-is, based-large, value-take}
use Rattle.tre_define.proofs.number.read_based.Goals as goal

pub returns-in_err-checked_mul : goal.returns-in_err-checked_mul
returns-in_err-checked_mul c =
    let base = c.args.base in
    let digits = c.args.digits.now in
    let i = c.loop-byte.byte-index in
    let before = digits_value base (take i digits) in
    let more : digits_value base (take (i + 1) digits)
    ≡ before * base + digit_value (get_or digits i 0) =
    value-take base 0 digits i c.loop-byte-test.true in
    let whole = digits_value-take-le base digits (i + 1) (omega (arith, c.requires)) in
    let times : c.loop-byte.number * c.from-in-loop-byte.result ≡ before * base =
    ap (λ n. n * c.from-in-loop-byte.result) c.loop-byte.invariant.value
    ∙ ap (λ b. before * b) c.from-in-loop-byte.ensures in
    c.from_residual-in_err-checked_mul.ensures
    ∙ sym (based-large base digits
    (omega (arith, more, whole, times, c.in_err-checked_mul.ensures)))

pub returns-in_err-number : goal.returns-in_err-number
returns-in_err-number c =
    let base = c.args.base in
    let digits = c.args.digits.now in
    let i = c.loop-byte.byte-index in
    let before = digits_value base (take i digits) in
    let more : digits_value base (take (i + 1) digits)
    ≡ before * base + digit_value (get_or digits i 0) =
    value-take base 0 digits i c.loop-byte-test.true in
    let whole = digits_value-take-le base digits (i + 1) (omega (arith, c.requires)) in
    let times : c.in_ok-checked_mul.field-0 ≡ before * base =
    c.in_ok-checked_mul.ensures.1
    ∙ ap (λ n. n * c.from-in-loop-byte.result) c.loop-byte.invariant.value
    ∙ ap (λ b. before * b) c.from-in-loop-byte.ensures in
    let digit : c.from-in-loop-byte-2.result ≡ digit_value (get_or digits i 0) =
    c.from-in-loop-byte-2.ensures ∙ c.in_ok-digit.ensures.value.1 ∙ ap digit_value c.from.ensures
    in
    c.from_residual-in_err-number.ensures
    ∙ sym (based-large base digits
    (omega (arith, more, whole, times, digit, c.in_err-number.ensures)))

pub loop-byte-preserved : goal.loop-byte-preserved
loop-byte-preserved c =
    let base = c.args.base in
    let digits = c.args.digits.now in
    let i = c.loop-byte.byte-index in
    let before = digits_value base (take i digits) in
    let below : i < length digits = c.loop-byte-test.true in
    let more : digits_value base (take (i + 1) digits)
    ≡ before * base + digit_value (get_or digits i 0) = value-take base 0 digits i below in
    let times : c.in_ok-checked_mul.field-0 ≡ before * base =
    c.in_ok-checked_mul.ensures.1
    ∙ ap (λ n. n * c.from-in-loop-byte.result) c.loop-byte.invariant.value
    ∙ ap (λ b. before * b) c.from-in-loop-byte.ensures in
    let digit : c.from-in-loop-byte-2.result ≡ digit_value (get_or digits i 0) =
    c.from-in-loop-byte-2.ensures ∙ c.in_ok-digit.ensures.value.1 ∙ ap digit_value c.from.ensures
    in
    let small : digit_value (get_or digits i 0) < base =
    subst (λ byte. digit_value byte < base) c.from.ensures c.in_ok-digit.ensures.value.0 in
    let here : is_digit (get_or digits i 0) base ≡ true = grind (arith, nat_tests) in
    record {
      digits = rw (
        list_all_more (λ byte. is_digit byte base) digits i 0 below,
        c.loop-byte.invariant.digits,
        here,
      ) refl;
      value = omega (arith, more, times, digit, c.in_ok-number.ensures.1);
      small = omega (arith, c.in_ok-number.ensures.0, c.in_ok-number.ensures.1);
    }

pub returns : goal.returns
returns c =
    let base = c.args.base in
    let digits = c.args.digits.now in
    let i = c.loop-byte.byte-index in
    let all = take_all i digits c.loop-byte-test.false in
    let value = c.loop-byte.invariant.value ∙ ap (digits_value base) all in
    let more : (length digits == 0) ≡ false = sym c.is_empty.ensures ∙ c.if-is_empty.false in
    let some : 0 < length digits = grind (arith, nat_tests) in
    ap Some value
    ∙ sym (based-is base digits some
    (subst (λ xs. list_all (λ byte. is_digit byte base) xs ≡ true) all c.loop-byte.invariant.digits)
    (omega (arith, value, c.loop-byte.invariant.small)))
