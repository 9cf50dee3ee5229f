use Rattle.std.proofs.Common.{◌≡◌, ◌*◌, ◌-◌, ◌<◌, ◌^◌, min, true, false, Some, ◌++◌, length, take, drop, sym, ap, ◌∙◌, arith}
use Rattle.std.specs.Char.{is_ascii_digit}
use Rattle.std.specs.List.{list_all}
use Rattle.std.specs.Option.{option_map}
use Rattle.std.specs.Str.Parse.{digits_value, digits_value_after}
use Rattle.std.proofs.Math.Nat.{one-le-pow}
use Rattle.std.proofs.lemmas.Grind.{common_steps}
use Rattle.std.proofs.lemmas.List.{take_min, drop_min}
use Rattle.tre_decimal.specs.Decimal.{is_zero}
use Rattle.tre_decimal.proofs.Units.{capped, other_byte, two_parts, capped_parts}
use Rattle.tre_decimal.proofs.read.read_between.Goals as goal

pub returns-in_err-number : goal.returns-in_err-number
returns-in_err-number c =
    let decimals = c.args.decimals.now in
    let scale = c.args.scale in
    let size : c.min-kept.result ≡ min scale (length decimals) = omega arith in
    let kept : take c.min-kept.result decimals ≡ take scale decimals =
    ap (λ n. take n decimals) size ∙ take_min scale decimals in
    let bad : list_all is_ascii_digit (take scale decimals) ≡ false =
    ap (list_all is_ascii_digit) (sym kept) ∙ c.in_err-number.ensures.none in
    c.from_residual-in_err-number.ensures
    ∙ sym (ap (option_map capped) (other_byte scale c.args.whole.now decimals bad))

pub returns : goal.returns
returns c =
    let whole = c.args.whole.now in
    let decimals = c.args.decimals.now in
    let scale = c.args.scale in
    let size : c.min-kept.result ≡ min scale (length decimals) = omega arith in
    let kept : take c.min-kept.result decimals ≡ take scale decimals =
    ap (λ n. take n decimals) size ∙ take_min scale decimals in
    let past : drop c.min-kept.result decimals ≡ drop scale decimals =
    ap (λ n. drop n decimals) size ∙ drop_min scale decimals in
    let digits : list_all is_ascii_digit (take scale decimals) ≡ true =
    ap (list_all is_ascii_digit) (sym kept) ∙ c.in_ok-number.ensures.digits in
    let zeros : list_all is_zero (drop scale decimals) ≡ true =
    ap (list_all is_zero) (sym past) ∙ grind (arith, common_steps) in
    let some : 0 < length decimals = grind (arith, common_steps) in
    let left : scale - length decimals ≡ scale - c.min-kept.result = omega arith in
    let power = 10 ^ (scale - c.min-kept.result) in
    let positive = one-le-pow (scale - c.min-kept.result) 10 (omega arith) in
    let value : c.times_power.result
    ≡ capped (digits_value 10 (whole ++ take scale decimals) * 10 ^ (scale - length decimals)) =
    c.times_power.ensures
    ∙ ap (λ n. capped (n * power)) c.in_ok-number.ensures.value
    ∙ ap (λ n. capped (capped (digits_value_after 10 n (take c.min-kept.result decimals)) * power))
    c.in_ok-read_numeral.ensures.value
    ∙ capped_parts whole (take c.min-kept.result decimals) power positive
    ∙ ap (λ xs. capped (digits_value 10 (whole ++ xs) * power)) kept
    ∙ ap (λ n. capped (digits_value 10 (whole ++ take scale decimals) * 10 ^ n)) (sym left) in
    let two =
    two_parts scale whole decimals c.in_ok-read_numeral.ensures.digits some digits zeros in
    ap Some value ∙ sym (ap (option_map capped) two)
