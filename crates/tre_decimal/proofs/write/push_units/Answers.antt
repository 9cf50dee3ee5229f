use Rattle.std.proofs.Common.{◌≡◌, ◌++◌, ◌/◌, ◌^◌, string_bytes, decimal, ap, ◌∙◌, arith}
use Rattle.std.specs.Prelude.{codes}
use Rattle.std.proofs.Math.Nat.{one-le-pow}
use Rattle.tre_decimal.specs.Decimal.{last_digits}
use Rattle.tre_decimal.proofs.Written.{with_point}
use Rattle.tre_decimal.proofs.write.push_units.Goals as goal

pub nonzero_div-units : goal.nonzero_div-units
nonzero_div-units c =
    omega (arith, one-le-pow c.from.result 10 (omega arith))

pub returns : goal.returns
returns c =
    let old = string_bytes c.args.text.now in
    let units = c.args.units in
    let scale = c.args.scale in
    let power : c.pow.result ≡ 10 ^ scale = c.pow.ensures ∙ ap (λ n. 10 ^ n) c.from.ensures in
    c.in_ok-push_last.ensures
    ∙ ap (λ text. text ++ last_digits scale units) c.in_ok-push_str.ensures.bytes
    ∙ ap (λ text. (text ++ codes ".") ++ last_digits scale units) c.in_ok-push_decimal.ensures
    ∙ ap (λ n. ((old ++ decimal (units / n)) ++ codes ".") ++ last_digits scale units) power
    ∙ with_point scale units old (omega arith)
