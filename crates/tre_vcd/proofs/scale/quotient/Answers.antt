use Rattle.std.proofs.Common.{◌≡◌, ◌-◌, true, false, drop, take, sym, ap, ◌∙◌, ◌^◌, min, subst, arith}
use Rattle.std.specs.List.{list_all}
use Rattle.std.specs.Prelude.{IfNone, IfSome}
use Rattle.std.specs.Str.Parse.{digits_value}
use Rattle.std.proofs.lemmas.Grind.{common_steps}
use Rattle.tre_decimal.specs.Decimal.{is_numeral, is_zero}
use Rattle.tre_vcd.proofs.Scaling.{rest-left, no-digits, all-zeros, front-is}
use Rattle.tre_vcd.proofs.scale.quotient.Goals.{then-is_empty-via-then-is_empty, then-is_empty-via-else-is_empty+then-not-are_zeros}
use Rattle.tre_vcd.proofs.scale.quotient.Goals as goal

pub returns-then-is_empty : goal.returns-then-is_empty
returns-then-is_empty c =
    let digits = c.args.digits.now in
    elim c.then-is_empty.branch [
      | then-is_empty-via-then-is_empty w ↦
          no-digits digits c.args.zeros (sym c.is_empty.ensures ∙ w.if-is_empty.true)
      | then-is_empty-via-else-is_empty+then-not-are_zeros w ↦
          let rest : list_all is_zero (drop c.saturating_sub-front.result digits) ≡ false =
          grind (arith, common_steps) in
          rest-left digits c.args.zeros
          (ap (λ n. list_all is_zero (drop n digits)) (sym c.saturating_sub-front.ensures) ∙ rest)
    ]

pub returns-then-front-eq0 : goal.returns-then-front-eq0
returns-then-front-eq0 c =
    let digits = c.args.digits.now in
    let rest : list_all is_zero (drop c.saturating_sub-front.result digits) ≡ true =
    grind (arith, common_steps) in
    all-zeros digits c.args.zeros
    (ap (λ n. list_all is_zero (drop n digits)) (sym c.saturating_sub-front.ensures) ∙ rest)
    (sym c.saturating_sub-front.ensures ∙ c.if-front-eq0.true)
    (sym c.is_empty.ensures ∙ c.if-is_empty.false)

pub returns : goal.returns
returns c =
    let digits = c.args.digits.now in
    let rest : list_all is_zero (drop c.saturating_sub-front.result digits) ≡ true =
    grind (arith, common_steps) in
    front-is digits c.args.zeros
    (ap (λ n. list_all is_zero (drop n digits)) (sym c.saturating_sub-front.ensures) ∙ rest)
    c.read_numeral.result (omega (arith, c.saturating_sub-front.ensures, c.if-front-eq0.false))
    (subst (λ n. IfSome c.read_numeral.result (λ _. is_numeral (take n digits) ≡ true))
    c.saturating_sub-front.ensures c.read_numeral.ensures.digits)
    (subst (λ n. IfSome c.read_numeral.result
    (λ number. number ≡ min (digits_value 10 (take n digits)) (2 ^ 64 - 1)))
    c.saturating_sub-front.ensures c.read_numeral.ensures.value)
    (subst (λ n. IfNone c.read_numeral.result (is_numeral (take n digits) ≡ false))
    c.saturating_sub-front.ensures c.read_numeral.ensures.none)
