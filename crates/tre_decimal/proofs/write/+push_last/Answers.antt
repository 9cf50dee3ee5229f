use Rattle.std.proofs.Common.{◌++◌, string_bytes, decimal, ◌/◌, ◌-◌, ◌%◌, append_assoc, ap, ◌∙◌, arith}
use Rattle.tre_decimal.specs.Decimal.{last_digits}
use Rattle.tre_decimal.proofs.Written.{last_step}
use Rattle.tre_decimal.proofs.write.+push_last.Goals as goal

pub returns : goal.returns
returns t c =
    let old = string_bytes c.args.text.now in
    let number = c.args.number in
    let count = c.args.count in
    c.in_ok-push_decimal.ensures
    ∙ ap (λ text. text ++ decimal (number % 10)) c.in_ok-push_last.ensures
    ∙ append_assoc old (last_digits (count - 1) (number / 10)) (decimal (number % 10))
    ∙ ap (λ digits. old ++ digits) (last_step count number (omega arith))
