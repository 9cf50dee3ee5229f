use Rattle.std.proofs.Common.{sym, ◌∙◌, rules}
use Rattle.std.proofs.lemmas.List.{take_rest}
use Rattle.tre_define.specs.Named.{number_in}
use Rattle.tre_define.proofs.Colons.{no-colon, no-left, no-right}
use Rattle.tre_define.proofs.named.range_between.Goals as goal

pub returns-in_err-colon : goal.returns-in_err-colon
returns-in_err-colon c =
    c.from_residual.ensures ∙ sym (no-colon c.args.numbers.now (sym c.in_err-colon.ensures))

pub returns-in_err-left : goal.returns-in_err-left
returns-in_err-left c = search (rules, no-left, c.args.numbers.now, c.in_ok-colon.colon)

pub returns-in_err-right : goal.returns-in_err-right
returns-in_err-right c =
    search (rules, no-right, number_in, take_rest, c.args.numbers.now, c.in_ok-colon.colon)
