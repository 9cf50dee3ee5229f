use Rattle.std.proofs.Common.{rules}
use Rattle.tre_decimal.specs.Decimal.{last_digits}
use Rattle.tre_show.proofs.LineBytes.{last_before}
use Rattle.tre_show.proofs.line.+write_last.Goals as goal

pub returns-clause-text : goal.returns-clause-text
returns-clause-text t c =
    search (rules, last_digits, last_before, c.args.count, c.args.number, c.args.end)
