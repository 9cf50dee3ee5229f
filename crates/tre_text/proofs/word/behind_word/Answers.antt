use Rattle.std.proofs.Common.{ap, arith, rules}
use Rattle.std.proofs.Math.ListN.{drop_of_length-le}
use Rattle.tre_text.specs.TextReading.{fields_among}
use Rattle.tre_text.proofs.Fields.{take-rest}
use Rattle.tre_text.proofs.Words.{blank_behind, rest_from, rest_later, rest_none}
use Rattle.tre_text.proofs.word.behind_word.Goals as goal

pub returns-then-end-bytes-clause-fields : goal.returns-then-end-bytes-clause-fields
returns-then-end-bytes-clause-fields c =
    ap fields_among (drop_of_length-le c.args.bytes.now (omega (arith, c.if-end-bytes.true)))

pub returns-then-end-bytes-clause-rest : goal.returns-then-end-bytes-clause-rest
returns-then-end-bytes-clause-rest c = rest_none c.args.bytes.now

pub returns-clause-fields : goal.returns-clause-fields
returns-clause-fields c =
    search (rules, blank_behind, take-rest, c.args.bytes.now, c.args.end, c.requires.ends)

pub returns-clause-rest : goal.returns-clause-rest
returns-clause-rest c =
    search (rules, rest_later, rest_from, take-rest, c.args.bytes.now, c.skip_blanks.result.now)
