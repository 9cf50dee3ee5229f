use Rattle.std.proofs.Common.{sym, ◌∙◌, rules}
use Rattle.std.proofs.lemmas.Bool.Decides.{nat_tests}
use Rattle.tre_text.proofs.Fields.{byte_field, fields-one, fields-cut, first_blank-later, take-rest}
use Rattle.tre_text.proofs.field.next_field.Goals as goal

pub returns-then-has_byte_field-clause-field : goal.returns-then-has_byte_field-clause-field
returns-then-has_byte_field-clause-field c =
    rw (take-rest 2 c.args.bytes.now)
    (byte_field c.args.bytes.now (sym c.has_byte_field.ensures.is ∙ c.if-has_byte_field.true))

pub returns-then-end-bytes-clause-field : goal.returns-then-end-bytes-clause-field
returns-then-end-bytes-clause-field c =
    search (rules, nat_tests, fields-one, c.skip_blanks-bytes.result.now)

pub returns-clause-field : goal.returns-clause-field
returns-clause-field c =
    search (rules, first_blank-later, take-rest, fields-cut, c.skip_blanks-bytes.result.now)
