use Rattle.std.proofs.Common.{◌≡◌, Some, None, sym, ap, ◌∙◌}
use Rattle.std.specs.Str.{bytes_eq}
use Rattle.csv.specs.Records.{field_at, fields_of}
use Rattle.csv.proofs.RecordFacts.{field-get, field-there}
use Rattle.tre_num.proofs.columns.is_at.Goals as goal

pub returns-in-Some : goal.returns-in-Some
returns-in-Some c =
    let fields = fields_of c.args.header.now in
    let field = c.in-Some.field.now in
    let there : field_at fields c.args.place ≡ Some field = sym c.in-Some.ensures.value in
    c.eq.ensures
    ∙ ap (λ bytes. bytes_eq bytes c.args.name.now)
    (sym (field-get fields c.args.place field there))

pub returns-in-None : goal.returns-in-None
returns-in-None c =
    let fields = fields_of c.args.header.now in
    let none : field_at fields c.args.place ≡ None = sym c.in-None.ensures.value in
    absurd (field-there fields c.args.place c.requires none)
