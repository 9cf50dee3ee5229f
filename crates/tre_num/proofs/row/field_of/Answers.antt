use Rattle.std.proofs.Common.{◌∙◌}
use Rattle.tre_num.proofs.CsvRecords.{field-is}
use Rattle.tre_num.proofs.row.field_of.Goals as goal

pub returns : goal.returns
returns c = c.get.ensures.value ∙ field-is _ c.args.place
