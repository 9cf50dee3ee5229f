use Rattle.std.proofs.Common.{refl, ap}
use Rattle.tre_text.specs.TextReading.{fields_among}
use Rattle.tre_text.proofs.Fields.{fields-parted, fields-field, with_return}
use Rattle.tre_text.proofs.laws.fields.Goals as goal

pub returns : goal.returns
returns c = record {
  blank = fields-parted;
  field = fields-field;
  none = refl;
  carriage_return = λ line. ap fields_among (with_return line);
}
