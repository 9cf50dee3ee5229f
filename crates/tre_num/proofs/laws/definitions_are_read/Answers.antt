use Rattle.tre_define.specs.Texts.{parts_of}
use Rattle.tre_num.proofs.OneReading.{refused-or}
use Rattle.tre_num.proofs.laws.definitions_are_read.Goals as goal

pub returns : goal.returns
returns c text = refused-or (parts_of text)
