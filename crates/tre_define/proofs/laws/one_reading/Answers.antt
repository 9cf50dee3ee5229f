use Rattle.tre_define.specs.Texts.{parts_of}
use Rattle.tre_define.proofs.OneSignals.{same-definitions}
use Rattle.tre_define.proofs.laws.one_reading.Goals as goal

pub returns : goal.returns
returns c text one other is also =
    same-definitions (parts_of text) one other is.spelt also.spelt
