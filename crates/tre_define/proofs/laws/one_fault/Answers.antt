use Rattle.tre_define.specs.Texts.{parts_of}
use Rattle.tre_define.proofs.OneSignals.{one-fault}
use Rattle.tre_define.proofs.laws.one_fault.Goals as goal

pub returns : goal.returns
returns c text = one-fault (parts_of text)
