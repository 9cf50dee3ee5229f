use Rattle.tre_watch.proofs.line.check_on.Goals as goal

pub returns-in_default : goal.returns-in_default
returns-in_default c = λ form name texts is. c.in_default.ensures name is.text is.named
