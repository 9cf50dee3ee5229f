use Rattle.tre_watch.proofs.NoMemory.{text_told, file_told}
use Rattle.tre_watch.proofs.laws.never_memory.Goals as goal

pub returns-clause-text : goal.returns-clause-text
returns-clause-text c = text_told

pub returns-clause-file : goal.returns-clause-file
returns-clause-file c = file_told
