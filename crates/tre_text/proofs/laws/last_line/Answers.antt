use Rattle.tre_text.proofs.TraceLines.{read_last}
use Rattle.tre_text.proofs.laws.last_line.Goals as goal

pub returns : goal.returns
returns c = λ terms lines last are is. read_last terms lines last are is
