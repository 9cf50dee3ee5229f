use Rattle.tre_tell.proofs.PrintedLines.{says_so_far, says_all}
use Rattle.tre_tell.proofs.laws.told_in_lines.Goals as goal

pub returns : goal.returns
returns c = record { so_far = says_so_far; whole = says_all }
