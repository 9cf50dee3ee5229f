use Rattle.std.proofs.Common.{rules}
use Rattle.tre_show.proofs.Printing.{line_once, lines_once}
use Rattle.tre_show.proofs.Ranges.{number_line_once}
use Rattle.tre_show.proofs.laws.one_front.Goals as goal

pub returns : goal.returns
returns c = search (rules, line_once, lines_once, number_line_once, c.one_number.ensures)
