use Rattle.std.proofs.Common.{rules}
use Rattle.tre_show.proofs.Printing.{zones_once, end_once}
use Rattle.tre_show.proofs.laws.one_text.Goals as goal

pub returns : goal.returns
returns c = search (rules, zones_once, end_once, c.one_number.ensures)
