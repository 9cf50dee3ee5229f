use Rattle.tre_tool.proofs.report.tell_number.Goals as goal

pub returns-clause-line : goal.returns-clause-line
returns-clause-line g c = rw c.format-digits.ensures.text at c.put_pieces.ensures.all

pub returns-clause-part : goal.returns-clause-part
returns-clause-part g c = rw c.format-digits.ensures.text at c.put_pieces.ensures.part
