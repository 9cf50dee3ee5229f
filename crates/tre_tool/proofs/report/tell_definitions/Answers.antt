use Rattle.tre_tool.proofs.report.tell_definitions.Goals as goal

pub returns-in-BadLet-clause-line : goal.returns-in-BadLet-clause-line
returns-in-BadLet-clause-line g c = rw c.in-BadLet.is c.tell_number.ensures.line

pub returns-in-Twice-clause-line : goal.returns-in-Twice-clause-line
returns-in-Twice-clause-line g c = rw c.in-Twice.is c.tell_number-in-Twice.ensures.line

pub returns-in-Memory-clause-line : goal.returns-in-Memory-clause-line
returns-in-Memory-clause-line g c = rw c.in-Memory.is c.put_pieces.ensures.all

pub returns-in-BadLet-clause-part : goal.returns-in-BadLet-clause-part
returns-in-BadLet-clause-part g c = rw c.in-BadLet.is c.tell_number.ensures.part

pub returns-in-Twice-clause-part : goal.returns-in-Twice-clause-part
returns-in-Twice-clause-part g c = rw c.in-Twice.is c.tell_number-in-Twice.ensures.part

pub returns-in-Memory-clause-part : goal.returns-in-Memory-clause-part
returns-in-Memory-clause-part g c = rw c.in-Memory.is c.put_pieces.ensures.part
