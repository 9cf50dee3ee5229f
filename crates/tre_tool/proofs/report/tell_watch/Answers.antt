use Rattle.tre_tool.proofs.report.tell_watch.Goals as goal

pub returns-in-TooLarge-clause-line : goal.returns-in-TooLarge-clause-line
returns-in-TooLarge-clause-line g c = rw c.in-TooLarge.is c.put_pieces.ensures.all

pub returns-in-BadLine-clause-line : goal.returns-in-BadLine-clause-line
returns-in-BadLine-clause-line g c = rw c.in-BadLine.is c.tell_number.ensures.line

pub returns-in-TooMany-clause-line : goal.returns-in-TooMany-clause-line
returns-in-TooMany-clause-line g c = rw c.in-TooMany.is c.tell_number-in-TooMany.ensures.line

pub returns-in-Twice-clause-line : goal.returns-in-Twice-clause-line
returns-in-Twice-clause-line g c = rw c.in-Twice.is c.tell_number-in-Twice.ensures.line

pub returns-in-Pattern-clause-line : goal.returns-in-Pattern-clause-line
returns-in-Pattern-clause-line g c = rw c.in-Pattern.is c.tell_check.ensures.line

pub returns-in-Empty-clause-line : goal.returns-in-Empty-clause-line
returns-in-Empty-clause-line g c = rw c.in-Empty.is c.put_pieces-in-Empty.ensures.all

pub returns-in-Memory-clause-line : goal.returns-in-Memory-clause-line
returns-in-Memory-clause-line g c = rw c.in-Memory.is c.put_pieces-in-Memory.ensures.all

pub returns-in-TooLarge-clause-part : goal.returns-in-TooLarge-clause-part
returns-in-TooLarge-clause-part g c = rw c.in-TooLarge.is c.put_pieces.ensures.part

pub returns-in-BadLine-clause-part : goal.returns-in-BadLine-clause-part
returns-in-BadLine-clause-part g c = rw c.in-BadLine.is c.tell_number.ensures.part

pub returns-in-TooMany-clause-part : goal.returns-in-TooMany-clause-part
returns-in-TooMany-clause-part g c = rw c.in-TooMany.is c.tell_number-in-TooMany.ensures.part

pub returns-in-Twice-clause-part : goal.returns-in-Twice-clause-part
returns-in-Twice-clause-part g c = rw c.in-Twice.is c.tell_number-in-Twice.ensures.part

pub returns-in-Pattern-clause-part : goal.returns-in-Pattern-clause-part
returns-in-Pattern-clause-part g c = rw c.in-Pattern.is c.tell_check.ensures.part

pub returns-in-Empty-clause-part : goal.returns-in-Empty-clause-part
returns-in-Empty-clause-part g c = rw c.in-Empty.is c.put_pieces-in-Empty.ensures.part

pub returns-in-Memory-clause-part : goal.returns-in-Memory-clause-part
returns-in-Memory-clause-part g c = rw c.in-Memory.is c.put_pieces-in-Memory.ensures.part
