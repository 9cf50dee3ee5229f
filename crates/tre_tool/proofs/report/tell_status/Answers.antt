use Rattle.std.proofs.Common.{append_assoc}
use Rattle.tre_tool.proofs.report.tell_status.Goals as goal

pub returns-in-Trace-clause-line : goal.returns-in-Trace-clause-line
returns-in-Trace-clause-line g c =
    rw c.in-Trace.is (simp append_assoc (rw
    (c.kind_name-name.ensures, c.format-place.ensures.text) at
    c.put_pieces-in-Trace.ensures.all))

pub returns-in-InputTooLong-clause-line : goal.returns-in-InputTooLong-clause-line
returns-in-InputTooLong-clause-line g c = rw c.in-InputTooLong.is
    c.put_pieces-in-InputTooLong.ensures.all

pub returns-in-ReadFault-clause-line : goal.returns-in-ReadFault-clause-line
returns-in-ReadFault-clause-line g c = rw c.in-ReadFault.is c.put_pieces-in-ReadFault.ensures.all

pub returns-in-WriteFault-clause-line : goal.returns-in-WriteFault-clause-line
returns-in-WriteFault-clause-line g c = rw c.in-WriteFault.is c.put_pieces-in-WriteFault.ensures.all

pub returns-in-Memory-clause-line : goal.returns-in-Memory-clause-line
returns-in-Memory-clause-line g c = rw c.in-Memory.is c.put_pieces-in-Memory.ensures.all

pub returns-in-Trace-clause-part : goal.returns-in-Trace-clause-part
returns-in-Trace-clause-part g c =
    rw c.in-Trace.is (simp append_assoc (rw
    (c.kind_name-name.ensures, c.format-place.ensures.text) at
    c.put_pieces-in-Trace.ensures.part))

pub returns-in-InputTooLong-clause-part : goal.returns-in-InputTooLong-clause-part
returns-in-InputTooLong-clause-part g c = rw c.in-InputTooLong.is
    c.put_pieces-in-InputTooLong.ensures.part

pub returns-in-ReadFault-clause-part : goal.returns-in-ReadFault-clause-part
returns-in-ReadFault-clause-part g c = rw c.in-ReadFault.is c.put_pieces-in-ReadFault.ensures.part

pub returns-in-WriteFault-clause-part : goal.returns-in-WriteFault-clause-part
returns-in-WriteFault-clause-part g c = rw c.in-WriteFault.is
    c.put_pieces-in-WriteFault.ensures.part

pub returns-in-Memory-clause-part : goal.returns-in-Memory-clause-part
returns-in-Memory-clause-part g c = rw c.in-Memory.is c.put_pieces-in-Memory.ensures.part

pub returns-in-Expression-clause-part : goal.returns-in-Expression-clause-part
returns-in-Expression-clause-part g c = rw c.in-Expression.is c.tell_fault.ensures.part

pub returns-in-TooManyZones-clause-line : goal.returns-in-TooManyZones-clause-line
returns-in-TooManyZones-clause-line g c = rw c.in-TooManyZones.is c.tell_number.ensures.line

pub returns-in-TooManyZones-clause-part : goal.returns-in-TooManyZones-clause-part
returns-in-TooManyZones-clause-part g c = rw c.in-TooManyZones.is c.tell_number.ensures.part

pub returns-in-Failed-clause-line : goal.returns-in-Failed-clause-line
returns-in-Failed-clause-line g c = rw c.in-Failed.is c.tell_number-in-Failed.ensures.line

pub returns-in-Failed-clause-part : goal.returns-in-Failed-clause-part
returns-in-Failed-clause-part g c = rw c.in-Failed.is c.tell_number-in-Failed.ensures.part

pub returns-in-Minus-clause-part : goal.returns-in-Minus-clause-part
returns-in-Minus-clause-part g c = rw c.in-Minus.is c.tell_fault-in-Minus.ensures.part
