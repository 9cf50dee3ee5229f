use Rattle.tre_tool.proofs.Pieces.{refusal_pieces}
use Rattle.tre_tool.proofs.report.tell_check.Goals as goal

pub returns-in-None-clause-line : goal.returns-in-None-clause-line
returns-in-None-clause-line g c = rw (refusal_pieces c.args.fault.now, ← c.in-None.ensures)
    (rw (c.fault_words-words.ensures, c.format-place.ensures.text) at c.put_pieces.ensures.all)

pub returns-in-Some-clause-line : goal.returns-in-Some-clause-line
returns-in-Some-clause-line g c = rw (refusal_pieces c.args.fault.now, ← c.in-Some.ensures)
    (rw (c.fault_words-words.ensures, c.format-place.ensures.text, c.format-digits.ensures.text) at
    c.put_pieces-in-Some.ensures.all)

pub returns-in-None-clause-part : goal.returns-in-None-clause-part
returns-in-None-clause-part g c = rw (refusal_pieces c.args.fault.now, ← c.in-None.ensures)
    (rw (c.fault_words-words.ensures, c.format-place.ensures.text) at c.put_pieces.ensures.part)

pub returns-in-Some-clause-part : goal.returns-in-Some-clause-part
returns-in-Some-clause-part g c = rw (refusal_pieces c.args.fault.now, ← c.in-Some.ensures)
    (rw (c.fault_words-words.ensures, c.format-place.ensures.text, c.format-digits.ensures.text) at
    c.put_pieces-in-Some.ensures.part)
