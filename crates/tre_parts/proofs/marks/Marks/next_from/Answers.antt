use Rattle.tre_parts.proofs.Lanes.{marks_found, marks_behind, marks_past}
use Rattle.tre_parts.proofs.marks.Marks.next_from.Goals as goal

pub returns-then-found-ne0-clause-next : goal.returns-then-found-ne0-clause-next
returns-then-found-ne0-clause-next g c =
    marks_found g.C.ByteClass.has _ _ _ c.requires c.if-found-ne0.true

pub returns-then-found-ne0-clause-marks : goal.returns-then-found-ne0-clause-marks
returns-then-found-ne0-clause-marks g c =
    marks_behind g.C.ByteClass.has _ _ _ c.requires c.if-found-ne0.true

pub returns-in-Some-clause-next : goal.returns-in-Some-clause-next
returns-in-Some-clause-next g c =
    marks_past g.C.ByteClass.has _ _ _ _ c.requires c.if-found-ne0.false c.in-Some.ensures.next
