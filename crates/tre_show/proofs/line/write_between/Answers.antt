use Rattle.tre_show.proofs.LineBytes.{between_ascii, bracketed}
use Rattle.tre_show.proofs.line.write_between.Goals as goal

pub returns-clause-ascii : goal.returns-clause-ascii
returns-clause-ascii c =
    between_ascii _ _ _ _ _ (rw c.magnitude-2.ensures at c.write_number-end-2.ensures.ascii)
    (rw c.magnitude.ensures at c.write_number-end.ensures.ascii)

pub returns-clause-text : goal.returns-clause-text
returns-clause-text c =
    let opens = rw c.is_weak-2.ensures at c.opening.ensures in
    let closes = rw c.is_weak.ensures at c.closing.ensures in
    rw (
      c.write_sign.ensures.text,
      c.write_number-end-2.ensures.text,
      c.write_sign-end-2.ensures.text,
      c.write_number-end.ensures.text,
      c.write_sign-end.ensures.text,
      c.magnitude.ensures,
      c.magnitude-2.ensures,
      ← opens,
      ← closes,
    ) (bracketed c.opening.result c.closing.result _ _ _)
