use Rattle.std.proofs.Common.{arith}
use Rattle.tre_index.proofs.Raising.{lifted_in_place}
use Rattle.tre_index.proofs.level.Level.lift.Goals as goal

pub returns-then-place-len-clause-ok : goal.returns-then-place-len-clause-ok
returns-then-place-len-clause-ok c =
    let rows = c.self.inside.rows.items in
    rw (← c.self.view_is)
    (lifted_in_place rows c.args.place c.index.result.now c.args.row.now c.upper.result
    (omega (arith, c.if-place-len.true, c.len.ensures)) c.index.ensures c.upper.ensures)
