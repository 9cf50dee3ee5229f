use Rattle.std.proofs.Common.{◌∙◌, ◌<◌, length, arith}
use Rattle.tre_feed.proofs.Inputs.{on_ok_then, same_count}
use Rattle.tre_feed.proofs.Seeing.{column_is, rows_below}
use Rattle.tre_feed.proofs.input.Input.column.Goals as goal

pub put_column-requires-clause-below : goal.put_column-requires-clause-below
put_column-requires-clause-below g c =
    let input = c.args.self.now in
    rw (c.deref.ensures.value, c.deref-2.ensures.value)
    (rows_below g.R.TraceReader.names input.each.items input.views.items c.requires.stretches
    c.args.place input.within c.requires.wait.rows c.requires.below)

pub returns : goal.returns
returns g c =
    let input = c.args.self.now in
    λ asked stretches asks wait.
    let below : c.args.place < length stretches =
    omega (
      arith,
      c.requires.below,
      same_count g.R.TraceReader.names input.each.items
          c.requires.stretches stretches input.some c.requires.wait.rows wait.rows,
    ) in
    on_ok_then c.put_column.result _ _
    (λ are. are ∙ column_is g.R.TraceReader.names input.each.items asked input.views.items
    stretches c.args.place asks.views wait.rows below)
    (rw (c.deref.ensures.value, c.deref-2.ensures.value) at c.put_column.ensures)

pub put_column-requires-clause-within : goal.put_column-requires-clause-within
put_column-requires-clause-within g c = rw (c.deref.ensures.value, c.deref-2.ensures.value) c.args.self.now.within
