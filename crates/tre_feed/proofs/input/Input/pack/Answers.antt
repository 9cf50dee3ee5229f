use Rattle.std.proofs.Common.{◌∙◌, ◌<◌, length, ap}
use Rattle.std.proofs.lemmas.List.Elements.{recursion_from_All}
use Rattle.tre_feed.specs.Packing.{packed_behind}
use Rattle.tre_feed.specs.Seen.{rows_in}
use Rattle.tre_feed.specs.Shares.{group_of}
use Rattle.tre_feed.specs.declared.view.View.{View}
use Rattle.tre_feed.proofs.Inputs.{on_ok_then}
use Rattle.tre_feed.proofs.Seeing.{can_pack, packed_more}
use Rattle.tre_feed.proofs.input.Input.pack.Goals as goal

pub pack_rows-requires-clause-fits : goal.pack_rows-requires-clause-fits
pack_rows-requires-clause-fits g c =
    let input = c.args.self.now in
    let may = c.requires in
    rw (c.deref.ensures.value, c.deref-2.ensures.value, may.packed.are)
    (can_pack g.R.TraceReader.names input.each.items input.views.items may.told may.waiting
    input.within may.wait.rows may.is_trace)

pub pack_rows-requires-clause-within : goal.pack_rows-requires-clause-within
pack_rows-requires-clause-within g c =
    let input = c.args.self.now in
    rw (c.deref.ensures.value, c.deref-2.ensures.value) (recursion_from_All
    (λ (view : View). group_of view < length input.each.items) input.views.items input.within)

pub returns : goal.returns
returns g c =
    let input = c.args.self.now in
    let each = input.each.items in
    let views = input.views.items in
    λ told waiting packed wait. on_ok_then c.pack_rows.result _ _ (λ are. record {
      are = are ∙ (ap (packed_behind (rows_in each) views) packed.are
          ∙ packed_more g.R.TraceReader.names each views told waiting input.within wait.rows);
    }) (rw (c.deref.ensures.value, c.deref-2.ensures.value) at c.pack_rows.ensures)
