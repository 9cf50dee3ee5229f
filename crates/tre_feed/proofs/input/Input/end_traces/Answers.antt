use Rattle.std.proofs.Common.{◌∙◌, ap}
use Rattle.tre_feed.specs.Packing.{ended_by}
use Rattle.tre_feed.specs.Seen.{lasts_in}
use Rattle.tre_feed.proofs.Seeing.{traces_are}
use Rattle.tre_feed.proofs.input.Input.end_traces.Goals as goal

pub returns : goal.returns
returns g c =
    let input = c.args.self.now in
    let each = input.each.items in
    let views = input.views.items in
    λ asked said asks packed ended.
    (rw (c.deref.ensures.value, c.deref-2.ensures.value) at c.set_lasts.ensures)
    ∙ (ap (ended_by (lasts_in each) views) packed.are
    ∙ traces_are g.R.TraceReader.names each asked views said asks.views ended.lasts)

pub set_lasts-requires : goal.set_lasts-requires
set_lasts-requires g c = rw (c.deref.ensures.value, c.deref-2.ensures.value) c.args.self.now.within
