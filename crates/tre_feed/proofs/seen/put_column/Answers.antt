use Rattle.std.proofs.Common.{◌∙◌, ◌<◌, ℕ, [], get_or, length, ap, sym, subst, arith}
use Rattle.tre_feed.specs.Seen.{no_segment, row_seen, rows_in, segment_seen}
use Rattle.tre_feed.specs.Shares.{group_of}
use Rattle.tre_feed.specs.Shown.{shown_segment}
use Rattle.tre_feed.specs.declared.view.View.{View}
use Rattle.tre_feed.proofs.Seeing.{mapped-all, mapped-next}
use Rattle.tre_feed.proofs.seen.put_column.Goals as goal

pub segment_at-wide-requires-clause-group : goal.segment_at-wide-requires-clause-group
segment_at-wide-requires-clause-group g c =
    let within = c.requires.within c.loop-view.view-index c.view-item.result
    c.loop-view-test.true in
    omega (arith, within, c.group.ensures, ap group_of c.view-item.is)

pub segment_at-wide-requires-clause-place : goal.segment_at-wide-requires-clause-place
segment_at-wide-requires-clause-place g c =
    rw c.group.ensures (subst (λ (view : View).
    c.args.place < length (row_seen (rows_in c.args.each.now) view)) (sym c.view-item.is)
    (c.requires.below c.loop-view.view-index c.view-item.result c.loop-view-test.true))

pub loop-view-preserved : goal.loop-view-preserved
loop-view-preserved g c =
    mapped-next (segment_seen (rows_in c.args.each.now) c.args.place) c.args.views.now
    c.loop-view.view-index c.view-item.result c.loop-view.segments.items c.push.new.self.items
    c.segment.result c.loop-view.invariant c.loop-view-test.true c.view-item.is
    (c.segment.ensures.shown ∙ ap (shown_segment c.view-item.result) (c.segment_at-wide.ensures
    ∙ ap (λ (group : ℕ). get_or (get_or (rows_in c.args.each.now) group []) c.args.place
    no_segment) c.group.ensures)) c.in_ok-push.ensures.items

pub returns : goal.returns
returns g c = mapped-all (segment_seen (rows_in c.args.each.now) c.args.place) c.args.views.now
    c.loop-view.view-index c.loop-view.segments.items c.loop-view-test.false c.loop-view.invariant
