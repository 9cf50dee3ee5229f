use Rattle.std.proofs.Common.{◌∙◌, ℕ, get_or, ap, arith}
use Rattle.tre_feed.specs.Seen.{last_seen, lasts_in}
use Rattle.tre_feed.specs.Shares.{group_of}
use Rattle.tre_feed.specs.Shown.{shown_events}
use Rattle.tre_feed.proofs.Seeing.{mapped-all, mapped-next}
use Rattle.tre_feed.proofs.seen.lasts_of.Goals as goal

pub last_at-requires : goal.last_at-requires
last_at-requires g c =
    let within = c.requires c.loop-view.view-index c.view-item.result c.loop-view-test.true in
    omega (arith, within, c.group.ensures, ap group_of c.view-item.is)

pub loop-view-preserved : goal.loop-view-preserved
loop-view-preserved g c =
    mapped-next (last_seen (lasts_in c.args.each.now)) c.args.views.now c.loop-view.view-index
    c.view-item.result c.loop-view.lasts.items c.push.new.self.items c.events.result
    c.loop-view.invariant c.loop-view-test.true c.view-item.is
    (c.events.ensures.shown ∙ ap (shown_events c.view-item.result) (c.last_at.ensures
    ∙ ap (λ (group : ℕ). get_or (lasts_in c.args.each.now) group 0) c.group.ensures))
    c.in_ok-push.ensures.items

pub returns : goal.returns
returns g c = mapped-all (last_seen (lasts_in _)) _ _ _ c.loop-view-test.false c.loop-view.invariant
