use Rattle.std.proofs.Common.{refl, ◌<◌, length, arith, rules}
use Rattle.std.proofs.lemmas.List.Elements.{All-head, All-tail}
use Rattle.tre_trace.specs.Trace.{timeline_of}
use Rattle.tre_feed.specs.Seen.{lasts_in}
use Rattle.tre_feed.specs.Shares.{group_of}
use Rattle.tre_feed.specs.Shown.{shown_events}
use Rattle.tre_feed.specs.declared.view.View.{View}
use Rattle.tre_feed.proofs.Begun.{none_left}
use Rattle.tre_feed.proofs.seen.+set_lasts.Goals as goal

pub last_at-requires : goal.last_at-requires
last_at-requires g t c =
    let all = rw c.in-Some.ensures.cases.0 at c.requires in
    let within = All-head (λ (view : View). group_of view < length c.args.each.now)
    c.in-Some.view.now c.in-Some.others.now all in
    omega (arith, within, c.group.ensures)

pub set_lasts-requires : goal.set_lasts-requires
set_lasts-requires g t c κs within =
    let all = rw c.in-Some.ensures.cases.0 at c.requires in
    let others = All-tail (λ (view : View). group_of view < length c.args.each.now)
    c.in-Some.view.now c.in-Some.others.now all in
    search (rules, others)

pub returns : goal.returns
returns g t c = search (rules, shown_events, lasts_in, timeline_of)

pub returns-in_default : goal.returns-in_default
returns-in_default g t c = rw (none_left c.args.views.now c.in_default.ensures.cases) refl

pub returns-in_default-split_first_mut : goal.returns-in_default-split_first_mut
returns-in_default-split_first_mut g t c = search (rules, none_left, c.args.traces.now)
