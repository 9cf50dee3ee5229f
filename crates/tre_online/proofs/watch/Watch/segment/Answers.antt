use Rattle.std.proofs.Common.{◌≡◌, ◌∙◌, List, arith, length, subst, sym}
use Rattle.std.proofs.lemmas.List.{length-map, with_items_is}
use Rattle.std.proofs.lemmas.Result.{IfErr-weaker, on_ok_weaker}
use Rattle.tre_online.specs.Giving.{SessionGoes}
use Rattle.tre_online.specs.Watch.{first_at, EndEach, pushed_each}
use Rattle.tre_online.specs.declared.session.Session.{Session}
use Rattle.tre_online.proofs.Watching.{stand_next, together_next, fit_each, tell_each, trees_next, refused_each}
use Rattle.tre_online.proofs.watch.Watch.segment.Goals as goal

pub returns-clause-stands : goal.returns-clause-stands
returns-clause-stands c traces watches =
    let sessions = c.args.self.now.sessions in
    let segments = c.args.segments.now in
    let news = c.give_each.new.sessions in
    let same : length news ≡ sessions.len =
    omega (arith, c.give_each.auto.sessions, c.deref_mut.ensures.len) in
    let is = with_items_is sessions news same in
    on_ok_weaker c.give_each.result
    (λ go. record {
      each = rw is (stand_next sessions.items segments news traces go watches.each);
      together = subst (λ (list : List Session).
          EndEach (first_at list) (pushed_each traces segments)) (sym is)
          (together_next sessions.items segments news traces go watches.each c.requires.alike
          watches.together);
    })
    (rw c.deref_mut.ensures.value at c.give_each.ensures.ok)

pub returns-clause-fits : goal.returns-clause-fits
returns-clause-fits c traces watches =
    on_ok_weaker c.give_each.result
    (λ go. fit_each c.args.self.now.sessions.items c.args.segments.now c.give_each.new.sessions
    traces go watches.each) (rw c.deref_mut.ensures.value at c.give_each.ensures.ok)

pub returns-clause-tells : goal.returns-clause-tells
returns-clause-tells c traces watches =
    let sessions = c.args.self.now.sessions in
    let news = c.give_each.new.sessions in
    let same : length news ≡ sessions.len =
    omega (arith, c.give_each.auto.sessions, c.deref_mut.ensures.len) in
    rw (with_items_is sessions news same) (on_ok_weaker c.give_each.result
    (λ go. tell_each sessions.items c.args.segments.now news traces go watches.each)
    (rw c.deref_mut.ensures.value at c.give_each.ensures.ok))

pub returns-clause-trees : goal.returns-clause-trees
returns-clause-trees c =
    let sessions = c.args.self.now.sessions in
    let news = c.give_each.new.sessions in
    let same : length news ≡ sessions.len =
    omega (arith, c.give_each.auto.sessions, c.deref_mut.ensures.len) in
    rw (with_items_is sessions news same) (on_ok_weaker c.give_each.result
    (trees_next SessionGoes (λ old segment new go. go.tree) sessions.items c.args.segments.now
    news)
    (rw c.deref_mut.ensures.value at c.give_each.ensures.ok))

pub returns-clause-refused : goal.returns-clause-refused
returns-clause-refused c traces watches =
    let olds = c.args.self.now.sessions.items in
    IfErr-weaker c.give_each.result _ _
    (λ fault one. refused_each olds c.args.segments.now traces fault one
    (c.requires.count ∙ length-map olds _) c.requires.alike watches.each watches.together)
    (rw c.deref_mut.ensures.value at c.give_each.ensures.err)
