use Rattle.std.proofs.Common.{◌≡◌, ◌∷◌, length, map, sym, ap, ◌∙◌, subst, arith}
use Rattle.std.proofs.lemmas.List.{with_items_is}
use Rattle.std.proofs.lemmas.Result.{on_ok_weaker}
use Rattle.std.specs.Vec.{with_items}
use Rattle.tre_vcd.specs.VcdReading.{var}
use Rattle.tre_vcd.specs.Signals.{SignalsAreWatched}
use Rattle.tre_vcd.proofs.Watching.{changes-declared}
use Rattle.tre_vcd.proofs.changes.Changes.declare.Goals as goal

pub returns : goal.returns
returns c = λ all names past tokens offered quiet before knows.
    let kept = c.args.self.now in
    let now = c.declare_each.new.list in
    let same : length now ≡ kept.list.len =
    omega (arith, c.declare_each.auto.list, c.deref_mut.ensures.len) in
    let items = with_items_is kept.list now same in
    on_ok_weaker c.declare_each.result (λ asked.
    changes-declared all names kept past tokens (with_items kept.list now) quiet before
    (ap (map _) items ∙ c.declare_each.ensures.letters.0 ∙ ap (map _) c.deref_mut.ensures.value)
    (ap (map _) items ∙ c.declare_each.ensures.letters.1 ∙ ap (map _) c.deref_mut.ensures.value)
    (ap (map _) items ∙ c.declare_each.ensures.same ∙ ap (map _) c.deref_mut.ensures.value)
    (subst (SignalsAreWatched (var tokens ∷ past)) (sym items) asked) knows)
    (c.declare_each.ensures.asks past tokens offered
    (subst (SignalsAreWatched past) (sym c.deref_mut.ensures.value) knows.parts))
