use Rattle.std.proofs.Common.{◌≡◌, ◌∷◌, length, map, sym, ap, ◌∙◌, subst, arith}
use Rattle.std.proofs.lemmas.List.{with_items_is}
use Rattle.std.proofs.lemmas.Result.{on_ok_weaker}
use Rattle.std.specs.Vec.{with_items}
use Rattle.tre_vcd.specs.VcdReading.{var}
use Rattle.tre_vcd.specs.Signals.{AreTested}
use Rattle.tre_vcd.proofs.Testing.{tests-declared}
use Rattle.tre_vcd.proofs.tests.Tests.declare.Goals as goal

pub returns : goal.returns
returns c = λ all names past tokens offered quiet before knows.
    let kept = c.args.self.now in
    let now = c.declare_each.new.list in
    let same : length now ≡ kept.list.len =
    omega (arith, c.declare_each.auto.list, c.deref_mut.ensures.len) in
    let items = with_items_is kept.list now same in
    on_ok_weaker c.declare_each.result (λ asked.
    tests-declared all names kept past tokens (with_items kept.list now) quiet before
    (ap (map _) items ∙ c.declare_each.ensures.same ∙ ap (map _) c.deref_mut.ensures.value)
    (subst (AreTested (var tokens ∷ past)) (sym items) asked) knows)
    (c.declare_each.ensures.asks past tokens offered
    (subst (AreTested past) (sym c.deref_mut.ensures.value) knows.tests))
