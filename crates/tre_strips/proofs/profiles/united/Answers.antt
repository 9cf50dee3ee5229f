use Rattle.std.proofs.Common.{◌≡◌, ◌∷◌, [], List, length, refl, ap, arith, sym, ◌∙◌, subst}
use Rattle.std.proofs.lemmas.Result.{IfOk-weaker}
use Rattle.tre_strips.specs.Profiles.{AreFilledOver, IsUnionOfBars}
use Rattle.tre_strips.specs.declared.bar.Bar.{Bar}
use Rattle.tre_strips.proofs.Joining.{IsInOrder, AreFilledOver-permutation, IsUnion-permutation, IsUnion-none}
use Rattle.tre_strips.proofs.profiles.united.Goals as goal

none : (bars : List Bar) → length bars ≡ 0 → bars ≡ []
none [] e = refl
none (bar ∷ bars) e = absurd (omega arith)

pub joined-requires-clause-order : goal.joined-requires-clause-order
joined-requires-clause-order c =
    let same : c.in_order-bars.result.items ≡ c.in-Some.first.now ∷ c.in-Some.rest.now =
    sym c.deref.ensures.value ∙ c.in-Some.ensures.cases.0 in
    subst (IsInOrder c.args.times.now) same c.in_order-bars.ensures.order

pub joined-requires-clause-filled : goal.joined-requires-clause-filled
joined-requires-clause-filled c =
    let same : c.in_order-bars.result.items ≡ c.in-Some.first.now ∷ c.in-Some.rest.now =
    sym c.deref.ensures.value ∙ c.in-Some.ensures.cases.0 in
    subst (AreFilledOver c.args.times.now) same
    (AreFilledOver-permutation c.args.times.now _ _ c.in_order-bars.ensures.same c.requires)

pub returns-in-Some-clause-union : goal.returns-in-Some-clause-union
returns-in-Some-clause-union c =
    let same : c.in_order-bars.result.items ≡ c.in-Some.first.now ∷ c.in-Some.rest.now =
    sym c.deref.ensures.value ∙ c.in-Some.ensures.cases.0 in
    IfOk-weaker c.joined.result _ _
    (λ union held. IsUnion-permutation _ _ c.in_order-bars.result.items _
    c.in_order-bars.ensures.same
    (subst (λ (bars : List Bar). IsUnionOfBars c.joined.new.times bars union.items) (sym same)
    held))
    c.joined.ensures.union

pub returns-clause-union : goal.returns-clause-union
returns-clause-union c =
    let same : c.in_order-bars.result.items ≡ [] =
    none c.in_order-bars.result.items
    (ap length (sym c.deref.ensures.value) ∙ c.in-None.ensures.cases) in
    rw c.new.ensures.items
    (IsUnion-permutation _ _ c.in_order-bars.result.items _ c.in_order-bars.ensures.same
    (rw same (IsUnion-none c.args.times.now)))
