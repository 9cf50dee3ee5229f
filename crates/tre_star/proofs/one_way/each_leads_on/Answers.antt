use Rattle.std.proofs.Common.{◌≡◌, ◌≤◌, subst, refl, ⊎_elim, arith}
use Rattle.std.proofs.lemmas.Bool.{cases_lt}
use Rattle.tre_star.specs.OneWay.{LeadsOn}
use Rattle.tre_star.proofs.one_way.each_leads_on.Goals as goal

pub loop-place-preserved : goal.loop-place-preserved
loop-place-preserved c = λ k below. ⊎_elim (λ lt. c.loop-place.invariant k lt)
    (λ (past : c.loop-place.place ≤ k).
    let here : c.loop-place.place ≡ k = omega (arith, past, below) in
    subst (LeadsOn c.args.steps.now) here (c.if-not-leads_on.ensures refl))
    (cases_lt k c.loop-place.place)

pub returns : goal.returns
returns c = λ yes_it. record {
  each = λ place within. c.loop-place.invariant place (omega (arith, within));
}
