use Rattle.std.proofs.Common.{refl, inl, inr, rules}
use Rattle.std.proofs.lemmas.Result.{IfOk-weaker}
use Rattle.tre_strips.proofs.run.push_alone.Goals as goal

pub returns-then-taken : goal.returns-then-taken
returns-then-taken c = inl (inl c.if-taken.true, refl)

pub returns-then-fits : goal.returns-then-fits
returns-then-fits c = inl (inr c.if-fits.true, refl)

pub returns : goal.returns
returns c = search (rules, IfOk-weaker, c.push_strip.result, c.deref.ensures.value)
