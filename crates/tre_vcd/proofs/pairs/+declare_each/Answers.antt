use Rattle.std.proofs.Common.{◌≡◌, ◌∷◌, ℕ, suc, map, sym, ap, ap₂, ◌∙◌, subst, rules}
use Rattle.std.specs.List.{slice_get}
use Rattle.std.proofs.lemmas.Result.{err_from_is_err_and, on_ok_weaker}
use Rattle.tre_vcd.specs.VcdReading.{var}
use Rattle.tre_vcd.specs.Pairs.{KnowsPairAt}
use Rattle.tre_vcd.specs.declared.pairs.Paired.{Paired}
use Rattle.tre_vcd.proofs.Pairing.{each-cons, value-declared}
use Rattle.tre_vcd.proofs.pairs.+declare_each.Goals as goal

pub returns-in_err-declare-clause-same : goal.returns-in_err-declare-clause-same
returns-in_err-declare-clause-same t c =
    ap (λ own. own ∷ map (λ (paired : Paired). paired.definition) c.in-Some.others.now)
    c.declare.ensures.same
    ∙ ap (map (λ (paired : Paired). paired.definition)) (sym c.in-Some.ensures.cases.0)

pub returns-clause-same : goal.returns-clause-same
returns-clause-same t c =
    ap₂ (λ own others. own ∷ others) c.declare.ensures.same c.declare_each.ensures.same
    ∙ ap (map (λ (paired : Paired). paired.definition)) (sym c.in-Some.ensures.cases.0)

pub returns-clause-knows : goal.returns-clause-knows
returns-clause-knows t c = λ past tokens quiet offered value known.
    let was : (k : ℕ) → KnowsPairAt past (slice_get (c.in-Some.first.now ∷ c.in-Some.others.now) k)
    (value k) =
    λ k. subst (λ list. KnowsPairAt past (slice_get list k) (value k)) c.in-Some.ensures.cases.0
    (known k) in
    let now = c.in_ok-declare.ensures.knows past tokens quiet offered (was 0).0 in
    on_ok_weaker c.declare_each.result (λ others.
    each-cons (var tokens ∷ past) c.declare.new.self c.declare_each.new.list value (
      now,
      value-declared past tokens c.in-Some.first.now c.declare.new.self (value 0) quiet
          (was 0).0 (was 0).1 now,
    ) others)
    (c.declare_each.ensures.knows past tokens quiet offered (λ k. value (suc k)) (λ k. was (suc k)))
