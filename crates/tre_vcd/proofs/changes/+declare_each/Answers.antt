use Rattle.std.proofs.Common.{◌≡◌, List, [], ◌∷◌, length, map, sym, ap, ap₂, ◌∙◌, arith, rules}
use Rattle.std.proofs.lemmas.Result.{err_from_is_err_and}
use Rattle.tre_vcd.specs.VcdReading.{Statement, var}
use Rattle.tre_vcd.specs.Signals.{SignalsAreWatched}
use Rattle.tre_vcd.specs.declared.changes.Watched.{Watched}
use Rattle.tre_vcd.proofs.changes.+declare_each.Goals as goal

-- nothing is watched
none-watched : (past : List Statement) (list : List Watched) → length list ≡ 0
    → SignalsAreWatched past list
none-watched past [] none = tt
none-watched past (watched ∷ list) none = absurd (omega (arith, none))

pub returns-in_default-clause-asks : goal.returns-in_default-clause-asks
returns-in_default-clause-asks t c = λ past tokens offered known.
    none-watched (var tokens ∷ past) c.args.list.now c.in_default.ensures.cases

pub returns-in_err-declare-clause-same : goal.returns-in_err-declare-clause-same
returns-in_err-declare-clause-same t c =
    ap (λ own. own ∷ map (λ (watched : Watched). watched.definition) c.in-Some.others.now)
    c.declare.ensures.same
    ∙ ap (map (λ (watched : Watched). watched.definition)) (sym c.in-Some.ensures.cases.0)

pub returns-in_err-declare-clause-letters : goal.returns-in_err-declare-clause-letters
returns-in_err-declare-clause-letters t c = search (rules, c.in-Some.ensures.cases.0)

pub returns-in_err-declare-clause-asks : goal.returns-in_err-declare-clause-asks
returns-in_err-declare-clause-asks t c = λ past tokens offered known.
    let p = err_from_is_err_and c.from_residual.result c.from_residual.ensures.1 in rw p.1 tt

pub returns-clause-same : goal.returns-clause-same
returns-clause-same t c =
    ap₂ (λ own others. own ∷ others) c.declare.ensures.same c.declare_each.ensures.same
    ∙ ap (map (λ (watched : Watched). watched.definition)) (sym c.in-Some.ensures.cases.0)

pub returns-clause-letters : goal.returns-clause-letters
returns-clause-letters t c = search (rules, c.in-Some.ensures.cases.0)

pub returns-clause-asks : goal.returns-clause-asks
returns-clause-asks t c =
    search (rules, c.in-Some.ensures.cases.0, c.in_ok-declare.ensures.asks, c.declare_each.result)
