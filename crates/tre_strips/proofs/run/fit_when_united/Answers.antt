use Rattle.std.proofs.Common.{refl, rules}
use Rattle.tre_strips.proofs.Fitting.{Agree-same, same-Agree, AreFilledOver-single, Agree-filled}
use Rattle.tre_strips.proofs.run.fit_when_united.Goals as goal

pub returns-then-not-are_filled : goal.returns-then-not-are_filled
returns-then-not-are_filled c = search (rules, Agree-filled, c.if-not-are_filled.ensures.1)

pub united-requires : goal.united-requires
united-requires c =
    rw c.in_ok-all.ensures.items
    (AreFilledOver-single c.args.time c.args.bars.now _ refl refl
    (c.if-not-are_filled.ensures.0 refl))

pub returns : goal.returns
returns c =
    let narrowed = c.in_ok-united.ensures.narrowed in
    let from = narrowed.from in
    let until = narrowed.single refl in
    let all = rw c.in_ok-all.ensures.items at c.in_ok-united.ensures.union in
    let same = rw c.deref.ensures.value at c.are_same_at.ensures in (
      (λ e. Agree-same c.args.time c.united.new.times c.args.bars.now _ c.args.there.now from until
          (c.if-not-are_filled.ensures.0 refl) all (same.0 e)),
      (λ agree. same.1 (same-Agree c.args.time c.united.new.times c.args.bars.now _
          c.args.there.now from until all c.requires agree)),
    )
