use Rattle.std.proofs.Common.{◌-◌, inl, inr, arith, rules}
use Rattle.std.proofs.lemmas.Bool.{cases_lt}
use Rattle.std.proofs.lemmas.List.{get_or_past}
use Rattle.tre_define.proofs.Ranges.{bracket-behind, no-closing, no-opening}
use Rattle.tre_define.proofs.named.range_place.Goals as goal
use Rattle.tre_define.proofs.named.range_place.Goals.{then-len-eq0-via-then-len-eq0, then-len-eq0-via-else-len-eq0+then-name-len-ne93}

pub returns-then-len-eq0-clause-only : goal.returns-then-len-eq0-clause-only
returns-then-len-eq0-clause-only c =
    search (rules, no-closing, then-len-eq0-via-then-len-eq0, get_or_past, c.args.name.now)

pub returns-then-name-place-eq91-clause-only : goal.returns-then-name-place-eq91-clause-only
returns-then-name-place-eq91-clause-only c = λ k other.
    elim (cases_lt k (c.loop-place.place - 1)) [
      | inl before ↦ bracket-behind c.args.name.now k _ before c.if-name-place-eq91.true
      | inr past ↦ no-opening c.args.name.now k (c.loop-place.invariant k
          (omega (arith, past, other, c.loop-place-test.true)))
    ]

pub returns-clause-only : goal.returns-clause-only
returns-clause-only c = λ k other.
    no-opening c.args.name.now k
    (c.loop-place.invariant k (omega (arith, c.loop-place-test.false)))
