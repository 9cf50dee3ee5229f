use Rattle.std.proofs.Common.{sym, ◌∙◌, arith, rules}
use Rattle.std.proofs.lemmas.Bool.{cases_lt}
use Rattle.tre_parts.proofs.byte_class.first_of_few.Goals as goal

pub loop-place-preserved : goal.loop-place-preserved
loop-place-preserved g c =
    search (
      rules,
      cases_lt,
      g.C.ByteClass.has,
      c.loop-place.place,
      c.loop-place.invariant,
      c.args.bytes.now,
    )

pub returns-then-has-clause-first : goal.returns-then-has-clause-first
returns-then-has-clause-first g c = record {
  behind = c.loop-place.invariant.behind;
  within = omega arith;
  none = c.loop-place.invariant.before;
  here = sym c.has.ensures ∙ c.if-has.true;
}

pub returns-clause-none : goal.returns-clause-none
returns-clause-none g c = λ k from to.
    c.loop-place.invariant.before k from (omega (arith, to, c.loop-place-test.false))
