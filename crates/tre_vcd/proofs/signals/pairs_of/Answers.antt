use Rattle.std.proofs.Common.{◌+◌, [], sym, ap, ◌∙◌, subst, arith, rules}
use Rattle.std.proofs.lemmas.List.{take_all}
use Rattle.tre_define.specs.Signals.{signal_definition_of}
use Rattle.tre_vcd.specs.Pairs.{KnowsPairs}
use Rattle.tre_vcd.proofs.OneMore.{front-more, none-there}
use Rattle.tre_vcd.proofs.signals.pairs_of.Goals as goal

pub loop-number-init : goal.loop-number-init
loop-number-init c = search (rules, c.new-pairs.ensures.knows)

pub loop-number-preserved : goal.loop-number-preserved
loop-number-preserved c = record {
  len = c.in_ok-add-in-Some.ensures.len ∙ ap (λ n. n + 1) c.loop-number.invariant.len;
  knows = λ sieve. front-more (λ front. KnowsPairs c.args.all.now front sieve c.add.new.self [])
      _ _ _ c.in-Some.ensures
      (omega (arith, c.loop-number-test.true, c.len-number-end.ensures.len))
      (λ long. c.in_ok-add-in-Some.ensures.knows c.args.all.now _ sieve _
      (c.loop-number.invariant.knows sieve)
      (c.loop-number.invariant.len ∙ sym long) (c.definition_of.ensures
      ∙ ap (signal_definition_of c.args.all.now) c.as_bytes.ensures.value));
}

pub returns : goal.returns
returns c = λ sieve.
    subst (λ front. KnowsPairs c.args.all.now front sieve c.loop-number.pairs [])
    (take_all c.loop-number.number c.args.names.now
    (omega (arith, c.loop-number-test.false, c.len-number-end.ensures.len)))
    (c.loop-number.invariant.knows sieve)

pub unreachable-requires : goal.unreachable-requires
unreachable-requires c =
    absurd (none-there c.args.names.now c.loop-number.number c.in-None.ensures
    (omega (arith, c.loop-number-test.true, c.len-number-end.ensures.len)))
