use Rattle.std.proofs.Common.{◌<◌, length, sym, ap, ◌∙◌, arith, rules}
use Rattle.tre_state.specs.Sieve.{MayBe}
use Rattle.tre_vcd.specs.Signals.{test_at, test_kept}
use Rattle.tre_vcd.proofs.OneMore.{places-more}
use Rattle.tre_vcd.proofs.Testing.{at-below, test-within}
use Rattle.tre_vcd.proofs.tests.sift_each.Goals as goal

pub loop-number-preserved : goal.loop-number-preserved
loop-number-preserved c =
    let list = c.args.list.now in
    let place = c.from-place.result in
    let within : place < length list =
    omega (arith, c.loop-number-test.true, c.min-number-end.ensures, c.from-place.ensures) in
    places-more (test_at list) (λ asked k. MayBe c.sift.new.sieve asked.identifier k)
    c.loop-number.number
    (λ asked is. c.sift.ensures.told asked (ap test_kept c.index-list-place.is
    ∙ sym (test-within list place c.index-list-place.result within)
    ∙ ap (test_at list) c.from-place.ensures ∙ is))
    (λ k asked below is. c.sift.ensures.kept asked.identifier k
    (c.loop-number.invariant k asked below is))

pub returns : goal.returns
returns c = search (rules, at-below, c.args.list.now, c.loop-number.invariant)
