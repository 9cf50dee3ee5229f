use Rattle.std.proofs.Common.{sym, ap, ◌∙◌, arith}
use Rattle.tre_vcd.specs.Offers.{reads_first}
use Rattle.tre_vcd.proofs.Offering.{flagged-end, flagged-none, flagged-or}
use Rattle.tre_vcd.proofs.found.flag_tests.Goals as goal

pub loop-place-init : goal.loop-place-init
loop-place-init c = λ test is. is ∙ sym (flagged-none test _ c.args.definitions.now)

pub loop-place-preserved : goal.loop-place-preserved
loop-place-preserved c = λ test is.
    let text = c.args.offered.now.full_name.items in
    let size = c.args.offered.now.size in
    c.raise.ensures
    ∙ flagged-or c.loop-place.place test (λ one. reads_first one text size) c.args.definitions.now
    c.loop-place.flags (c.loop-place.invariant test is) c.index-definitions-place.result
    c.reads_first.result c.index-definitions-place.is c.reads_first.ensures
    (omega (arith, c.loop-place-test.true, c.min-place-end.ensures))

pub returns : goal.returns
returns c = λ test is.
    flagged-end c.loop-place.place test
    (λ one. reads_first one c.args.offered.now.full_name.items c.args.offered.now.size)
    c.args.definitions.now c.loop-place.flags (c.loop-place.invariant test is)
    (λ long. omega (arith, c.loop-place-test.false, c.min-place-end.ensures, long))
