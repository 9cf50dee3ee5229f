use Rattle.std.proofs.Common.{sym, ap, ◌∙◌, arith}
use Rattle.std.specs.Option.{is_some}
use Rattle.tre_define.specs.Signals.{changes_in}
use Rattle.tre_vcd.proofs.Offering.{flagged-end, flagged-none, flagged-or}
use Rattle.tre_vcd.proofs.found.flag_changes.Goals as goal

pub loop-place-init : goal.loop-place-init
loop-place-init c = λ test is. is ∙ sym (flagged-none test _ c.args.definitions.now)

pub loop-place-preserved : goal.loop-place-preserved
loop-place-preserved c = λ test is.
    let text = c.args.offered.now.full_name.items in
    let size = c.args.offered.now.size in
    let found = c.is_some.ensures ∙ ap is_some (c.changes_in-part.ensures
    ∙ ap (λ name. changes_in c.index-definitions-place.result name size) c.deref.ensures.value) in
    c.raise.ensures
    ∙ flagged-or c.loop-place.place test (λ one. is_some (changes_in one text size))
    c.args.definitions.now c.loop-place.flags (c.loop-place.invariant test is)
    c.index-definitions-place.result c.is_some.result c.index-definitions-place.is found
    (omega (arith, c.loop-place-test.true, c.min-place-end.ensures))

pub returns : goal.returns
returns c = λ test is.
    let text = c.args.offered.now.full_name.items in
    flagged-end c.loop-place.place test
    (λ one. is_some (changes_in one text c.args.offered.now.size)) c.args.definitions.now
    c.loop-place.flags (c.loop-place.invariant test is)
    (λ long. omega (arith, c.loop-place-test.false, c.min-place-end.ensures, long))
