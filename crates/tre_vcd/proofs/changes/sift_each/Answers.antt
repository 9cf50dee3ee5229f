use Rattle.std.proofs.Common.{◌<◌, Option, length, sym, ap, ◌∙◌, arith}
use Rattle.std.specs.Option.{option_and_then}
use Rattle.tre_state.specs.Sieve.{MayBe}
use Rattle.tre_vcd.specs.Signals.{part_at, part_kept}
use Rattle.tre_vcd.specs.declared.changes.Watched.{Watched}
use Rattle.tre_vcd.proofs.OneMore.{places-more}
use Rattle.tre_vcd.proofs.Watching.{part-below, watched-within}
use Rattle.tre_vcd.proofs.changes.sift_each.Goals as goal

pub loop-number-preserved : goal.loop-number-preserved
loop-number-preserved c =
    let list = c.args.list.now in
    let place = c.from-place.result in
    let within : place < length list =
    omega (arith, c.loop-number-test.true, c.min-number-end.ensures, c.from-place.ensures) in
    places-more (part_at list) (λ asked k. MayBe c.sift.new.sieve asked.identifier k)
    c.loop-number.number
    (λ asked is. c.sift.ensures.told asked (ap part_kept c.index-list-place.is
    ∙ sym (ap (λ (o : Option Watched). option_and_then part_kept o)
    (watched-within list place c.index-list-place.result within))
    ∙ ap (part_at list) c.from-place.ensures ∙ is))
    (λ k asked below is. c.sift.ensures.kept asked.identifier k
    (c.loop-number.invariant k asked below is))

pub returns : goal.returns
returns c = λ k asked small is.
    let below = part-below c.args.list.now k asked is in
    c.loop-number.invariant k asked
    (omega (arith, small, below, c.loop-number-test.false, c.min-number-end.ensures)) is
