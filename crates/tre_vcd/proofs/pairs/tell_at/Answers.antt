use Rattle.std.proofs.Common.{◌≡◌, ◌<◌, ◌∷◌, false, Option, Some, length, get_or, set, sym, ap, ◌∙◌, subst, arith, rules}
use Rattle.std.specs.Int.{bit_at}
use Rattle.std.specs.List.{slice_get}
use Rattle.std.proofs.lemmas.List.{get_or-set_same}
use Rattle.std.proofs.lemmas.Option.{slice_get_past, slice_get-get_or}
use Rattle.tre_vcd.specs.VcdReading.{change}
use Rattle.tre_vcd.specs.Pairs.{KnowsPairAt, holds, reads_at}
use Rattle.tre_vcd.specs.Signals.{bit_of}
use Rattle.tre_vcd.specs.declared.pairs.Paired.{Paired}
use Rattle.tre_vcd.proofs.Pairing.{defaults, paired-set, paired-set_other, paired-untold, same-set}
use Rattle.tre_vcd.proofs.pairs.tell_at.Goals as goal
use Rattle.tre_vcd.proofs.pairs.tell_at.Goals.{then-place-list-via-then-place-list, then-place-list-via-else-place-list+then-not-reads}

pub returns-then-place-list-clause-told : goal.returns-then-place-list-clause-told
returns-then-place-list-clause-told c = λ past form knows.
    let list = c.args.list.now in
    let number = c.args.number in
    let identifier = c.args.identifier.now in
    let asks = λ (o : Option Paired). reads_at o identifier in
    paired-untold past form identifier c.args.letters.now (slice_get list number) _
    (elim c.then-place-list.branch [
      | then-place-list-via-then-place-list w ↦
          ap asks (slice_get_past list number
          (omega (arith, w.if-place-list.true, c.from-place.ensures)))
      | then-place-list-via-else-place-list+then-not-reads w ↦
          ap (λ n. asks (slice_get list n)) (sym c.from-place.ensures)
          ∙ ap asks (slice_get-get_or list c.from-place.result w.index-list-place.result
          (omega (arith, w.if-place-list.false)))
          ∙ sym w.reads.ensures ∙ w.if-not-reads.true
    ]) knows

pub returns-clause-told : goal.returns-clause-told
returns-clause-told c = λ past form knows.
    let list = c.args.list.now in
    let number = c.args.number in
    let place = c.from-place.result in
    let old = get_or list place c.index-list-place-2.result in
    let new = c.say.new.self in
    let within : place < length list = omega (arith, c.if-place-list.false) in
    let at : place ≡ number = c.from-place.ensures in
    let was : slice_get list number ≡ Some old =
    ap (slice_get list) (sym at) ∙ slice_get-get_or list place c.index-list-place-2.result within in
    let now : slice_get (set list place new) number ≡ Some new =
    ap (slice_get (set list place new)) (sym at) ∙ paired-set list place new within in
    let third : get_or (set list place new) place c.index-list-place-3.result ≡ new =
    get_or-set_same list place new c.index-list-place-3.result within in
    let known = subst (λ (o : Option Paired). KnowsPairAt past o (bit_at c.args.values.now number))
    was knows in
    subst (λ (o : Option Paired). KnowsPairAt (change form c.args.identifier.now c.args.letters.now ∷ past)
    o (bit_at c.set_bit.new.values number)) (sym now) (
      c.in_ok-say.ensures.knows past form known.0,
      c.set_bit.ensures.this ∙ ap bit_of (c.holds.ensures ∙ ap holds third),
    )

pub returns-clause-others : goal.returns-clause-others
returns-clause-others c =
    search (rules, paired-set_other, c.from-place.result, c.set_bit.ensures.others)

pub returns-clause-same : goal.returns-clause-same
returns-clause-same c =
    same-set c.args.list.now c.from-place.result c.say.new.self c.index-list-place-2.result
    (omega (arith, c.if-place-list.false)) c.say.ensures.same c.say.ensures.asked.0
    c.say.ensures.asked.1
