use Rattle.std.proofs.Common.{◌≡◌, ◌<◌, ◌∷◌, false, Option, Some, length, get_or, set, sym, ap, ◌∙◌, subst, arith, rules}
use Rattle.std.specs.Int.{bit_at}
use Rattle.std.specs.Option.{option_and_then, option_map, option_map_or}
use Rattle.std.proofs.lemmas.List.{get_or-set_same}
use Rattle.tre_vcd.specs.VcdReading.{change, differs}
use Rattle.tre_vcd.specs.Signals.{KnowsAt, asked_of_part, bit_of, letters_kept, part_kept, reads_part, watched_at}
use Rattle.tre_vcd.specs.declared.changes.Watched.{Watched}
use Rattle.tre_vcd.proofs.Watching.{first-bit, map-set, watched-past, watched-set, watched-set_other, watched-told, watched-untold, watched-within, defaults}
use Rattle.tre_vcd.proofs.changes.tell_at.Goals as goal
use Rattle.tre_vcd.proofs.changes.tell_at.Goals.{then-place-list-via-then-place-list, then-place-list-via-else-place-list+then-not-reads}

pub returns-then-place-list-clause-told : goal.returns-then-place-list-clause-told
returns-then-place-list-clause-told c = λ past form knows.
    let list = c.args.list.now in
    let number = c.args.number in
    let identifier = c.args.identifier.now in
    let asks = λ (o : Option Watched). reads_part (option_and_then part_kept o) identifier in
    watched-untold past form identifier c.args.letters.now (watched_at list number)
    (bit_at c.args.said.now number) (bit_at c.args.happened.now number)
    (elim c.then-place-list.branch [
      | then-place-list-via-then-place-list w ↦
          ap asks (watched-past list number
          (omega (arith, w.if-place-list.true, c.from-place.ensures)))
      | then-place-list-via-else-place-list+then-not-reads w ↦
          ap (λ n. asks (watched_at list n)) (sym c.from-place.ensures)
          ∙ ap asks (watched-within list c.from-place.result w.index-list-place.result
          (omega (arith, w.if-place-list.false)))
          ∙ sym w.reads.ensures ∙ w.if-not-reads.true
    ]) knows

pub returns-clause-told : goal.returns-clause-told
returns-clause-told c = λ past form knows.
    let list = c.args.list.now in
    let number = c.args.number in
    let place = c.from-place.result in
    let identifier = c.args.identifier.now in
    let letters = c.args.letters.now in
    let old = get_or list place c.index-list-place-2.result in
    let new = c.say.new.self in
    let within : place < length list = omega (arith, c.if-place-list.false) in
    let at : place ≡ number = c.from-place.ensures in
    let was : watched_at list number ≡ Some old =
    ap (watched_at list) (sym at)
    ∙ watched-within list place c.index-list-place-2.result within in
    let same : get_or list place c.index-list-place.result ≡ old =
    defaults list place c.index-list-place.result c.index-list-place-2.result within in
    let now : watched_at (set list place new) number ≡ Some new =
    ap (watched_at (set list place new)) (sym at) ∙ watched-set list place new within in
    let third : get_or (set list place new) place c.index-list-place-3.result ≡ new =
    get_or-set_same list place new c.index-list-place-3.result within in
    let first = first-bit c.has_bit-is_first.result (bit_at c.args.said.now number)
    c.has_bit-is_first.ensures in
    subst (λ (o : Option Watched). KnowsAt o (bit_at c.set_bit.new.values number)
    (bit_at c.set_bit-2.new.values number) (change form identifier letters ∷ past)) (sym now)
    (watched-told past form identifier letters old new _ (bit_at c.args.said.now number)
    (bit_at c.args.happened.now number) (bit_at c.set_bit.new.values number)
    (bit_at c.set_bit-2.new.values number)
    (ap (λ one. reads_part (part_kept one) identifier) (sym same)
    ∙ sym c.reads.ensures ∙ c.if-not-reads.false)
    (record {
      now = c.in_ok-say.ensures.now;
      before = c.say.ensures.before;
      asked = ap (option_map asked_of_part) c.say.ensures.same.1;
    }) first.0 first.1 c.set_bit.ensures.this
    (c.set_bit-2.ensures.this
    ∙ ap bit_of (c.has_changed.ensures
    ∙ ap (λ one. option_map_or (λ own. differs own.asks (letters_kept one.earlier)
    (letters_kept one.latest)) (part_kept one) false) third))
    (subst (λ (o : Option Watched). KnowsAt o (bit_at c.args.said.now number)
    (bit_at c.args.happened.now number) past) was knows))

pub returns-clause-others : goal.returns-clause-others
returns-clause-others c =
    search (rules, watched-set_other, c.from-place.result, c.set_bit-2.ensures.others)

pub returns-clause-same : goal.returns-clause-same
returns-clause-same c =
    search (rules, map-set, part_kept, asked_of_part, c.args.list.now, c.from-place.result)
