use Rattle.std.proofs.Common.{◌≡◌, ◌∷◌, length, map, sym, ap, ◌∙◌, subst, arith}
use Rattle.std.specs.Int.{bit_at}
use Rattle.std.proofs.lemmas.List.{with_items_is}
use Rattle.std.specs.Vec.{with_items}
use Rattle.tre_vcd.specs.VcdReading.{change}
use Rattle.tre_vcd.specs.Signals.{KnowsAt, part_at, reads_part, watched_at}
use Rattle.tre_vcd.proofs.Watching.{changes-changed, unread}
use Rattle.tre_vcd.proofs.changes.Changes.change.Goals as goal

pub returns : goal.returns
returns c = λ all names past form ended knows.
    let kept = c.args.self.now in
    let identifier = c.args.identifier.now in
    let letters = c.args.letters.now in
    let now = c.tell.new.list in
    let long : length now ≡ kept.list.len =
    omega (arith, c.tell.auto.list, c.deref_mut.ensures.len) in
    let items = with_items_is kept.list now long in
    let same = c.in_ok-tell.ensures.same in
    let slice = c.deref_mut.ensures.value in
    changes-changed all names kept past form identifier letters (with_items kept.list now)
    c.tell.new.said c.tell.new.happened ended
    (ap (map _) items ∙ same.0 ∙ ap (map _) slice, ap (map _) items ∙ same.1 ∙ ap (map _) slice)
    (λ k. subst (λ list. KnowsAt (watched_at list k) (bit_at c.tell.new.said k)
    (bit_at c.tell.new.happened k) (change form identifier letters ∷ past)) (sym items)
    (c.in_ok-tell.ensures.told past form
    (λ i. subst (λ list. KnowsAt (watched_at list i) (bit_at kept.said i) (bit_at kept.happened i)
    past) (sym slice) (knows.each i))
    (λ i clear. ap (λ list. reads_part (part_at list i) identifier) slice
    ∙ unread all names kept past identifier c.numbers-numbers.result ended
    c.numbers-numbers.ensures knows i clear) k))
    knows
