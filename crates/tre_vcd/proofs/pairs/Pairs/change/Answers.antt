use Rattle.std.proofs.Common.{◌≡◌, ◌∷◌, length, map, sym, ap, ◌∙◌, subst, arith}
use Rattle.std.specs.Int.{bit_at}
use Rattle.std.specs.List.{slice_get}
use Rattle.std.proofs.lemmas.List.{with_items_is}
use Rattle.std.specs.Vec.{with_items}
use Rattle.tre_vcd.specs.VcdReading.{change}
use Rattle.tre_vcd.specs.Pairs.{KnowsPairAt, SamePaired, reads_at}
use Rattle.tre_vcd.proofs.Pairing.{pairs-changed, pairs-unread}
use Rattle.tre_vcd.proofs.pairs.Pairs.change.Goals as goal

pub returns : goal.returns
returns c = λ all names sieve past form ended may knows.
    let kept = c.args.self.now in
    let identifier = c.args.identifier.now in
    let letters = c.args.letters.now in
    let now = c.tell.new.list in
    let long : length now ≡ kept.list.len =
    omega (arith, c.tell.auto.list, c.deref_mut.ensures.len) in
    let items = with_items_is kept.list now long in
    let slice = c.deref_mut.ensures.value in
    let same : SamePaired kept.list.items (with_items kept.list now).items =
    subst (λ old. SamePaired old (with_items kept.list now).items) slice
    (subst (SamePaired c.deref_mut.result.now) (sym items) c.in_ok-tell.ensures.same) in
    pairs-changed all names sieve kept past form identifier letters (with_items kept.list now)
    c.tell.new.values ended same
    (λ k. subst (λ list. KnowsPairAt (change form identifier letters ∷ past) (slice_get list k)
    (bit_at c.tell.new.values k)) (sym items)
    (c.in_ok-tell.ensures.told past form
    (λ i. subst (λ list. KnowsPairAt past (slice_get list i) (bit_at kept.values i)) (sym slice)
    (knows.each i))
    (λ i clear. ap (λ list. reads_at (slice_get list i) identifier) slice
    ∙ pairs-unread all names sieve kept past identifier c.args.numbers ended may knows i clear) k))
    knows
