use Rattle.std.proofs.Common.{◌≡◌, ◌∷◌, length, map, sym, ap, ◌∙◌, subst, arith}
use Rattle.std.specs.Int.{bit_at}
use Rattle.std.specs.List.{slice_get}
use Rattle.std.proofs.lemmas.List.{with_items_is}
use Rattle.std.proofs.lemmas.Result.{on_ok_weaker}
use Rattle.std.specs.Vec.{with_items}
use Rattle.tre_vcd.specs.VcdReading.{var}
use Rattle.tre_vcd.specs.Pairs.{KnowsPairAt}
use Rattle.tre_vcd.proofs.Pairing.{pairs-declared}
use Rattle.tre_vcd.proofs.pairs.Pairs.declare.Goals as goal

pub returns : goal.returns
returns c = λ all names sieve past tokens offered quiet before knows.
    let kept = c.args.self.now in
    let now = c.declare_each.new.list in
    let same : length now ≡ kept.list.len =
    omega (arith, c.declare_each.auto.list, c.deref_mut.ensures.len) in
    let items = with_items_is kept.list now same in
    on_ok_weaker c.declare_each.result (λ each.
    pairs-declared all names sieve kept past tokens (with_items kept.list now) before
    (ap (map _) items ∙ c.declare_each.ensures.same ∙ ap (map _) c.deref_mut.ensures.value)
    (λ k. subst (λ list. KnowsPairAt (var tokens ∷ past) (slice_get list k) (bit_at kept.values k))
    (sym items) (each k)) knows)
    (c.declare_each.ensures.knows past tokens quiet offered (bit_at kept.values)
    (λ k. subst (λ list. KnowsPairAt past (slice_get list k) (bit_at kept.values k))
    (sym c.deref_mut.ensures.value) (knows.each k)))
