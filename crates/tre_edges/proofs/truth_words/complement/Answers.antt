use Rattle.std.proofs.Common.{◌≡◌, ◌∙◌, length, arith}
use Rattle.std.proofs.lemmas.List.{with_items_is}
use Rattle.std.specs.Vec.{with_items}
use Rattle.tre_edges.proofs.WordBits.{opposite_cleared}
use Rattle.tre_edges.proofs.truth_words.complement.Goals as goal

pub returns : goal.returns
returns c =
    let opposite = c.in_ok-opposite.opposite in
    let turned = c.not_into.new.a in
    let cut = c.clear_past.new.words in
    let same : length turned ≡ opposite.len =
    omega (arith, c.not_into.auto.a, c.deref_mut.ensures.len) in
    let second : c.deref_mut-2.result.now ≡ turned =
    c.deref_mut-2.ensures.value ∙ with_items_is opposite turned same in
    let cleared = rw (second, c.not_into.ensures) at c.clear_past.ensures in
    let same_cut : length cut ≡ opposite.len =
    omega (arith, c.clear_past.auto.words, c.deref_mut-2.ensures.len) in
    rw (with_items_is (with_items opposite turned) cut same_cut)
    (opposite_cleared c.args.count c.args.words.now cut c.requires
    (λ k within. (c.type_inv.words k).fits) cleared)
