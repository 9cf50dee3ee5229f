use Rattle.std.proofs.Common.{◌≡◌, ◌<◌, ℕ, List, Some, length, true, sym, ap, ◌∙◌, subst, arith}
use Rattle.std.specs.List.{slice_get}
use Rattle.std.proofs.lemmas.Option.{slice_get-get_or, slice_get_within}
use Rattle.tre_state.specs.Sieve.{MayBe}
use Rattle.tre_vcd.specs.Pairs.{reads_pair}
use Rattle.tre_vcd.specs.declared.pairs.Paired.{Paired}
use Rattle.tre_vcd.proofs.OneMore.{places-more}
use Rattle.tre_vcd.proofs.pairs.sift_each.Goals as goal

pub loop-number-preserved : goal.loop-number-preserved
loop-number-preserved c =
    let list = c.args.list.now in
    let place = c.from-place.result in
    let before = c.loop-number.invariant in
    let kept = c.sift.ensures.kept in
    let within : place < length list =
    omega (arith, c.loop-number-test.true, c.min-number-end.ensures, c.from-place.ensures) in
    record {
      told = places-more (slice_get list) (λ (paired : Paired) k. (identifier : List ℕ)
          → reads_pair paired identifier ≡ true → MayBe c.sift.new.sieve identifier k)
          c.loop-number.number
          (λ paired is identifier reads.
          let both : Some c.index-list-place.result ≡ Some paired =
          ap Some c.index-list-place.is
          ∙ sym (slice_get-get_or list place c.index-list-place.result within)
          ∙ ap (slice_get list) c.from-place.ensures ∙ is in
          let same : c.index-list-place.result ≡ paired = cc (both) in
          c.sift.ensures.told identifier (ap (λ own. reads_pair own identifier) same ∙ reads))
          (λ k paired below is identifier reads.
          kept identifier k (before.told k paired below is identifier reads));
      kept = λ other k may. kept other k (before.kept other k may);
    }

pub returns-clause-told : goal.returns-clause-told
returns-clause-told c = λ k paired small is.
    c.loop-number.invariant.told k paired (omega (
      arith,
      small,
      slice_get_within c.args.list.now k paired is,
      c.loop-number-test.false,
      c.min-number-end.ensures,
    )) is
