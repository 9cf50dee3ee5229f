use Rattle.std.proofs.Common.{◌≡◌, ◌∷◌, ◌&&◌, ◌<◌, Bool, true, length, take, sym, ap, ◌∙◌, arith}
use Rattle.std.proofs.lemmas.Bool.Decides.{nat_tests}
use Rattle.std.specs.List.{list_all}
use Rattle.tre_text.specs.TextReading.{fields_among, spells_word}
use Rattle.tre_text.specs.Lines.{bits_after}
use Rattle.tre_text.specs.Words.{ends_word}
use Rattle.tre_text.proofs.Words.{word_is_field, word_spells, no_word_field, rest_later}
use Rattle.tre_text.proofs.line.read_names.Goals as goal

pub loop-rest-preserved : goal.loop-rest-preserved
loop-rest-preserved c =
    let rest = c.loop-rest.rest.now in
    let end = c.word_end-end.result in
    let next = c.behind_word-rest.result.now in
    let names = c.args.names.now in
    let ends : ends_word rest end ≡ true = sym c.ends_word.ensures ∙ c.if-not-ends_word.false in
    let whole : fields_among rest ≡ take end rest ∷ fields_among next =
    word_is_field rest end c.word_end-end.ensures ends
    ∙ ap (λ fields. take end rest ∷ fields) c.behind_word-rest.ensures.fields
    in
    record {
      words =
          c.loop-rest.invariant.words ∙ ap (list_all spells_word) whole
          ∙ ap (λ (is : Bool). is && list_all spells_word (fields_among next))
          (word_spells rest end c.word_end-end.ensures ends);
      value =
          c.loop-rest.invariant.value ∙ ap (bits_after names c.loop-rest.valuation) whole
          ∙ ap (λ valuation. bits_after names valuation (fields_among next))
          (sym c.with_name-valuation.ensures);
      rest =
          rest_later c.args.fields.now rest next c.loop-rest.invariant.rest
          c.behind_word-rest.ensures.rest;
      first = c.behind_word-rest.ensures.first;
    }

pub behind_word-rest-requires-clause-ends : goal.behind_word-rest-requires-clause-ends
behind_word-rest-requires-clause-ends c = sym c.ends_word.ensures ∙ c.if-not-ends_word.false

pub returns-then-not-ends_word-clause-other : goal.returns-then-not-ends_word-clause-other
returns-then-not-ends_word-clause-other c =
    let rest = c.loop-rest.rest.now in
    let some : 0 < length rest = grind (arith, nat_tests) in
    c.loop-rest.invariant.words
    ∙ no_word_field rest c.word_end-end.result c.word_end-end.ensures some
    (c.loop-rest.invariant.first some) (sym c.ends_word.ensures ∙ c.if-not-ends_word.true)
