use Rattle.std.proofs.Common.{List, [], ◌∷◌, ◌++◌, ◌∙◌, ap, ap₂, map, sym}
use Rattle.std.proofs.lemmas.List.{map_more, take_all}
use Rattle.tre_syntax.specs.Pattern.{names_of}
use Rattle.tre_trace.specs.Reading.{Vocabulary}
use Rattle.tre_answer.proofs.Recorded.{vocabulary_same}
use Rattle.tre_answer.proofs.columns.need_all.Goals as goal

pub loop-pattern-preserved : goal.loop-pattern-preserved
loop-pattern-preserved c = record {
  declared = c.in_ok-add.ensures.declared
      ∙ ap₂ (λ (front : List Vocabulary) (last : Vocabulary). front ++ last ∷ [])
      c.loop-pattern.invariant.declared
      (vocabulary_same c.names.result.now c.events.result.now (names_of c.pattern-item.result)
      c.names.ensures.names c.events.ensures.events ∙ ap names_of c.pattern-item.is)
      ∙ sym (map_more names_of c.args.patterns.now c.loop-pattern.pattern-index
      c.pattern-item.result c.loop-pattern-test.true);
  definitions = c.add.ensures.definitions ∙ c.loop-pattern.invariant.definitions;
}

pub returns-clause-declared : goal.returns-clause-declared
returns-clause-declared c = c.loop-pattern.invariant.declared
    ∙ ap (map names_of)
    (take_all c.loop-pattern.pattern-index c.args.patterns.now c.loop-pattern-test.false)
