use Rattle.tre_parse.specs.TokenWords.{words_by}
use Rattle.tre_parse.proofs.Prefixes.{state_front, front_begins, state_completes, completes}
use Rattle.tre_parse.proofs.laws.beginnings.Goals as goal

pub returns : goal.returns
returns c = record {
  expression = λ scale known rule pieces own. (
    completes scale known rule (words_by scale known pieces),
    (λ k. front_begins scale known rule pieces k.rest k.tree own k.spells),
  );
  state = λ scale known rule pieces own. (
    state_completes scale known rule (words_by scale known pieces),
    (λ k. state_front scale known rule pieces k.rest k.tree own k.spells),
  );
}
