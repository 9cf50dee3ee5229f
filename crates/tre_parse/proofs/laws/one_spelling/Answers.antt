use Rattle.std.proofs.Common.{◌∙◌, sym}
use Rattle.tre_parse.specs.Words.{names_among}
use Rattle.tre_parse.specs.Outcome.{words}
use Rattle.tre_parse.proofs.Whole.{spelt_once}
use Rattle.tre_parse.proofs.Agreement.{scanned, scanned_spelling}
use Rattle.tre_parse.proofs.laws.one_spelling.Goals as goal

pub returns : goal.returns
returns c = record {
  tree = λ scale text tree other names others h k.
      let all = words (scanned scale text) in
      spelt_once scale (names_among all) all tree other
      (scanned_spelling scale text tree names h).0 (scanned_spelling scale text other others k).0;
  names = λ scale text tree other names others h k.
      (scanned_spelling scale text tree names h).1
      ∙ sym (scanned_spelling scale text other others k).1;
}
