use Rattle.tre_parse.proofs.Strength as proved
use Rattle.tre_parse.proofs.laws.strength.Goals as goal

pub returns : goal.returns
returns c = record {
  bars = proved.bars;
  ampersands = proved.ampersands;
  semicolons = proved.semicolons;
  bar_ampersand = proved.bar_ampersand;
  ampersand_bar = proved.ampersand_bar;
  bar_semicolon = proved.bar_semicolon;
  semicolon_bar = proved.semicolon_bar;
  ampersand_semicolon = proved.ampersand_semicolon;
  semicolon_ampersand = proved.semicolon_ampersand;
}
