use Rattle.tre_parse.proofs.StateStrength as proved
use Rattle.tre_parse.proofs.laws.state_strength.Goals as goal

pub returns : goal.returns
returns c = record {
  bars = proved.bars;
  ampersands = proved.ampersands;
  bar_ampersand = proved.bar_ampersand;
  ampersand_bar = proved.ampersand_bar;
}
