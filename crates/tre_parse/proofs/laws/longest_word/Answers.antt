use Rattle.tre_parse.proofs.Ends.{word_ends, number_ends}
use Rattle.tre_parse.proofs.laws.longest_word.Goals as goal

pub returns : goal.returns
returns c = record { words = word_ends; numbers = number_ends }
