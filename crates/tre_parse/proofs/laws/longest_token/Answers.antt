use Rattle.tre_parse.proofs.Agreement.{one_list_of_words}
use Rattle.tre_parse.proofs.Meant.{some_words}
use Rattle.tre_parse.proofs.laws.longest_token.Goals as goal

pub returns : goal.returns
returns c = record { one = one_list_of_words; some = some_words }
