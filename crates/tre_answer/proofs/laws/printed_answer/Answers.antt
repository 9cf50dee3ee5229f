use Rattle.tre_answer.proofs.Said.{says_pairs, says_online, says_told}
use Rattle.tre_answer.proofs.laws.printed_answer.Goals as goal

pub returns : goal.returns
returns c = record { offline = says_pairs; online = says_online; so_far = says_told }
