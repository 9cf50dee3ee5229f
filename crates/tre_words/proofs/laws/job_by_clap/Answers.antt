use Rattle.std.proofs.Common.{map, string_bytes}
use Rattle.tre_words.proofs.ByClap.{by_clap, from_clap}
use Rattle.tre_words.proofs.Taken.{words_utf8}
use Rattle.tre_words.proofs.laws.job_by_clap.Goals as goal

pub returns : goal.returns
returns c words job = (
  by_clap (map string_bytes words) job,
  from_clap (map string_bytes words) job (words_utf8 words),
)
