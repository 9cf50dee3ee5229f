use Rattle.std.proofs.lemmas.Str.{IsUtf8-from_ascii}
use Rattle.tre_define.proofs.Cutting.{word-ascii}
use Rattle.tre_define.proofs.pieces.word_in.Goals as goal

pub returns-in-Err-clause-none : goal.returns-in-Err-clause-none
returns-in-Err-clause-none c is = c.in-Err.ensures.cases.0 (IsUtf8-from_ascii _ (word-ascii _ is))
