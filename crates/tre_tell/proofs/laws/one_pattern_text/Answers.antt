use Rattle.tre_tell.proofs.OnePattern.{blocks_text-one, whole_text-one}
use Rattle.tre_tell.proofs.laws.one_pattern_text.Goals as goal

pub returns : goal.returns
returns c = record {
  blocks = λ scale account segments none. blocks_text-one scale account none segments;
  whole = λ scale account segments none. whole_text-one scale account none segments;
}
