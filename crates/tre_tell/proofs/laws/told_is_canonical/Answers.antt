use Rattle.tre_tell.proofs.CanonicalBlocks.{so_far_canonical, all_canonical}
use Rattle.tre_tell.proofs.laws.told_is_canonical.Goals as goal

pub returns : goal.returns
returns c = record { so_far = so_far_canonical; whole = all_canonical }
