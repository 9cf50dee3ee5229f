use Rattle.tre_zoneset.specs.Rise.{IsHigher}
use Rattle.tre_zoneset.proofs.rise.is_higher.Goals as goal

pub returns-in-Begin : goal.returns-in-Begin
unfolding IsHigher
returns-in-Begin c = λ yes. rw c.in-Begin.is (c.is_less.ensures yes)

pub returns-in-End : goal.returns-in-End
unfolding IsHigher
returns-in-End c = λ yes. rw c.in-End.is (c.is_less-in-End.ensures yes)
