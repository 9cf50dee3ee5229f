use Rattle.tre_zoneset.proofs.Rising.{IsBehind-some, IsBehind-none}
use Rattle.tre_zoneset.proofs.rise.is_behind.Goals as goal

pub returns-in-Some : goal.returns-in-Some
returns-in-Some c = λ yes.
    rw c.in-Some.is (IsBehind-some c.args.high c.in-Some.before c.args.zone.now
    (c.rises.ensures yes))

pub returns-in-None : goal.returns-in-None
returns-in-None c = λ yes. rw c.in-None.is (IsBehind-none c.args.high c.args.zone.now)
