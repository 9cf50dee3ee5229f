use Rattle.tre_feed.proofs.Sharing.{IsWider-none}
use Rattle.tre_feed.proofs.group.Group.admit.Goals as goal

pub returns-in_err-wider-clause-wider : goal.returns-in_err-wider-clause-wider
returns-in_err-wider-clause-wider c = IsWider-none c.args.self.now

pub returns-in-Err-clause-wider : goal.returns-in-Err-clause-wider
returns-in-Err-clause-wider c = IsWider-none c.args.self.now
