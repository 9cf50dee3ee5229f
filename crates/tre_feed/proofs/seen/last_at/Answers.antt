use Rattle.std.proofs.Common.{sym}
use Rattle.tre_feed.specs.Seen.{last_events_of}
use Rattle.tre_feed.proofs.Seeing.{at_mapped}
use Rattle.tre_feed.proofs.seen.last_at.Goals as goal

pub returns : goal.returns
returns g c = sym (at_mapped last_events_of _ _ _ 0 c.requires)
