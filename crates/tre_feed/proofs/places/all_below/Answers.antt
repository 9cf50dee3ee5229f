use Rattle.std.proofs.Common.{rules}
use Rattle.std.proofs.Math.Pow.{pow_mono}
use Rattle.tre_feed.proofs.places.all_below.Goals as goal

pub returns : goal.returns
returns c = search (rules, pow_mono, c.args.place)
