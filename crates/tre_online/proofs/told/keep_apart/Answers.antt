use Rattle.std.proofs.Common.{rules}
use Rattle.tre_online.proofs.NewZones.{one_apart}
use Rattle.tre_online.proofs.told.keep_apart.Goals as goal

pub returns-then-len-lt2-clause-set : goal.returns-then-len-lt2-clause-set
returns-then-len-lt2-clause-set c = record {
  apart = one_apart c.args.zones.now.items (search rules);
  canonical = search rules;
}
