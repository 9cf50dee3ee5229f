use Rattle.std.proofs.Common.{rules}
use Rattle.tre_vcd.specs.Kept.{identifier_at}
use Rattle.tre_vcd.proofs.Knowing.{known-few}
use Rattle.tre_vcd.proofs.Pasts.{knows-brief, knows-later}
use Rattle.tre_vcd.proofs.past.Past.define.Goals as goal

pub returns : goal.returns
returns c =
    search (rules, known-few, identifier_at, knows-later, knows-brief, c.args.names.now)
