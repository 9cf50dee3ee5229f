use Rattle.std.proofs.Common.{refl}
use Rattle.tre_vcd.proofs.Watching.{events-are}
use Rattle.tre_vcd.proofs.changes.Changes.events.Goals as goal

pub returns : goal.returns
returns c = λ all names past knows plain_is.
    events-are all past names c.args.self.now _ c.args.plain knows refl plain_is
