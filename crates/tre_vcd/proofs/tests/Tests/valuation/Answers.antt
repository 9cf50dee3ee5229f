use Rattle.std.proofs.Common.{refl}
use Rattle.tre_vcd.proofs.Testing.{valuation-is}
use Rattle.tre_vcd.proofs.tests.Tests.valuation.Goals as goal

pub returns : goal.returns
returns c = λ all names past knows plain_is.
    let kept = c.args.self.now in
    valuation-is all past names kept.list.items _ c.args.plain kept.defined kept.values
    knows.definitions knows.tests refl plain_is knows.defined knows.values
