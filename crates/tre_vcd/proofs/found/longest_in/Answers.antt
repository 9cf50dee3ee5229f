use Rattle.std.proofs.Common.{length, arith}
use Rattle.tre_vcd.proofs.Longest.{both-below, longest-next, longest-all}
use Rattle.tre_vcd.proofs.found.longest_in.Goals as goal

pub loop-name-preserved : goal.loop-name-preserved
loop-name-preserved c =
    let both = both-below c.loop-name.longest c.len.result c.max-longest.result
    c.max-longest.ensures in
    longest-next (λ name. length name.items) c.args.names.now c.loop-name.name-index
    c.loop-name.longest c.max-longest.result c.name-item.result c.loop-name-test.true
    c.name-item.is both.0
    (omega (arith, both.1, c.len.ensures, c.name-item.result.ok.0))
    c.loop-name.invariant

pub returns : goal.returns
returns c =
    longest-all (λ name. length name.items) c.args.names.now c.loop-name.name-index
    c.loop-name.longest c.loop-name-test.false c.loop-name.invariant
