use Rattle.tre_vcd.proofs.Pairing.{pairs-valued}
use Rattle.tre_vcd.proofs.pairs.Pairs.valuation.Goals as goal

pub returns : goal.returns
returns c = λ all names sieve past knows tested_is.
    pairs-valued all past names sieve c.args.self.now c.args.tested knows tested_is
