use Rattle.std.proofs.Common.{◌∙◌}
use Rattle.tre_state.proofs.Sieving.{last_none, last_is}
use Rattle.tre_state.proofs.sieve.last_of.Goals as goal

pub returns-then-len-eq0-clause-last : goal.returns-then-len-eq0-clause-last
returns-then-len-eq0-clause-last c = last_none c.args.bytes.now c.if-len-eq0.true

pub returns-clause-last : goal.returns-clause-last
returns-clause-last c = c.from.ensures ∙ last_is c.args.bytes.now
