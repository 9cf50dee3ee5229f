use Rattle.std.proofs.lemmas.Result.{IfOk-weaker}
use Rattle.tre_zoneset.proofs.Unions.{HoldExactly-gathered}
use Rattle.tre_star.proofs.chains.chains_of_part.Goals as goal

pub returns : goal.returns
returns c =
    IfOk-weaker c.of_zones.result _ _
    (λ chains held. HoldExactly-gathered chains c.in_ok-found.found.items _ held
    c.in_ok-found.ensures)
    c.of_zones.ensures
