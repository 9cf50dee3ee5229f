use Rattle.std.proofs.lemmas.Result.{on_ok_weaker}
use Rattle.tre_zoneset.proofs.Unions.{HoldExactly-found, HoldExactly-not_found}
use Rattle.tre_star.proofs.Single.{found_apart}
use Rattle.tre_star.proofs.chains.push_found.Goals as goal

pub push_disjoint-requires : goal.push_disjoint-requires
push_disjoint-requires c =
    found_apart c.args.chains.now c.in-Some.zone (rw c.in-Some.is at c.requires)

pub returns-in-Some : goal.returns-in-Some
returns-in-Some c =
    rw c.in-Some.is
    (on_ok_weaker c.push_disjoint.result
    (λ held. HoldExactly-found c.args.chains.now c.push_disjoint.new.self c.in-Some.zone held)
    c.push_disjoint.ensures.held)

pub returns-in-None : goal.returns-in-None
returns-in-None c = rw c.in-None.is (HoldExactly-not_found c.args.chains.now)
