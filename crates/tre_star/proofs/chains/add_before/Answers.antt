use Rattle.std.proofs.Common.{◌≡◌}
use Rattle.tre_star.proofs.chains.add_before.Goals as goal

pub returns-in-Some-clause-held : goal.returns-in-Some-clause-held
returns-in-Some-clause-held c =
    let same : c.in-Some.index ≡ c.args.steps.now = rw c.in-Some.is at c.requires.index in
    rw same at c.add_found_before.ensures.held

pub add_found_before-requires-clause-steps : goal.add_found_before-requires-clause-steps
add_found_before-requires-clause-steps c =
    let same : c.in-Some.index ≡ c.args.steps.now = rw c.in-Some.is at c.requires.index in
    rw same c.requires.steps
