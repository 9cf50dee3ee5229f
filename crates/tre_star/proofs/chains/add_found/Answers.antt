use Rattle.std.proofs.lemmas.Result.{IfOk-weaker}
use Rattle.std.proofs.Common.{Some, None}
use Rattle.tre_star.proofs.Short.{gathered_some, found_some, found_none}
use Rattle.tre_zoneset.proofs.Unions.{HoldExactly-found, HoldExactly-not_found}
use Rattle.tre_star.proofs.chains.add_found.Goals as goal

pub returns-in_default-clause-held : goal.returns-in_default-clause-held
returns-in_default-clause-held c =
    rw c.in_default.is (found_none c.args.longest c.args.reached.now)

pub returns-in_default-up_to-clause-held : goal.returns-in_default-up_to-clause-held
returns-in_default-up_to-clause-held c =
    rw c.in-Some.is
    (found_some c.args.longest c.in-Some.zone c.args.reached.now c.args.reached.now
    (gathered_some c.args.longest c.in-Some.zone None c.args.reached.now c.args.reached.now
    (rw c.in_default-up_to.is at c.up_to.ensures) (HoldExactly-not_found c.args.reached.now)))

pub returns-clause-held : goal.returns-clause-held
returns-clause-held c =
    IfOk-weaker c.add_new.result _ _
    (λ _ held. rw c.in-Some.is
    (found_some c.args.longest c.in-Some.zone c.args.reached.now c.add_new.new.reached
    (gathered_some c.args.longest c.in-Some.zone (Some c.in-Some-up_to.short) c.args.reached.now
    c.add_new.new.reached (rw c.in-Some-up_to.is at c.up_to.ensures)
    (HoldExactly-found c.args.reached.now c.add_new.new.reached c.in-Some-up_to.short held))))
    c.add_new.ensures.held
