use Rattle.std.proofs.Common.{sym, subst}
use Rattle.tre_vcd.specs.Bases.{HasFront}
use Rattle.tre_vcd.proofs.Unread.{are-unread}
use Rattle.tre_vcd.proofs.bases.Bases.may_read.Goals as goal

pub returns : goal.returns
returns c = λ none all has.
    are-unread c.args.self.now all c.args.full_name.now has
    (λ own. c.may_have.ensures none
    (subst (HasFront c.args.self.now) (sym c.base_of.ensures.base) own))
    c.base_of.ensures.front
