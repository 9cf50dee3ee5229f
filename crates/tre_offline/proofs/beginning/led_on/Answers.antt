use Rattle.std.proofs.lemmas.Result.{IfOk-weaker, IfOk-at_ok}
use Rattle.tre_syntax.specs.Begun.{BegunRest}
use Rattle.tre_syntax.specs.Meaning.{MatchesRest}
use Rattle.tre_syntax.proofs.Begins.{IsOrdered-begun}
use Rattle.tre_syntax.proofs.CutMeaning.{IsOrdered-rest}
use Rattle.tre_offline.proofs.Beginnings.{composed_exact}
use Rattle.tre_offline.proofs.beginning.led_on.Goals as goal

pub returns : goal.returns
returns c =
    IfOk-weaker c.compose_sets_up_to.result _ _
    (λ zones held left right rest one other.
    composed_exact c.args.longest (MatchesRest left rest) (BegunRest right rest) c.args.first.now
    c.in_ok-last.last zones one (IfOk-at_ok _ c.in_ok-last.was other) (IsOrdered-rest left rest)
    (IsOrdered-begun rest right) c.zones-first.ensures.set c.zones-last.ensures.set held)
    c.compose_sets_up_to.ensures
