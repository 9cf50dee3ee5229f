use Rattle.std.proofs.lemmas.Result.{IfOk-weaker}
use Rattle.tre_syntax.specs.Begun.{HasBegun}
use Rattle.tre_syntax.specs.Pattern.{pattern_tree}
use Rattle.tre_offline.proofs.LastingUpTo.{among_short}
use Rattle.tre_offline.proofs.beginning.begun_among.Goals as goal

pub returns : goal.returns
returns g c =
    IfOk-weaker c.begun_of.result _ _
    (λ zones held. record {
      exact = among_short c.longest_for-longest.result c.args.set.now zones
          (HasBegun (pattern_tree c.args.pattern.now) (g.T.AnyTrace.timeline c.args.trace.now))
          c.longest_for-longest.ensures.all (rw c.expr-2.ensures.tree at held);
    })
    c.begun_of.ensures
