use Rattle.std.proofs.Common.{List, subst}
use Rattle.std.proofs.lemmas.List.{take_all, take_more}
use Rattle.tre_syntax.specs.declared.pattern.Pattern.{Pattern}
use Rattle.tre_online.specs.Giving.{AreNewFor, IsNewFor}
use Rattle.tre_online.proofs.Becoming.{zip_more}
use Rattle.tre_online.proofs.watch.sessions_for.Goals as goal

pub loop-pattern-init : goal.loop-pattern-init
loop-pattern-init c = rw c.new-sessions.ensures.items tt

pub loop-pattern-preserved : goal.loop-pattern-preserved
loop-pattern-preserved c =
    let patterns = c.args.patterns.now in
    let place = c.loop-pattern.pattern-index in
    let pattern = c.pattern-item.result in
    rw (
      c.in_ok-push.ensures.items,
      take_more patterns place pattern c.loop-pattern-test.true,
      ← c.pattern-item.is,
    )
    (zip_more IsNewFor _ _ pattern c.in_ok-session.session c.loop-pattern.invariant
    c.in_ok-session.ensures)

pub returns : goal.returns
returns c =
    subst (λ (list : List Pattern). AreNewFor list c.loop-pattern.sessions.items)
    (take_all c.loop-pattern.pattern-index c.args.patterns.now c.loop-pattern-test.false)
    c.loop-pattern.invariant
