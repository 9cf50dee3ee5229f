use Rattle.tre_strips.proofs.StripZones.{Pushes-none, Pushes-more, Pushes-all}
use Rattle.std.proofs.lemmas.List.{get_or_default}
use Rattle.tre_strips.proofs.Fitting.{blank}
use Rattle.tre_strips.proofs.strip_zone.push_strip.Goals as goal

pub loop-bar-init : goal.loop-bar-init
loop-bar-init c = Pushes-none c.args.begins.now c.args.found.now.items

pub loop-bar-preserved : goal.loop-bar-preserved
loop-bar-preserved c =
    Pushes-more _ _ _ _ _ _ _ c.loop-bar-test.true (get_or_default _ _ blank _ c.loop-bar-test.true)
    c.loop-bar.invariant c.in_ok-push_zone.ensures

pub returns : goal.returns
returns c = Pushes-all _ _ _ _ _ c.loop-bar-test.false c.loop-bar.invariant
