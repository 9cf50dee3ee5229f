use Rattle.std.proofs.lemmas.Result.{IfOk-weaker}
use Rattle.tre_pairs.specs.Pairs.{Pairs, Composed, Lasting}
use Rattle.tre_zone.specs.Longest.{LastsUpTo}
use Rattle.tre_zone.specs.Zone.{ZoneHolds}
use Rattle.tre_star.proofs.Composing.{Composed-additive_right, HoldExactly-both}
use Rattle.tre_star.proofs.Short.{short_additive}
use Rattle.tre_star.proofs.composition.gather_followed.Goals as goal

pub returns-clause-held : goal.returns-clause-held
returns-clause-held c =
    IfOk-weaker c.gather_near.result _ _
    (λ _ near. HoldExactly-both
    (λ (R : Pairs). Lasting (LastsUpTo c.args.longest) (Composed (ZoneHolds c.args.zone.now) R))
    (short_additive (LastsUpTo c.args.longest) (Composed (ZoneHolds c.args.zone.now))
    (Composed-additive_right (ZoneHolds c.args.zone.now)))
    c.args.found.now.items c.gather_each.new.found.items c.gather_near.new.found.items
    c.args.second.now c.args.others.now c.in_ok-gather_each.ensures near)
    c.gather_near.ensures.held
