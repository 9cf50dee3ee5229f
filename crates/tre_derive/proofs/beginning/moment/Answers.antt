use Rattle.std.proofs.Common.{⊎_elim, inr, subst, sym}
use Rattle.tre_zone.proofs.ZoneListLemmas.{SetHolds-empty}
use Rattle.tre_zone.specs.ZoneList.{SetHolds, IsApartFrom}
use Rattle.tre_derive.proofs.beginning.moment.Goals as goal

pub push_apart-requires : goal.push_apart-requires
unfolding IsApartFrom
push_apart-requires c =
    subst (λ zones. IsApartFrom c.instants.result zones) (sym c.new-zones.ensures) tt

pub returns : goal.returns
returns c = record {
  exact = λ a b n some le.
      let held = c.in_ok-push_apart.ensures.held.exact a b n some le in
      let zone = c.instants.ensures.held a b n some in (
        (λ h. ⊎_elim
            (λ x. absurd (SetHolds-empty a b n
            (subst (λ list. SetHolds list a b n) c.new-zones.ensures x)))
            (λ x. zone.0 x) (held.0 h)),
        (λ h. held.1 (inr (zone.1 h))),
      );
}
