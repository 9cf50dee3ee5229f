use Rattle.std.proofs.Common.{inl, ⊎_elim, rules}
use Rattle.tre_zone.proofs.ZoneListLemmas.{SetHolds-push, AreCanonical-push}
use Rattle.tre_zoneset.specs.ZoneSet.{FoundHolds}
use Rattle.tre_strips.proofs.trim.push_found.Goals as goal

pub returns-in_ok-push : goal.returns-in_ok-push
unfolding FoundHolds
returns-in_ok-push c =
    search (rules, SetHolds-push, AreCanonical-push, c.args.kept.now.items, c.in-Some.zone)

pub returns-in_default : goal.returns-in_default
unfolding FoundHolds
returns-in_default c = record {
  held = λ a b n. rw c.in_default.is
      ((λ h. inl h), (λ h. ⊎_elim (λ x. x) (λ x. absurd x) h));
  canonical = λ all. all;
}
