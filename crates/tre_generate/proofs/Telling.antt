-- The zones that a session tells, block by block.
use Rattle.std.proofs.Common.{◌≡◌, ◌↔◌, List, [], ◌∷◌, ◌++◌, refl, sym, subst, inl, inr, ⊎_elim}
use Rattle.tre_syntax.specs.Meaning.{Matches}
use Rattle.tre_syntax.specs.PatternTree.{PatternTree}
use Rattle.tre_trace.specs.Trace.{quiet}
use Rattle.tre_trace.specs.declared.segment.Segment.{Segment}
use Rattle.tre_zone.specs.ZoneList.{SetHolds, HoldExactly}
use Rattle.tre_zone.specs.declared.zone_bounds.ZoneBounds.{ZoneBounds}
use Rattle.tre_zone.proofs.ZoneListLemmas.{SetHolds-empty, SetHolds-append}
use Rattle.tre_online.specs.Session.{TellsNew}
use Rattle.tre_generate.specs.Told.{MatchesAreTold}

pub AreTold-none : (tree : PatternTree) → MatchesAreTold tree [] []
AreTold-none tree = record {
  none = λ empty. record { never = λ a b n some le h. SetHolds-empty a b n h };
  exact = λ some. absurd (some refl);
}

pushed_some : (segments : List Segment) (segment : Segment)
    → segments ++ segment ∷ [] ≡ [] → ⊥
pushed_some [] segment none = cc
pushed_some (first ∷ segments) segment none = cc

module _ (tree : PatternTree) (zones : List ZoneBounds) (segment : Segment)
    (earlier told : List ZoneBounds) where
  first : (segments : List Segment) → segments ≡ [] → MatchesAreTold tree segments zones
      → TellsNew tree segments segment earlier told
      → HoldExactly (zones ++ told) (Matches tree (quiet (segments ++ segment ∷ [])))
  first segments empty so_far tells = record {
    exact = λ a b n some le.
        let both = SetHolds-append zones told a b n in
        let new = (tells.first empty).exact a b n some le in
        let all : SetHolds (zones ++ told) a b n ↔ Matches tree (quiet (segment ∷ [])) a b n = (
          (λ h. ⊎_elim (λ x. absurd ((so_far.none empty).never a b n some le x)) new.0 (both.0 h)),
          (λ h. both.1 (inr (new.1 h))),
        ) in
        subst (λ (list : List Segment). SetHolds (zones ++ told) a b n
        ↔ Matches tree (quiet (list ++ segment ∷ [])) a b n) (sym empty) all;
  }

  later : (segments : List Segment) → (segments ≡ [] → ⊥) → MatchesAreTold tree segments zones
      → TellsNew tree segments segment earlier told
      → HoldExactly (zones ++ told) (Matches tree (quiet (segments ++ segment ∷ [])))
  later segments begun so_far tells = record {
    exact = λ a b n some le.
        let both = SetHolds-append zones told a b n in
        let old = (so_far.exact begun).exact a b n some le in
        let all = tells.all a b n some le in (
          (λ h. all.0 (⊎_elim (λ x. inr (old.0 x)) (λ x. inl x) (both.0 h))),
          (λ h. both.1 (⊎_elim (λ x. inr x) (λ x. inl (old.1 x)) (all.1 h))),
        );
  }

  exact_now : (segments : List Segment) → MatchesAreTold tree segments zones
      → TellsNew tree segments segment earlier told
      → HoldExactly (zones ++ told) (Matches tree (quiet (segments ++ segment ∷ [])))
  exact_now [] so_far tells = first [] refl so_far tells
  exact_now (head ∷ segments) so_far tells =
      later (head ∷ segments) (λ none. cc) so_far tells

  -- What was told, and what is told of one more segment.
  pub AreTold-next : (segments : List Segment) → MatchesAreTold tree segments zones
      → TellsNew tree segments segment earlier told
      → MatchesAreTold tree (segments ++ segment ∷ []) (zones ++ told)
  AreTold-next segments so_far tells = record {
    none = λ empty. absurd (pushed_some segments segment empty);
    exact = λ some. exact_now segments so_far tells;
  }

-- A set of the same pairs.
pub AreTold-set : (tree : PatternTree) (segments : List Segment) (zones set : List ZoneBounds)
    → MatchesAreTold tree segments zones → HoldExactly set (SetHolds zones)
    → MatchesAreTold tree segments set
AreTold-set tree segments zones set told same = record {
  none = λ empty. record {
    never = λ a b n some le h.
        (told.none empty).never a b n some le ((same.exact a b n some le).0 h);
  };
  exact = λ begun. record {
    exact = λ a b n some le.
        let one = same.exact a b n some le in
        let two = (told.exact begun).exact a b n some le in
        ((λ h. two.0 (one.0 h)), (λ h. one.1 (two.1 h)));
  };
}
