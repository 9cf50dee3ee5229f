-- What is wanted of patterns over their traces, and the zones that hold it.
use Rattle.std.proofs.Common.{◌≡◌, ◌↔◌, ◌⊎◌, ⊎_elim, inl, inr, ℕ, ◌<◌, ◌≤◌, ◌+◌, Bool, false, List, [], ◌∷◌, length, take, drop, get_or, refl, sym, ap, subst, ◌∙◌, arith, true≢false}
use Rattle.std.proofs.lemmas.List.{drop_more, length-drop}
use Rattle.std.proofs.Math.ListN.{drop_of_length-le}
use Rattle.std.proofs.Math.Seq.{take-length}
use Rattle.std.specs.List.{remove, slice_range}
use Rattle.tre_offline.specs.MatchSet.{IsMatchSet, AreMatchesAmong}
use Rattle.tre_pairs.specs.Except.{Except}
use Rattle.tre_pairs.specs.Pairs.{Pairs}
use Rattle.tre_show.specs.Order.{IsRising}
use Rattle.tre_syntax.specs.Meaning.{Matches}
use Rattle.tre_syntax.specs.Pattern.{pattern_tree}
use Rattle.tre_syntax.specs.Rest.{whole}
use Rattle.tre_syntax.specs.declared.pattern.Pattern.{Pattern}
use Rattle.tre_syntax.proofs.CutMeaning.{IsOrdered-rest}
use Rattle.tre_tell.specs.Sought.{Sought, sought_by}
use Rattle.tre_trace.specs.Trace.{Timeline}
use Rattle.tre_zone.specs.ZoneList.{SetHolds, AreCanonical, AreTight, HoldExactly}
use Rattle.tre_zone.specs.declared.zone_bounds.ZoneBounds.{ZoneBounds}
use Rattle.tre_zone.proofs.Scaling.{SetHolds-rising}
use Rattle.tre_zoneset.specs.ZoneSet.{IsZoneSet}
use Rattle.tre_answer.specs.Wanted.{MatchesSome, IsWanted, AreZonesOf}
use Rattle.tre_answer.proofs.Strips.{AreStrips-pairs}

-- the first time of a pair that is wanted isn't after the second
pub wanted_rises : (patterns : List Sought) (traces : List Timeline) (a b n : ℕ)
    → IsWanted patterns traces a b n → a ≤ b
wanted_rises (pattern ∷ patterns) (trace ∷ traces) a b n wanted =
    (IsOrdered-rest pattern.tree (whole trace)).le a b n wanted.0
wanted_rises [] traces a b n wanted = absurd wanted
wanted_rises (pattern ∷ patterns) [] a b n wanted = absurd wanted

-- zones that hold just what is wanted hold the same pairs
pub wanted_same : (patterns : List Sought) (traces : List Timeline) (zones : List ZoneBounds)
    → AreCanonical zones → HoldExactly zones (IsWanted patterns traces)
    → (a b n : ℕ) → 0 < n → SetHolds zones a b n ↔ IsWanted patterns traces a b n
wanted_same patterns traces zones canonical held a b n positive = (
  (λ h. (held.exact a b n positive (SetHolds-rising zones canonical a b n positive h)).0 h),
  (λ h. (held.exact a b n positive (wanted_rises patterns traces a b n h)).1 h),
)

-- what a job asks for of a set of what is wanted is right
pub AreZonesOf-wanted : (normal : Bool) (patterns : List Sought) (traces : List Timeline)
    (set zones : List ZoneBounds) → AreCanonical set
    → HoldExactly set (IsWanted patterns traces) → AreZonesOf normal (SetHolds set) zones
    → AreZonesOf normal (IsWanted patterns traces) zones
AreZonesOf-wanted normal patterns traces set zones canonical held of = record {
  exact = record {
    exact = λ a b n positive rises.
        let told = of.exact.exact a b n positive rises in
        let wanted = held.exact a b n positive rises in
        ((λ h. wanted.0 (told.0 h)), (λ h. told.1 (wanted.1 h)));
  };
  apart = of.apart;
  tight = of.tight;
  rising = of.rising;
  strips = λ asked. AreStrips-pairs (SetHolds set) (IsWanted patterns traces)
      (wanted_same patterns traces set canonical held) zones (of.strips asked);
}

-- a match of one of the patterns from this place on, behind these labels
abbrev IsStill : List (List ℕ) → List Pattern → List Timeline → ℕ → Pairs
IsStill labels patterns traces place = MatchesSome
    (sought_by (drop place labels) (drop place patterns)) (drop place traces)

-- The zones hold what is left of the set without the matches of the patterns, and what the matches
-- from this place on still take away.
pub record AreLeft (set : List ZoneBounds) (patterns : List Pattern) (traces : List Timeline)
    (place : ℕ) (zones : List ZoneBounds) : Type 0 where
  pub exact : (labels : List (List ℕ)) → length labels ≡ length patterns → (a b n : ℕ) → 0 < n
      → a ≤ b → Except (SetHolds set) (MatchesSome (sought_by labels patterns) traces) a b n
      ↔ (SetHolds zones a b n × ¬ IsStill labels patterns traces place a b n)

-- before the first nothing is taken away
pub AreLeft-first : (set : List ZoneBounds) (patterns : List Pattern) (traces : List Timeline)
    → AreLeft set patterns traces 0 set
AreLeft-first set patterns traces = record {
  exact = λ labels labelled a b n positive rises.
      ((λ h. (h.related, h.never)), (λ h. record { related = h.0; never = h.1 }));
}

-- and less the matches of the next
pub AreLeft-next : (start : List ZoneBounds) (patterns : List Pattern) (traces : List Timeline)
    (place : ℕ) (pattern : Pattern) (trace : Timeline) (set others left : List ZoneBounds)
    → AreLeft start patterns traces place set → place < length patterns
    → length traces ≡ length patterns → pattern ≡ get_or patterns place pattern
    → trace ≡ get_or traces place trace
    → AreMatchesAmong others (pattern_tree pattern) trace set
    → HoldExactly left (Except (SetHolds set) (SetHolds others))
    → AreLeft start patterns traces (place + 1) left
AreLeft-next start patterns traces place pattern trace set others left before inside count is is'
    matches differs = record {
      exact = λ labels labelled a b n positive rises.
          let own = before.exact labels labelled a b n positive rises in
          let taken = matches.exact a b n positive rises in
          let both = differs.exact a b n positive rises in
          let next = still labels labelled a b n in (
            (λ h.
                let was = own.0 h in (
                  both.1 (record {
                    related = was.0;
                    never = λ m. was.1 (next.1 (inl ((taken was.0).0 m)));
                  }),
                  λ more. was.1 (next.1 (inr more)),
                )),
            (λ h.
                let was = both.0 h.0 in
                own.1 (
                  was.related,
                  λ more. ⊎_elim (λ m. was.never ((taken was.related).1 m)) h.1
                      (next.0 more),
                )),
          );
    }
  where
    still : (labels : List (List ℕ)) → length labels ≡ length patterns → (a b n : ℕ)
        → IsStill labels patterns traces place a b n
        ↔ (Matches (pattern_tree pattern) trace a b n
        ⊎ IsStill labels patterns traces (place + 1) a b n)
    still labels labelled a b n = rw (
      drop_more labels place [] (omega (arith, inside, labelled)),
      drop_more patterns place pattern inside,
      drop_more traces place trace (omega (arith, inside, count)),
      sym is,
      sym is',
    ) ((λ h. h), (λ h. h))

-- at the end nothing is still to be taken away
pub AreLeft-all : (set : List ZoneBounds) (patterns : List Pattern) (traces : List Timeline)
    (place : ℕ) (zones : List ZoneBounds) → AreLeft set patterns traces place zones
    → length patterns ≤ place → (labels : List (List ℕ)) → length labels ≡ length patterns
    → HoldExactly zones (Except (SetHolds set) (MatchesSome (sought_by labels patterns) traces))
AreLeft-all set patterns traces place zones left past labels labelled = record {
  exact = λ a b n positive rises.
      let own = left.exact labels labelled a b n positive rises in (
        (λ h. own.1 (h, λ more. none a b n more)),
        (λ h. (own.0 h).0),
      );
}
  where
    short : length labels ≤ place
    short = omega (arith, past, labelled)

    none : (a b n : ℕ) → IsStill labels patterns traces place a b n → ⊥
    none a b n = rw (drop_of_length-le labels short) (λ h. h)

-- what is behind the first
pub behind_first : (patterns : List Pattern)
    → slice_range patterns 1 (length patterns) ≡ drop 1 patterns
behind_first patterns = subst (λ count. take count (drop 1 patterns) ≡ drop 1 patterns)
    (length-drop 1 patterns) (take-length (drop 1 patterns))

-- the first of them before the rest
pub first_removed : (traces later : List Timeline) (first : Timeline) → 0 < length traces
    → first ≡ get_or traces 0 first → later ≡ remove traces 0 → first ∷ later ≡ traces
first_removed [] later first some is behind = absurd (omega (arith, some))
first_removed (own ∷ traces) later first some is behind =
    let same : first ≡ own = is in
    let rest : later ≡ traces = behind in
    rw (same, rest) refl

-- what is left of the matches of the first without those of the others is what is wanted
pub wanted-left : (patterns others : List Pattern) (traces later : List Timeline)
    (pattern : Pattern) (trace : Timeline) (set left : List ZoneBounds) → 0 < length patterns
    → length traces ≡ length patterns → pattern ≡ get_or patterns 0 pattern
    → others ≡ drop 1 patterns → trace ≡ get_or traces 0 trace → later ≡ remove traces 0
    → IsMatchSet set (pattern_tree pattern) trace
    → ((labels : List (List ℕ)) → length labels ≡ length others
    → HoldExactly left (Except (SetHolds set) (MatchesSome (sought_by labels others) later)))
    → (labels : List (List ℕ)) → length labels ≡ length patterns
    → HoldExactly left (IsWanted (sought_by labels patterns) traces)
wanted-left [] others traces later pattern trace set left some count is behind is' behind' matches
    less labels labelled = absurd (omega (arith, some))
wanted-left (first ∷ patterns) others [] later pattern trace set left some count is behind is'
    behind' matches less labels labelled = absurd (omega (arith, count))
wanted-left (first ∷ patterns) others (own ∷ traces) later pattern trace set left some count is
    behind is' behind' matches less [] labelled = absurd (omega (arith, labelled))
wanted-left (first ∷ patterns) others (own ∷ traces) later pattern trace set left some count is
    behind is' behind' matches less (label ∷ labels) labelled = record {
      exact = λ a b n positive rises.
          let same : pattern ≡ first = is in
          let same' : trace ≡ own = is' in
          let rest : others ≡ patterns = behind in
          let rest' : later ≡ traces = behind' in
          let found = rw (same, same') at matches.exact.exact a b n positive rises in
          let taken = rw (rest, rest') at
          (less labels (omega (arith, labelled, ap length rest))).exact a b n positive rises in (
            (λ h. let was = taken.0 h in (found.0 was.related, was.never)),
            (λ h. taken.1 (record { related = found.1 h.0; never = h.1 })),
          );
    }

-- the matches of the only pattern are what is wanted
pub wanted-one : (patterns : List Pattern) (traces : List Timeline) (pattern : Pattern)
    (trace : Timeline) (zones : List ZoneBounds) → 0 < length patterns → length patterns ≤ 1
    → length traces ≡ length patterns → pattern ≡ get_or patterns 0 pattern
    → trace ≡ get_or traces 0 trace
    → HoldExactly zones (Matches (pattern_tree pattern) trace)
    → (labels : List (List ℕ)) → length labels ≡ length patterns
    → HoldExactly zones (IsWanted (sought_by labels patterns) traces)
wanted-one [] traces pattern trace zones some one count is is' held labels labelled =
    absurd (omega (arith, some))
wanted-one (first ∷ other ∷ more) traces pattern trace zones some one count is is' held labels
    labelled = absurd (omega (arith, one))
wanted-one (first ∷ []) [] pattern trace zones some one count is is' held labels labelled =
    absurd (omega (arith, count))
wanted-one (first ∷ []) (own ∷ traces) pattern trace zones some one count is is' held [] labelled =
    absurd (omega (arith, labelled))
wanted-one (first ∷ []) (own ∷ traces) pattern trace zones some one count is is' held
    (label ∷ labels) labelled = record {
      exact = λ a b n positive rises.
          let same : pattern ≡ first = is in
          let same' : trace ≡ own = is' in
          let found = rw (same, same') at held.exact a b n positive rises in
          ((λ h. (found.0 h, none labels traces a b n)), (λ h. found.1 h.0));
    } where
      none : (labels : List (List ℕ)) (traces : List Timeline) (a b n : ℕ)
          → MatchesSome (sought_by labels []) traces a b n → ⊥
      none [] traces a b n some = some
      none (label ∷ labels) traces a b n some = some

-- zones that are listed as they stand
pub listed-themselves : (normal : Bool) (zones : List ZoneBounds) → normal ≡ false
    → IsZoneSet zones → AreTight zones → IsRising zones
    → AreZonesOf normal (SetHolds zones) zones
listed-themselves normal zones not set tight rising = record {
  exact = record { exact = λ a b n some le. ((λ h. h), (λ h. h)) };
  apart = set.apart;
  tight = tight;
  rising = rising;
  strips = λ asked. absurd (true≢false (sym asked ∙ not));
}
