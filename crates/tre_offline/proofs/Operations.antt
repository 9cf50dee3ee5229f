-- The short matches of each operator, from those of its parts.
use Rattle.std.proofs.Common.{◌≡◌, ◌↔◌, ◌-◌, ℕ, List, Option, Result, IfOk, inl, inr, ⊎_elim, sym, subst}
use Rattle.std.proofs.lemmas.Result.{IfOk-weaker}
use Rattle.tre_pairs.specs.Pairs.{Pairs, Composed, Either, Both, Lasting, Chain}
use Rattle.tre_pairs.proofs.Laws.{IsOrdered, IsInstant, Agree}
use Rattle.tre_pairs.proofs.Agreement.{Agree-Composed, Agree-Chain, Agree-Lasting}
use Rattle.tre_pairs.proofs.Chains.{Composed-assoc, Chain-none}
use Rattle.tre_pairs.proofs.Order.{IsOrdered-Lasting, IsOrdered-Chain}
use Rattle.tre_pairs.proofs.Shortening.{Agree-trans, Lasting-Composed, Lasting-Chain, Lasting-Either}
use Rattle.tre_zone.specs.Interval.{IntervalEnds, LastsWithin}
use Rattle.tre_zone.specs.Longest.{LastsUpTo}
use Rattle.tre_zone.proofs.Lasting.{LastsUpTo-downward, LastsUpTo-scales}
use Rattle.tre_zone.specs.Zone.{IsInstantBetween}
use Rattle.tre_zone.specs.ZoneList.{SetHolds, HoldExactly}
use Rattle.tre_zone.specs.declared.zone_bounds.ZoneBounds.{ZoneBounds}
use Rattle.tre_zoneset.specs.ZoneSet.{IsZoneSet}
use Rattle.tre_trace.specs.Trace.{end_of}
use Rattle.tre_syntax.specs.Meaning.{MatchesRest}
use Rattle.tre_syntax.specs.PatternTree.{PatternTree, atom, empty, sequence, alternation, intersection, repetition, restriction}
use Rattle.tre_syntax.specs.Rest.{Rest, AtomMatches}
use Rattle.tre_syntax.proofs.Atoms.{Scales-Atom}
use Rattle.tre_syntax.proofs.CutMeaning.{IsOrdered-rest}
use Rattle.tre_syntax.proofs.MeaningLaws.{Scales-Meaning}
use Rattle.tre_syntax.proofs.Repeating.{repetition_nested}
use Rattle.tre_offline.specs.Lengths.{LastUpTo, IsRepetition, IsOwnIteration, Spans}
use Rattle.tre_offline.proofs.Iterating.{repetition_once, repetition_option}
use Rattle.tre_offline.proofs.Spanning.{repetition_spanned}
use Rattle.tre_offline.proofs.Unions.{Agree-held, HoldExactly-agree}

-- The moments of a rest.
Agree-moments : (rest : Rest)
    → Agree (IsInstantBetween rest.start (end_of rest.start rest.segments)) (AtomMatches rest empty)
Agree-moments rest = record {
  at = λ a b n some. (
    (λ h. record { begin = h.starts; same = h.same; end = h.ends }),
    (λ h. record { starts = h.begin; same = h.same; ends = h.end }),
  );
}

IsInstant-moments : (rest : Rest) → IsInstant (AtomMatches rest empty)
IsInstant-moments rest = record { same = λ a b n h. h.same }

-- Of a list that was cut to durations: the pairs of all that last so long.
pub lasting_exact : (D : ℕ → ℕ → Type 0) (P : Pairs) (all zones : List ZoneBounds)
    → HoldExactly all P → HoldExactly zones (Lasting D (SetHolds all))
    → HoldExactly zones (Lasting D P)
lasting_exact D P all zones exact held = record {
  exact = λ a b n some le.
      let one = held.exact a b n some le in
      let two = exact.exact a b n some le in (
        (λ h. let x = one.0 h in record { related = two.0 x.related; admitted = x.admitted }),
        (λ h. one.1 (record { related = two.1 h.related; admitted = h.admitted })),
      );
}

module _ (longest : Option ℕ) (tree : PatternTree) (rest : Rest) where
  -- The short matches of the expression.
  abbrev Short : Pairs
  Short = Lasting (LastsUpTo longest) (MatchesRest tree rest)

  IsOrdered-short : IsOrdered Short
  IsOrdered-short = IsOrdered-Lasting (LastsUpTo longest) (MatchesRest tree rest)
      (IsOrdered-rest tree rest)

  pub shortened_exact : (all zones : List ZoneBounds) → HoldExactly all (MatchesRest tree rest)
      → HoldExactly zones (Lasting (LastsUpTo longest) (SetHolds all)) → HoldExactly zones Short
  shortened_exact all zones exact held =
      lasting_exact (LastsUpTo longest) (MatchesRest tree rest) all zones exact held

module _ (longest : Option ℕ) (left right : PatternTree) (rest : Rest)
    (one other zones : List ZoneBounds)
    (first : HoldExactly one (Short longest left rest))
    (second : HoldExactly other (Short longest right rest)) where
  pub sequence_exact : IsZoneSet one → IsZoneSet other
      → HoldExactly zones (Lasting (LastsUpTo longest) (Composed (SetHolds one) (SetHolds other)))
      → HoldExactly zones (Short longest (sequence left right) rest)
  sequence_exact set set' =
      HoldExactly-agree zones
      (Lasting (LastsUpTo longest) (Composed (SetHolds one) (SetHolds other)))
      (Short longest (sequence left right) rest)
      (Agree-trans
      (Lasting (LastsUpTo longest) (Composed (SetHolds one) (SetHolds other)))
      (Lasting (LastsUpTo longest)
      (Composed (Short longest left rest) (Short longest right rest)))
      (Short longest (sequence left right) rest)
      (Agree-Lasting (LastsUpTo longest) (Composed (SetHolds one) (SetHolds other))
      (Composed (Short longest left rest) (Short longest right rest))
      (Agree-Composed (SetHolds one) (Short longest left rest)
      (SetHolds other) (Short longest right rest)
      (Agree-held one (Short longest left rest) set (IsOrdered-short longest left rest) first)
      (Agree-held other (Short longest right rest) set' (IsOrdered-short longest right rest)
      second)))
      (Lasting-Composed (LastsUpTo longest) (LastsUpTo-downward longest)
      (LastsUpTo-scales longest) (MatchesRest left rest) (MatchesRest right rest)
      (IsOrdered-rest left rest) (IsOrdered-rest right rest)))

  pub alternation_exact : HoldExactly zones (Either (SetHolds one) (SetHolds other))
      → HoldExactly zones (Short longest (alternation left right) rest)
  alternation_exact held = record {
    exact = λ a b n some le.
        let whole = held.exact a b n some le in
        let l = first.exact a b n some le in
        let r = second.exact a b n some le in
        let same = (Lasting-Either (LastsUpTo longest) (MatchesRest left rest)
        (MatchesRest right rest)).at a b n some in (
          (λ h. same.0 (⊎_elim (λ x. inl (l.0 x)) (λ x. inr (r.0 x)) (whole.0 h))),
          (λ h. whole.1 (⊎_elim (λ x. inl (l.1 x)) (λ x. inr (r.1 x)) (same.1 h))),
        );
  }

-- Of an intersection the one side may be cut to a longest duration within which the other keeps.
pub intersection_exact : (longest inner : Option ℕ) (left right : PatternTree) (rest : Rest)
    (one other zones : List ZoneBounds) → LastUpTo inner one
    → HoldExactly one (Short longest left rest) → HoldExactly other (Short inner right rest)
    → HoldExactly zones (Both (SetHolds one) (SetHolds other))
    → HoldExactly zones (Short longest (intersection left right) rest)
    × HoldExactly zones (Short longest (intersection right left) rest)
intersection_exact longest inner left right rest one other zones all first second held = (
  record {
    exact = λ a b n some le.
        let whole = held.exact a b n some le in
        let l = first.exact a b n some le in
        let r = second.exact a b n some le in (
          (λ h.
              let x = whole.0 h in
              let y = l.0 x.left in
              record {
                related = record { left = y.related; right = (r.0 x.right).related };
                admitted = y.admitted;
              }),
          (λ h.
              let y = l.1 (record { related = h.related.left; admitted = h.admitted }) in
              whole.1 (record {
                left = y;
                right = r.1 (record {
                  related = h.related.right;
                  admitted = all.each a b n some le y;
                });
              })),
        );
  },
  record {
    exact = λ a b n some le.
        let whole = held.exact a b n some le in
        let l = first.exact a b n some le in
        let r = second.exact a b n some le in (
          (λ h.
              let x = whole.0 h in
              let y = l.0 x.left in
              record {
                related = record { left = (r.0 x.right).related; right = y.related };
                admitted = y.admitted;
              }),
          (λ h.
              let y = l.1 (record { related = h.related.right; admitted = h.admitted }) in
              whole.1 (record {
                left = y;
                right = r.1 (record {
                  related = h.related.left;
                  admitted = all.each a b n some le y;
                });
              })),
        );
  },
)

-- The short matches of an expression are those of one that matches the same pairs.
same_exact : (longest : Option ℕ) (one other : PatternTree) (rest : Rest) (zones : List ZoneBounds)
    → ((a b n : ℕ) → MatchesRest one rest a b n ↔ MatchesRest other rest a b n)
    → HoldExactly zones (Short longest one rest) → HoldExactly zones (Short longest other rest)
same_exact longest one other rest zones same =
    HoldExactly-agree zones (Short longest one rest) (Short longest other rest)
    (record {
      at = λ a b n some.
          let told = same a b n in (
            (λ h. record { related = told.0 h.related; admitted = h.admitted }),
            (λ h. record { related = told.1 h.related; admitted = h.admitted }),
          );
    })

-- A repetition of a repetition is that repetition.
pub nested_exact : (longest : Option ℕ) (tree : PatternTree) (rest : Rest)
    (zones : List ZoneBounds) → IsRepetition tree → HoldExactly zones (Short longest tree rest)
    → HoldExactly zones (Short longest (repetition tree) rest)
nested_exact longest tree rest zones is held =
    subst (λ (t : PatternTree). HoldExactly zones (Short longest (repetition t) rest))
    (sym is.whole)
    (same_exact longest (repetition is.step) (repetition (repetition is.step)) rest zones
    (λ a b n.
    let same = repetition_nested is.step rest a b n in (same.1, same.0))
    (subst (λ (t : PatternTree). HoldExactly zones (Short longest t rest)) is.whole held))

-- A repetition of an expression one or more times is its repetition.
pub iteration_exact : (longest : Option ℕ) (once more : PatternTree) (rest : Rest)
    (zones : List ZoneBounds) → more ≡ repetition once
    → HoldExactly zones (Short longest more rest)
    → HoldExactly zones (Short longest (repetition (sequence once more)) rest)
iteration_exact longest once more rest zones is held =
    subst (λ (t : PatternTree).
    HoldExactly zones (Short longest (repetition (sequence once t)) rest)) (sym is)
    (same_exact longest (repetition once) (repetition (sequence once (repetition once))) rest zones
    (λ a b n.
    let same = repetition_once once rest a b n in (same.1, same.0))
    (subst (λ (t : PatternTree). HoldExactly zones (Short longest t rest)) is held))

-- One or more times what is its own iteration is that.
pub iterated_exact : (longest : Option ℕ) (first second : PatternTree) (rest : Rest)
    (zones : List ZoneBounds) → IsOwnIteration first → second ≡ repetition first
    → HoldExactly zones (Short longest first rest)
    → HoldExactly zones (Short longest (sequence first second) rest)
iterated_exact longest first second rest zones own again held =
    subst (λ (t : PatternTree). HoldExactly zones (Short longest (sequence first t) rest))
    (sym again)
    (same_exact longest first (sequence first (repetition first)) rest zones
    (λ a b n. let same = own.same rest a b n in (same.1, same.0)) held)

-- A sequence of three is found from its end too.
pub turned_exact : (longest : Option ℕ) (begin middle right : PatternTree) (rest : Rest)
    (zones : List ZoneBounds) → HoldExactly zones (Short longest (sequence begin (sequence middle right)) rest)
    → HoldExactly zones (Short longest (sequence (sequence begin middle) right) rest)
turned_exact longest begin middle right rest zones =
    same_exact longest (sequence begin (sequence middle right))
    (sequence (sequence begin middle) right) rest zones
    (λ a b n.
    let same = Composed-assoc (MatchesRest begin rest) (MatchesRest middle rest)
    (MatchesRest right rest) (Scales-Meaning (AtomMatches rest) (Scales-Atom rest) begin)
    (Scales-Meaning (AtomMatches rest) (Scales-Atom rest) right) a b n in (same.1, same.0))

-- A repetition or the empty stretch is the repetition.
pub option_exact : (longest : Option ℕ) (left right : PatternTree) (rest : Rest)
    (zones : List ZoneBounds) → IsRepetition left → right ≡ atom empty
    → HoldExactly zones (Short longest left rest)
    → HoldExactly zones (Short longest (alternation left right) rest)
option_exact longest left right rest zones is none held =
    subst (λ (t : PatternTree). HoldExactly zones (Short longest (alternation left t) rest))
    (sym none)
    (same_exact longest left (alternation left (atom empty)) rest zones
    (λ a b n. (
      λ h. inl h,
      ⊎_elim (λ h. h)
          (λ h.
          subst (λ (t : PatternTree). MatchesRest t rest a b n) (sym is.whole)
          (Chain-none (MatchesRest is.step rest) (AtomMatches rest empty) a b n h)),
    ))
    held)

-- A repetition of an expression or the empty stretch is that of the expression.
pub options_exact : (longest : Option ℕ) (once none : PatternTree) (rest : Rest)
    (zones : List ZoneBounds) → none ≡ atom empty
    → HoldExactly zones (Short longest (repetition once) rest)
    → HoldExactly zones (Short longest (repetition (alternation once none)) rest)
options_exact longest once none rest zones is held =
    subst (λ (t : PatternTree).
    HoldExactly zones (Short longest (repetition (alternation once t)) rest)) (sym is)
    (same_exact longest (repetition once) (repetition (alternation once (atom empty))) rest zones
    (λ a b n. let same = repetition_option once rest a b n in (same.1, same.0)) held)

-- Any number of matches of what spans are the empty stretch or a match.
pub spanned_exact : (longest : Option ℕ) (step : PatternTree) (rest : Rest)
    (zones : List ZoneBounds) → Spans step
    → HoldExactly zones (Short longest (alternation (atom empty) step) rest)
    → HoldExactly zones (Short longest (repetition step) rest)
spanned_exact longest step rest zones spans =
    same_exact longest (alternation (atom empty) step) (repetition step) rest zones
    (repetition_spanned step spans rest)

module _ (longest : Option ℕ) (tree : PatternTree) (rest : Rest) (all zones : List ZoneBounds)
    (inner : HoldExactly all (Short longest tree rest)) where
  over : HoldExactly zones (Lasting (LastsUpTo longest)
      (Chain (SetHolds all) (IsInstantBetween rest.start (end_of rest.start rest.segments))))
      → IsZoneSet all → HoldExactly zones (Short longest (repetition tree) rest)
  over held set =
      let moments = IsInstantBetween rest.start (end_of rest.start rest.segments) in
      let points = AtomMatches rest empty in
      HoldExactly-agree zones (Lasting (LastsUpTo longest) (Chain (SetHolds all) moments))
      (Short longest (repetition tree) rest)
      (Agree-trans (Lasting (LastsUpTo longest) (Chain (SetHolds all) moments))
      (Lasting (LastsUpTo longest) (Chain (Short longest tree rest) points))
      (Short longest (repetition tree) rest)
      (Agree-Lasting (LastsUpTo longest) (Chain (SetHolds all) moments)
      (Chain (Short longest tree rest) points)
      (Agree-Chain (SetHolds all) (Short longest tree rest) moments points
      (Agree-held all (Short longest tree rest) set (IsOrdered-short longest tree rest) inner)
      (Agree-moments rest)))
      (Lasting-Chain (LastsUpTo longest) (LastsUpTo-downward longest) (LastsUpTo-scales longest)
      (MatchesRest tree rest) points (IsOrdered-rest tree rest) (IsInstant-moments rest)))
      held

  pub repetition_exact : (begin end : ℕ) → begin ≡ rest.start
      → end ≡ end_of rest.start rest.segments → IsZoneSet all
      → HoldExactly zones (Lasting (LastsUpTo longest)
      (Chain (SetHolds all) (IsInstantBetween begin end)))
      → HoldExactly zones (Short longest (repetition tree) rest)
  repetition_exact begin end begins ends set held =
      let P : ℕ → ℕ → Type 0 =
      λ (t t' : ℕ). HoldExactly zones
      (Lasting (LastsUpTo longest) (Chain (SetHolds all) (IsInstantBetween t t'))) in
      let from = subst (λ (t : ℕ). P t end) begins held in
      over (subst (λ (t : ℕ). P rest.start t) ends from) set

  -- The short ones of one match or more, from those of one.
  steps_over : Agree
      (Lasting (LastsUpTo longest)
      (Composed (Short longest tree rest) (Chain (Short longest tree rest)
      (AtomMatches rest empty))))
      (Short longest (sequence tree (repetition tree)) rest)
  steps_over =
      let D = LastsUpTo longest in
      let R = Short longest tree rest in
      let points = AtomMatches rest empty in
      let all_chains = Chain R points in
      let chains = Lasting D (MatchesRest (repetition tree) rest) in
      let lasts = IsOrdered-short longest tree rest in
      let cut = Lasting-Composed D (LastsUpTo-downward longest) (LastsUpTo-scales longest) R
      all_chains lasts (IsOrdered-Chain R points lasts (IsInstant-moments rest)) in
      let whole = Lasting-Composed D (LastsUpTo-downward longest) (LastsUpTo-scales longest)
      (MatchesRest tree rest) (MatchesRest (repetition tree) rest) (IsOrdered-rest tree rest)
      (IsOrdered-rest (repetition tree) rest) in
      let inner = Lasting-Chain D (LastsUpTo-downward longest) (LastsUpTo-scales longest)
      (MatchesRest tree rest) points (IsOrdered-rest tree rest) (IsInstant-moments rest) in
      let parts = Agree-Lasting D (Composed (Lasting D R) (Lasting D all_chains))
      (Composed R chains)
      (Agree-Composed (Lasting D R) R (Lasting D all_chains) chains
      (record {
        at = λ a b n some. (
          (λ h. h.related),
          (λ h. record { related = h; admitted = h.admitted }),
        );
      })
      inner) in
      record {
        at = λ a b n some. (
          (λ h. (whole.at a b n some).0 ((parts.at a b n some).0 ((cut.at a b n some).1 h))),
          (λ h. (cut.at a b n some).0 ((parts.at a b n some).1 ((whole.at a b n some).1 h))),
        );
      }

  steps_found : HoldExactly zones (Lasting (LastsUpTo longest)
      (Composed (SetHolds all)
      (Chain (SetHolds all) (IsInstantBetween rest.start (end_of rest.start rest.segments)))))
      → IsZoneSet all → HoldExactly zones (Short longest (sequence tree (repetition tree)) rest)
  steps_found held set =
      let moments = IsInstantBetween rest.start (end_of rest.start rest.segments) in
      let points = AtomMatches rest empty in
      let short = Short longest tree rest in
      let same = Agree-held all short set (IsOrdered-short longest tree rest) inner in
      HoldExactly-agree zones
      (Lasting (LastsUpTo longest) (Composed (SetHolds all) (Chain (SetHolds all) moments)))
      (Short longest (sequence tree (repetition tree)) rest)
      (Agree-trans
      (Lasting (LastsUpTo longest) (Composed (SetHolds all) (Chain (SetHolds all) moments)))
      (Lasting (LastsUpTo longest) (Composed short (Chain short points)))
      (Short longest (sequence tree (repetition tree)) rest)
      (Agree-Lasting (LastsUpTo longest) (Composed (SetHolds all) (Chain (SetHolds all) moments))
      (Composed short (Chain short points))
      (Agree-Composed (SetHolds all) short (Chain (SetHolds all) moments) (Chain short points) same
      (Agree-Chain (SetHolds all) short moments points same (Agree-moments rest))))
      steps_over)
      held

  pub iteration_found : (begin end : ℕ) → begin ≡ rest.start
      → end ≡ end_of rest.start rest.segments → IsZoneSet all
      → HoldExactly zones (Lasting (LastsUpTo longest)
      (Composed (SetHolds all) (Chain (SetHolds all) (IsInstantBetween begin end))))
      → HoldExactly zones (Short longest (sequence tree (repetition tree)) rest)
  iteration_found begin end begins ends set held =
      let P : ℕ → ℕ → Type 0 =
      λ (t t' : ℕ). HoldExactly zones (Lasting (LastsUpTo longest)
      (Composed (SetHolds all) (Chain (SetHolds all) (IsInstantBetween t t')))) in
      let from = subst (λ (t : ℕ). P t end) begins held in
      steps_found (subst (λ (t : ℕ). P rest.start t) ends from) set

-- Inside an interval the part may be cut to a longest duration of its own.
pub restriction_exact : (inner longest : Option ℕ) (tree : PatternTree) (ends : IntervalEnds)
    (rest : Rest) (all zones : List ZoneBounds)
    → ((d n : ℕ) → LastsWithin ends d n → LastsUpTo inner d n ↔ LastsUpTo longest d n)
    → HoldExactly all (Short inner tree rest)
    → HoldExactly zones (Lasting (LastsWithin ends) (SetHolds all))
    → HoldExactly zones (Short longest (restriction tree ends) rest)
restriction_exact inner longest tree ends rest all zones same exact held = record {
  exact = λ a b n some le.
      let one = held.exact a b n some le in
      let two = exact.exact a b n some le in (
        (λ h.
            let x = one.0 h in
            let y = two.0 x.related in
            record {
              related = record { related = y.related; admitted = x.admitted };
              admitted = (same (b - a) n x.admitted).0 y.admitted;
            }),
        (λ h. one.1 (record {
          related = two.1 (record {
            related = h.related.related;
            admitted = (same (b - a) n h.related.admitted).1 h.admitted;
          });
          admitted = h.related.admitted;
        })),
      );
}

-- The short matches of an expression are those of the operator at its top.
pub short_of_form : {E : Type 0} {whole form : PatternTree} (result : Result (List ZoneBounds) E)
    (longest : Option ℕ) (rest : Rest) → whole ≡ form → (P : List ZoneBounds → Type 0)
    → ((zones : List ZoneBounds) → P zones → HoldExactly zones (Short longest form rest))
    → IfOk result P → IfOk result (λ zones. HoldExactly zones (Short longest whole rest))
short_of_form result longest rest is P exact given =
    IfOk-weaker result P _
    (λ zones told.
    subst (λ (tree : PatternTree). HoldExactly zones (Short longest tree rest)) (sym is)
    (exact zones told))
    given
