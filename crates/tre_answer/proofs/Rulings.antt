-- The ruling on one check, and on those behind it.
use Rattle.std.proofs.Common.{◌≡◌, ◌↔◌, ◌∙◌, ℕ, zero, suc, ◌+◌, ◌<◌, ◌≤◌, Bool, List, [], ◌∷◌, ◌++◌, length, take, drop, get_or, refl, sym, ap, subst, append_assoc, append-nil, arith}
use Rattle.std.proofs.lemmas.List.{drop-drop, drop_all, drop_more, get_or-drop, length-drop}
use Rattle.std.specs.List.{remove}
use Rattle.tre_judge.proofs.Alike.{Alike, Alike-set, HasPair-back, HasPair-into, HoldExactly-alike}
use Rattle.tre_judge.proofs.Ordered.{IsOrdered-Shown}
use Rattle.tre_judge.specs.Verdicts.{HasPair, IsVerdict, Nothing, Shown, ShownOver}
use Rattle.tre_judge.specs.declared.verdict.Verdict.{Verdict}
use Rattle.tre_judge.specs.declared.verdict.Verdict.TheVariants.{Unjudged, Passed, Failed, Waiting, Vacuous}
use Rattle.tre_pairs.proofs.Laws.{IsOrdered}
use Rattle.tre_pairs.specs.Pairs.{Pairs}
use Rattle.tre_syntax.proofs.CutMeaning.{IsOrdered-rest}
use Rattle.tre_syntax.specs.Begun.{MayMatch}
use Rattle.tre_syntax.specs.Meaning.{Matches}
use Rattle.tre_syntax.specs.Pattern.{pattern_tree, names_of}
use Rattle.tre_syntax.specs.PatternTree.{PatternTree}
use Rattle.tre_syntax.specs.Rest.{whole}
use Rattle.tre_syntax.specs.declared.pattern.Pattern.{Pattern}
use Rattle.tre_tell.specs.Sought.{Sought, sought_by}
use Rattle.tre_trace.specs.Trace.{Timeline}
use Rattle.tre_watch.specs.Forms.{patterns_in, patterns_of}
use Rattle.tre_watch.specs.declared.form.Form.{Form}
use Rattle.tre_watch.specs.declared.form.Form.TheVariants.{Plain, Never, Found, Same, Follows}
use Rattle.tre_zone.specs.ZoneList.{SetHolds, HoldExactly, AreTight}
use Rattle.tre_zone.specs.declared.zone_bounds.ZoneBounds.{ZoneBounds}
use Rattle.tre_zoneset.specs.ZoneSet.{IsZoneSet}
use Rattle.tre_answer.specs.Findings.{AreFindings, Finding, IsJudgedSo}
use Rattle.tre_answer.specs.Listed.{AreWantedZones}
use Rattle.tre_answer.specs.Parts.{IsRuling}
use Rattle.tre_answer.specs.Wanted.{AreZonesOf, IsWanted}
use Rattle.tre_answer.proofs.Strips.{AreStrips-pairs}

-- ---- zones of the same pairs

AreZonesOf-alike : (normal : Bool) (R S : Pairs) (zones : List ZoneBounds) → Alike R S
    → AreZonesOf normal R zones → AreZonesOf normal S zones
AreZonesOf-alike normal R S zones same of = record {
  exact = HoldExactly-alike zones R S same of.exact;
  apart = of.apart;
  tight = of.tight;
  rising = of.rising;
  strips = λ asked. AreStrips-pairs R S same.each zones (of.strips asked);
}

-- the zones that are asked for of a set that holds just the pairs of an ordered relation
AreZonesOf-held : (normal : Bool) (R : Pairs) (set zones : List ZoneBounds) → IsZoneSet set
    → IsOrdered R → HoldExactly set R → AreZonesOf normal (SetHolds set) zones
    → AreZonesOf normal R zones
AreZonesOf-held normal R set zones is_set ordered held of =
    AreZonesOf-alike normal (SetHolds set) R zones (Alike-set set R is_set.canonical ordered held)
    of

ordered : (tree : PatternTree) (trace : Timeline) → IsOrdered (Matches tree trace)
ordered tree trace = IsOrdered-rest tree (whole trace)

-- ---- a check of two patterns

pub both_judged : (normal : Bool) (form : Form) (tree : PatternTree) (trace : Timeline)
    (second : PatternTree) (other : Timeline) (verdict : Verdict) (set zones : List ZoneBounds)
    → IsVerdict form verdict (Matches tree trace) (MayMatch second other) (Matches second other)
    → HoldExactly set (ShownOver form verdict tree trace second other) → IsZoneSet set
    → AreZonesOf normal (SetHolds set) zones
    → IsJudgedSo normal form tree trace second other verdict zones
both_judged normal form tree trace second other verdict set zones is held is_set of = record {
  verdict_is = is;
  shown = AreZonesOf-held normal _ set zones is_set
      (IsOrdered-Shown form verdict _ (MayMatch second other) (Matches second other)
      (ordered tree trace)) held of;
}

pub both_ruled : (normal : Bool) (form : Form) (patterns : List Pattern) (first second : Pattern)
    (trace other : Timeline) (verdict : Verdict) (zones : List ZoneBounds) → length patterns ≡ 2
    → first ≡ get_or patterns 0 first → second ≡ get_or patterns 1 second
    → IsJudgedSo normal form (pattern_tree first) trace (pattern_tree second) other verdict zones
    → IsRuling normal form patterns (trace ∷ other ∷ []) verdict zones
both_ruled normal form [] first second trace other verdict zones two is is' judged =
    absurd (omega (arith, two))
both_ruled normal form (p ∷ []) first second trace other verdict zones two is is' judged =
    absurd (omega (arith, two))
both_ruled normal form (p ∷ q ∷ []) first second trace other verdict zones two is is' judged =
    let same : first ≡ p = is in
    let same' : second ≡ q = is' in
    rw (same, same') at judged
both_ruled normal form (p ∷ q ∷ r ∷ patterns) first second trace other verdict zones two is is'
    judged = absurd (omega (arith, two))

-- ---- a check of one

-- the pairs of a relation that has none
nothing_there : (R : Pairs) → IsOrdered R → ¬ HasPair R → Alike R Nothing
nothing_there R ordered none = record {
  each = λ a b n some. (
    (λ h. none (record {
      a = a;
      b = b;
      n = n;
      positive = some;
      rising = ordered.le a b n h;
      there = h;
    })),
    (λ h. absurd h),
  );
}

module _ (normal : Bool) (tree : PatternTree) (trace : Timeline) (zones : List ZoneBounds)
    (of : AreZonesOf normal (Matches tree trace) zones) (second : PatternTree) (other : Timeline)
  where
    into : HasPair (SetHolds zones) → HasPair (Matches tree trace)
    into h = record {
      a = h.a;
      b = h.b;
      n = h.n;
      positive = h.positive;
      rising = h.rising;
      there = (of.exact.exact h.a h.b h.n h.positive h.rising).0 h.there;
    }

    back : HasPair (Matches tree trace) → HasPair (SetHolds zones)
    back h = record {
      a = h.a;
      b = h.b;
      n = h.n;
      positive = h.positive;
      rising = h.rising;
      there = (of.exact.exact h.a h.b h.n h.positive h.rising).1 h.there;
    }

    -- where its matches are shown, or there are none
    pub alone_judged : (form : Form) (verdict : Verdict) → patterns_of form ≡ 1
        → (form ≡ Found → ⊥) → IsVerdict form verdict (SetHolds zones) Nothing Nothing
        → IsJudgedSo normal form tree trace second other verdict zones
    alone_judged Plain Unjudged one found is = record { verdict_is = tt; shown = of }
    alone_judged Plain Passed one found is = absurd is
    alone_judged Plain Failed one found is = absurd is
    alone_judged Plain Waiting one found is = absurd is
    alone_judged Plain Vacuous one found is = absurd is
    alone_judged Never Unjudged one found is = absurd is
    alone_judged Never Passed one found is = record {
      verdict_is = λ h. is (back h);
      shown = AreZonesOf-alike normal (Matches tree trace) Nothing zones
          (nothing_there (Matches tree trace) (ordered tree trace) (λ h. is (back h))) of;
    }
    alone_judged Never Failed one found is = record { verdict_is = into is; shown = of }
    alone_judged Never Waiting one found is = absurd is
    alone_judged Never Vacuous one found is = absurd is
    alone_judged Found verdict one found is = absurd (found refl)
    alone_judged Same verdict one found is = absurd (omega (arith, one))
    alone_judged Follows verdict one found is = absurd (omega (arith, one))

-- what is listed of one pattern is its matches
only_matches : (pattern : Pattern) (trace : Timeline) (set : List ZoneBounds)
    → HoldExactly set (IsWanted (sought_by ([] ∷ []) (pattern ∷ [])) (trace ∷ []))
    → HoldExactly set (Matches (pattern_tree pattern) trace)
only_matches pattern trace set held = record {
  exact = λ a b n some le.
      let own = held.exact a b n some le in
      ((λ h. (own.0 h).0), (λ h. own.1 (h, λ none. none)));
}

pub listed_alone : (normal : Bool) (pattern : Pattern) (trace : Timeline)
    (zones : List ZoneBounds) → AreWantedZones normal (pattern ∷ []) (trace ∷ []) zones
    → AreZonesOf normal (Matches (pattern_tree pattern) trace) zones
listed_alone normal pattern trace zones listed = AreZonesOf-held normal _ listed.set zones
    listed.is_set (ordered (pattern_tree pattern) trace)
    (only_matches pattern trace listed.set (listed.exact ([] ∷ []) refl)) listed.asked

-- The zones and the verdict of one pattern are right for the pattern that stands alone.
pub alone_ruled : (normal : Bool) (form : Form) (patterns : List Pattern) (trace : Timeline)
    (verdict : Verdict) (zones : List ZoneBounds) → length patterns ≡ 1 → patterns_of form ≡ 1
    → (form ≡ Found → ⊥) → AreWantedZones normal patterns (trace ∷ []) zones
    → IsVerdict form verdict (SetHolds zones) Nothing Nothing
    → (pattern : Pattern) → pattern ≡ get_or patterns 0 pattern → (second : PatternTree)
    → (other : Timeline) → IsJudgedSo normal form (pattern_tree pattern) trace second other verdict
    zones
alone_ruled normal form [] trace verdict zones one form_one found listed is pattern same second
    other = absurd (omega (arith, one))
alone_ruled normal form (p ∷ []) trace verdict zones one form_one found listed is pattern same
    second other =
    let equal : pattern ≡ p = same in
    rw equal (alone_judged normal (pattern_tree p) trace zones (listed_alone normal p trace zones
    listed) second other form verdict form_one found is)
alone_ruled normal form (p ∷ q ∷ patterns) trace verdict zones one form_one found listed is pattern
    same second other = absurd (omega (arith, one))

-- ---- whether there is a match

found_verdict : (verdict : Verdict) (set : List ZoneBounds) (R M A : Pairs) → HoldExactly set R
    → IsVerdict Found verdict (SetHolds set) Nothing Nothing → IsVerdict Found verdict R M A
found_verdict Unjudged set R M A held is = absurd is
found_verdict Passed set R M A held is = record {
  a = is.a;
  b = is.b;
  n = is.n;
  positive = is.positive;
  rising = is.rising;
  there = (held.exact is.a is.b is.n is.positive is.rising).0 is.there;
}
found_verdict Failed set R M A held is = λ h. is (record {
  a = h.a;
  b = h.b;
  n = h.n;
  positive = h.positive;
  rising = h.rising;
  there = (held.exact h.a h.b h.n h.positive h.rising).1 h.there;
})
found_verdict Waiting set R M A held is = absurd is
found_verdict Vacuous set R M A held is = absurd is

none_held : (none : List ZoneBounds) → none ≡ [] → Alike (SetHolds none) Nothing
unfolding SetHolds
none_held none empty = rw empty (record { each = λ a b n some. ((λ h. h), (λ h. h)) })

found_shown : (verdict : Verdict) (normal : Bool) (R M A : Pairs) (zones : List ZoneBounds)
    → AreZonesOf normal Nothing zones → AreZonesOf normal (Shown Found verdict R M A) zones
found_shown Unjudged normal R M A zones of = of
found_shown Passed normal R M A zones of = of
found_shown Failed normal R M A zones of = of
found_shown Waiting normal R M A zones of = of
found_shown Vacuous normal R M A zones of = of

pub found_judged : (normal : Bool) (tree : PatternTree) (trace : Timeline) (verdict : Verdict)
    (set none zones : List ZoneBounds) → HoldExactly set (Matches tree trace)
    → IsVerdict Found verdict (SetHolds set) Nothing Nothing → none ≡ []
    → AreZonesOf normal (SetHolds none) zones → (second : PatternTree) → (other : Timeline)
    → IsJudgedSo normal Found tree trace second other verdict zones
found_judged normal tree trace verdict set none zones held is empty of second other = record {
  verdict_is = found_verdict verdict set (Matches tree trace) (MayMatch second other)
      (Matches second other) held is;
  shown = found_shown verdict normal (Matches tree trace) (MayMatch second other)
      (Matches second other) zones
      (AreZonesOf-alike normal (SetHolds none) Nothing zones (none_held none empty) of);
}

-- it stands alone
pub found_ruled : (normal : Bool) (patterns : List Pattern) (first : Pattern) (trace : Timeline)
    (verdict : Verdict) (zones : List ZoneBounds) → length patterns ≡ 1
    → first ≡ get_or patterns 0 first
    → ((second : PatternTree) (other : Timeline)
    → IsJudgedSo normal Found (pattern_tree first) trace second other verdict zones)
    → (pattern : Pattern) → pattern ≡ get_or patterns 0 pattern → (second : PatternTree)
    → (other : Timeline)
    → IsJudgedSo normal Found (pattern_tree pattern) trace second other verdict zones
found_ruled normal [] first trace verdict zones one is judged pattern is' second other =
    absurd (omega (arith, one))
found_ruled normal (p ∷ []) first trace verdict zones one is judged pattern is' second other =
    let same : pattern ≡ first = is' ∙ sym is in
    rw same (judged second other)
found_ruled normal (p ∷ q ∷ patterns) first trace verdict zones one is judged pattern is' second
    other = absurd (omega (arith, one))

-- ---- the next check

-- a form that hasn't one pattern has two
pub two_patterns : (form : Form) → (patterns_of form ≡ 1 → ⊥) → patterns_of form ≡ 2
two_patterns Plain other = absurd (other refl)
two_patterns Never other = absurd (other refl)
two_patterns Found other = absurd (other refl)
two_patterns Same other = refl
two_patterns Follows other = refl

pub removed : (traces left : List Timeline) → 0 < length traces → left ≡ remove traces 0
    → left ≡ drop 1 traces
removed [] left some is = absurd (omega (arith, some))
removed (trace ∷ traces) left some is = is

-- a ruling on one pattern that others stand behind
pub rule_first : (normal : Bool) (form : Form) (patterns one : List Pattern)
    (traces : List Timeline) (trace : Timeline) (verdict : Verdict) (zones : List ZoneBounds)
    → 1 ≤ length patterns → 0 < length traces → one ≡ take 1 patterns
    → trace ≡ get_or traces 0 trace
    → ((pattern : Pattern) → pattern ≡ get_or one 0 pattern → (second : PatternTree)
    → (other : Timeline)
    → IsJudgedSo normal form (pattern_tree pattern) trace second other verdict zones)
    → IsRuling normal form patterns traces verdict zones
rule_first normal form [] one traces trace verdict zones some some' front first judged =
    absurd (omega (arith, some))
rule_first normal form (p ∷ patterns) one [] trace verdict zones some some' front first judged =
    absurd (omega (arith, some'))
rule_first normal form (p ∷ patterns) one (t ∷ traces) trace verdict zones some some' front first
    judged =
    let same : trace ≡ t = first in
    rw same at (judged p (rw front refl) (pattern_tree (get_or patterns 0 p)) (get_or traces 0 t))

-- a ruling on two
pub rule_two : (normal : Bool) (form : Form) (patterns two : List Pattern)
    (traces left : List Timeline) (trace other : Timeline) (verdict : Verdict)
    (zones : List ZoneBounds) → 2 ≤ length patterns → 2 ≤ length traces → two ≡ take 2 patterns
    → trace ≡ get_or traces 0 trace → left ≡ drop 1 traces → other ≡ get_or left 0 other
    → IsRuling normal form two (trace ∷ other ∷ []) verdict zones
    → IsRuling normal form patterns traces verdict zones
rule_two normal form [] two traces left trace other verdict zones some some' front first behind next
    ruling = absurd (omega (arith, some))
rule_two normal form (p ∷ []) two traces left trace other verdict zones some some' front first
    behind next ruling = absurd (omega (arith, some))
rule_two normal form (p ∷ q ∷ patterns) two [] left trace other verdict zones some some' front first
    behind next ruling = absurd (omega (arith, some'))
rule_two normal form (p ∷ q ∷ patterns) two (t ∷ []) left trace other verdict zones some some' front
    first behind next ruling = absurd (omega (arith, some'))
rule_two normal form (p ∷ q ∷ patterns) two (t ∷ u ∷ traces) left trace other verdict zones some
    some' front first behind next ruling =
    let same : trace ≡ t = first in
    let same' : other ≡ u = rw behind at next in
    rw (front, same, same') at ruling

-- ---- all checks

second_tree : (label : List ℕ) (pattern : Pattern) (labels : List (List ℕ))
    (patterns : List Pattern) → length labels ≡ length patterns
    → pattern_tree (get_or patterns 0 pattern)
    ≡ (get_or (sought_by labels patterns) 0 (record {
      label = label;
      tree = pattern_tree pattern;
      names = names_of pattern;
    })).tree
second_tree label pattern [] [] same = refl
second_tree label pattern [] (p ∷ patterns) same = absurd (omega (arith, same))
second_tree label pattern (l ∷ labels) [] same = absurd (omega (arith, same))
second_tree label pattern (l ∷ labels) (p ∷ patterns) same = refl

-- the finding on a check before those on the checks behind it
pub AreFindings-next : (normal : Bool) (form : Form) (forms : List Form) (labels : List (List ℕ))
    (patterns : List Pattern) (traces : List Timeline) (finding : Finding) (rest : List Finding)
    → length labels ≡ length patterns → 0 < length labels
    → finding.name ≡ get_or labels 0 finding.name
    → IsRuling normal form patterns traces finding.verdict finding.zones
    → AreFindings normal forms (drop (patterns_of form) (sought_by labels patterns))
    (drop (patterns_of form) traces) rest
    → AreFindings normal (form ∷ forms) (sought_by labels patterns) traces (finding ∷ rest)
AreFindings-next normal form forms [] patterns traces finding rest same some named ruling more =
    absurd (omega (arith, some))
AreFindings-next normal form forms (label ∷ labels) [] traces finding rest same some named ruling
    more = absurd (omega (arith, same))
AreFindings-next normal form forms (label ∷ labels) (pattern ∷ patterns) [] finding rest same some
    named ruling more = absurd ruling
AreFindings-next normal form forms (label ∷ labels) (pattern ∷ patterns) (trace ∷ traces) finding
    rest same some named ruling more = (
      named,
      (rw (second_tree label pattern labels patterns (omega (arith, same))) at ruling),
      more,
    )

pub drop_sought : (place : ℕ) (labels : List (List ℕ)) (patterns : List Pattern)
    → length labels ≡ length patterns
    → drop place (sought_by labels patterns) ≡ sought_by (drop place labels) (drop place patterns)
drop_sought zero labels patterns same = refl
drop_sought (suc place) [] [] same = refl
drop_sought (suc place) [] (p ∷ patterns) same = absurd (omega (arith, same))
drop_sought (suc place) (l ∷ labels) [] same = absurd (omega (arith, same))
drop_sought (suc place) (l ∷ labels) (p ∷ patterns) same =
    drop_sought place labels patterns (omega (arith, same))

pub some_patterns : (form : Form) → 1 ≤ patterns_of form
some_patterns Plain = omega arith
some_patterns Never = omega arith
some_patterns Found = omega arith
some_patterns Same = omega arith
some_patterns Follows = omega arith

-- the patterns of a check and of those behind it
pub patterns_behind : (forms : List Form) (i : ℕ) (form : Form) → i < length forms
    → form ≡ get_or forms i form
    → patterns_in (drop i forms) ≡ patterns_of form + patterns_in (drop (i + 1) forms)
patterns_behind forms i form inside is =
    ap patterns_in (drop_more forms i form inside)
    ∙ ap (λ (f : Form). patterns_of f + patterns_in (drop (i + 1) forms)) (sym is)

module _ (normal : Bool) (forms : List Form) (labels : List (List ℕ)) (patterns : List Pattern)
    (traces : List Timeline) where
  -- What was found of the first checks stands before all that is right for those behind them.
  pub record AreSoFar (i place : ℕ) (all : List Finding) : Type 0 where
    pub behind : place + patterns_in (drop i forms) ≡ length patterns
    pub found : (rest : List Finding)
        → AreFindings normal (drop i forms) (drop place (sought_by labels patterns))
        (drop place traces) rest
        → AreFindings normal forms (sought_by labels patterns) traces (all ++ rest)

  pub so_far_none : patterns_in forms ≡ length patterns → AreSoFar 0 0 []
  so_far_none all = record { behind = omega (arith, all); found = λ rest are. are }

  pub so_far_next : (labelled : length labels ≡ length patterns) (i place : ℕ) (all : List Finding) (form : Form) (finding : Finding)
      → AreSoFar i place all → i < length forms → form ≡ get_or forms i form
      → finding.name ≡ get_or labels place finding.name
      → IsRuling normal form (drop place patterns) (drop place traces) finding.verdict finding.zones
      → AreSoFar (i + 1) (place + patterns_of form) (all ++ finding ∷ [])
  so_far_next labelled i place all form finding old inside is named ruling =
      let behind = patterns_behind forms i form inside is in
      let some = some_patterns form in
      let here : place + 0 ≡ place = omega arith in
      record {
        behind = omega (arith, old.behind, behind);
        found = λ rest are.
            let first : drop i forms ≡ form ∷ drop (i + 1) forms =
            drop_more forms i form inside ∙ ap (λ f. f ∷ drop (i + 1) forms) (sym is) in
            let sought = drop_sought place labels patterns labelled in
            let next = AreFindings-next normal form (drop (i + 1) forms) (drop place labels)
            (drop place patterns) (drop place traces) finding rest
            (simp length-drop (omega (arith, labelled)))
            (simp length-drop (omega (arith, labelled, old.behind, behind, some)))
            (named ∙ sym (get_or-drop place labels 0 finding.name
            ∙ ap (λ k. get_or labels k finding.name) here)) ruling
            (rw (
              ← sought,
              drop-drop (patterns_of form) place (sought_by labels patterns),
              drop-drop (patterns_of form) place traces,
            ) are) in
            rw append_assoc (old.found (finding ∷ rest) (rw (first, sought) next));
      }

  pub so_far_all : (i place : ℕ) (all : List Finding) → AreSoFar i place all → length forms ≤ i
      → AreFindings normal forms (sought_by labels patterns) traces all
  so_far_all i place all old past =
      subst (AreFindings normal forms (sought_by labels patterns) traces) (append-nil all)
      (old.found [] (rw (drop_all i forms past) tt))
