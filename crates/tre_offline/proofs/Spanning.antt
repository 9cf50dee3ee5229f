-- Expressions between two parts of which anything may come: matches one after another are one.
use Rattle.std.proofs.Common.{◌≡◌, ◌↔◌, ◌+◌, ◌*◌, ◌≤◌, ◌∙◌, ℕ, List, [], ◌∷◌, ⊎_elim, inl, inr, refl, sym, subst, arith}
use Rattle.std.proofs.Math.Nat.{mul_assoc, mul_left_comm, mul-pos, mul-le-mul_left}
use Rattle.tre_pairs.specs.Pairs.{Pairs, Composed, LeadTo, Chain}
use Rattle.tre_pairs.proofs.Laws.{Scales}
use Rattle.tre_pairs.proofs.Scaling.{moved}
use Rattle.tre_pairs.proofs.Chains.{Composed-at, Chain-none, Chain-one, Chain-cases}
use Rattle.tre_state.specs.StateTree.{always, HoldsOn}
use Rattle.tre_trace.specs.Literal.{HoldsBetween}
use Rattle.tre_trace.specs.declared.segment.Segment.{Segment}
use Rattle.tre_syntax.specs.Meaning.{MatchesRest}
use Rattle.tre_syntax.specs.PatternTree.{PatternTree, atom, empty, literal, sequence, alternation, repetition}
use Rattle.tre_syntax.specs.Rest.{Rest, AtomMatches}
use Rattle.tre_syntax.proofs.Atoms.{Scales-Atom}
use Rattle.tre_syntax.proofs.CutMeaning.{IsOrdered-rest}
use Rattle.tre_syntax.proofs.MeaningLaws.{Scales-Meaning}
use Rattle.tre_offline.specs.Lengths.{IsIteration, IsOwnIteration, Spans}
use Rattle.tre_offline.proofs.Iterating.{ends_within, sequence_once}

-- ---- what spans

all_along : (start : ℕ) (segments : List Segment) (a b n : ℕ)
    → HoldsBetween (HoldsOn always) start segments a b n
all_along start [] a b n = tt
all_along start (segment ∷ segments) a b n =
    ((λ before behind. tt), all_along (start + segment.len) segments a b n)

pub Spans-always : Spans (atom (literal always))
Spans-always = record {
  each = λ rest a b c d n le one other. record {
    begin = one.begin;
    some_time = omega (arith, one.some_time, other.some_time, le);
    end = other.end;
    throughout = all_along rest.start rest.segments a d n;
  };
}

-- Two matches of a sequence of which one ends before the other begins, over one denominator.
module _ (left right : PatternTree) (rest : Rest) (a b c d n : ℕ) (le : b ≤ c)
    (one : MatchesRest (sequence left right) rest a b n)
    (other : MatchesRest (sequence left right) rest c d n) where
  abbrev k : ℕ
  k = other.factor

  abbrev f : ℕ
  f = one.factor

  scales : (tree : PatternTree) → Scales (MatchesRest tree rest)
  scales tree = Scales-Meaning (AtomMatches rest) (Scales-Atom rest) tree

  turned : (x : ℕ) → f * (k * x) ≡ k * f * x
  turned x = mul_left_comm f k x ∙ sym (mul_assoc k f x)

  first_left : MatchesRest left rest (k * f * a) (k * one.midpoint) (k * f * n)
  first_left =
      moved (MatchesRest left rest) (sym (mul_assoc k f a)) refl (sym (mul_assoc k f n))
      ((scales left).up k (f * a) one.midpoint (f * n) other.positive one.left)

  first_right : MatchesRest right rest (k * one.midpoint) (k * f * b) (k * f * n)
  first_right =
      moved (MatchesRest right rest) refl (sym (mul_assoc k f b)) (sym (mul_assoc k f n))
      ((scales right).up k one.midpoint (f * b) (f * n) other.positive one.right)

  second_left : MatchesRest left rest (k * f * c) (f * other.midpoint) (k * f * n)
  second_left =
      moved (MatchesRest left rest) (turned c) refl (turned n)
      ((scales left).up f (k * c) other.midpoint (k * n) one.positive other.left)

  second_right : MatchesRest right rest (f * other.midpoint) (k * f * d) (k * f * n)
  second_right =
      moved (MatchesRest right rest) refl (turned d) (turned n)
      ((scales right).up f other.midpoint (k * d) (k * n) one.positive other.right)

  further : k * f * b ≤ k * f * c
  further = mul-le-mul_left (k * f) le

  pub over_left : Spans left → MatchesRest (sequence left right) rest a d n
  over_left spans = record {
    factor = k * f;
    positive = mul-pos other.positive one.positive;
    midpoint = f * other.midpoint;
    left = spans.each rest (k * f * a) (k * one.midpoint) (k * f * c) (f * other.midpoint)
        (k * f * n)
        (omega (
          arith,
          further,
          (IsOrdered-rest right rest).le (k * one.midpoint) (k * f * b)
              (k * f * n) first_right,
        ))
        first_left second_left;
    right = second_right;
  }

  pub over_right : Spans right → MatchesRest (sequence left right) rest a d n
  over_right spans = record {
    factor = k * f;
    positive = mul-pos other.positive one.positive;
    midpoint = k * one.midpoint;
    left = first_left;
    right = spans.each rest (k * one.midpoint) (k * f * b) (f * other.midpoint) (k * f * d)
        (k * f * n)
        (omega (
          arith,
          further,
          (IsOrdered-rest left rest).le (k * f * c) (f * other.midpoint)
              (k * f * n) second_left,
        ))
        first_right second_right;
  }

pub Spans-left : (left right : PatternTree) → Spans left → Spans (sequence left right)
Spans-left left right spans = record {
  each = λ rest a b c d n le one other. over_left left right rest a b c d n le one other spans;
}

pub Spans-right : (left right : PatternTree) → Spans right → Spans (sequence left right)
Spans-right left right spans = record {
  each = λ rest a b c d n le one other. over_right left right rest a b c d n le one other spans;
}

-- ---- one or more

module _ (tree : PatternTree) (spans : Spans tree) (rest : Rest) where
  abbrev M : Pairs
  M = MatchesRest tree rest

  abbrev E : Pairs
  E = AtomMatches rest empty

  go_on : (n a from : ℕ) (cuts : List ℕ) (to : ℕ) → M a from n → LeadTo M E n from cuts to
      → M a to n
  go_on n a from [] to begun h = subst (λ (t : ℕ). M a t n) h.same begun
  go_on n a from (cut ∷ cuts) to begun h =
      go_on n a cut cuts to (spans.each rest a from from cut n (omega arith) begun h.0) h.1

  scaled : Scales M
  scaled = Scales-Meaning (AtomMatches rest) (Scales-Atom rest) tree

  along : (a b n : ℕ) → Composed M (Chain M E) a b n → M a b n
  along a b n h =
      let i = h.right.factor in
      scaled.down h.factor a b n h.positive
      (scaled.down i (h.factor * a) (h.factor * b) (h.factor * n) h.right.positive
      (go_on (i * (h.factor * n)) (i * (h.factor * a)) (i * h.midpoint) h.right.cuts
      (i * (h.factor * b))
      (scaled.up i (h.factor * a) h.midpoint (h.factor * n) h.right.positive h.left)
      h.right.steps))

  pub iteration_spanned : (a b n : ℕ) → Composed M (Chain M E) a b n ↔ M a b n
  iteration_spanned a b n = (
    along a b n,
    λ h. Composed-at M (Chain M E) a b b n h (Chain-none M E b b n (ends_within tree rest a b n h)),
  )

  -- Any number of times it is the empty stretch, or a match.
  pub repetition_spanned : (a b n : ℕ)
      → MatchesRest (alternation (atom empty) tree) rest a b n
      ↔ MatchesRest (repetition tree) rest a b n
  repetition_spanned a b n = (
    ⊎_elim (Chain-none M E a b n) (λ h. Chain-one M E a b n h (ends_within tree rest a b n h)),
    λ h. ⊎_elim (λ none. inl none) (λ more. inr (along a b n more))
        (Chain-cases M E (Scales-Atom rest empty) a b n h),
  )

pub spanned_iteration : (tree : PatternTree) → Spans tree → IsOwnIteration tree
spanned_iteration tree spans = record { same = iteration_spanned tree spans }

pub own_iteration : (tree : PatternTree) → IsIteration tree → IsOwnIteration tree
own_iteration tree is = record {
  same = λ rest.
      subst (λ (t : PatternTree). (a b n : ℕ)
      → MatchesRest (sequence t (repetition t)) rest a b n ↔ MatchesRest t rest a b n)
      (sym is.whole) (sequence_once is.step rest);
}
