-- What a mark means speaks of times, the first of which is up to the present and the second not
-- before it.
use Rattle.std.proofs.Common.{ℕ, ◌*◌, ◌≤◌, ⊎_elim, arith}
use Rattle.tre_pairs.specs.Cuts.{IsMoment, JoinedAt}
use Rattle.tre_pairs.specs.Pairs.{Pairs, Composed, Both, Lasting}
use Rattle.tre_pairs.proofs.CutLaws.{Scales-Moment}
use Rattle.tre_pairs.proofs.Laws.{Scales, IsOrdered}
use Rattle.tre_pairs.proofs.Order.{IsOrdered-Either}
use Rattle.tre_pairs.proofs.Scaling.{Scales-Composed, Scales-Either, Scales-Both, Scales-Lasting}
use Rattle.tre_pairs.proofs.Ticks.{le_down, ge_down}
use Rattle.tre_zone.specs.Held.{Held}
use Rattle.tre_zone.proofs.HeldSets.{Scales-Held, IsOrdered-Held}
use Rattle.tre_zone.proofs.JoinedPairs.{Scales-JoinedAt}
use Rattle.tre_syntax.specs.Meaning.{MatchesRest}
use Rattle.tre_syntax.specs.PatternTree.{Atom, PatternTree, empty, literal, rise, fall, event, atom, sequence, alternation, intersection, repetition, restriction}
use Rattle.tre_syntax.specs.Rest.{Rest}
use Rattle.tre_syntax.proofs.CutMeaning.{IsOrdered-rest, Scales-rest}
use Rattle.tre_syntax.proofs.MeaningLaws.{DurationScales-LastsWithin}
use Rattle.tre_zone.specs.Interval.{LastsWithin}
use Rattle.tre_mark.specs.MarkTree.{MarkTree, atom_mark, sequence_mark, alternation_mark, repetition_mark, intersection_one, restriction_one}
use Rattle.tre_mark.specs.Marked.{GoesOn, Marked}

-- No pair at all.
abbrev None : Pairs
None a b n = ⊥

Scales-None : Scales None
Scales-None = record { up = λ k a b n pos h. h; down = λ k a b n pos h. h }

IsOrdered-None : IsOrdered None
IsOrdered-None = record { le = λ a b n h. absurd h }

IsOrdered-Moment : (cut : ℕ) → IsOrdered (IsMoment cut)
IsOrdered-Moment cut = record {
  le = λ a b n h.
      let begin = h.begin in let end = h.end in omega (arith, begin, end);
}

module _ (rest : Rest) where
  pub Scales-GoesOn : (x : Atom) → Scales (GoesOn rest x)
  Scales-GoesOn empty = Scales-None
  Scales-GoesOn (literal state) =
      Scales-Either (IsMoment rest.start) (MatchesRest (atom (literal state)) rest)
      (Scales-Moment rest.start) (Scales-rest (atom (literal state)) rest)
  Scales-GoesOn (rise state) = Scales-None
  Scales-GoesOn (fall state) = Scales-None
  Scales-GoesOn (event number) = Scales-None

  pub IsOrdered-GoesOn : (x : Atom) → IsOrdered (GoesOn rest x)
  IsOrdered-GoesOn empty = IsOrdered-None
  IsOrdered-GoesOn (literal state) =
      IsOrdered-Either (IsMoment rest.start) (MatchesRest (atom (literal state)) rest)
      (IsOrdered-Moment rest.start) (IsOrdered-rest (atom (literal state)) rest)
  IsOrdered-GoesOn (rise state) = IsOrdered-None
  IsOrdered-GoesOn (fall state) = IsOrdered-None
  IsOrdered-GoesOn (event number) = IsOrdered-None

  pub Scales-Marked : (mark : MarkTree) (tree : PatternTree) → Scales (Marked rest mark tree)
  Scales-Marked (atom_mark here begun) (atom x) =
      let T = rest.start in
      Scales-Either (JoinedAt T (Held here) (MatchesRest (atom x) rest))
      (JoinedAt T (Held begun) (GoesOn rest x))
      (Scales-JoinedAt T (Held here) (MatchesRest (atom x) rest) (Scales-Held here)
      (Scales-rest (atom x) rest))
      (Scales-JoinedAt T (Held begun) (GoesOn rest x) (Scales-Held begun) (Scales-GoesOn x))
  Scales-Marked (sequence_mark one other) (sequence left right) =
      Scales-Either (Composed (Marked rest one left) (MatchesRest right rest))
      (Marked rest other right)
      (Scales-Composed (Marked rest one left) (MatchesRest right rest) (Scales-Marked one left)
      (Scales-rest right rest))
      (Scales-Marked other right)
  Scales-Marked (alternation_mark one other) (alternation left right) =
      Scales-Either (Marked rest one left) (Marked rest other right) (Scales-Marked one left)
      (Scales-Marked other right)
  Scales-Marked (repetition_mark here body) (repetition tree) =
      let T = rest.start in
      let R = MatchesRest (repetition tree) rest in
      let r = Scales-rest (repetition tree) rest in
      Scales-Either (JoinedAt T (Held here) R) (Composed (Marked rest body tree) R)
      (Scales-JoinedAt T (Held here) R (Scales-Held here) r)
      (Scales-Composed (Marked rest body tree) R (Scales-Marked body tree) r)
  Scales-Marked (intersection_one to outer one other) (intersection left right) =
      Scales-Composed (Held outer) (Both (Marked rest one left) (Marked rest other right))
      (Scales-Held outer)
      (Scales-Both (Marked rest one left) (Marked rest other right) (Scales-Marked one left)
      (Scales-Marked other right))
  Scales-Marked (restriction_one to outer body) (restriction tree ends) =
      Scales-Composed (Held outer) (Lasting (LastsWithin ends) (Marked rest body tree))
      (Scales-Held outer)
      (Scales-Lasting (LastsWithin ends) (Marked rest body tree) (DurationScales-LastsWithin ends)
      (Scales-Marked body tree))
  Scales-Marked mark tree = record {
    up = λ k a b n pos h. absurd h;
    down =
        λ k a b n pos h. absurd h;
  }

  -- The pair begins up to the present and ends then or later.
  abbrev Around : ℕ → ℕ → ℕ → Type 0
  Around a b n = (a ≤ rest.start * n) × (rest.start * n ≤ b)

  around_composed : (R S : Pairs) → IsOrdered S → (a b n : ℕ)
      → ((a b n : ℕ) → R a b n → Around a b n) → Composed R S a b n → Around a b n
  around_composed R S ordered a b n inner h =
      let k = h.factor in
      let first = inner (k * a) h.midpoint (k * n) h.left in
      let behind = ordered.le h.midpoint (k * b) (k * n) h.right in
      let end = first.1 in (
        ge_down k rest.start a n h.positive first.0,
        le_down k rest.start b n h.positive (omega (arith, behind, end)),
      )

  around_behind : (R S : Pairs) → IsOrdered R → (a b n : ℕ)
      → ((a b n : ℕ) → S a b n → Around a b n) → Composed R S a b n → Around a b n
  around_behind R S ordered a b n inner h =
      let k = h.factor in
      let second = inner h.midpoint (k * b) (k * n) h.right in
      let before = ordered.le (k * a) h.midpoint (k * n) h.left in
      let begin = second.0 in (
        ge_down k rest.start a n h.positive (omega (arith, before, begin)),
        le_down k rest.start b n h.positive second.1,
      )

  around_joined : (R S : Pairs) → IsOrdered R → IsOrdered S → (a b n : ℕ)
      → JoinedAt rest.start R S a b n → Around a b n
  around_joined R S r s a b n h =
      (r.le a (rest.start * n) n h.left, s.le (rest.start * n) b n h.right)

  pub around_present : (mark : MarkTree) (tree : PatternTree) (a b n : ℕ)
      → Marked rest mark tree a b n → Around a b n
  around_present (atom_mark here begun) (atom x) a b n h = ⊎_elim
      (λ x'. around_joined (Held here) (MatchesRest (atom x) rest) (IsOrdered-Held here)
      (IsOrdered-rest (atom x) rest) a b n x')
      (λ x'. around_joined (Held begun) (GoesOn rest x) (IsOrdered-Held begun)
      (IsOrdered-GoesOn x) a b n x') h
  around_present (sequence_mark one other) (sequence left right) a b n h = ⊎_elim
      (λ x. around_composed (Marked rest one left) (MatchesRest right rest)
      (IsOrdered-rest right rest) a b n (around_present one left) x)
      (λ x. around_present other right a b n x) h
  around_present (alternation_mark one other) (alternation left right) a b n h = ⊎_elim
      (λ x. around_present one left a b n x) (λ x. around_present other right a b n x) h
  around_present (repetition_mark here body) (repetition tree) a b n h =
      let R = MatchesRest (repetition tree) rest in
      let r = IsOrdered-rest (repetition tree) rest in
      ⊎_elim
      (λ x. around_joined (Held here) R (IsOrdered-Held here) r a b n x)
      (λ x. around_composed (Marked rest body tree) R r a b n (around_present body tree) x) h
  around_present (intersection_one to outer one other) (intersection left right) a b n h =
      around_behind (Held outer) (Both (Marked rest one left) (Marked rest other right))
      (IsOrdered-Held outer) a b n (λ a b n y. around_present one left a b n y.left) h
  around_present (restriction_one to outer body) (restriction tree ends) a b n h =
      around_behind (Held outer) (Lasting (LastsWithin ends) (Marked rest body tree))
      (IsOrdered-Held outer) a b n (λ a b n y. around_present body tree a b n y.related) h
  around_present mark tree a b n h = absurd h

  pub IsOrdered-Marked : (mark : MarkTree) (tree : PatternTree) → IsOrdered (Marked rest mark tree)
  IsOrdered-Marked mark tree = record {
    le = λ a b n h.
        let around = around_present mark tree a b n h in
        let begin = around.0 in
        let end = around.1 in
        omega (arith, begin, end);
  }
