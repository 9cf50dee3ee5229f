-- What a mark means where the rest of a trace is cut: the pairs over the front are pairs over the
-- whole, those that end before the cut are pairs over the front, and each ends within the rest.
use Rattle.std.proofs.Common.{ℕ, ◌*◌, ◌≤◌, ⊎_elim, arith}
use Rattle.std.proofs.Math.Nat.{mul-le-mul_right}
use Rattle.tre_pairs.specs.Cuts.{IsMoment, JoinedAt}
use Rattle.tre_pairs.specs.Pairs.{Pairs, Composed, Both, Lasting}
use Rattle.tre_pairs.proofs.Implication.{Implies-Composed, Implies-Either, Implies-Both, Implies-Lasting, ImpliesBefore-Composed, ImpliesBefore-Either, ImpliesBefore-Both, ImpliesBefore-Lasting}
use Rattle.tre_pairs.proofs.Laws.{Implies, ImpliesBefore}
use Rattle.tre_pairs.proofs.Order.{IsOrdered-Lasting}
use Rattle.tre_pairs.proofs.Ticks.{ge_down}
use Rattle.tre_zone.specs.Held.{Held}
use Rattle.tre_zone.specs.Interval.{LastsWithin}
use Rattle.tre_trace.specs.Trace.{end_of}
use Rattle.tre_syntax.specs.Cut.{CutRest, time_of, uncut, front_of}
use Rattle.tre_syntax.specs.Meaning.{MatchesRest}
use Rattle.tre_syntax.specs.PatternTree.{Atom, PatternTree, empty, literal, rise, fall, event, atom, sequence, alternation, intersection, repetition, restriction}
use Rattle.tre_syntax.specs.Rest.{Rest, AtomMatches}
use Rattle.tre_syntax.proofs.Atoms.{IsOrdered-Atom, IsInstant-Empty}
use Rattle.tre_syntax.proofs.CutMeaning.{IsOrdered-rest, IsBounded-rest}
use Rattle.tre_syntax.proofs.Growth.{Implies-grown, ImpliesBefore-cut}
use Rattle.tre_syntax.proofs.MeaningLaws.{Implies-Meaning, ImpliesBefore-Meaning}
use Rattle.tre_mark.specs.MarkTree.{MarkTree, atom_mark, sequence_mark, alternation_mark, repetition_mark, intersection_one, restriction_one}
use Rattle.tre_mark.specs.Marked.{GoesOn, Marked}
use Rattle.tre_mark.proofs.Meanings.{IsOrdered-Marked}

Implies-Joined : (time : ℕ) (R S S' : Pairs) → Implies S S'
    → Implies (JoinedAt time R S) (JoinedAt time R S')
Implies-Joined time R S S' s = record {
  at = λ a b n h. record { left = h.left; right = s.at (time * n) b n h.right };
}

Before-Joined : (cut time : ℕ) (R S S' : Pairs) → ImpliesBefore cut S S'
    → ImpliesBefore cut (JoinedAt time R S) (JoinedAt time R S')
Before-Joined cut time R S S' s = record {
  at = λ a b n early h. record { left = h.left; right = s.at (time * n) b n early h.right };
}

pub Implies-same : (R : Pairs) → Implies R R
Implies-same R = record { at = λ a b n h. h }

pub Before-same : (cut : ℕ) (R : Pairs) → ImpliesBefore cut R R
Before-same cut R = record { at = λ a b n early h. h }

module _ (cut : CutRest) where
  -- Over all segments, and over the front alone.
  abbrev W : Rest
  W = uncut cut

  abbrev P : Rest
  P = front_of cut

  abbrev T : ℕ
  T = cut.start

  abbrev T' : ℕ
  T' = time_of cut

  pub tree_grows : (tree : PatternTree) → Implies (MatchesRest tree P) (MatchesRest tree W)
  tree_grows tree =
      Implies-Meaning (AtomMatches P) (AtomMatches W)
      (Implies-grown cut.start cut.before cut.front cut.back) tree

  pub tree_early : (tree : PatternTree) → ImpliesBefore T' (MatchesRest tree W) (MatchesRest tree P)
  tree_early tree =
      ImpliesBefore-Meaning (AtomMatches W) (AtomMatches P) T' (IsOrdered-Atom W)
      (IsInstant-Empty W) (ImpliesBefore-cut cut.start cut.before cut.front cut.back) tree

  goes_on_grows : (x : Atom) → Implies (GoesOn P x) (GoesOn W x)
  goes_on_grows empty = record { at = λ a b n h. h }
  goes_on_grows (literal state) =
      Implies-Either (IsMoment T) (IsMoment T) (MatchesRest (atom (literal state)) P)
      (MatchesRest (atom (literal state)) W) (Implies-same (IsMoment T))
      (tree_grows (atom (literal state)))
  goes_on_grows (rise state) = record { at = λ a b n h. h }
  goes_on_grows (fall state) = record { at = λ a b n h. h }
  goes_on_grows (event number) = record { at = λ a b n h. h }

  goes_on_early : (x : Atom) → ImpliesBefore T' (GoesOn W x) (GoesOn P x)
  goes_on_early empty = record { at = λ a b n early h. h }
  goes_on_early (literal state) =
      ImpliesBefore-Either T' (IsMoment T) (IsMoment T) (MatchesRest (atom (literal state)) W)
      (MatchesRest (atom (literal state)) P) (Before-same T' (IsMoment T))
      (tree_early (atom (literal state)))
  goes_on_early (rise state) = record { at = λ a b n early h. h }
  goes_on_early (fall state) = record { at = λ a b n early h. h }
  goes_on_early (event number) = record { at = λ a b n early h. h }

  pub mark_grows : (mark : MarkTree) (tree : PatternTree)
      → Implies (Marked P mark tree) (Marked W mark tree)
  mark_grows (atom_mark here begun) (atom x) =
      Implies-Either (JoinedAt T (Held here) (MatchesRest (atom x) P))
      (JoinedAt T (Held here) (MatchesRest (atom x) W)) (JoinedAt T (Held begun) (GoesOn P x))
      (JoinedAt T (Held begun) (GoesOn W x))
      (Implies-Joined T (Held here) (MatchesRest (atom x) P) (MatchesRest (atom x) W)
      (tree_grows (atom x)))
      (Implies-Joined T (Held begun) (GoesOn P x) (GoesOn W x) (goes_on_grows x))
  mark_grows (sequence_mark one other) (sequence left right) =
      Implies-Either (Composed (Marked P one left) (MatchesRest right P))
      (Composed (Marked W one left) (MatchesRest right W)) (Marked P other right)
      (Marked W other right)
      (Implies-Composed (Marked P one left) (Marked W one left) (MatchesRest right P)
      (MatchesRest right W) (mark_grows one left) (tree_grows right))
      (mark_grows other right)
  mark_grows (alternation_mark one other) (alternation left right) =
      Implies-Either (Marked P one left) (Marked W one left) (Marked P other right)
      (Marked W other right) (mark_grows one left) (mark_grows other right)
  mark_grows (repetition_mark here body) (repetition tree) =
      Implies-Either (JoinedAt T (Held here) (MatchesRest (repetition tree) P))
      (JoinedAt T (Held here) (MatchesRest (repetition tree) W))
      (Composed (Marked P body tree) (MatchesRest (repetition tree) P))
      (Composed (Marked W body tree) (MatchesRest (repetition tree) W))
      (Implies-Joined T (Held here) (MatchesRest (repetition tree) P)
      (MatchesRest (repetition tree) W) (tree_grows (repetition tree)))
      (Implies-Composed (Marked P body tree) (Marked W body tree)
      (MatchesRest (repetition tree) P) (MatchesRest (repetition tree) W) (mark_grows body tree)
      (tree_grows (repetition tree)))
  mark_grows (intersection_one to outer one other) (intersection left right) =
      let Rp = Both (Marked P one left) (Marked P other right) in
      let R = Both (Marked W one left) (Marked W other right) in
      Implies-Composed (Held outer) (Held outer) Rp R (Implies-same (Held outer))
      (Implies-Both (Marked P one left) (Marked W one left) (Marked P other right)
      (Marked W other right) (mark_grows one left) (mark_grows other right))
  mark_grows (restriction_one to outer body) (restriction tree ends) =
      let D = LastsWithin ends in
      Implies-Composed (Held outer) (Held outer) (Lasting D (Marked P body tree))
      (Lasting D (Marked W body tree)) (Implies-same (Held outer))
      (Implies-Lasting D (Marked P body tree) (Marked W body tree) (mark_grows body tree))
  mark_grows mark tree = record { at = λ a b n h. absurd h }

  pub mark_early : (mark : MarkTree) (tree : PatternTree)
      → ImpliesBefore T' (Marked W mark tree) (Marked P mark tree)
  mark_early (atom_mark here begun) (atom x) =
      ImpliesBefore-Either T' (JoinedAt T (Held here) (MatchesRest (atom x) W))
      (JoinedAt T (Held here) (MatchesRest (atom x) P)) (JoinedAt T (Held begun) (GoesOn W x))
      (JoinedAt T (Held begun) (GoesOn P x))
      (Before-Joined T' T (Held here) (MatchesRest (atom x) W) (MatchesRest (atom x) P)
      (tree_early (atom x)))
      (Before-Joined T' T (Held begun) (GoesOn W x) (GoesOn P x) (goes_on_early x))
  mark_early (sequence_mark one other) (sequence left right) =
      ImpliesBefore-Either T' (Composed (Marked W one left) (MatchesRest right W))
      (Composed (Marked P one left) (MatchesRest right P)) (Marked W other right)
      (Marked P other right)
      (ImpliesBefore-Composed T' (Marked W one left) (Marked P one left) (MatchesRest right W)
      (MatchesRest right P) (IsOrdered-rest right W) (mark_early one left) (tree_early right))
      (mark_early other right)
  mark_early (alternation_mark one other) (alternation left right) =
      ImpliesBefore-Either T' (Marked W one left) (Marked P one left) (Marked W other right)
      (Marked P other right) (mark_early one left) (mark_early other right)
  mark_early (repetition_mark here body) (repetition tree) =
      ImpliesBefore-Either T' (JoinedAt T (Held here) (MatchesRest (repetition tree) W))
      (JoinedAt T (Held here) (MatchesRest (repetition tree) P))
      (Composed (Marked W body tree) (MatchesRest (repetition tree) W))
      (Composed (Marked P body tree) (MatchesRest (repetition tree) P))
      (Before-Joined T' T (Held here) (MatchesRest (repetition tree) W)
      (MatchesRest (repetition tree) P) (tree_early (repetition tree)))
      (ImpliesBefore-Composed T' (Marked W body tree) (Marked P body tree)
      (MatchesRest (repetition tree) W) (MatchesRest (repetition tree) P)
      (IsOrdered-rest (repetition tree) W) (mark_early body tree)
      (tree_early (repetition tree)))
  mark_early (intersection_one to outer one other) (intersection left right) =
      let Rp = Both (Marked P one left) (Marked P other right) in
      let R = Both (Marked W one left) (Marked W other right) in
      ImpliesBefore-Composed T' (Held outer) (Held outer) R Rp
      (record { le = λ a b n h. (IsOrdered-Marked W one left).le a b n h.left })
      (Before-same T' (Held outer))
      (ImpliesBefore-Both T' (Marked W one left) (Marked P one left) (Marked W other right)
      (Marked P other right) (mark_early one left) (mark_early other right))
  mark_early (restriction_one to outer body) (restriction tree ends) =
      let D = LastsWithin ends in
      ImpliesBefore-Composed T' (Held outer) (Held outer) (Lasting D (Marked W body tree))
      (Lasting D (Marked P body tree))
      (IsOrdered-Lasting D (Marked W body tree) (IsOrdered-Marked W body tree))
      (Before-same T' (Held outer))
      (ImpliesBefore-Lasting T' D (Marked W body tree) (Marked P body tree) (mark_early body tree))
  mark_early mark tree = record { at = λ a b n early h. absurd h }

module _ (rest : Rest) where
  abbrev Last : ℕ
  Last = end_of rest.start rest.segments

  pub ends_composed : (R S : Pairs) → ((a b n : ℕ) → S a b n → b ≤ Last * n) → (a b n : ℕ)
      → Composed R S a b n → b ≤ Last * n
  ends_composed R S inner a b n h =
      ge_down h.factor Last b n h.positive
      (inner h.midpoint (h.factor * b) (h.factor * n) h.right)

  pub tree_ends : (tree : PatternTree) (a b n : ℕ) → MatchesRest tree rest a b n → b ≤ Last * n
  tree_ends tree = (IsBounded-rest tree rest).end

  goes_on_ends : (x : Atom) → rest.start ≤ Last → (a b n : ℕ) → GoesOn rest x a b n → b ≤ Last * n
  goes_on_ends empty le a b n h = absurd h
  goes_on_ends (literal state) le a b n h = ⊎_elim
      (λ y.
      let at = y.end in
      let later = mul-le-mul_right n le in
      omega (arith, at, later))
      (λ y. tree_ends (atom (literal state)) a b n y) h
  goes_on_ends (rise state) le a b n h = absurd h
  goes_on_ends (fall state) le a b n h = absurd h
  goes_on_ends (event number) le a b n h = absurd h

  pub mark_ends : rest.start ≤ Last → (mark : MarkTree) (tree : PatternTree) (a b n : ℕ)
      → Marked rest mark tree a b n → b ≤ Last * n
  mark_ends le (atom_mark here begun) (atom x) a b n h = ⊎_elim
      (λ y. tree_ends (atom x) (rest.start * n) b n y.right)
      (λ y. goes_on_ends x le (rest.start * n) b n y.right) h
  mark_ends le (sequence_mark one other) (sequence left right) a b n h = ⊎_elim
      (λ y. ends_composed (Marked rest one left) (MatchesRest right rest) (tree_ends right) a b n
      y)
      (λ y. mark_ends le other right a b n y) h
  mark_ends le (alternation_mark one other) (alternation left right) a b n h = ⊎_elim
      (λ y. mark_ends le one left a b n y) (λ y. mark_ends le other right a b n y) h
  mark_ends le (repetition_mark here body) (repetition tree) a b n h = ⊎_elim
      (λ y. tree_ends (repetition tree) (rest.start * n) b n y.right)
      (λ y. ends_composed (Marked rest body tree) (MatchesRest (repetition tree) rest)
      (tree_ends (repetition tree)) a b n y) h
  mark_ends le (intersection_one to outer one other) (intersection left right) a b n h =
      ends_composed (Held outer) (Both (Marked rest one left) (Marked rest other right))
      (λ a b n z. mark_ends le one left a b n z.left) a b n h
  mark_ends le (restriction_one to outer body) (restriction tree ends) a b n h =
      ends_composed (Held outer) (Lasting (LastsWithin ends) (Marked rest body tree))
      (λ a b n z. mark_ends le body tree a b n z.related) a b n h
  mark_ends le mark tree a b n h = absurd h
