-- Where a trace ends, an expression matches that one moment or nothing.
use Rattle.std.proofs.Common.{◌≡◌, ℕ, ◌*◌, ◌-◌, ◌<◌, ◌↔◌, [], Option, refl, subst, inl, inr, ⊎_elim, arith, mul-pos, rules}
use Rattle.tre_pairs.specs.Cuts.{IsMoment}
use Rattle.tre_pairs.proofs.Chains.{Composed-at, Chain-none}
use Rattle.tre_trace.specs.Trace.{timeline_of}
use Rattle.tre_zone.specs.Interval.{IntervalEnds, LastsWithin}
use Rattle.tre_syntax.specs.AtTheEnd.{AtomAtEnd, MatchesAtEnd}
use Rattle.tre_syntax.specs.Meaning.{MatchesRest}
use Rattle.tre_syntax.specs.PatternTree.{Atom, PatternTree, empty, literal, rise, fall, event, atom, sequence, alternation, intersection, repetition, restriction}
use Rattle.tre_syntax.specs.Rest.{Rest, rest_of, AtomMatches}
use Rattle.tre_syntax.proofs.CutMeaning.{IsBounded-rest, IsOrdered-rest}
use Rattle.tre_syntax.proofs.MeaningLaws.{DurationScales-LastsWithin}

-- no time at all, under any name
no_time_up : (ends : IntervalEnds) (n : ℕ) → 0 < n → LastsWithin ends 0 1 → LastsWithin ends 0 n
no_time_up ends n some h =
    let none : n * 0 ≡ 0 = omega arith in
    let same : n * 1 ≡ n = omega arith in
    subst (λ k. LastsWithin ends 0 k) same
    (subst (λ d. LastsWithin ends d (n * 1)) none
    ((DurationScales-LastsWithin ends).up n 0 1 some h))

no_time_down : (ends : IntervalEnds) (n : ℕ) → 0 < n → LastsWithin ends 0 n
    → LastsWithin ends 0 1
no_time_down ends n some h = search rules

module _ (start : ℕ) (before : Option ℕ) (last : ℕ) where
  abbrev end_rest : Rest
  end_rest = rest_of start before (timeline_of [] last)

  moment_of : (tree : PatternTree) (a b n : ℕ) → MatchesRest tree end_rest a b n
      → IsMoment start a b n
  moment_of tree a b n h =
      let begin = (IsBounded-rest tree end_rest).begin a b n h in
      let order = (IsOrdered-rest tree end_rest).le a b n h in
      let end = (IsBounded-rest tree end_rest).end a b n h in
      record { begin = omega (arith, begin, order, end); end = omega (arith, begin, order, end) }

  atom_told : (x : Atom) (a b n : ℕ) → 0 < n → AtomMatches end_rest x a b n → AtomAtEnd last x
  atom_told empty a b n some h = tt
  atom_told (literal s) a b n some h = search rules
  atom_told (rise s) a b n some h = h.there
  atom_told (fall s) a b n some h = h.there
  atom_told (event i) a b n some h = h.there.1

  told : (tree : PatternTree) (a b n : ℕ) → 0 < n → MatchesRest tree end_rest a b n
      → MatchesAtEnd last tree
  told (atom x) a b n some h = atom_told x a b n some h
  told (sequence e f) a b n some h =
      let finer = mul-pos h.positive some in (
        told e (h.factor * a) h.midpoint (h.factor * n) finer h.left,
        told f h.midpoint (h.factor * b) (h.factor * n) finer h.right,
      )
  told (alternation e f) a b n some h =
      ⊎_elim (λ one. inl (told e a b n some one)) (λ other. inr (told f a b n some other)) h
  told (intersection e f) a b n some h = (told e a b n some h.left, told f a b n some h.right)
  told (repetition e) a b n some h = tt
  told (restriction e ends) a b n some h =
      let moment = moment_of e a b n h.related in
      let begin = moment.begin in
      let end = moment.end in
      let none : b - a ≡ 0 = omega (arith, begin, end) in (
        told e a b n some h.related,
        no_time_down ends n some (subst (λ d. LastsWithin ends d n) none h.admitted),
      )

  atom_at_end : (x : Atom) (n : ℕ) → AtomAtEnd last x
      → AtomMatches end_rest x (start * n) (start * n) n
  atom_at_end empty n h = record { begin = omega arith; same = refl; end = omega arith }
  atom_at_end (literal s) n h = absurd h
  atom_at_end (rise s) n h = absurd h
  atom_at_end (fall s) n h = absurd h
  atom_at_end (event i) n h = search rules

  at_end : (tree : PatternTree) (n : ℕ) → 0 < n → MatchesAtEnd last tree
      → MatchesRest tree end_rest (start * n) (start * n) n
  at_end (atom x) n some h = atom_at_end x n h
  at_end (sequence e f) n some h =
      Composed-at (MatchesRest e end_rest) (MatchesRest f end_rest) (start * n) (start * n)
      (start * n) n (at_end e n some h.0) (at_end f n some h.1)
  at_end (alternation e f) n some h =
      ⊎_elim (λ one. inl (at_end e n some one)) (λ other. inr (at_end f n some other)) h
  at_end (intersection e f) n some h = record {
    left = at_end e n some h.0;
    right = at_end f n some h.1;
  }
  at_end (repetition e) n some h =
      Chain-none (MatchesRest e end_rest) (AtomMatches end_rest empty) (start * n) (start * n) n
      (atom_at_end empty n tt)
  at_end (restriction e ends) n some h =
      let none : 0 ≡ start * n - start * n = omega arith in
      record {
        related = at_end e n some h.0;
        admitted = subst (λ d. LastsWithin ends d n) none (no_time_up ends n some h.1);
      }

  pub matches_at_end : (tree : PatternTree) (a b n : ℕ) → 0 < n
      → MatchesRest tree end_rest a b n ↔ (IsMoment start a b n × MatchesAtEnd last tree)
  matches_at_end tree a b n some = search (rules, moment_of, told, at_end)
