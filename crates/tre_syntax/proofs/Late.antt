-- What is known only later had begun before: over a rest that is cut in two, what crosses the cut
-- has begun over the front.
use Rattle.std.proofs.Common.{◌≡◌, ℕ, ◌*◌, ◌-◌, ◌<◌, ◌≤◌, Bool, true, false, Option, Some, None, refl, sym, inl, inr, ⊎_elim, ◌⊎◌, arith}
use Rattle.std.proofs.Math.Nat.{mul_left_comm, mul-pos, mul-le-mul_left, mul-le-mul_right}
use Rattle.std.proofs.lemmas.Bool.{cases_lt}
use Rattle.std.specs.Prelude.{MatchBool, MatchOption}
use Rattle.tre_pairs.specs.Leads.{Leads}
use Rattle.tre_pairs.specs.Pairs.{Composed, Either, Both}
use Rattle.tre_pairs.proofs.CutLaws.{Scales-Moment}
use Rattle.tre_pairs.proofs.Laws.{DurationScales, Scales}
use Rattle.tre_pairs.proofs.Scaling.{moved, Scales-Composed, Scales-Either, Scales-Both, Scales-Lasting}
use Rattle.tre_pairs.proofs.Ticks.{eq_up, eq_down}
use Rattle.tre_state.specs.StateTree.{HoldsOn}
use Rattle.tre_trace.specs.Trace.{end_of}
use Rattle.tre_trace.proofs.Segments.{end_of-append}
use Rattle.tre_zone.specs.Interval.{IntervalEnds, IsBelowHigh}
use Rattle.tre_syntax.specs.Begun.{BegunRest, IsTheEnd, EndsThere}
use Rattle.tre_syntax.specs.Cut.{CutRest, HasLongParts, time_of, uncut, front_of, MatchesAcross}
use Rattle.tre_syntax.specs.Meaning.{MatchesRest}
use Rattle.tre_syntax.specs.PatternTree.{PatternTree, empty, literal, rise, fall, event, atom, sequence, alternation, intersection, repetition, restriction}
use Rattle.tre_syntax.specs.Rest.{Rest, AtomMatches}
use Rattle.tre_syntax.proofs.AtomCuts.{crossing_empty, crossing_literal, crossing_edge, crossing_event}
use Rattle.tre_syntax.proofs.Atoms.{end_of-le, Scales-Atom}
use Rattle.tre_syntax.proofs.CutMeaning.{Scales-rest, IsCut-Matches, crossing_sequence, crossing_repetition}
use Rattle.tre_syntax.proofs.MeaningLaws.{DurationScales-LastsWithin}

-- ---- what has begun is a relation of times

-- The same interval without its low end.
from_zero : IntervalEnds → IntervalEnds
from_zero ends = record { low = 0; low_weak = true; high = ends.high; high_weak = ends.high_weak }

zero_below : (d n : ℕ) → 0 * n ≤ d
zero_below d n = omega arith

DurationScales-high : (ends : IntervalEnds) → DurationScales (IsBelowHigh ends)
unfolding from_zero
DurationScales-high ends = record {
  up = λ k d n pos h. ((DurationScales-LastsWithin (from_zero ends)).up k d n pos (zero_below d n, h)).1;
  down = λ k d n pos h.
      ((DurationScales-LastsWithin (from_zero ends)).down k d n pos
      (zero_below (k * d) (k * n), h)).1;
}

module _ (rest : Rest) where
  Scales-there : Scales (EndsThere rest)
  Scales-there = record {
    up = λ k a b n pos h. record {
      end = eq_up k (end_of rest.start rest.segments) b n h.end;
    };
    down = λ k a b n pos h. record {
      end = eq_down k (end_of rest.start rest.segments) b n pos h.end;
    };
  }

  pub Scales-begun : (tree : PatternTree) → Scales (BegunRest tree rest)
  Scales-begun (atom x) =
      Scales-Either (IsTheEnd rest) (Both (AtomMatches rest x) (EndsThere rest))
      (Scales-Moment (end_of rest.start rest.segments))
      (Scales-Both (AtomMatches rest x) (EndsThere rest) (Scales-Atom rest x) Scales-there)
  Scales-begun (sequence e f) =
      Scales-Either (BegunRest e rest) (Composed (MatchesRest e rest) (BegunRest f rest))
      (Scales-begun e)
      (Scales-Composed (MatchesRest e rest) (BegunRest f rest) (Scales-rest e rest)
      (Scales-begun f))
  Scales-begun (alternation e f) =
      Scales-Either (BegunRest e rest) (BegunRest f rest) (Scales-begun e) (Scales-begun f)
  Scales-begun (intersection e f) =
      Scales-Both (BegunRest e rest) (BegunRest f rest) (Scales-begun e) (Scales-begun f)
  Scales-begun (repetition e) =
      Scales-Either (IsTheEnd rest)
      (Composed (MatchesRest (repetition e) rest) (BegunRest e rest))
      (Scales-Moment (end_of rest.start rest.segments))
      (Scales-Composed (MatchesRest (repetition e) rest) (BegunRest e rest)
      (Scales-rest (repetition e) rest) (Scales-begun e))
  Scales-begun (restriction e ends) =
      Scales-Lasting (IsBelowHigh ends) (BegunRest e rest) (DurationScales-high ends)
      (Scales-begun e)

  -- the moment is an end of the rest under another name
  pub finer : (tree : PatternTree) (time k a n : ℕ) → 0 < k
      → BegunRest tree rest (k * a) (time * (k * n)) (k * n) → BegunRest tree rest a (time * n) n
  finer tree time k a n pos h =
      (Scales-begun tree).down k a (time * n) n pos
      (moved (BegunRest tree rest) refl (sym (mul_left_comm k time n)) refl h)

  -- what has begun ends where the rest does
  pub ends_there : (tree : PatternTree) (a b n : ℕ) → BegunRest tree rest a b n
      → b ≡ end_of rest.start rest.segments * n
  ends_there (atom x) a b n h = ⊎_elim (λ e. e.end) (λ m. m.right.end) h
  ends_there (sequence e f) a b n h =
      ⊎_elim (λ x. ends_there e a b n x)
      (λ c. eq_down c.factor (end_of rest.start rest.segments) b n c.positive
      (ends_there f c.midpoint (c.factor * b) (c.factor * n) c.right)) h
  ends_there (alternation e f) a b n h =
      ⊎_elim (λ x. ends_there e a b n x) (λ x. ends_there f a b n x) h
  ends_there (intersection e f) a b n h = ends_there e a b n h.left
  ends_there (repetition e) a b n h =
      ⊎_elim (λ x. x.end)
      (λ c. eq_down c.factor (end_of rest.start rest.segments) b n c.positive
      (ends_there e c.midpoint (c.factor * b) (c.factor * n) c.right)) h
  ends_there (restriction e ends) a b n h = ends_there e a b n h.related

-- ---- a shorter time isn't too long either

shorter : (high : Option ℕ) (weak : Bool) (d d' n : ℕ) → d ≤ d'
    → MatchOption high (Unit {0}) (λ h. MatchBool weak (d' ≤ h * n) (d' < h * n))
    → MatchOption high (Unit {0}) (λ h. MatchBool weak (d ≤ h * n) (d < h * n))
shorter None weak d d' n le h = tt
shorter (Some high) true d d' n le h = omega (arith, le, h)
shorter (Some high) false d d' n le h = omega (arith, le, h)

sooner : (ends : IntervalEnds) (a c b n : ℕ) → c ≤ b → IsBelowHigh ends (b - a) n
    → IsBelowHigh ends (c - a) n
sooner ends a c b n le h = shorter ends.high ends.high_weak (c - a) (b - a) n (omega (arith, le)) h

-- ---- what crosses

module _ (cut : CutRest) (long : HasLongParts cut) where
  -- A match over the whole that begins no later than the cut, and ends no earlier, has begun.
  pub late : (tree : PatternTree) (a b n : ℕ) → 0 < n → MatchesAcross tree cut a b n
      → BegunRest tree (front_of cut) a (time_of cut * n) n
  late (atom empty) a b n some h =
      let at = (crossing_empty cut.start cut.before cut.front cut.back a b n).0 h in
      inl (record { begin = at.begin; end = refl })
  late (atom (literal s)) a b n some h =
      let parts = (crossing_literal (HoldsOn s) cut.start cut.before cut.front cut.back
      long.front long.back a b n some).0 h in
      ⊎_elim (λ lit. inr (record { left = lit; right = record { end = refl } }))
      (λ at. inl (record { begin = at.begin; end = refl })) parts.related.left
  late (atom (rise s)) a b n some h =
      let at = (crossing_edge (λ w. ¬ HoldsOn s w) (HoldsOn s) cut.start cut.before cut.front
      cut.back long.front a b n some).0 h in
      inl (record { begin = at.left.begin; end = refl })
  late (atom (fall s)) a b n some h =
      let at = (crossing_edge (HoldsOn s) (λ w. ¬ HoldsOn s w) cut.start cut.before cut.front
      cut.back long.front a b n some).0 h in
      inl (record { begin = at.left.begin; end = refl })
  late (atom (event i)) a b n some h =
      let at = (crossing_event i cut.start cut.before cut.front cut.back long.front a b n some).0 h
      in
      inl (record { begin = at.left.begin; end = refl })
  late (sequence e f) a b n some h =
      ⊎_elim
      (λ c. inl (finer (front_of cut) e (time_of cut) c.factor a n c.positive
      (late e (c.factor * a) c.midpoint (c.factor * n) (mul-pos c.positive some) c.left)))
      (λ c. inr (record {
        factor = c.factor;
        positive = c.positive;
        midpoint = c.midpoint;
        left = c.left;
        right = moved (BegunRest f (front_of cut)) refl
            (sym (mul_left_comm c.factor (time_of cut) n)) refl
            (late f c.midpoint (c.factor * b) (c.factor * n) (mul-pos c.positive some) c.right);
      }))
      ((crossing_sequence cut long.front e f a b n some).0 h)
  late (alternation e f) a b n some h =
      ⊎_elim
      (λ x. inl (late e a b n some (record { related = x; begin = h.begin; end = h.end })))
      (λ x. inr (late f a b n some (record { related = x; begin = h.begin; end = h.end })))
      h.related
  late (intersection e f) a b n some h = record {
    left = late e a b n some
        (record { related = h.related.left; begin = h.begin; end = h.end });
    right = late f a b n some
        (record { related = h.related.right; begin = h.begin; end = h.end });
  }
  late (repetition e) a b n some h =
      ⊎_elim
      (λ at. inl (record { begin = at.begin; end = refl }))
      (λ c.
      let d = c.right in
      inr (record {
        factor = c.factor;
        positive = c.positive;
        midpoint = c.midpoint;
        left = c.left;
        right = moved (BegunRest e (front_of cut)) refl
            (sym (mul_left_comm c.factor (time_of cut) n)) refl
            (finer (front_of cut) e (time_of cut) d.factor c.midpoint (c.factor * n) d.positive
            (late e (d.factor * c.midpoint) d.midpoint (d.factor * (c.factor * n))
            (mul-pos d.positive (mul-pos c.positive some)) d.left));
      }))
      ((crossing_repetition cut long.front e a b n some).0 h)
  late (restriction e ends) a b n some h = record {
    related = late e a b n some
        (record { related = h.related.related; begin = h.begin; end = h.end });
    admitted = sooner ends a (time_of cut * n) b n h.end h.related.admitted.1;
  }

  -- the whole doesn't end before the cut
  ends_late : (b n : ℕ) → b ≡ end_of (uncut cut).start (uncut cut).segments * n
      → time_of cut * n ≤ b
  ends_late b n is =
      let more : time_of cut ≤ end_of (uncut cut).start (uncut cut).segments =
      rw (end_of-append cut.start cut.front cut.back.segments)
      (end_of-le (time_of cut) cut.back.segments) in
      omega (arith, is, mul-le-mul_right n more)

  moment : (tree : PatternTree) (a b n : ℕ) → IsTheEnd (uncut cut) a b n
      → a ≤ time_of cut * n → IsTheEnd (front_of cut) a (time_of cut * n) n
  moment tree a b n h early =
      let le = ends_late b n h.end in
      let begin = h.begin in
      let end = h.end in
      record { begin = omega (arith, early, le, begin, end); end = refl }

  -- A part that matches up to c, and one behind it that has begun over the whole.
  module _ (e f : PatternTree)
      (had : (a b n : ℕ) → 0 < n → a ≤ time_of cut * n → BegunRest f (uncut cut) a b n
      → BegunRest f (front_of cut) a (time_of cut * n) n) where
    led : (a b n : ℕ) → 0 < n → a ≤ time_of cut * n
        → Composed (MatchesRest e (uncut cut)) (BegunRest f (uncut cut)) a b n
        → Either (BegunRest e (front_of cut))
        (Composed (MatchesRest e (front_of cut)) (BegunRest f (front_of cut)))
        a (time_of cut * n) n
    led a b n some early c =
        let pos = mul-pos c.positive some in
        ⊎_elim
        (λ sooner. inr (record {
          factor = c.factor;
          positive = c.positive;
          midpoint = c.midpoint;
          left = (IsCut-Matches cut long.front e).early.at (c.factor * a) c.midpoint
              (c.factor * n) sooner c.left;
          right = moved (BegunRest f (front_of cut)) refl
              (sym (mul_left_comm c.factor (time_of cut) n)) refl
              (had c.midpoint (c.factor * b) (c.factor * n) pos
              (omega (arith, sooner)) c.right);
        }))
        (λ later. inl (finer (front_of cut) e (time_of cut) c.factor a n c.positive
        (late e (c.factor * a) c.midpoint (c.factor * n) pos (record {
          related = c.left;
          begin = rw (← mul_left_comm c.factor (time_of cut) n) (mul-le-mul_left c.factor early);
          end = later;
        }))))
        (cases_lt c.midpoint (time_of cut * (c.factor * n)))

  -- What has begun over the whole had begun over the front.
  pub had : (tree : PatternTree) (a b n : ℕ) → 0 < n → a ≤ time_of cut * n
      → BegunRest tree (uncut cut) a b n → BegunRest tree (front_of cut) a (time_of cut * n) n
  had (atom x) a b n some early h =
      ⊎_elim (λ e. inl (moment (atom x) a b n e early))
      (λ m. late (atom x) a b n some (record {
        related = m.left;
        begin = early;
        end = ends_late b n m.right.end;
      })) h
  had (sequence e f) a b n some early h =
      ⊎_elim (λ x. inl (had e a b n some early x)) (λ c. led e f (had f) a b n some early c) h
  had (alternation e f) a b n some early h =
      ⊎_elim (λ x. inl (had e a b n some early x)) (λ x. inr (had f a b n some early x)) h
  had (intersection e f) a b n some early h = record {
    left = had e a b n some early h.left;
    right = had f a b n some early h.right;
  }
  had (repetition e) a b n some early h =
      ⊎_elim (λ x. inl (moment (repetition e) a b n x early))
      (λ c. ⊎_elim (λ x. x) (λ x. inr x) (led (repetition e) e (had e) a b n some early c)) h
  had (restriction e ends) a b n some early h = record {
    related = had e a b n some early h.related;
    admitted = sooner ends a (time_of cut * n) b n
        (ends_late b n (ends_there (uncut cut) e a b n h.related)) h.admitted;
  }

  -- What may match later: it did before, and ends before the cut, or it had begun.
  may_before : (tree : PatternTree) (a b n : ℕ) → 0 < n → a ≤ time_of cut * n
      → Either (MatchesRest tree (uncut cut)) (BegunRest tree (uncut cut)) a b n
      → ((b < time_of cut * n) × MatchesRest tree (front_of cut) a b n)
      ⊎ ((time_of cut * n ≤ b) × BegunRest tree (front_of cut) a (time_of cut * n) n)
  may_before tree a b n some early h =
      ⊎_elim
      (λ m. ⊎_elim
      (λ sooner. inl (sooner, (IsCut-Matches cut long.front tree).early.at a b n sooner m))
      (λ later. inr (
        later,
        late tree a b n some (record { related = m; begin = early; end = later }),
      ))
      (cases_lt b (time_of cut * n)))
      (λ g. inr (ends_late b n (ends_there (uncut cut) tree a b n g), had tree a b n some early g))
      h

  pub same_before : (tree : PatternTree) (a b n : ℕ) → 0 < n → a ≤ b → b ≤ time_of cut * n
      → Either (MatchesRest tree (uncut cut)) (BegunRest tree (uncut cut)) a b n
      → Either (MatchesRest tree (front_of cut)) (BegunRest tree (front_of cut)) a b n
  same_before tree a b n some le within h =
      ⊎_elim (λ x. inl x.1)
      (λ x.
      let later = x.0 in
      inr (moved (BegunRest tree (front_of cut)) refl (omega (arith, later, within)) refl x.1))
      (may_before tree a b n some (omega (arith, le, within)) h)

  pub led_before : (tree : PatternTree) (b n : ℕ) → 0 < n → b ≤ time_of cut * n
      → Leads (Either (MatchesRest tree (uncut cut)) (BegunRest tree (uncut cut))) b n
      → Leads (Either (MatchesRest tree (front_of cut)) (BegunRest tree (front_of cut))) b n
  led_before tree b n some within h =
      let k = h.factor in
      let early : k * b ≤ time_of cut * (k * n) =
      rw (← mul_left_comm k (time_of cut) n) (mul-le-mul_left k within) in
      ⊎_elim
      (λ x. record { factor = k; positive = h.positive; to = h.to; led = inl x.1 })
      (λ x. record {
        factor = k;
        positive = h.positive;
        to = time_of cut * (k * n);
        led = inr x.1;
      })
      (may_before tree (k * b) h.to (k * n) (mul-pos h.positive some) early h.led)
