-- How the pairs that cross a cut come from those before it, those behind it, and the crossing ones
-- of the parts of an operator.
use Rattle.std.proofs.Common.{ℕ, ◌*◌, ◌<◌, ◌≤◌, ◌↔◌, List, [], ◌∷◌, refl, sym, inl, inr, ⊎_elim, arith, rules}
use Rattle.std.proofs.lemmas.Bool.{cases_lt}
use Rattle.std.proofs.Math.Nat.{mul-pos}
use Rattle.tre_pairs.specs.Cuts.{IsMoment, Crossing}
use Rattle.tre_pairs.specs.Pairs.{Pairs, Composed, Either, Both, Lasting, LeadTo, Chain}
use Rattle.tre_pairs.proofs.Chains.{Composed-at, Chain-at, Chain-none, Chain-one, Chain-join, Chain-step}
use Rattle.tre_pairs.proofs.Implication.{Implies-Chain}
use Rattle.tre_pairs.proofs.Laws.{Scales, IsOrdered, IsInstant, Implies, ImpliesBefore}
use Rattle.tre_pairs.proofs.Order.{IsOrdered-Chain}
use Rattle.tre_pairs.proofs.Scaling.{moved, Scales-Composed, Scales-Either, Scales-Chain}
use Rattle.tre_pairs.proofs.Ticks.{le_up, le_down, ge_up, ge_down, eq_up, eq_down}

-- What R relates from the cut on, S relates too.
pub record ImpliesFrom (cut : ℕ) (R S : Pairs) : Type 0 where
  pub at : (a b n : ℕ) → 0 < n → cut * n ≤ a → R a b n → S a b n

-- W is a relation over all of time, U the same over what is before the cut, V over what is behind
-- it: both are parts of W, U has all that ends before the cut, and V all that begins from it on.
pub record IsCut (cut : ℕ) (W U V : Pairs) : Type 0 where
  pub grows : Implies U W
  pub early : ImpliesBefore cut W U
  pub behind : Implies V W
  pub late : ImpliesFrom cut W V
  pub ends : (a b n : ℕ) → U a b n → b ≤ cut * n
  pub begins : (a b n : ℕ) → V a b n → cut * n ≤ a

module _ (cut : ℕ) where
  pub Scales-Moment : Scales (IsMoment cut)
  Scales-Moment = search (rules, eq_up, eq_down)

  pub Scales-Crossing : (R : Pairs) → Scales R → Scales (Crossing cut R)
  Scales-Crossing R r = record {
    up = λ k a b n pos h. record {
      related = r.up k a b n pos h.related;
      begin = ge_up k cut a n h.begin;
      end = le_up k cut b n h.end;
    };
    down = λ k a b n pos h. record {
      related = r.down k a b n pos h.related;
      begin = ge_down k cut a n pos h.begin;
      end = le_down k cut b n pos h.end;
    };
  }

  -- all pairs: those before, those behind, and the crossing ones
  pub cut_parts : (W U V : Pairs) → IsCut cut W U V → (a b n : ℕ) → 0 < n
      → W a b n ↔ Either U (Either V (Crossing cut W)) a b n
  cut_parts W U V parts a b n some = search rules

  pub crossing_either : (R S : Pairs) (a b n : ℕ)
      → Crossing cut (Either R S) a b n ↔ Either (Crossing cut R) (Crossing cut S) a b n
  crossing_either R S a b n = search rules

  pub crossing_both : (R S : Pairs) (a b n : ℕ)
      → Crossing cut (Both R S) a b n ↔ Both (Crossing cut R) (Crossing cut S) a b n
  crossing_both R S a b n = search rules

  pub crossing_lasting : (D : ℕ → ℕ → Type 0) (R : Pairs) (a b n : ℕ)
      → Crossing cut (Lasting D R) a b n ↔ Lasting D (Crossing cut R) a b n
  crossing_lasting D R a b n = search rules

-- Where one follows another, either the first crosses the cut and the second is behind it, or the
-- first is before it and the second crosses.
module _ (cut : ℕ) (W U V W' U' V' : Pairs) (first : IsCut cut W U V) (second : IsCut cut W' U' V')
    (ordered : IsOrdered W) (ordered' : IsOrdered W') where
  pub crossing_composed : (a b n : ℕ) → 0 < n → Crossing cut (Composed W W') a b n
      ↔ Either (Composed (Crossing cut W) V') (Composed U (Crossing cut W')) a b n
  crossing_composed a b n some = (
    λ h.
        let k = h.related.factor in
        let m = h.related.midpoint in
        let finer : 0 < k * n = mul-pos h.related.positive some in
        let begin : k * a ≤ cut * (k * n) = ge_up k cut a n h.begin in
        let end : cut * (k * n) ≤ k * b = le_up k cut b n h.end in
        ⊎_elim
        (λ before. inr (record {
          factor = k;
          positive = h.related.positive;
          midpoint = m;
          left = first.early.at (k * a) m (k * n) before h.related.left;
          right = record { related = h.related.right; begin = omega (arith, before); end = end };
        }))
        (λ from. inl (record {
          factor = k;
          positive = h.related.positive;
          midpoint = m;
          left = record { related = h.related.left; begin = begin; end = from };
          right = second.late.at m (k * b) (k * n) finer from h.related.right;
        }))
        (cases_lt m (cut * (k * n))),
    λ h. ⊎_elim
        (λ g.
        let k = g.factor in
        let m = g.midpoint in
        let right = second.behind.at m (k * b) (k * n) g.right in
        let le = ordered'.le m (k * b) (k * n) right in
        let from = second.begins m (k * b) (k * n) g.right in
        record {
          related = record {
            factor = k;
            positive = g.positive;
            midpoint = m;
            left = g.left.related;
            right = right;
          };
          begin = ge_down k cut a n g.positive g.left.begin;
          end = le_down k cut b n g.positive (omega (arith, from, le));
        })
        (λ g.
        let k = g.factor in
        let m = g.midpoint in
        let left = first.grows.at (k * a) m (k * n) g.left in
        let le = ordered.le (k * a) m (k * n) left in
        let to = g.right.begin in
        record {
          related = record {
            factor = k;
            positive = g.positive;
            midpoint = m;
            left = left;
            right = g.right.related;
          };
          begin = ge_down k cut a n g.positive (omega (arith, le, to));
          end = le_down k cut b n g.positive g.right.end;
        })
        h,
  )

-- Where something is repeated, one repetition crosses the cut: before it are repetitions before the
-- cut, and after it repetitions behind the cut. Or no time passes at all.
module _ (cut : ℕ) (W U V E F G : Pairs) (step : IsCut cut W U V) (moment : IsCut cut E F G)
    (ordered : IsOrdered W) (same : IsInstant E)
    (w : Scales W) (u : Scales U) (v : Scales V) (e : Scales E) (f : Scales F) (g : Scales G)
    (from_here : (a b n : ℕ) → W a b n → a ≤ cut * n → F a a n)
    (to_here : (a b n : ℕ) → W a b n → E b b n)
    (at_cut : (n : ℕ) → E (cut * n) (cut * n) n) where
  -- the repetition that crosses, and those on either side
  Around : Pairs
  Around = Composed (Chain U F) (Composed (Crossing cut W) (Chain V G))

  LeadTo-late : (n from : ℕ) (cuts : List ℕ) (to : ℕ) → 0 < n → cut * n ≤ from
      → LeadTo W E n from cuts to → LeadTo V G n from cuts to
  LeadTo-late n from [] to some late h = moment.late.at from to n some late h
  LeadTo-late n from (next ∷ cuts) to some late h =
      let le = ordered.le from next n h.0 in (
        step.late.at from next n some late h.0,
        LeadTo-late n next cuts to some (omega (arith, late, le)) h.1,
      )

  before_around : (n from next to : ℕ) → U from next n → Around next to n → Around from to n
  unfolding Around
  before_around n from next to h rest =
      let k = rest.factor in
      record {
        factor = k;
        positive = rest.positive;
        midpoint = rest.midpoint;
        left = Chain-step U F u f (k * from) rest.midpoint (k * n)
            (Composed-at U (Chain U F) (k * from) (k * next) rest.midpoint (k * n)
            (u.up k from next n rest.positive h) rest.left);
        right = rest.right;
      }

  around_here : (n from next : ℕ) (cuts : List ℕ) (to : ℕ) → 0 < n → from ≤ cut * n
      → cut * n ≤ next → W from next n → LeadTo W E n next cuts to → Around from to n
  unfolding Around
  around_here n from next cuts to some before late h more =
      Composed-at (Chain U F) (Composed (Crossing cut W) (Chain V G)) from from to n
      (Chain-none U F from from n (from_here from next n h before))
      (Composed-at (Crossing cut W) (Chain V G) from next to n
      (record { related = h; begin = before; end = late })
      (Chain-at V G next to n cuts (LeadTo-late n next cuts to some late more)))

  across : (n from : ℕ) (cuts : List ℕ) (to : ℕ) → 0 < n → from ≤ cut * n → cut * n ≤ to
      → LeadTo W E n from cuts to → Either (IsMoment cut) Around from to n
  across n from [] to some before late h = search rules
  across n from (next ∷ cuts) to some before late h =
      ⊎_elim
      (λ early. ⊎_elim
      (λ here. let at = here.begin in absurd (omega (arith, early, at)))
      (λ rest. inr (before_around n from next to (step.early.at from next n early h.0) rest))
      (across n next cuts to some (omega (arith, early)) late h.1))
      (λ behind. inr (around_here n from next cuts to some before behind h.0 h.1))
      (cases_lt next (cut * n))

  Scales-Around : Scales Around
  unfolding Around
  Scales-Around = search (rules, Scales-Composed, Scales-Chain, Scales-Crossing)

  around_chain : (a b n : ℕ) → Around a b n → Crossing cut (Chain W E) a b n
  unfolding Around
  around_chain a b n h =
      let k = h.factor in
      let j = h.right.factor in
      let m = h.midpoint in
      let p = h.right.midpoint in
      let chains = Scales-Chain W E w e in
      let left : Chain W E (k * a) m (k * n) =
      (Implies-Chain U W F E step.grows moment.grows).at (k * a) m (k * n) h.left in
      let right : Chain W E p (j * (k * b)) (j * (k * n)) =
      (Implies-Chain V W G E step.behind moment.behind).at p (j * (k * b)) (j * (k * n))
      h.right.right in
      let middle : Chain W E (j * m) p (j * (k * n)) =
      Chain-one W E (j * m) p (j * (k * n)) h.right.left.related
      (to_here (j * m) p (j * (k * n)) h.right.left.related) in
      let all = Chain-join W E w e same (j * (k * a)) (j * m) (j * (k * b)) (j * (k * n))
      (chains.up j (k * a) m (k * n) h.right.positive left)
      (Chain-join W E w e same (j * m) p (j * (k * b)) (j * (k * n)) middle right) in
      let rising = IsOrdered-Chain W E ordered same in
      let first = rising.le (k * a) m (k * n) left in
      let last = rising.le p (j * (k * b)) (j * (k * n)) right in
      let to = ge_down j cut m (k * n) h.right.positive h.right.left.begin in
      let from = h.right.left.end in
      let end = le_down j cut (k * b) (k * n) h.right.positive (omega (arith, from, last)) in
      record {
        related = chains.down k a b n h.positive
            (chains.down j (k * a) (k * b) (k * n) h.right.positive all);
        begin = ge_down k cut a n h.positive (omega (arith, first, to));
        end = le_down k cut b n h.positive end;
      }

  moment_chain : (a b n : ℕ) → IsMoment cut a b n → Crossing cut (Chain W E) a b n
  moment_chain a b n h = search rules

  pub crossing_chain : (a b n : ℕ) → 0 < n → Crossing cut (Chain W E) a b n
      ↔ Either (IsMoment cut)
      (Composed (Chain U F) (Composed (Crossing cut W) (Chain V G))) a b n
  unfolding Around
  crossing_chain a b n some = (
    λ h.
        let k = h.related.factor in
        (Scales-Either (IsMoment cut) Around (Scales-Moment cut) Scales-Around).down k a b n
        h.related.positive
        (across (k * n) (k * a) h.related.cuts (k * b) (mul-pos h.related.positive some)
        (ge_up k cut a n h.begin) (le_up k cut b n h.end) h.related.steps),
    λ h. ⊎_elim (λ x. moment_chain a b n x) (λ x. around_chain a b n x) h,
  )

-- What implies from a time on passes through every operator.
module _ (cut : ℕ) (R R' S S' : Pairs) where
  pub ImpliesFrom-Composed : IsOrdered R → ImpliesFrom cut R R' → ImpliesFrom cut S S'
      → ImpliesFrom cut (Composed R S) (Composed R' S')
  ImpliesFrom-Composed ordered r s = record {
    at = λ a b n some late h.
        let finer : 0 < h.factor * n = mul-pos h.positive some in
        let begin : cut * (h.factor * n) ≤ h.factor * a = le_up h.factor cut a n late in
        let le = ordered.le (h.factor * a) h.midpoint (h.factor * n) h.left in
        record {
          factor = h.factor;
          positive = h.positive;
          midpoint = h.midpoint;
          left = r.at (h.factor * a) h.midpoint (h.factor * n) finer begin h.left;
          right = s.at h.midpoint (h.factor * b) (h.factor * n) finer (omega (arith, begin, le))
              h.right;
        };
  }

  pub ImpliesFrom-Either : ImpliesFrom cut R R' → ImpliesFrom cut S S'
      → ImpliesFrom cut (Either R S) (Either R' S')
  ImpliesFrom-Either r s = search rules

  pub ImpliesFrom-Both : ImpliesFrom cut R R' → ImpliesFrom cut S S'
      → ImpliesFrom cut (Both R S) (Both R' S')
  ImpliesFrom-Both r s = search rules

pub ImpliesFrom-Lasting : (cut : ℕ) (D : ℕ → ℕ → Type 0) (R R' : Pairs) → ImpliesFrom cut R R'
    → ImpliesFrom cut (Lasting D R) (Lasting D R')
ImpliesFrom-Lasting cut D R R' r = search rules

module _ (cut : ℕ) (R R' E E' : Pairs) (ordered : IsOrdered R) (r : ImpliesFrom cut R R')
    (e : ImpliesFrom cut E E') where
  LeadTo-from : (n from : ℕ) (cuts : List ℕ) (to : ℕ) → 0 < n → cut * n ≤ from
      → LeadTo R E n from cuts to → LeadTo R' E' n from cuts to
  LeadTo-from n from [] to some late h = e.at from to n some late h
  LeadTo-from n from (next ∷ cuts) to some late h =
      let le = ordered.le from next n h.0 in (
        r.at from next n some late h.0,
        LeadTo-from n next cuts to some (omega (arith, late, le)) h.1,
      )

  pub ImpliesFrom-Chain : ImpliesFrom cut (Chain R E) (Chain R' E')
  ImpliesFrom-Chain = record {
    at = λ a b n some late h. record {
      factor = h.factor;
      positive = h.positive;
      cuts = h.cuts;
      steps = LeadTo-from (h.factor * n) (h.factor * a) h.cuts (h.factor * b)
          (mul-pos h.positive some) (le_up h.factor cut a n late) h.steps;
    };
  }
