-- Residuals that stand for the pairs of a form.
use Rattle.std.proofs.Common.{◌≡◌, ℕ, ◌*◌, ◌<◌, List, [], inl, inr, ⊎_elim, subst, refl, sym}
use Rattle.std.proofs.Math.Nat.{mul_left_comm, mul-pos}
use Rattle.tre_pairs.specs.Pairs.{Composed}
use Rattle.tre_pairs.proofs.Agreement.{Agree-Composed}
use Rattle.tre_pairs.proofs.Chains.{Composed-assoc}
use Rattle.tre_pairs.proofs.Laws.{Agree}
use Rattle.tre_pairs.proofs.Scaling.{moved}
use Rattle.tre_pairs.proofs.Ticks.{eq_down}
use Rattle.tre_syntax.specs.Meaning.{MatchesRest}
use Rattle.tre_syntax.specs.PatternTree.{PatternTree}
use Rattle.tre_syntax.specs.Rest.{Rest}
use Rattle.tre_syntax.proofs.CutMeaning.{Scales-rest}
use Rattle.tre_zone.specs.Interval.{IntervalEnds}
use Rattle.tre_zone.specs.declared.zone_bounds.ZoneBounds.{ZoneBounds}
use Rattle.tre_zone.specs.Held.{Held, EndAt}
use Rattle.tre_node.specs.IsNode.{IsIdle}
use Rattle.tre_node.specs.NodeTree.{tree_of_node}
use Rattle.tre_node.specs.declared.node.Node.{Node}
use Rattle.tre_node.proofs.NewNodes.{idle_nothing}
use Rattle.tre_residual.specs.Residual.{ResidualTree, nothing, here, joined, preceded, followed, either, lasting, marked, Means, Builds, IsComposition}
use Rattle.tre_zone.proofs.HeldSets.{Scales-Held, Held-empty}
use Rattle.tre_residual.proofs.Meanings.{Scales-Means}

-- Any form stands for its own pairs.
pub Builds-refl : (form : ResidualTree) → Builds form form
Builds-refl form = record {
  pairs = λ rest a b n some. ((λ h. h), (λ h. h));
  well = λ time h. h;
}

pub Builds-trans : (one two three : ResidualTree) → Builds one two → Builds two three
    → Builds one three
Builds-trans one two three f g = record {
  pairs = λ rest a b n some.
      let x = f.pairs rest a b n some in
      let y = g.pairs rest a b n some in
      ((λ h. y.0 (x.0 h)), (λ h. x.1 (y.1 h)));
  well = λ time h. f.well time (g.well time h);
}

-- The same tree stands for the same pairs.
pub Builds-same : (one two : ResidualTree) → one ≡ two → Builds one two
Builds-same one two same = subst (λ (tree : ResidualTree). Builds one tree) same (Builds-refl one)

-- What means no pair is as good as nothing.
pub Builds-nothing : (form : ResidualTree)
    → ((rest : Rest) (a b n : ℕ) → 0 < n → Means form rest a b n → ⊥) → Builds nothing form
Builds-nothing form never = record {
  pairs = λ rest a b n some. ((λ h. absurd h), (λ h. absurd (never rest a b n some h)));
  well = λ time h. record { well = tt };
}

pub nothing_after_none : (residual : ResidualTree) → Builds nothing (preceded [] residual)
nothing_after_none residual = Builds-nothing (preceded [] residual)
    (λ rest a b n some h. Held-empty (h.factor * a) h.midpoint (h.factor * n) h.left)

pub nothing_before : (zones : List ZoneBounds) → Builds nothing (preceded zones nothing)
nothing_before zones = Builds-nothing (preceded zones nothing) (λ rest a b n some h. h.right)

pub nothing_followed : (tree : PatternTree) → Builds nothing (followed nothing tree)
nothing_followed tree = Builds-nothing (followed nothing tree) (λ rest a b n some h. h.left)

-- A form of an empty set may mean no pair.
pub dropped : (zones : List ZoneBounds) (form : List ZoneBounds → ResidualTree)
    (whole : ResidualTree) → Builds nothing (form []) → zones ≡ [] → Builds (form zones) whole
    → Builds nothing whole
dropped zones form whole none empty f =
    Builds-trans nothing (form zones) whole
    (subst (λ (list : List ZoneBounds). Builds nothing (form list)) (sym empty) none) f

pub dropped_before : (zones : List ZoneBounds) (residual : ResidualTree) → zones ≡ []
    → Builds nothing (preceded zones residual)
dropped_before zones residual empty =
    dropped zones (λ list. preceded list residual) (preceded zones residual)
    (nothing_after_none residual) empty (Builds-refl (preceded zones residual))

-- A form of nothing may mean no pair.
pub dropped_form : (residual : ResidualTree) (form : ResidualTree → ResidualTree)
    → Builds nothing (form nothing) → residual ≡ nothing → Builds nothing (form residual)
dropped_form residual form none empty =
    subst (λ (tree : ResidualTree). Builds nothing (form tree)) (sym empty) none

-- Then nothing itself stands for it.
pub kept_form : (residual : ResidualTree) (form : ResidualTree → ResidualTree)
    → Builds nothing (form nothing) → residual ≡ nothing → Builds residual (form residual)
kept_form residual form none empty =
    subst (λ (tree : ResidualTree). Builds tree (form tree)) (sym empty) none

pub nothing_here : Builds nothing (here [])
nothing_here = Builds-nothing (here []) (λ rest a b n some h. Held-empty a b n h)

pub nothing_joined : (tree : PatternTree) → Builds nothing (joined [] tree)
nothing_joined tree = Builds-nothing (joined [] tree)
    (λ rest a b n some h. Held-empty a (rest.start * n) n h.left)

pub nothing_lasting : (ends : IntervalEnds) → Builds nothing (lasting nothing ends)
nothing_lasting ends = Builds-nothing (lasting nothing ends) (λ rest a b n some h. h.related)

pub nothing_marked : (node : Node) → IsIdle node → Builds nothing (marked node)
nothing_marked node idle = Builds-nothing (marked node)
    (λ rest a b n some h.
    (idle_nothing rest.start node idle).never (tree_of_node node) rest a b n h)

pub either_right : (other : ResidualTree) → Builds other (either nothing other)
either_right other = record {
  pairs = λ rest a b n some. ((λ h. inr h), (λ h. ⊎_elim (λ x. absurd x) (λ x. x) h));
  well = λ time h. record { well = h.well.1 };
}

pub either_left : (one : ResidualTree) → Builds one (either one nothing)
either_left one = record {
  pairs = λ rest a b n some. ((λ h. inl h), (λ h. ⊎_elim (λ x. x) (λ x. absurd x) h));
  well = λ time h. record { well = h.well.0 };
}

pub either_right_of : (one other : ResidualTree) → one ≡ nothing → Builds other (either one other)
either_right_of one other empty =
    subst (λ (tree : ResidualTree). Builds other (either tree other)) (sym empty)
    (either_right other)

pub either_left_of : (one other : ResidualTree) → other ≡ nothing → Builds one (either one other)
either_left_of one other empty =
    subst (λ (tree : ResidualTree). Builds one (either one tree)) (sym empty) (either_left one)

Agree-of : (one two : ResidualTree) → Builds one two → (rest : Rest)
    → Agree (Means one rest) (Means two rest)
Agree-of one two f rest = record { at = λ a b n some. f.pairs rest a b n some }

module _ (zones first second : List ZoneBounds) (composed : IsComposition zones first second) where
  Agree-composed : Agree (Held zones) (Composed (Held first) (Held second))
  Agree-composed = record { at = composed.pairs }

  ends_after : (time : ℕ) → EndAt time second → EndAt time zones
  ends_after time ends = record {
    ends = λ a b n some h.
        let g = (composed.pairs a b n some).0 h in
        eq_down g.factor time b n g.positive
        (ends.ends g.midpoint (g.factor * b) (g.factor * n) (mul-pos g.positive some) g.right);
  }

  -- A set goes into what is here.
  pub here_composed : Builds (here zones) (preceded first (here second))
  here_composed = record {
    pairs = λ rest a b n some. composed.pairs a b n some;
    well = λ time h. record { well = ends_after time h.well };
  }

  -- A set goes before what a match goes on.
  pub joined_composed : (tree : PatternTree)
      → Builds (joined zones tree) (preceded first (joined second tree))
  joined_composed tree = record {
    pairs = λ rest a b n some.
        let cut = rest.start in
        let T = MatchesRest tree rest in
        let t = Scales-rest tree rest in (
          (λ h.
              let g = (composed.pairs a (cut * n) n some).0 h.left in
              record {
                factor = g.factor;
                positive = g.positive;
                midpoint = g.midpoint;
                left = g.left;
                right = record {
                  left = moved (Held second) refl (mul_left_comm g.factor cut n) refl g.right;
                  right = moved T (mul_left_comm g.factor cut n) refl refl
                      (t.up g.factor (cut * n) b n g.positive h.right);
                };
              }),
          (λ h.
              let k = h.factor in
              record {
                left = (composed.pairs a (cut * n) n some).1 (record {
                  factor = k;
                  positive = h.positive;
                  midpoint = h.midpoint;
                  left = h.left;
                  right = moved (Held second) refl (mul_left_comm cut k n) refl h.right.left;
                });
                right = t.down k (cut * n) b n h.positive
                    (moved T (mul_left_comm cut k n) refl refl h.right.right);
              }),
        );
    well = λ time h. record { well = h.well };
  }

  -- Two sets become one.
  pub preceded_composed : (residual : ResidualTree)
      → Builds (preceded zones residual) (preceded first (preceded second residual))
  preceded_composed residual = record {
    pairs = λ rest a b n some.
        let R = Means residual rest in
        let same = Agree-Composed (Held zones) (Composed (Held first) (Held second)) R R
        Agree-composed (Agree-of residual residual (Builds-refl residual) rest) in
        let one = same.at a b n some in
        let two = Composed-assoc (Held first) (Held second) R (Scales-Held first)
        (Scales-Means rest residual) a b n in
        ((λ h. two.0 (one.0 h)), (λ h. one.1 (two.1 h)));
    well = λ time h. record { well = h.well };
  }

-- A set goes into what a match follows.
pub preceded_followed : (zones : List ZoneBounds) (first residual whole : ResidualTree)
    (tree : PatternTree) → Builds first (preceded zones residual)
    → Builds whole (followed first tree) → Builds whole (preceded zones (followed residual tree))
preceded_followed zones first residual whole tree inner outer = record {
  pairs = λ rest a b n some.
      let R = Means residual rest in
      let T = MatchesRest tree rest in
      let same = Agree-Composed (Means first rest) (Composed (Held zones) R) T T
      (Agree-of first (preceded zones residual) inner rest)
      (record { at = λ a b n some. ((λ h. h), (λ h. h)) }) in
      let one = outer.pairs rest a b n some in
      let two = same.at a b n some in
      let three = Composed-assoc (Held zones) R T (Scales-Held zones)
      (Scales-rest tree rest) a b n in
      ((λ h. three.0 (two.0 (one.0 h))), (λ h. one.1 (two.1 (three.1 h))));
  well = λ time h.
      let f = inner.well time (record { well = h.well.0 }) in
      outer.well time (record { well = (f.well, h.well.1) });
}

-- A set goes into both sides of a choice.
pub preceded_either : (zones : List ZoneBounds) (one one' other other' whole : ResidualTree)
    → Builds one' (preceded zones one) → Builds other' (preceded zones other)
    → Builds whole (either one' other') → Builds whole (preceded zones (either one other))
preceded_either zones one one' other other' whole first second outer = record {
  pairs = λ rest a b n some.
      let f = first.pairs rest a b n some in
      let g = second.pairs rest a b n some in
      let w = outer.pairs rest a b n some in (
        (λ h. ⊎_elim
            (λ x.
            let c = f.0 x in
            record {
              factor = c.factor;
              positive = c.positive;
              midpoint = c.midpoint;
              left = c.left;
              right = inl c.right;
            })
            (λ x.
            let c = g.0 x in
            record {
              factor = c.factor;
              positive = c.positive;
              midpoint = c.midpoint;
              left = c.left;
              right = inr c.right;
            })
            (w.0 h)),
        (λ h. ⊎_elim
            (λ x. w.1 (inl (f.1 (record {
              factor = h.factor;
              positive = h.positive;
              midpoint = h.midpoint;
              left = h.left;
              right = x;
            }))))
            (λ x. w.1 (inr (g.1 (record {
              factor = h.factor;
              positive = h.positive;
              midpoint = h.midpoint;
              left = h.left;
              right = x;
            }))))
            h.right),
      );
  well = λ time h.
      let f = first.well time (record { well = h.well.0 }) in
      let g = second.well time (record { well = h.well.1 }) in
      outer.well time (record { well = (f.well, g.well) });
}
