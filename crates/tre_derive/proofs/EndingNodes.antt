-- What a pattern under way stands for where the trace has ended, from what its parts stand for.
use Rattle.std.proofs.Common.{◌≡◌, ℕ, ◌*◌, ◌<◌, ◌≤◌, ◌↔◌, Bool, true, false, Option, List, [], ◌∷◌, inl, inr, ⊎_elim, refl, sym, subst, arith}
use Rattle.std.proofs.Math.Nat.{mul-le-mul_right, mul-pos}
use Rattle.tre_pairs.specs.Pairs.{Both, Either, Lasting}
use Rattle.tre_pairs.specs.declared.TheConstants.{TIME_MAX}
use Rattle.tre_pairs.proofs.Chains.{Composed-at}
use Rattle.tre_pairs.proofs.Scaling.{moved}
use Rattle.tre_zone.specs.Held.{Held}
use Rattle.tre_zone.specs.Interval.{IntervalEnds, LastsWithin}
use Rattle.tre_zone.specs.Zone.{instants_of}
use Rattle.tre_zone.specs.ZoneList.{SetHolds, HoldExactly}
use Rattle.tre_zone.specs.declared.zone_bounds.ZoneBounds.{ZoneBounds}
use Rattle.tre_zone.proofs.HeldSets.{Held-empty}
use Rattle.tre_zone.proofs.ZoneListLemmas.{SetHolds-empty}
use Rattle.tre_state.specs.State.{tree_of}
use Rattle.tre_state.specs.declared.names.TheConstants.{NAMES_MAX}
use Rattle.tre_syntax.specs.PatternTree.{NumbersBelow, atom, literal, repetition}
use Rattle.tre_syntax.proofs.Ends.{matches_at_end}
use Rattle.tre_mark.proofs.Growth.{mark_ends}
use Rattle.tre_mark.proofs.Meanings.{around_present}
use Rattle.tre_node.specs.IsNode.{IsNode}
use Rattle.tre_node.specs.NodeTree.{begun_at, led_by, mark_of_node, tree_of_node}
use Rattle.tre_node.specs.declared.node.Node.{Node, Eps, Lit, Rise, Fall, Event, Seq', Alt', Meet', Star', Within'}
use Rattle.tre_node.proofs.BegunAt.{begun_end}
use Rattle.tre_node.proofs.Instances.{held_moments}
use Rattle.tre_residual.specs.Residual.{ResidualTree, preceded, followed, either, both, lasting, marked, Means}
use Rattle.tre_residual.proofs.Meanings.{Scales-Means}
use Rattle.tre_derive.specs.Closing.{ClosesTo, HeldAtEnd, LedTo, end_at}
use Rattle.tre_derive.proofs.ClosingForms.{EndsThere, close_preceded, close_lasting, close_either, close_both, close_followed}

-- The expression of a node names propositions that there are.
pub node_numbers : (time : ℕ) (node : Node) → IsNode time node
    → NumbersBelow NAMES_MAX (tree_of_node node)
node_numbers time (Eps around) n = tt
node_numbers time (Lit around state begun) n = n.1
node_numbers time (Rise around state) n = n.1
node_numbers time (Fall around state) n = n.1
node_numbers time (Event around number) n = n.1
node_numbers time (Seq' around x left x' right) n =
    (node_numbers time left n.2, node_numbers time right n.3)
node_numbers time (Alt' around x left x' right) n =
    (node_numbers time left n.2, node_numbers time right n.3)
node_numbers time (Meet' around reach outer most x left x' right) n =
    (node_numbers time left n.4, node_numbers time right n.5)
node_numbers time (Star' around x body) n = node_numbers time body n.2
node_numbers time (Within' around reach interval outer most x body) n = node_numbers time body n.4

module _ (time events : ℕ) where
  abbrev Closes : ResidualTree → List ZoneBounds → Type 0
  Closes residual told = ClosesTo residual time events told

  -- The same pairs, by another form.
  closes_as : (one other : ResidualTree) (told : List ZoneBounds)
      → ((before : Option ℕ) (a b n : ℕ) → 0 < n
      → Means one (end_at time events before) a b n ↔ Means other (end_at time events before) a b n)
      → Closes one told → Closes other told
  closes_as one other told same closes = record {
    tells = λ before. record {
      exact = λ a b n some le.
          let held = (closes.tells before).exact a b n some le in
          let alike = same before a b n some in
          ((λ h. alike.0 (held.0 h)), (λ h. held.1 (alike.1 h)));
    };
  }

  pub node_ends : (node : Node) → EndsThere time events (marked node)
  node_ends node before a b n some h =
      let rest = end_at time events before in
      let mark = mark_of_node time node in
      let around = around_present rest mark (tree_of_node node) a b n h in
      let from = around.1 in
      let same : time ≤ time = omega arith in
      let to = mark_ends rest same mark (tree_of_node node) a b n h in
      (around.0, omega (arith, from, to))

  -- ---- atoms

  pub close_empty : (node : Node) (told : List ZoneBounds) → told ≡ []
      → ((before : Option ℕ) (a b n : ℕ) → Means (marked node) (end_at time events before) a b n
      → ⊥)
      → Closes (marked node) told
  close_empty node told none never = record {
    tells = λ before. record {
      exact = λ a b n some le. (
        (λ h. absurd (SetHolds-empty a b n (subst (λ list. SetHolds list a b n) none h))),
        (λ h. absurd (never before a b n h)),
      );
    };
  }

  pub close_eps : (around : _) (told : List ZoneBounds) → told ≡ []
      → Closes (marked (Eps around)) told
  close_eps around told none = close_empty (Eps around) told none
      (λ before a b n h. ⊎_elim (λ x. Held-empty a (time * n) n x.left)
      (λ y. Held-empty a (time * n) n y.left) h)

  pub close_rise : (around : _) (state : _) (told : List ZoneBounds) → told ≡ []
      → Closes (marked (Rise around state)) told
  close_rise around state told none = close_empty (Rise around state) told none
      (λ before a b n h. ⊎_elim (λ x. Held-empty a (time * n) n x.left)
      (λ y. Held-empty a (time * n) n y.left) h)

  pub close_fall : (around : _) (state : _) (told : List ZoneBounds) → told ≡ []
      → Closes (marked (Fall around state)) told
  close_fall around state told none = close_empty (Fall around state) told none
      (λ before a b n h. ⊎_elim (λ x. Held-empty a (time * n) n x.left)
      (λ y. Held-empty a (time * n) n y.left) h)

  pub close_event : (around : _) (number : _) (told : List ZoneBounds) → told ≡ []
      → Closes (marked (Event around number)) told
  close_event around number told none = close_empty (Event around number) told none
      (λ before a b n h. ⊎_elim (λ x. Held-empty a (time * n) n x.left)
      (λ y. Held-empty a (time * n) n y.left) h)

  abbrev pub LiteralCloses : Node → List ZoneBounds → Type 0
  LiteralCloses (Lit around state begun) told =
      HoldExactly told (SetHolds (begun_at time begun.items))
  LiteralCloses node told = ⊥

  pub close_literal : (node : Node) (told : List ZoneBounds) → LiteralCloses node told
      → Closes (marked node) told
  close_literal (Lit around state begun) told held = record {
    tells = λ before. record {
      exact = λ a b n some le.
          let list = begun_at time begun.items in
          let same = held.exact a b n some le in (
            (λ h.
                let at = (begun_end time begun.items).ends a b n some
                (record { rising = le; held = same.0 h }) in
                inr (record {
                  left = moved (Held list) refl at refl (record { rising = le; held = same.0 h });
                  right = inl (record { begin = refl; end = at });
                })),
            (λ h. ⊎_elim (λ x. absurd (Held-empty a (time * n) n x.left))
                (λ y. ⊎_elim
                (λ moment. same.1 (moved (Held list) refl (sym moment.end) refl y.left).held)
                (λ match. absurd ((matches_at_end time before events
                (atom (literal (tree_of state))) (time * n) b n some).0 match).1)
                y.right)
                h),
          );
    };
  }
  close_literal node told held = absurd held

  -- ---- two parts

  module _ (left right : Node) (told_left told_right told : List ZoneBounds)
      (first : Closes (marked left) told_left) (second : Closes (marked right) told_right) where
    pub close_sequence : (around : _) (x : _) (x' : _) (kept : List ZoneBounds)
        → HoldExactly kept (HeldAtEnd told_left events (tree_of_node right))
        → HoldExactly told (Either (SetHolds kept) (SetHolds told_right))
        → Closes (marked (Seq' around x left x' right)) told
    close_sequence around x x' kept at_end held =
        let behind = followed (marked left) (tree_of_node right) in
        closes_as (either behind (marked right)) (marked (Seq' around x left x' right)) told
        (λ before a b n some. ((λ h. h), (λ h. h)))
        (close_either time events behind (marked right) kept told_right told
        (close_followed time events (tree_of_node right) told_left kept at_end (marked left)
        (node_ends left) first)
        second held)

    pub close_alternation : (around : _) (x : _) (x' : _)
        → HoldExactly told (Either (SetHolds told_left) (SetHolds told_right))
        → Closes (marked (Alt' around x left x' right)) told
    close_alternation around x x' held =
        closes_as (either (marked left) (marked right)) (marked (Alt' around x left x' right)) told
        (λ before a b n some. ((λ h. h), (λ h. h)))
        (close_either time events (marked left) (marked right) told_left told_right told first
        second held)

    close_sides : HoldExactly told (Both (SetHolds told_left) (SetHolds told_right))
        → Closes (both (marked left) (marked right)) told
    close_sides held =
        close_both time events (marked left) (marked right) told_left told_right told first second
        held

  -- ---- a repetition

  pub close_repetition : (around : _) (x : _) (body : Node) (told : List ZoneBounds)
      → Closes (marked body) told → Closes (marked (Star' around x body)) told
  close_repetition around x body told closes =
      let tree = repetition (tree_of_node body) in
      closes_as (followed (marked body) tree) (marked (Star' around x body)) told
      (λ before a b n some. (
        (λ h. inr h),
        (λ h. ⊎_elim (λ y. absurd (Held-empty a (time * n) n y.left))
            (λ y. y) h),
      ))
      (close_followed time events tree told told (record {
        exact = λ a b n some le. ((λ h. record { held = h; at_end = tt }), (λ h. h.held));
      })
      (marked body) (node_ends body) closes)

  -- ---- behind the pairs that led to an instance

  module _ (limit : time ≤ TIME_MAX) (form : ResidualTree) (ends : EndsThere time events form)
      (inner told : List ZoneBounds) (closes : Closes form inner) where
    close_whole : told ≡ inner → Closes (preceded (instants_of 0 TIME_MAX ∷ []) form) told
    close_whole same =
        closes_as form (preceded (instants_of 0 TIME_MAX ∷ []) form) told
        (λ before a b n some.
        let rest = end_at time events before in (
          (λ h.
              let begin = (ends before a b n some h).0 in
              let most = mul-le-mul_right n limit in
              Composed-at (Held (instants_of 0 TIME_MAX ∷ [])) (Means form rest) a a b n
              ((held_moments 0 TIME_MAX a a n some).1
              (record { starts = omega arith; same = refl; ends = omega (arith, begin, most) }))
              h),
          (λ h.
              let is = (held_moments 0 TIME_MAX (h.factor * a) h.midpoint (h.factor * n)
              (mul-pos h.positive some)).0 h.left in
              (Scales-Means rest form).down h.factor a b n h.positive
              (moved (Means form rest) (sym is.same) refl refl h.right)),
        ))
        (subst (λ (z : List ZoneBounds). Closes form z) (sym same) closes)

    pub close_led : (whole : Bool) (outer : List ZoneBounds) → LedTo whole outer inner told
        → Closes (preceded (led_by whole outer) form) told
    close_led true outer led = close_whole (led.all refl)
    close_led false outer led =
        close_preceded time events form inner told closes outer (led.some refl)

  -- ---- instances

  pub record RestrictionParts (whole : Bool) (ends : IntervalEnds) (outer : List ZoneBounds)
      (body : Node) (told : List ZoneBounds) : Type 0 where
    pub told_body : List ZoneBounds
    pub inner : List ZoneBounds
    pub closes : Closes (marked body) told_body
    pub held : HoldExactly inner (Lasting (LastsWithin ends) (SetHolds told_body))
    pub led : LedTo whole outer inner told

  abbrev pub RestrictionCloses : Node → List ZoneBounds → Type 0
  RestrictionCloses (Within' around reach ends outer most x body) told =
      RestrictionParts around.whole ends outer.items body told
  RestrictionCloses node told = ⊥

  pub close_restriction : time ≤ TIME_MAX → (node : Node) (told : List ZoneBounds)
      → RestrictionCloses node told → Closes (marked node) told
  close_restriction limit (Within' around reach ends outer most x body) told parts =
      let form = lasting (marked body) ends in
      closes_as (preceded (led_by around.whole outer.items) form)
      (marked (Within' around reach ends outer most x body)) told
      (λ before a b n some. ((λ h. h), (λ h. h)))
      (close_led limit form (λ before a b n some h. node_ends body before a b n some h.related)
      parts.inner told
      (close_lasting time events (marked body) parts.told_body parts.inner parts.closes ends
      parts.held)
      around.whole outer.items parts.led)
  close_restriction limit node told parts = absurd parts

  pub record IntersectionParts (whole : Bool) (outer : List ZoneBounds) (left right : Node)
      (told : List ZoneBounds) : Type 0 where
    pub told_left : List ZoneBounds
    pub told_right : List ZoneBounds
    pub inner : List ZoneBounds
    pub first : Closes (marked left) told_left
    pub second : Closes (marked right) told_right
    pub held : HoldExactly inner (Both (SetHolds told_left) (SetHolds told_right))
    pub led : LedTo whole outer inner told

  abbrev pub IntersectionCloses : Node → List ZoneBounds → Type 0
  IntersectionCloses (Meet' around reach outer most x left x' right) told =
      IntersectionParts around.whole outer.items left right told
  IntersectionCloses node told = ⊥

  pub close_intersection : time ≤ TIME_MAX → (node : Node) (told : List ZoneBounds)
      → IntersectionCloses node told → Closes (marked node) told
  close_intersection limit (Meet' around reach outer most x left x' right) told parts =
      let form = both (marked left) (marked right) in
      closes_as (preceded (led_by around.whole outer.items) form)
      (marked (Meet' around reach outer most x left x' right)) told
      (λ before a b n some. ((λ h. h), (λ h. h)))
      (close_led limit form (λ before a b n some h. node_ends left before a b n some h.left)
      parts.inner told
      (close_sides left right parts.told_left parts.told_right parts.inner parts.first parts.second
      parts.held)
      around.whole outer.items parts.led)
  close_intersection limit node told parts = absurd parts

  -- The same node by another name.
  pub close_named : (node named : Node) (told : List ZoneBounds) → node ≡ named
      → Closes (marked node) told → Closes (marked named) told
  close_named node named told is closes =
      subst (λ (n : Node). Closes (marked n) told) is closes
