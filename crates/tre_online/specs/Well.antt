-- That a node is one of its pattern, and that zones are apart, can be so in one way only: so a
-- session may keep it.
use Rattle.std.specs.Prelude.{◌≡◌, All, ℕ, ◌+◌, ◌*◌, ◌≤◌, ℤ, pos, ◌≤ℤ◌, Option, Some, None, Bool, true, false, MatchOption, List, [], ◌∷◌}
use Rattle.std.specs.Coded.{Coded, Coded-set, ×_prop, Π_prop, →_prop, Unit-prop, le_prop, code_by, coded_list, coded_option, coded_ℕ, coded_ℤ, coded_bool, coded×}
use native.Mathlib.Nat.{ℕ_set}
use mathlib.Core.Path.{ap, refl}
use lib.Dec.{T_prop}
use Rattle.tre_pairs.specs.declared.TheConstants.{TIME_MAX}
use Rattle.tre_zone.specs.Bound.{sum_of}
use Rattle.tre_zone.specs.Zone.{Includes}
use Rattle.tre_zone.specs.ZoneList.{AreApart, IsApartFrom, IsApart}
use Rattle.tre_zone.specs.Longest.{IsLongest}
use Rattle.tre_zone.specs.declared.zone_bounds.ZoneBounds.{ZoneBounds}
use Rattle.tre_state.specs.State.{tree_of}
use Rattle.tre_state.specs.StateTree.{StateTree, NumbersBelow, always, proposition, negation, conjunction, disjunction}
use Rattle.tre_state.specs.declared.names.TheConstants.{NAMES_MAX}
use Rattle.tre_syntax.specs.Pattern.{pattern_tree}
use Rattle.tre_syntax.specs.declared.pattern.Pattern.{Pattern}
use Rattle.tre_mark.specs.Nodes.{form_count}
use Rattle.tre_node.specs.declared.node.Around.{Around}
use Rattle.tre_node.specs.declared.node.Node.{Node, Eps, Lit, Rise, Fall, Event, Seq', Alt', Meet', Star', Within'}
use Rattle.tre_node.specs.declared.node.Stretch.{Stretch}
use Rattle.tre_node.specs.IsNode.{AreOuter, IsIdle, IsMade, IsNode, IsSound, IsStretch, least_of}
use Rattle.tre_node.specs.NodeTree.{around_of, tree_of_node}
use Rattle.tre_online.specs.declared.session.Progress.{Progress}

IsProp-never : (A : Type 0) → IsProp (A → ⊥)
IsProp-never A = →_prop (λ x. absurd x)

IsProp-AreApart : (one other : ZoneBounds) → IsProp (AreApart one other)
IsProp-AreApart one other x y =
    let left = IsProp-never (Includes one other) x.left y.left in
    let right = IsProp-never (Includes other one) x.right y.right in
    λ i. record { left = left i; right = right i }

IsProp-IsApartFrom : (zone : ZoneBounds) (zones : List ZoneBounds) → IsProp (IsApartFrom zone zones)
unfolding IsApartFrom
IsProp-IsApartFrom zone [] = Unit-prop
IsProp-IsApartFrom zone (other ∷ others) =
    ×_prop (IsProp-AreApart zone other) (IsProp-IsApartFrom zone others)

pub IsProp-IsApart : (zones : List ZoneBounds) → IsProp (IsApart zones)
unfolding IsApart
IsProp-IsApart [] = Unit-prop
IsProp-IsApart (zone ∷ zones) = ×_prop (IsProp-IsApartFrom zone zones) (IsProp-IsApart zones)

option_set : IsSet (Option ℕ)
option_set = Coded-set (coded_option coded_ℕ)

bool_set : IsSet Bool
bool_set = Coded-set coded_bool

abbrev bounds_of : Stretch → ℤ × ℤ
bounds_of stretch = (stretch.low, stretch.high)

abbrev stretch_of : ℤ × ℤ → Stretch
stretch_of pair = record { low = pair.0; high = pair.1 }

coded_stretch : Coded Stretch
coded_stretch = code_by (ℤ × ℤ) (coded× coded_ℤ coded_ℤ) bounds_of stretch_of (λ _. refl)

stretches_set : IsSet (List Stretch)
stretches_set = Coded-set (coded_list coded_stretch)

IsProp-less : (x y : ℤ) → IsProp (x ≤ℤ y)
IsProp-less x y p q = ap (λ t. record { le = t }) (T_prop _ p.le q.le)

IsProp-IsLongest : (longest : Option ℕ) → IsProp (IsLongest longest)
IsProp-IsLongest None x y = ap (λ (u : Unit {0}). record { limit = u }) (Unit-prop x.limit y.limit)
IsProp-IsLongest (Some high) x y =
    ap (λ (le : high ≤ TIME_MAX). record { limit = le }) (le_prop x.limit y.limit)

IsProp-IsMade : (longest : Option ℕ) (whole : Bool) (around : Around)
    → IsProp (IsMade longest whole around)
IsProp-IsMade longest whole around x y =
    let counts = option_set around.longest longest x.counts y.counts in
    let enters = bool_set around.whole whole x.enters y.enters in
    λ i. record { counts = counts i; enters = enters i }

IsProp-NumbersBelow : (state : StateTree) → IsProp (NumbersBelow NAMES_MAX state)
IsProp-NumbersBelow always = Unit-prop
IsProp-NumbersBelow (proposition number) = le_prop
IsProp-NumbersBelow (negation state) = IsProp-NumbersBelow state
IsProp-NumbersBelow (conjunction left right) =
    ×_prop (IsProp-NumbersBelow left) (IsProp-NumbersBelow right)
IsProp-NumbersBelow (disjunction left right) =
    ×_prop (IsProp-NumbersBelow left) (IsProp-NumbersBelow right)

IsProp-IsStretch : (time : ℕ) (stretch : Stretch) → IsProp (IsStretch time stretch)
IsProp-IsStretch time stretch x y =
    let low = IsProp-less stretch.low (pos 1) x.low y.low in
    let some = IsProp-less (pos 1) (sum_of stretch.low stretch.high) x.some y.some in
    let high = IsProp-less stretch.high (pos (2 * time)) x.high y.high in
    λ i. record { low = low i; some = some i; high = high i }

IsProp-stretches : (time : ℕ) (begun : List Stretch) → IsProp (All (IsStretch time) begun)
IsProp-stretches time begun = Π_prop (λ k. Π_prop (λ d. →_prop (IsProp-IsStretch time _)))

IsProp-reach : (time bound : ℕ) (reach : Option ℕ)
    → IsProp (MatchOption reach (Unit {0}) (λ high. time ≤ bound + high))
IsProp-reach time bound None = Unit-prop
IsProp-reach time bound (Some high) = le_prop

IsProp-AreOuter : (time : ℕ) (reach : Option ℕ) (outer : List ZoneBounds)
    → IsProp (AreOuter time reach outer)
IsProp-AreOuter time reach outer x y =
    let before : x.before ≡ y.before =
    Π_prop (λ a. Π_prop (λ b. Π_prop (λ n. →_prop (→_prop le_prop)))) x.before y.before in
    let recent : x.recent ≡ y.recent =
    Π_prop (λ k. Π_prop (λ d. →_prop (Π_prop (λ bound. →_prop (IsProp-reach time bound reach)))))
    x.recent y.recent in
    λ i. record { before = before i; recent = recent i }

IsProp-IsIdle : (node : Node) → IsProp (IsIdle node)
IsProp-IsIdle (Eps around) = Unit-prop
IsProp-IsIdle (Lit around state begun) = stretches_set begun.items []
IsProp-IsIdle (Rise around state) = Unit-prop
IsProp-IsIdle (Fall around state) = Unit-prop
IsProp-IsIdle (Event around number) = Unit-prop
IsProp-IsIdle (Seq' around x left x' right) = ×_prop (IsProp-IsIdle left) (IsProp-IsIdle right)
IsProp-IsIdle (Alt' around x left x' right) = ×_prop (IsProp-IsIdle left) (IsProp-IsIdle right)
IsProp-IsIdle (Meet' around reach outer most x left x' right) =
    ×_prop (IsProp-IsIdle left) (IsProp-IsIdle right)
IsProp-IsIdle (Star' around x body) = IsProp-IsIdle body
IsProp-IsIdle (Within' around reach interval outer most x body) = IsProp-IsIdle body

IsProp-IsSound : (node : Node) → IsProp (IsSound node)
IsProp-IsSound node x y =
    let limit = IsProp-IsLongest (around_of node).longest x.limit y.limit in
    let idle = →_prop (IsProp-IsIdle node) x.idle y.idle in
    λ i. record { limit = limit i; idle = idle i }

IsProp-IsNode : (time : ℕ) (node : Node) → IsProp (IsNode time node)
IsProp-IsNode time (Eps around) = IsProp-IsSound (Eps around)
IsProp-IsNode time (Lit around state begun) = λ u v.
    let sound = IsProp-IsSound (Lit around state begun) u.0 v.0 in
    let numbers = IsProp-NumbersBelow (tree_of state) u.1 v.1 in
    let stretches = IsProp-stretches time begun.items u.2 v.2 in
    λ i. (sound i, numbers i, stretches i)
IsProp-IsNode time (Rise around state) =
    ×_prop (IsProp-IsSound (Rise around state)) (IsProp-NumbersBelow (tree_of state))
IsProp-IsNode time (Fall around state) =
    ×_prop (IsProp-IsSound (Fall around state)) (IsProp-NumbersBelow (tree_of state))
IsProp-IsNode time (Event around number) =
    ×_prop (IsProp-IsSound (Event around number)) le_prop
IsProp-IsNode time (Seq' around x left x' right) = λ u v.
    let sound = IsProp-IsSound (Seq' around x left x' right) u.0 v.0 in
    let made = ×_prop (IsProp-IsMade around.longest around.whole (around_of left))
    (IsProp-IsMade around.longest false (around_of right)) u.1 v.1 in
    let first = IsProp-IsNode time left u.2 v.2 in
    let second = IsProp-IsNode time right u.3 v.3 in
    λ i. (sound i, made i, first i, second i)
IsProp-IsNode time (Alt' around x left x' right) = λ u v.
    let sound = IsProp-IsSound (Alt' around x left x' right) u.0 v.0 in
    let made = ×_prop (IsProp-IsMade around.longest around.whole (around_of left))
    (IsProp-IsMade around.longest around.whole (around_of right)) u.1 v.1 in
    let first = IsProp-IsNode time left u.2 v.2 in
    let second = IsProp-IsNode time right u.3 v.3 in
    λ i. (sound i, made i, first i, second i)
IsProp-IsNode time (Meet' around reach outer most x left x' right) = λ u v.
    let sound = IsProp-IsSound (Meet' around reach outer most x left x' right) u.0 v.0 in
    let counts = option_set reach around.longest u.1 v.1 in
    let made = ×_prop (IsProp-IsMade reach true (around_of left))
    (IsProp-IsMade reach true (around_of right)) u.2 v.2 in
    let led = IsProp-AreOuter time reach outer.items u.3 v.3 in
    let first = IsProp-IsNode time left u.4 v.4 in
    let second = IsProp-IsNode time right u.5 v.5 in
    λ i. (sound i, counts i, made i, led i, first i, second i)
IsProp-IsNode time (Star' around x body) = λ u v.
    let sound = IsProp-IsSound (Star' around x body) u.0 v.0 in
    let made = IsProp-IsMade around.longest false (around_of body) u.1 v.1 in
    let inner = IsProp-IsNode time body u.2 v.2 in
    λ i. (sound i, made i, inner i)
IsProp-IsNode time (Within' around reach interval outer most x body) = λ u v.
    let sound = IsProp-IsSound (Within' around reach interval outer most x body) u.0 v.0 in
    let counts = option_set reach (least_of around.longest interval.high) u.1 v.1 in
    let made = IsProp-IsMade reach true (around_of body) u.2 v.2 in
    let led = IsProp-AreOuter time reach outer.items u.3 v.3 in
    let inner = IsProp-IsNode time body u.4 v.4 in
    λ i. (sound i, counts i, made i, led i, inner i)

-- The node was made for so many forms, and not for a part of a pattern.
pub record IsRoot (time forms : ℕ) (node : Node) : Type 0 where
  pub node_is : IsNode time node
  pub made : IsMade None true (around_of node)
  pub count : form_count (tree_of_node node) ≡ forms

-- The node is one of the pattern at the time where the trace ends so far.
abbrev pub IsWellNow : Progress → Pattern → Type 0
IsWellNow progress pattern =
    IsRoot progress.at (form_count (pattern_tree pattern)) progress.node

pub IsProp-IsWellNow : (progress : Progress) (pattern : Pattern)
    → IsProp (IsWellNow progress pattern)
IsProp-IsWellNow progress pattern x y =
    let node_is = IsProp-IsNode progress.at progress.node x.node_is y.node_is in
    let made = IsProp-IsMade None true (around_of progress.node) x.made y.made in
    let count = ℕ_set (form_count (tree_of_node progress.node))
    (form_count (pattern_tree pattern)) x.count y.count in
    λ i. record { node_is = node_is i; made = made i; count = count i }
