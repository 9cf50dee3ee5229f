-- Nodes of which nothing has begun.
use Rattle.std.proofs.Common.{◌≡◌, ◌∙◌, ℕ, ◌*◌, ◌≤◌, List, [], Option, None, Some, MatchOption, Bool, true, false, ap, refl, sym, subst, arith}
use Rattle.std.specs.Prelude.{All}
use Rattle.std.proofs.lemmas.List.Elements.{All-nil}
use Rattle.tre_pairs.specs.declared.TheConstants.{TIME_MAX}
use Rattle.tre_zone.specs.Held.{Held}
use Rattle.tre_zone.specs.Longest.{IsLongest}
use Rattle.tre_zone.specs.declared.zone_bounds.ZoneBounds.{ZoneBounds}
use Rattle.tre_zone.proofs.HeldSets.{Held-empty}
use Rattle.tre_state.specs.declared.names.TheConstants.{NAMES_MAX}
use Rattle.tre_syntax.specs.PatternTree.{NumbersBelow, PatternTree, intersection, restriction}
use Rattle.tre_syntax.specs.Rest.{Rest}
use Rattle.tre_mark.specs.MarkTree.{MarkTree, atom_mark, intersection_one, restriction_one}
use Rattle.tre_mark.specs.Marked.{IsNothing, Marked}
use Rattle.tre_mark.proofs.Starts.{nothing_alternation, nothing_atom, nothing_repetition, nothing_sequence}
use Rattle.tre_node.specs.declared.node.Around.{Around}
use Rattle.tre_node.specs.declared.node.Node.{Node, Eps, Lit, Rise, Fall, Event, Seq', Alt', Meet', Star', Within'}
use Rattle.tre_node.specs.declared.node.Stretch.{Stretch}
use Rattle.tre_node.specs.IsNode.{AreOuter, IsIdle, IsInReach, IsMade, IsNew, IsNode, IsStretch, least_of}
use Rattle.tre_node.specs.NodeTree.{around_of, begun_at, led_by, mark_of_node, tree_of_node}
use Rattle.tre_node.proofs.Looks.{limit_kept}

never_intersection : (outer : List ZoneBounds) (one other : MarkTree) → IsNothing one
    → (tree : PatternTree) (rest : Rest) (a b n : ℕ)
    → Marked rest (intersection_one 0 outer one other) tree a b n → ⊥
never_intersection outer one other first (intersection left right) rest a b n h =
    first.never left rest h.midpoint (h.factor * b) (h.factor * n) h.right.left
never_intersection outer one other first tree rest a b n h = h

never_restriction : (outer : List ZoneBounds) (body : MarkTree) → IsNothing body
    → (tree : PatternTree) (rest : Rest) (a b n : ℕ)
    → Marked rest (restriction_one 0 outer body) tree a b n → ⊥
never_restriction outer body inner (restriction tree ends) rest a b n h =
    inner.never tree rest h.midpoint (h.factor * b) (h.factor * n) h.right.related
never_restriction outer body inner tree rest a b n h = h

-- What is idle stands for nothing.
pub idle_nothing : (time : ℕ) (node : Node) → IsIdle node → IsNothing (mark_of_node time node)
idle_nothing time (Eps around) idle = nothing_atom
idle_nothing time (Lit around state begun) idle =
    subst (λ (s : List Stretch). IsNothing (atom_mark [] (begun_at time s))) (sym idle) nothing_atom
idle_nothing time (Rise around state) idle = nothing_atom
idle_nothing time (Fall around state) idle = nothing_atom
idle_nothing time (Event around number) idle = nothing_atom
idle_nothing time (Seq' around box left box' right) idle =
    nothing_sequence (mark_of_node time left) (mark_of_node time right)
    (idle_nothing time left idle.0) (idle_nothing time right idle.1)
idle_nothing time (Alt' around box left box' right) idle =
    nothing_alternation (mark_of_node time left) (mark_of_node time right)
    (idle_nothing time left idle.0) (idle_nothing time right idle.1)
idle_nothing time (Meet' around reach outer most box left box' right) idle = record {
  never = never_intersection (led_by around.whole outer.items) (mark_of_node time left)
      (mark_of_node time right) (idle_nothing time left idle.0);
}
idle_nothing time (Star' around box body) idle =
    nothing_repetition (mark_of_node time body) (idle_nothing time body idle)
idle_nothing time (Within' around reach interval outer most box body) idle = record {
  never = never_restriction (led_by around.whole outer.items) (mark_of_node time body)
      (idle_nothing time body idle);
}

-- ---- new nodes

pub least_limit : (one other : Option ℕ) → IsLongest one
    → MatchOption other (Unit {0}) (λ high. high ≤ TIME_MAX) → IsLongest (least_of one other)
least_limit None other x y = record { limit = y }
least_limit (Some high) None x y = x
least_limit (Some high) (Some more) x y =
    let most = x.limit in
    record { limit = omega (arith, most, y) }

pub outer_none : (time : ℕ) (reach : Option ℕ) (outer : List ZoneBounds) → outer ≡ []
    → AreOuter time reach outer
outer_none time reach outer none = record {
  before = λ a b n some h.
      absurd (Held-empty a b n (subst (λ (z : List ZoneBounds). Held z a b n) none h));
  recent = subst (λ (z : List ZoneBounds). All (IsInReach time reach) z) (sym none)
      (All-nil (IsInReach time reach));
}

-- What is asked of what a node is made of.
abbrev pub PartsNew : Option ℕ → Bool → Node → Type 0
PartsNew longest whole (Eps around) = Unit {0}
PartsNew longest whole (Lit around state begun) =
    (begun.items ≡ []) × NumbersBelow NAMES_MAX (tree_of_node (Lit around state begun))
PartsNew longest whole (Rise around state) =
    NumbersBelow NAMES_MAX (tree_of_node (Rise around state))
PartsNew longest whole (Fall around state) =
    NumbersBelow NAMES_MAX (tree_of_node (Fall around state))
PartsNew longest whole (Event around number) =
    NumbersBelow NAMES_MAX (tree_of_node (Event around number))
PartsNew longest whole (Seq' around box left box' right) =
    IsNew (tree_of_node left) longest whole left × IsNew (tree_of_node right) longest false right
PartsNew longest whole (Alt' around box left box' right) =
    IsNew (tree_of_node left) longest whole left × IsNew (tree_of_node right) longest whole right
PartsNew longest whole (Meet' around reach outer most box left box' right) =
    (reach ≡ longest) × (outer.items ≡ [])
    × IsNew (tree_of_node left) longest true left × IsNew (tree_of_node right) longest true right
PartsNew longest whole (Star' around box body) = IsNew (tree_of_node body) longest false body
PartsNew longest whole (Within' around reach interval outer most box body) =
    (reach ≡ least_of longest interval.high) × (outer.items ≡ [])
    × IsNew (tree_of_node body) (least_of longest interval.high) true body

parts_idle : (longest : Option ℕ) (whole : Bool) (node : Node) → PartsNew longest whole node
    → IsIdle node
parts_idle longest whole (Eps around) h = tt
parts_idle longest whole (Lit around state begun) h = h.0
parts_idle longest whole (Rise around state) h = tt
parts_idle longest whole (Fall around state) h = tt
parts_idle longest whole (Event around number) h = tt
parts_idle longest whole (Seq' around box left box' right) h = (h.0.idle, h.1.idle)
parts_idle longest whole (Alt' around box left box' right) h = (h.0.idle, h.1.idle)
parts_idle longest whole (Meet' around reach outer most box left box' right) h =
    (h.2.idle, h.3.idle)
parts_idle longest whole (Star' around box body) h = h.idle
parts_idle longest whole (Within' around reach interval outer most box body) h = h.2.idle

part_made : {longest longest' : Option ℕ} {whole whole' : Bool} {part : Around}
    → IsMade longest whole part → longest' ≡ longest → whole' ≡ whole → IsMade longest' whole' part
part_made m l w = record { counts = m.counts ∙ sym l; enters = m.enters ∙ sym w }

module _ (time : ℕ) (longest : Option ℕ) (whole : Bool) (limit : IsLongest longest) where
  parts_node : (node : Node) → IsMade longest whole (around_of node) → PartsNew longest whole node
      → IsNode time node
  parts_node (Eps around) m h = record { limit = limit_kept limit m; idle = λ off. tt }
  parts_node (Lit around state begun) m h = (
    record { limit = limit_kept limit m; idle = λ off. h.0 },
    h.1,
    subst (λ (s : List Stretch). All (IsStretch time) s) (sym h.0) (All-nil (IsStretch time)),
  )
  parts_node (Rise around state) m h = (record { limit = limit_kept limit m; idle = λ off. tt }, h)
  parts_node (Fall around state) m h = (record { limit = limit_kept limit m; idle = λ off. tt }, h)
  parts_node (Event around number) m h =
      (record { limit = limit_kept limit m; idle = λ off. tt }, h)
  parts_node (Seq' around box left box' right) m h = (
    record { limit = limit_kept limit m; idle = λ off. (h.0.idle, h.1.idle) },
    (part_made h.0.made m.counts m.enters, part_made h.1.made m.counts refl),
    h.0.node_is time,
    h.1.node_is time,
  )
  parts_node (Alt' around box left box' right) m h = (
    record { limit = limit_kept limit m; idle = λ off. (h.0.idle, h.1.idle) },
    (part_made h.0.made m.counts m.enters, part_made h.1.made m.counts m.enters),
    h.0.node_is time,
    h.1.node_is time,
  )
  parts_node (Meet' around reach outer most box left box' right) m h = (
    record { limit = limit_kept limit m; idle = λ off. (h.2.idle, h.3.idle) },
    h.0 ∙ sym m.counts,
    (part_made h.2.made h.0 refl, part_made h.3.made h.0 refl),
    outer_none time reach outer.items h.1,
    h.2.node_is time,
    h.3.node_is time,
  )
  parts_node (Star' around box body) m h = (
    record { limit = limit_kept limit m; idle = λ off. h.idle },
    part_made h.made m.counts refl,
    h.node_is time,
  )
  parts_node (Within' around reach interval outer most box body) m h = (
    record { limit = limit_kept limit m; idle = λ off. h.2.idle },
    h.0 ∙ ap (λ z. least_of z interval.high) (sym m.counts),
    part_made h.2.made h.0 refl,
    outer_none time reach outer.items h.1,
    h.2.node_is time,
  )

pub parts_new : {longest : Option ℕ} {whole : Bool} {tree : PatternTree} {node : Node}
    → IsLongest longest → IsMade longest whole (around_of node) → PartsNew longest whole node
    → tree_of_node node ≡ tree → IsNew tree longest whole node
parts_new {longest} {whole} {tree} {node} limit made h is = record {
  tree_is = is;
  made = made;
  node_is = λ time. parts_node time longest whole limit node made h;
  idle = parts_idle longest whole node h;
  unbegun = record {
    nothing = λ time. idle_nothing time node (parts_idle longest whole node h);
  };
}

pub new_own : {longest : Option ℕ} {whole : Bool} {tree : PatternTree} {node : Node}
    → IsNew tree longest whole node → IsNew (tree_of_node node) longest whole node
new_own h = record {
  tree_is = refl;
  made = h.made;
  node_is = h.node_is;
  idle = h.idle;
  unbegun = h.unbegun;
}

pub new_as : {longest : Option ℕ} {whole : Bool} {tree tree' : PatternTree} {node : Node}
    → tree ≡ tree' → IsNew tree longest whole node → IsNew tree' longest whole node
new_as {longest} {whole} {tree} {tree'} {node} is h =
    subst (λ (t : PatternTree). IsNew t longest whole node) is h
