-- A node whose parts are copies is a copy.
use Rattle.std.proofs.Common.{◌≡◌, ◌∙◌, ℕ, Option, Bool, List, [], ap, refl, sym, subst}
use Rattle.std.specs.Prelude.{All}
use Rattle.tre_zone.specs.Longest.{IsLongest}
use Rattle.tre_zone.specs.declared.zone_bounds.ZoneBounds.{ZoneBounds}
use Rattle.tre_state.specs.State.{tree_of}
use Rattle.tre_state.specs.declared.names.TheConstants.{NAMES_MAX}
use Rattle.tre_syntax.specs.PatternTree.{NumbersBelow, PatternTree, literal, rise, fall, event, atom, sequence, alternation, intersection, repetition, restriction}
use Rattle.tre_mark.specs.MarkTree.{atom_mark, sequence_mark, alternation_mark, intersection_one, repetition_mark, restriction_one}
use Rattle.tre_node.specs.declared.node.Around.{Around}
use Rattle.tre_node.specs.declared.node.Node.{Node, Eps, Lit, Rise, Fall, Event, Seq', Alt', Meet', Star', Within'}
use Rattle.tre_node.specs.declared.node.Stretch.{Stretch}
use Rattle.tre_node.specs.Copying.{IsCopy, IsLike}
use Rattle.tre_node.specs.IsNode.{AreOuter, IsIdle, IsMade, IsSound, IsStretch, least_of}
use Rattle.tre_node.specs.NodeTree.{around_of, begun_at, led_by, mark_of_node, tree_of_node}

-- The two have one form, and each part of the second is a copy of that of the first.
abbrev pub PartsCopied : Node → Node → Type 0
PartsCopied (Eps around) (Eps around') = IsLike around around'
PartsCopied (Lit around state begun) (Lit around' state' begun') =
    IsLike around around' × (tree_of state' ≡ tree_of state) × (begun'.items ≡ begun.items)
PartsCopied (Rise around state) (Rise around' state') =
    IsLike around around' × (tree_of state' ≡ tree_of state)
PartsCopied (Fall around state) (Fall around' state') =
    IsLike around around' × (tree_of state' ≡ tree_of state)
PartsCopied (Event around number) (Event around' number') =
    IsLike around around' × (number' ≡ number)
PartsCopied (Seq' around x left x' right) (Seq' around' y left' y' right') =
    IsLike around around' × IsCopy left left' × IsCopy right right'
PartsCopied (Alt' around x left x' right) (Alt' around' y left' y' right') =
    IsLike around around' × IsCopy left left' × IsCopy right right'
PartsCopied (Meet' around reach outer most x left x' right)
    (Meet' around' reach' outer' most' y left' y' right') =
    IsLike around around' × (reach' ≡ reach) × (outer'.items ≡ outer.items)
    × IsCopy left left' × IsCopy right right'
PartsCopied (Star' around x body) (Star' around' y body') =
    IsLike around around' × IsCopy body body'
PartsCopied (Within' around reach interval outer most x body)
    (Within' around' reach' interval' outer' most' y body') =
    IsLike around around' × (reach' ≡ reach) × (interval' ≡ interval)
    × (outer'.items ≡ outer.items) × IsCopy body body'
PartsCopied node copy = ⊥

-- ---- what a node is made with

limit_like : {around copy : Around} → IsLike around copy → IsLongest around.longest
    → IsLongest copy.longest
limit_like l h = subst (λ (z : Option ℕ). IsLongest z) (sym l.made.counts) h

sound_like : (node copy : Node) → IsLike (around_of node) (around_of copy)
    → (IsIdle node → IsIdle copy) → IsSound node → IsSound copy
sound_like node copy l idle h = record {
  limit = limit_like l h.limit;
  idle = λ quiet. idle (h.idle (sym l.busy ∙ quiet));
}

-- A part was made for its place, and so is its copy.
part_like : {around around' part part' : Around} {whole whole' : Bool}
    → IsLike around around' → IsLike part part' → whole' ≡ whole
    → IsMade around.longest whole part → IsMade around'.longest whole' part'
part_like a p w m = record {
  counts = p.made.counts ∙ m.counts ∙ sym a.made.counts;
  enters = p.made.enters ∙ m.enters ∙ sym w;
}

inner_like : {part part' : Around} {reach reach' : Option ℕ} {whole : Bool}
    → IsLike part part' → reach' ≡ reach → IsMade reach whole part → IsMade reach' whole part'
inner_like p r m = record {
  counts = p.made.counts ∙ m.counts ∙ sym r;
  enters = p.made.enters ∙ m.enters;
}

outer_like : {time : ℕ} {reach reach' : Option ℕ} {outer outer' : List ZoneBounds}
    → reach' ≡ reach → outer' ≡ outer → AreOuter time reach outer → AreOuter time reach' outer'
outer_like {time} {reach} {reach'} {outer} {outer'} r o h =
    subst (λ (z : Option ℕ). AreOuter time z outer') (sym r)
    (subst (λ (z : List ZoneBounds). AreOuter time reach z) (sym o) h)

numbers_like : {one other : PatternTree} → other ≡ one → NumbersBelow NAMES_MAX one
    → NumbersBelow NAMES_MAX other
numbers_like {one} {other} same h =
    subst (λ (t : PatternTree). NumbersBelow NAMES_MAX t) (sym same) h

-- ---- each form

pub parts_copied : (node copy : Node) → PartsCopied node copy → IsCopy node copy
parts_copied (Eps around) (Eps around') h = record {
  tree = refl;
  like = h;
  mark = λ time. refl;
  idle = λ i. tt;
  node_is = λ time n. sound_like (Eps around) (Eps around') h (λ i. tt) n;
}
parts_copied (Lit around state begun) (Lit around' state' begun') h =
    let same = ap (λ s. atom (literal s)) h.1 in
    let idle = λ (i : begun.items ≡ []). h.2 ∙ i in
    record {
      tree = same;
      like = h.0;
      mark = λ time. ap (λ b. atom_mark [] (begun_at time b)) h.2;
      idle = idle;
      node_is = λ time n. (
        sound_like (Lit around state begun) (Lit around' state' begun') h.0 idle n.0,
        numbers_like same n.1,
        subst (λ (b : List Stretch). All (IsStretch time) b) (sym h.2) n.2,
      );
    }
parts_copied (Rise around state) (Rise around' state') h =
    let same = ap (λ s. atom (rise s)) h.1 in
    record {
      tree = same;
      like = h.0;
      mark = λ time. refl;
      idle = λ i. tt;
      node_is = λ time n. (
        sound_like (Rise around state) (Rise around' state') h.0 (λ i. tt) n.0,
        numbers_like same n.1,
      );
    }
parts_copied (Fall around state) (Fall around' state') h =
    let same = ap (λ s. atom (fall s)) h.1 in
    record {
      tree = same;
      like = h.0;
      mark = λ time. refl;
      idle = λ i. tt;
      node_is = λ time n. (
        sound_like (Fall around state) (Fall around' state') h.0 (λ i. tt) n.0,
        numbers_like same n.1,
      );
    }
parts_copied (Event around number) (Event around' number') h =
    let same = ap (λ k. atom (event k)) h.1 in
    record {
      tree = same;
      like = h.0;
      mark = λ time. refl;
      idle = λ i. tt;
      node_is = λ time n. (
        sound_like (Event around number) (Event around' number') h.0 (λ i. tt) n.0,
        numbers_like same n.1,
      );
    }
parts_copied (Seq' around x left x' right) (Seq' around' y left' y' right') h =
    let l = h.1 in
    let r = h.2 in
    let idle : IsIdle left × IsIdle right → IsIdle left' × IsIdle right' =
    λ i. (l.idle i.0, r.idle i.1) in
    record {
      tree = ap (λ t. sequence t (tree_of_node right')) l.tree
          ∙ ap (λ t. sequence (tree_of_node left) t) r.tree;
      like = h.0;
      mark = λ time. ap (λ m. sequence_mark m (mark_of_node time right')) (l.mark time)
          ∙ ap (λ m. sequence_mark (mark_of_node time left) m) (r.mark time);
      idle = idle;
      node_is = λ time n. (
        sound_like (Seq' around x left x' right) (Seq' around' y left' y' right') h.0 idle n.0,
        (part_like h.0 l.like h.0.made.enters n.1.0, part_like h.0 r.like refl n.1.1),
        l.node_is time n.2,
        r.node_is time n.3,
      );
    }
parts_copied (Alt' around x left x' right) (Alt' around' y left' y' right') h =
    let l = h.1 in
    let r = h.2 in
    let idle : IsIdle left × IsIdle right → IsIdle left' × IsIdle right' =
    λ i. (l.idle i.0, r.idle i.1) in
    record {
      tree = ap (λ t. alternation t (tree_of_node right')) l.tree
          ∙ ap (λ t. alternation (tree_of_node left) t) r.tree;
      like = h.0;
      mark = λ time. ap (λ m. alternation_mark m (mark_of_node time right')) (l.mark time)
          ∙ ap (λ m. alternation_mark (mark_of_node time left) m) (r.mark time);
      idle = idle;
      node_is = λ time n. (
        sound_like (Alt' around x left x' right) (Alt' around' y left' y' right') h.0 idle n.0,
        (part_like h.0 l.like h.0.made.enters n.1.0, part_like h.0 r.like h.0.made.enters n.1.1),
        l.node_is time n.2,
        r.node_is time n.3,
      );
    }
parts_copied (Meet' around reach outer most x left x' right)
    (Meet' around' reach' outer' most' y left' y' right') h =
    let l = h.3 in
    let r = h.4 in
    let idle : IsIdle left × IsIdle right → IsIdle left' × IsIdle right' =
    λ i. (l.idle i.0, r.idle i.1) in
    record {
      tree = ap (λ t. intersection t (tree_of_node right')) l.tree
          ∙ ap (λ t. intersection (tree_of_node left) t) r.tree;
      like = h.0;
      mark = λ time.
          ap (λ w. intersection_one 0 (led_by w outer'.items) (mark_of_node time left')
          (mark_of_node time right')) h.0.made.enters
          ∙ ap (λ o. intersection_one 0 (led_by around.whole o) (mark_of_node time left')
          (mark_of_node time right')) h.2
          ∙ ap (λ m. intersection_one 0 (led_by around.whole outer.items) m
          (mark_of_node time right')) (l.mark time)
          ∙ ap (λ m. intersection_one 0 (led_by around.whole outer.items)
          (mark_of_node time left) m) (r.mark time);
      idle = idle;
      node_is = λ time n. (
        sound_like (Meet' around reach outer most x left x' right)
            (Meet' around' reach' outer' most' y left' y' right') h.0 idle n.0,
        h.1 ∙ n.1 ∙ sym h.0.made.counts,
        (inner_like l.like h.1 n.2.0, inner_like r.like h.1 n.2.1),
        outer_like h.1 h.2 n.3,
        l.node_is time n.4,
        r.node_is time n.5,
      );
    }
parts_copied (Star' around x body) (Star' around' y body') h =
    let b = h.1 in
    record {
      tree = ap (λ t. repetition t) b.tree;
      like = h.0;
      mark = λ time. ap (λ m. repetition_mark [] m) (b.mark time);
      idle = b.idle;
      node_is = λ time n. (
        sound_like (Star' around x body) (Star' around' y body') h.0 b.idle n.0,
        part_like h.0 b.like refl n.1,
        b.node_is time n.2,
      );
    }
parts_copied (Within' around reach interval outer most x body)
    (Within' around' reach' interval' outer' most' y body') h =
    let b = h.4 in
    record {
      tree = ap (λ t. restriction t interval') b.tree
          ∙ ap (λ i. restriction (tree_of_node body) i) h.2;
      like = h.0;
      mark = λ time.
          ap (λ w. restriction_one 0 (led_by w outer'.items) (mark_of_node time body'))
          h.0.made.enters
          ∙ ap (λ o. restriction_one 0 (led_by around.whole o) (mark_of_node time body')) h.3
          ∙ ap (λ m. restriction_one 0 (led_by around.whole outer.items) m) (b.mark time);
      idle = b.idle;
      node_is = λ time n. (
        sound_like (Within' around reach interval outer most x body)
            (Within' around' reach' interval' outer' most' y body') h.0 b.idle n.0,
        h.1 ∙ n.1 ∙ ap (λ z. least_of z interval.high) (sym h.0.made.counts)
            ∙ ap (λ i. least_of around'.longest i.high) (sym h.2),
        inner_like b.like h.1 n.2,
        outer_like h.1 h.3 n.3,
        b.node_is time n.4,
      );
    }
parts_copied node copy h = absurd h

pub copied_by : {node before copy : Node} → node ≡ before → PartsCopied before copy
    → IsCopy node copy
copied_by {node} {before} {copy} is h =
    subst (λ (z : Node). IsCopy z copy) (sym is) (parts_copied before copy h)

pub copy_named : {named node copy : Node} → named ≡ node → IsCopy named copy → IsCopy node copy
copy_named {named} {node} {copy} is h = subst (λ (z : Node). IsCopy z copy) is h
