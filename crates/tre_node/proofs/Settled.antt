-- What is known of nodes that settle, and what is forgotten.
use Rattle.std.proofs.Common.{◌≡◌, ◌∙◌, ◌⊎◌, ℕ, ◌*◌, inl, inr, ⊎_elim, ap, refl, sym, subst, Bool, true, false, Option, List, []}
use Rattle.std.proofs.lemmas.Bool.{false≢true}
use Rattle.std.proofs.lemmas.List.Elements.{All-nil}
use Rattle.std.specs.Prelude.{All}
use Rattle.tre_pairs.specs.Cuts.{Crossing}
use Rattle.tre_pairs.specs.Pairs.{Pairs}
use Rattle.tre_pairs.specs.Before.{Before}
use Rattle.tre_pairs.proofs.SameLaws.{same_agree, same_trans}
use Rattle.tre_zone.specs.Longest.{LastsUpTo, IsLongest}
use Rattle.tre_zone.specs.declared.zone_bounds.ZoneBounds.{ZoneBounds}
use Rattle.tre_state.specs.State.{tree_of}
use Rattle.tre_state.specs.declared.names.TheConstants.{NAMES_MAX}
use Rattle.tre_syntax.specs.PatternTree.{NumbersBelow, PatternTree, literal, rise, fall, event, atom, sequence, alternation, intersection, repetition, restriction}
use Rattle.tre_syntax.specs.Rest.{Rest}
use Rattle.tre_edges.specs.Piece.{end_of_piece}
use Rattle.tre_edges.specs.declared.piece.Piece.{Piece}
use Rattle.tre_mark.specs.MarkTree.{MarkTree, intersection_one, restriction_one}
use Rattle.tre_mark.specs.Marked.{IsNothing, Marked}
use Rattle.tre_forms.specs.Enters.{behind, Enters, Goes}
use Rattle.tre_node.specs.declared.node.Around.{Around}
use Rattle.tre_node.specs.declared.node.Node.{Node, Eps, Lit, Rise, Fall, Event, Seq', Alt', Meet', Star', Within'}
use Rattle.tre_node.specs.declared.node.Stretch.{Stretch}
use Rattle.tre_node.specs.IsNode.{AreOuter, IsIdle, IsMade, IsNode, IsStretch, least_of}
use Rattle.tre_node.specs.NodeTree.{around_of, led_by, mark_of_node, tree_of_node}
use Rattle.tre_node.specs.HasEntered.{HasEnteredForm, HasGoneIn}
use Rattle.tre_node.specs.Settling.{AreAlike, AreKnown, IsForgotten, IsKnown, Settles, SettlesBody, SettlesSides}
use Rattle.tre_node.proofs.NewNodes.{idle_nothing, outer_none}
use Rattle.tre_node.proofs.Parts.{made_part, made_whole}

-- ---- marks that stand for the same pairs

alike_by : {tree : PatternTree} {old new : MarkTree} → new ≡ old → AreAlike tree old new
alike_by {tree} {old} {new} is = record {
  same = λ rest a b n. (
    (λ h. subst (λ (m : MarkTree). Marked rest m tree a b n) is h),
    (λ h. subst (λ (m : MarkTree). Marked rest m tree a b n) (sym is) h),
  );
}

alike_none : {tree : PatternTree} {old new : MarkTree} → IsNothing old → IsNothing new
    → AreAlike tree old new
alike_none {tree} {old} {new} one other = record {
  same = λ rest a b n. (
    (λ h. absurd (other.never tree rest a b n h)),
    (λ h. absurd (one.never tree rest a b n h)),
  );
}

enters_alike : {longest : Option ℕ} {piece : Piece} {old mid new : MarkTree} {tree : PatternTree}
    {E : Pairs} → Enters longest piece old tree E mid → AreAlike tree mid new
    → Enters longest piece old tree E new
enters_alike {longest} {piece} {old} {mid} {new} {tree} {E} x alike = record {
  leaves = λ next long.
      let D = LastsUpTo longest in
      let rest = behind piece next in
      let one = Marked rest mid tree in
      let other = Marked rest new tree in
      let all = Crossing (end_of_piece piece)
      (Goes piece next old tree (Before (end_of_piece piece) E)) in
      same_trans D other one all
      (same_agree D other one (record { at = λ a b n some. alike.same rest a b n }))
      (x.leaves next long);
}

never_sides : (outer : List ZoneBounds) (one other : MarkTree) → IsNothing one ⊎ IsNothing other
    → (tree : PatternTree) (rest : Rest) (a b n : ℕ)
    → Marked rest (intersection_one 0 outer one other) tree a b n → ⊥
never_sides outer one other none (intersection left right) rest a b n h = ⊎_elim
    (λ x. x.never left rest h.midpoint (h.factor * b) (h.factor * n) h.right.left)
    (λ x. x.never right rest h.midpoint (h.factor * b) (h.factor * n) h.right.right) none
never_sides outer one other none tree rest a b n h = h

nothing_sides : (outer : List ZoneBounds) (one other : MarkTree) → IsNothing one ⊎ IsNothing other
    → IsNothing (intersection_one 0 outer one other)
nothing_sides outer one other none = record { never = never_sides outer one other none }

-- ---- parts that are as they were

same_node : {one other : Node} → one ≡ other → (time : ℕ) → IsNode time other → IsNode time one
same_node {one} {other} is time n = subst (λ (x : Node). IsNode time x) (sym is) n

same_made : {one other : Node} → one ≡ other
    → IsMade (around_of other).longest (around_of other).whole (around_of one)
same_made {one} {other} is = subst
    (λ (x : Node). IsMade (around_of other).longest (around_of other).whole (around_of x)) (sym is)
    (record { counts = refl; enters = refl })

same_idle : {one other : Node} → one ≡ other → IsIdle other → IsIdle one
same_idle {one} {other} is idle = subst (λ (x : Node). IsIdle x) (sym is) idle

limit_now : {longest longest' : Option ℕ} → longest' ≡ longest → IsLongest longest
    → IsLongest longest'
limit_now {longest} {longest'} is limit = subst IsLongest (sym is) limit

then_made : {longest : Option ℕ} {whole : Bool} {part part' : Around} → IsMade longest whole part
    → IsMade part.longest part.whole part' → IsMade longest whole part'
then_made b c = record { counts = c.counts ∙ b.counts; enters = c.enters ∙ b.enters }

reach_made : {reach reach' : Option ℕ} {part : Around} → reach' ≡ reach → IsMade reach true part
    → IsMade reach' true part
reach_made {reach} {reach'} {part} is m = subst (λ r. IsMade r true part) (sym is) m

-- ---- what settles

abbrev pub SettleGo : Node → Node → Type 0
SettleGo (Within' around reach interval outer most box body)
    (Within' around' reach' interval' outer' most' box' body') =
    IsMade around.longest around.whole around' × (reach' ≡ reach) × (interval' ≡ interval)
    × (body' ≡ body) × SettlesBody body outer.items outer'.items × (around'.busy ≡ around.busy)
SettleGo (Meet' around reach outer most box left box' right)
    (Meet' around' reach' outer' most' box1 left' box1' right') =
    IsMade around.longest around.whole around' × (reach' ≡ reach)
    × SettlesSides left left' right right' outer.items outer'.items around'.busy
SettleGo before after = ⊥

sides_cases : (left left' right right' : Node) (outer outer' : List ZoneBounds) (busy : Bool)
    → SettlesSides left left' right right' outer outer' busy
    → ((busy ≡ true) × (left' ≡ left) × (right' ≡ right) × (outer' ≡ outer))
    ⊎ ((busy ≡ false) × (outer' ≡ [])
    × ((IsKnown left → IsIdle left) ⊎ (IsKnown right → IsIdle right))
    × IsForgotten (IsKnown left) left left' × IsForgotten (IsKnown right) right right')
sides_cases left left' right right' outer outer' true h = inl (refl, h.0, h.1, h.2)
sides_cases left left' right right' outer outer' false h = inr (refl, h.0, h.1, h.2, h.3)

outer_as : {time : ℕ} {reach reach' : Option ℕ} {outer outer' : List ZoneBounds} → reach' ≡ reach
    → outer' ≡ outer → AreOuter time reach outer → AreOuter time reach' outer'
outer_as {time} {reach} {reach'} {outer} {outer'} r is are =
    subst (λ (list : List ZoneBounds). AreOuter time reach' list) (sym is)
    (subst (λ (z : Option ℕ). AreOuter time z outer) (sym r) are)

-- The body says rightly whether nothing has begun, and what led to it is kept or forgotten.
pub settled : (before after : Node) → SettleGo before after → Settles before after
settled (Within' around reach interval outer most box body)
    (Within' around' reach' interval' outer' most' box' body') h = record {
      tree = ap (λ t. restriction (tree_of_node t) interval') h.3
          ∙ ap (λ i. restriction (tree_of_node body) i) h.2;
      made = h.0;
      node = λ time k n. (
        record {
          limit = limit_now h.0.counts n.0.limit;
          idle = λ off. same_idle h.3 (n.0.idle (sym h.5 ∙ off));
        },
        h.1 ∙ n.1 ∙ ap (λ l. least_of l interval.high) (sym h.0.counts)
            ∙ ap (λ i. least_of around'.longest i.high) (sym h.2),
        reach_made h.1 (then_made n.2 (same_made h.3)),
        ⊎_elim (λ w. outer_as h.1 w n.3)
            (λ w. outer_none time reach' outer'.items w.0) h.4,
        same_node h.3 time n.4,
      );
      alike = λ time k. ⊎_elim
          (λ w. alike_by
          (ap (λ z. restriction_one 0 (led_by z outer'.items) (mark_of_node time body')) h.0.enters
          ∙ ap (λ z. restriction_one 0 (led_by around.whole z) (mark_of_node time body')) w
          ∙ ap (λ z. restriction_one 0 (led_by around.whole outer.items) (mark_of_node time z)) h.3))
          (λ w. alike_none
          (idle_nothing time (Within' around reach interval outer most box body) (w.1 k))
          (idle_nothing time (Within' around' reach' interval' outer' most' box' body')
          (same_idle h.3 (w.1 k)))) h.4;
      known = λ k. subst (λ (x : Node). IsKnown x) (sym h.3) k;
    }
settled (Meet' around reach outer most box left box' right)
    (Meet' around' reach' outer' most' box1 left' box1' right') h =
    let cases = sides_cases left left' right right' outer.items outer'.items around'.busy h.2 in
    let idle : IsKnown left × IsKnown right → around'.busy ≡ false → IsIdle left' × IsIdle right' =
    λ k off. ⊎_elim (λ w. absurd (false≢true (sym off ∙ w.0)))
    (λ w. (w.3.idle k.0, w.4.idle k.1)) cases in
    record {
      tree = ⊎_elim
          (λ w. ap (λ t. intersection (tree_of_node t) (tree_of_node right')) w.1
          ∙ ap (λ t. intersection (tree_of_node left) (tree_of_node t)) w.2)
          (λ w. ap (λ t. intersection t (tree_of_node right')) w.3.tree
          ∙ ap (λ t. intersection (tree_of_node left) t) w.4.tree) cases;
      made = h.0;
      node = λ time k n. (
        record { limit = limit_now h.0.counts n.0.limit; idle = idle k },
        h.1 ∙ n.1 ∙ sym h.0.counts,
        (
          reach_made h.1 (then_made n.2.0
              (⊎_elim (λ w. same_made w.1) (λ w. w.3.made) cases)),
          reach_made h.1 (then_made n.2.1
              (⊎_elim (λ w. same_made w.2) (λ w. w.4.made) cases)),
        ),
        ⊎_elim (λ w. outer_as h.1 w.3 n.3)
            (λ w. outer_none time reach' outer'.items w.1) cases,
        ⊎_elim (λ w. same_node w.1 time n.4) (λ w. w.3.node time n.4) cases,
        ⊎_elim (λ w. same_node w.2 time n.5) (λ w. w.4.node time n.5) cases,
      );
      alike = λ time k. ⊎_elim
          (λ w. alike_by
          (ap (λ z. intersection_one 0 (led_by z outer'.items) (mark_of_node time left')
          (mark_of_node time right')) h.0.enters
          ∙ ap (λ z. intersection_one 0 (led_by around.whole z) (mark_of_node time left')
          (mark_of_node time right')) w.3
          ∙ ap (λ z. intersection_one 0 (led_by around.whole outer.items) (mark_of_node time z)
          (mark_of_node time right')) w.1
          ∙ ap (λ z. intersection_one 0 (led_by around.whole outer.items) (mark_of_node time left)
          (mark_of_node time z)) w.2))
          (λ w. alike_none
          (nothing_sides (led_by around.whole outer.items) (mark_of_node time left)
          (mark_of_node time right)
          (⊎_elim (λ x. inl (idle_nothing time left (x k.0)))
          (λ x. inr (idle_nothing time right (x k.1))) w.2))
          (idle_nothing time (Meet' around' reach' outer' most' box1 left' box1' right')
          (idle k w.0))) cases;
      known = idle;
    }
settled before after h = absurd h

pub settled_by : {node before after : Node} → node ≡ before → SettleGo before after
    → Settles node after
settled_by {node} {before} {after} is h =
    subst (λ (n : Node). Settles n after) (sym is) (settled before after h)

-- Neither a restriction nor an intersection: it settles as it is.
abbrev pub IsSettled : Node → Type 0
IsSettled (Meet' around reach outer most box left box' right) = ⊥
IsSettled (Within' around reach interval outer most box body) = ⊥
IsSettled node = Unit {0}

settled_known : (node : Node) → IsSettled node → AreKnown node → IsKnown node
settled_known (Eps around) h k = tt
settled_known (Lit around state begun) h k = tt
settled_known (Rise around state) h k = tt
settled_known (Fall around state) h k = tt
settled_known (Event around number) h k = tt
settled_known (Seq' around box left box' right) h k = k
settled_known (Alt' around box left box' right) h k = k
settled_known (Star' around box body) h k = k
settled_known (Meet' around reach outer most box left box' right) h k = absurd h
settled_known (Within' around reach interval outer most box body) h k = absurd h

pub settled_same : {node before : Node} → node ≡ before → IsSettled before → Settles node node
settled_same {node} {before} is h = record {
  tree = refl;
  made = record { counts = refl; enters = refl };
  node = λ time k n. n;
  alike = λ time k. alike_by refl;
  known = settled_known node (subst (λ (n : Node). IsSettled n) (sym is) h);
}

-- An atom that lasts no time.
abbrev pub IsInstantAtom : Node → Type 0
IsInstantAtom (Eps around) = Unit {0}
IsInstantAtom (Rise around state) = Unit {0}
IsInstantAtom (Fall around state) = Unit {0}
IsInstantAtom (Event around number) = Unit {0}
IsInstantAtom node = ⊥

instant_known : (node : Node) → IsInstantAtom node → AreKnown node
instant_known (Eps around) h = tt
instant_known (Rise around state) h = tt
instant_known (Fall around state) h = tt
instant_known (Event around number) h = tt
instant_known node h = absurd h

pub atom_known : {node before : Node} → node ≡ before → IsInstantAtom before → AreKnown node
atom_known {node} {before} is h =
    instant_known node (subst (λ (n : Node). IsInstantAtom n) (sym is) h)

-- ---- what is forgotten

abbrev pub ForgetGo : Node → Node → Type 0
ForgetGo (Eps around) (Eps around') = IsMade around.longest around.whole around'
ForgetGo (Lit around state begun) (Lit around' state' begun') =
    IsMade around.longest around.whole around' × (state' ≡ state) × (begun'.items ≡ [])
ForgetGo (Rise around state) (Rise around' state') =
    IsMade around.longest around.whole around' × (state' ≡ state)
ForgetGo (Fall around state) (Fall around' state') =
    IsMade around.longest around.whole around' × (state' ≡ state)
ForgetGo (Event around number) (Event around' number') =
    IsMade around.longest around.whole around' × (number' ≡ number)
ForgetGo (Seq' around box left box' right) (Seq' around' box1 left' box1' right') =
    IsMade around.longest around.whole around'
    × IsForgotten (Unit {0}) left left' × IsForgotten (Unit {0}) right right'
ForgetGo (Alt' around box left box' right) (Alt' around' box1 left' box1' right') =
    IsMade around.longest around.whole around'
    × IsForgotten (Unit {0}) left left' × IsForgotten (Unit {0}) right right'
ForgetGo (Star' around box body) (Star' around' box' body') =
    IsMade around.longest around.whole around' × IsForgotten (Unit {0}) body body'
ForgetGo (Within' around reach interval outer most box body)
    (Within' around' reach' interval' outer' most' box' body') =
    IsMade around.longest around.whole around' × (reach' ≡ reach) × (interval' ≡ interval)
    × (outer'.items ≡ []) × IsForgotten (Unit {0}) body body'
ForgetGo (Meet' around reach outer most box left box' right)
    (Meet' around' reach' outer' most' box1 left' box1' right') =
    IsMade around.longest around.whole around' × (reach' ≡ reach) × (outer'.items ≡ [])
    × IsForgotten (Unit {0}) left left' × IsForgotten (Unit {0}) right right'
ForgetGo before after = ⊥

pub forgotten : (before after : Node) → ForgetGo before after
    → IsForgotten (Unit {0}) before after
forgotten (Eps around) (Eps around') h = record {
  tree = refl;
  made = h;
  node = λ time n. record { limit = limit_now h.counts n.limit; idle = λ off. tt };
  idle = λ u. tt;
}
forgotten (Lit around state begun) (Lit around' state' begun') h = record {
  tree = ap (λ s. atom (literal (tree_of s))) h.1;
  made = h.0;
  node = λ time n. (
    record { limit = limit_now h.0.counts n.0.limit; idle = λ off. h.2 },
    subst (λ s. NumbersBelow NAMES_MAX (atom (literal (tree_of s)))) (sym h.1) n.1,
    subst (λ (s : List Stretch). All (IsStretch time) s) (sym h.2) (All-nil (IsStretch time)),
  );
  idle = λ u. h.2;
}
forgotten (Rise around state) (Rise around' state') h = record {
  tree = ap (λ s. atom (rise (tree_of s))) h.1;
  made = h.0;
  node = λ time n. (
    record { limit = limit_now h.0.counts n.0.limit; idle = λ off. tt },
    subst (λ s. NumbersBelow NAMES_MAX (atom (rise (tree_of s)))) (sym h.1) n.1,
  );
  idle = λ u. tt;
}
forgotten (Fall around state) (Fall around' state') h = record {
  tree = ap (λ s. atom (fall (tree_of s))) h.1;
  made = h.0;
  node = λ time n. (
    record { limit = limit_now h.0.counts n.0.limit; idle = λ off. tt },
    subst (λ s. NumbersBelow NAMES_MAX (atom (fall (tree_of s)))) (sym h.1) n.1,
  );
  idle = λ u. tt;
}
forgotten (Event around number) (Event around' number') h = record {
  tree = ap (λ s. atom (event s)) h.1;
  made = h.0;
  node = λ time n. (
    record { limit = limit_now h.0.counts n.0.limit; idle = λ off. tt },
    subst (λ s. NumbersBelow NAMES_MAX (atom (event s))) (sym h.1) n.1,
  );
  idle = λ u. tt;
}
forgotten (Seq' around box left box' right) (Seq' around' box1 left' box1' right') h = record {
  tree = ap (λ t. sequence t (tree_of_node right')) h.1.tree
      ∙ ap (λ t. sequence (tree_of_node left) t) h.2.tree;
  made = h.0;
  node = λ time n. (
    record { limit = limit_now h.0.counts n.0.limit; idle = λ off. (h.1.idle tt, h.2.idle tt) },
    (
      made_whole around around' (around_of left) (around_of left') h.0 n.1.0 h.1.made,
      made_part around around' (around_of right) (around_of right') false h.0 n.1.1 h.2.made,
    ),
    h.1.node time n.2,
    h.2.node time n.3,
  );
  idle = λ u. (h.1.idle tt, h.2.idle tt);
}
forgotten (Alt' around box left box' right) (Alt' around' box1 left' box1' right') h = record {
  tree = ap (λ t. alternation t (tree_of_node right')) h.1.tree
      ∙ ap (λ t. alternation (tree_of_node left) t) h.2.tree;
  made = h.0;
  node = λ time n. (
    record { limit = limit_now h.0.counts n.0.limit; idle = λ off. (h.1.idle tt, h.2.idle tt) },
    (
      made_whole around around' (around_of left) (around_of left') h.0 n.1.0 h.1.made,
      made_whole around around' (around_of right) (around_of right') h.0 n.1.1 h.2.made,
    ),
    h.1.node time n.2,
    h.2.node time n.3,
  );
  idle = λ u. (h.1.idle tt, h.2.idle tt);
}
forgotten (Star' around box body) (Star' around' box' body') h = record {
  tree = ap (λ t. repetition t) h.1.tree;
  made = h.0;
  node = λ time n. (
    record { limit = limit_now h.0.counts n.0.limit; idle = λ off. h.1.idle tt },
    made_part around around' (around_of body) (around_of body') false h.0 n.1 h.1.made,
    h.1.node time n.2,
  );
  idle = λ u. h.1.idle tt;
}
forgotten (Within' around reach interval outer most box body)
    (Within' around' reach' interval' outer' most' box' body') h = record {
      tree = ap (λ t. restriction t interval') h.4.tree
          ∙ ap (λ i. restriction (tree_of_node body) i) h.2;
      made = h.0;
      node = λ time n. (
        record { limit = limit_now h.0.counts n.0.limit; idle = λ off. h.4.idle tt },
        h.1 ∙ n.1 ∙ ap (λ l. least_of l interval.high) (sym h.0.counts)
            ∙ ap (λ i. least_of around'.longest i.high) (sym h.2),
        reach_made h.1 (then_made n.2 h.4.made),
        outer_none time reach' outer'.items h.3,
        h.4.node time n.4,
      );
      idle = λ u. h.4.idle tt;
    }
forgotten (Meet' around reach outer most box left box' right)
    (Meet' around' reach' outer' most' box1 left' box1' right') h = record {
      tree = ap (λ t. intersection t (tree_of_node right')) h.3.tree
          ∙ ap (λ t. intersection (tree_of_node left) t) h.4.tree;
      made = h.0;
      node = λ time n. (
        record { limit = limit_now h.0.counts n.0.limit; idle = λ off. (h.3.idle tt, h.4.idle tt) },
        h.1 ∙ n.1 ∙ sym h.0.counts,
        (
          reach_made h.1 (then_made n.2.0 h.3.made),
          reach_made h.1 (then_made n.2.1 h.4.made),
        ),
        outer_none time reach' outer'.items h.2,
        h.3.node time n.4,
        h.4.node time n.5,
      );
      idle = λ u. (h.3.idle tt, h.4.idle tt);
    }
forgotten before after h = absurd h

pub forgotten_by : {node before after : Node} → node ≡ before → ForgetGo before after
    → IsForgotten (Unit {0}) node after
forgotten_by {node} {before} {after} is h =
    subst (λ (n : Node). IsForgotten (Unit {0}) n after) (sym is) (forgotten before after h)

-- The same of a part under another name.
pub forgotten_named : {part named part' : Node} → part ≡ named
    → IsForgotten (Unit {0}) part part' → IsForgotten (Unit {0}) named part'
forgotten_named {part} {named} {part'} is h =
    subst (λ (n : Node). IsForgotten (Unit {0}) n part') is h

-- ---- a node that was entered, and settles

pub gone_in : {piece : Piece} {entering : List ZoneBounds} {before mid after : Node}
    → HasEnteredForm piece entering before mid → Settles mid after
    → HasGoneIn piece entering before after
gone_in {piece} {entering} {before} {mid} {after} e s = record {
  entered = record {
    tree = s.tree ∙ e.entered.tree;
    made = record {
      counts = s.made.counts ∙ e.entered.made.counts;
      enters = s.made.enters ∙ e.entered.made.enters;
    };
    node = λ n. s.node (end_of_piece piece) e.known (e.entered.node n);
    goes = λ old x may. enters_alike (e.entered.goes old x may)
        (subst (λ (t : PatternTree). AreAlike t (mark_of_node (end_of_piece piece) mid)
        (mark_of_node (end_of_piece piece) after)) e.entered.tree
        (s.alike (end_of_piece piece) e.known));
  };
  known = s.known e.known;
}
