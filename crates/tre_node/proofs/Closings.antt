-- What the end of the trace makes of a node, of what it makes of the parts.
use Rattle.std.proofs.Common.{◌≡◌, ◌∙◌, ℕ, ◌*◌, ◌<◌, ◌≤◌, ◌↔◌, List, [], Option, None, Some, Bool, true, false, inl, inr, ⊎_elim, ap, refl, sym, subst, arith}
use Rattle.std.specs.Int.{bit_at}
use Rattle.tre_pairs.specs.Pairs.{Composed, Either, Both, Lasting, Chain}
use Rattle.tre_pairs.specs.declared.TheConstants.{TIME_MAX}
use Rattle.tre_zone.specs.Held.{Held}
use Rattle.tre_zone.specs.Interval.{IntervalEnds, LastsWithin}
use Rattle.tre_zone.specs.Zone.{GivesZone, HasNoPair, IsInstantBetween, IsZoneOf, ZoneHolds}
use Rattle.tre_zone.specs.declared.zone_bounds.ZoneBounds.{ZoneBounds}
use Rattle.tre_zone.proofs.HeldSets.{Held-empty}
use Rattle.tre_state.specs.StateTree.{StateTree}
use Rattle.tre_state.specs.State.{tree_of}
use Rattle.tre_syntax.specs.Meaning.{MatchesRest}
use Rattle.tre_syntax.specs.PatternTree.{Atom, empty, literal, rise, fall, event, atom, sequence, alternation, intersection, repetition, restriction}
use Rattle.tre_syntax.specs.Rest.{Rest, AtomMatches}
use Rattle.tre_syntax.proofs.CutMeaning.{IsBounded-rest, IsOrdered-rest}
use Rattle.tre_mark.specs.MarkTree.{MarkTree, atom_mark, intersection_one, restriction_one}
use Rattle.tre_mark.specs.Marked.{AnyDuration, EndBetween}
use Rattle.tre_node.specs.declared.node.Around.{Around}
use Rattle.tre_node.specs.declared.node.Node.{Node, Eps, Lit, Rise, Fall, Event, Seq', Alt', Meet', Star', Within'}
use Rattle.tre_node.specs.declared.node.Stretch.{Stretch}
use Rattle.tre_node.specs.Closed.{AlternationCloses, ClosesAs, HappensAt, HasClosed, IntersectionCloses, RepetitionCloses, RestrictionCloses, Seen, SequenceCloses, end_rest}
use Rattle.tre_node.specs.IsNode.{least_of}
use Rattle.tre_node.specs.Looked.{IsReach}
use Rattle.tre_node.specs.NodeTree.{around_of, begun_at, led_by, mark_of_node, tree_of_node}
use Rattle.tre_node.specs.Telling.{EndsBegun, Puts, PutsBehind, PutsFound}
use Rattle.tre_node.proofs.BegunAt.{begun_end}
use Rattle.tre_node.proofs.InstancesTold.{moments_until, puts_made, reach_counts}
use Rattle.tre_node.proofs.Looks.{instant_inside}
use Rattle.tre_node.proofs.SeenForms.{alternation_seen, instant_seen, instants_empty, intersection_seen, repetition_seen, restriction_seen, sequence_seen, whole_intersection_seen, whole_restriction_seen}
use Rattle.tre_node.proofs.SetsOf.{no_pair}

module _ (time events : ℕ) where
  abbrev Rested : Option ℕ → Rest
  Rested last = end_rest time last events

  -- ---- atoms

  pub instant_closes : (x : Atom) (zone : Option ZoneBounds) (around around' : Around)
      → ((last : Option ℕ) → GivesZone zone (AtomMatches (Rested last) x))
      → PutsFound zone around around' → ClosesAs time events (atom_mark [] []) (atom x) around around'
  instant_closes x zone around around' gives puts = record {
    counts = puts.made.counts;
    tells = λ last. instant_seen around.longest (Rested last) x around'.inside.items
        around'.ended.items (instant_inside (Rested last) x zone around around' (gives last) puts)
        puts.none;
  }

  -- A literal lasts some time, and there is none.
  no_literal : (last : Option ℕ) (state : StateTree) (a b n : ℕ)
      → MatchesRest (atom (literal state)) (Rested last) a b n → ⊥
  no_literal last state a b n h =
      let begin = h.begin in
      let lasts = h.some_time in
      let end = h.end in
      omega (arith, begin, lasts, end)

  pub literal_closes : (state : StateTree) (around around' : Around) (begun begun' : List Stretch)
      → EndsBegun time around around' begun begun'
      → ClosesAs time events (atom_mark [] (begun_at time begun)) (atom (literal state)) around around'
  literal_closes state around around' begun begun' h =
      let B = begun_at time begun in
      record {
        counts = h.made.counts;
        tells = λ last. record {
          inside = record {
            pairs = λ a b n some. (
              (λ x. absurd (no_pair around'.inside.items h.found a b n x)),
              (λ x. absurd (no_literal last state a b n x)),
            );
          };
          ended = record {
            at = λ a b n some short. (
              (λ x.
                  let y = subst (λ (z : List ZoneBounds). Held z a b n) h.told x in
                  let end = (begun_end time begun).ends a b n some y in
                  inr (record {
                    left = subst (λ t. Held B a t n) end y;
                    right = inl (record { begin = refl; end = end });
                  })),
              (λ x. ⊎_elim (λ y. absurd (Held-empty a (time * n) n y.left))
                  (λ y. ⊎_elim
                  (λ z. subst (λ (list : List ZoneBounds). Held list a b n) (sym h.told)
                  (subst (λ t. Held B a t n) (sym z.end) y.left))
                  (λ z. absurd (no_literal last state (time * n) b n z)) y.right) x),
            );
          };
        };
      }

  -- ---- parts

  part_seen : {node node' : Node} {longest : Option ℕ} → HasClosed time events node node'
      → (around_of node).longest ≡ longest → (last : Option ℕ)
      → Seen longest (Rested last) (mark_of_node time node) (tree_of_node node)
      (around_of node').inside.items (around_of node').ended.items
  part_seen {node} {node'} {longest} h same last =
      subst (λ (z : Option ℕ). Seen z (Rested last) (mark_of_node time node) (tree_of_node node)
      (around_of node').inside.items (around_of node').ended.items) same (h.tells last)

  pub part_ends : {node node' : Node} → HasClosed time events node node'
      → EndBetween time time (around_of node').inside.items
  part_ends {node} {node'} h =
      let rest = Rested None in
      let tree = tree_of_node node in
      let set = (h.tells None).inside in
      record {
        begin = λ a b n some x.
            let y = (set.pairs a b n some).0 x in
            let begin = (IsBounded-rest tree rest).begin a b n y in
            let rising = (IsOrdered-rest tree rest).le a b n y in
            omega (arith, begin, rising);
        end = λ a b n some x. (IsBounded-rest tree rest).end a b n ((set.pairs a b n some).0 x);
      }

  module _ (around around' : Around) (left left' right right' : Node)
      (f : HasClosed time events left left') (g : HasClosed time events right right') where
    abbrev one : Around
    one = around_of left'

    abbrev other : Around
    other = around_of right'

    abbrev M : MarkTree
    M = mark_of_node time left

    abbrev N : MarkTree
    N = mark_of_node time right

    module _ (same1 : (around_of left).longest ≡ around.longest)
        (same2 : (around_of right).longest ≡ around.longest) (dull idle : Type 0) where
      pub sequence_closes :
          Puts (Composed (Held one.inside.items) (Held other.inside.items))
          (Either (Held other.ended.items)
          (Composed (Held one.ended.items) (Held other.inside.items))) dull idle around around'
          → SequenceCloses time events around around' left left' right right'
      sequence_closes puts = record {
        closes = record {
          counts = puts.made.counts;
          tells = λ last. sequence_seen around.longest (Rested last) M N (tree_of_node left)
              (tree_of_node right) one.inside.items one.ended.items other.inside.items
              other.ended.items (part_seen f same1 last) (part_seen g same2 last)
              around'.inside.items around'.ended.items puts.found puts.told;
        };
        one = f.tree;
        other = g.tree;
      }

      pub alternation_closes :
          Puts (Either (Held one.inside.items) (Held other.inside.items))
          (Either (Held one.ended.items) (Held other.ended.items)) dull idle around around'
          → AlternationCloses time events around around' left left' right right'
      alternation_closes puts = record {
        closes = record {
          counts = puts.made.counts;
          tells = λ last. alternation_seen around.longest (Rested last) M N (tree_of_node left)
              (tree_of_node right) one.inside.items one.ended.items other.inside.items
              other.ended.items (part_seen f same1 last) (part_seen g same2 last)
              around'.inside.items around'.ended.items puts.found puts.told;
        };
        one = f.tree;
        other = g.tree;
      }

    module _ (outer : List ZoneBounds) (limit : time ≤ TIME_MAX)
        (same1 : (around_of left).longest ≡ around.longest)
        (same2 : (around_of right).longest ≡ around.longest) (dull idle : Type 0) where
      counts : IsReach around.longest AnyDuration around.longest
      counts = record { counts = λ d n l w. l }

      both_seen : (whole : Bool)
          → PutsBehind whole outer (Both (Held one.inside.items) (Held other.inside.items))
          (Both (Held one.ended.items) (Held other.ended.items)) dull idle around around'
          → (last : Option ℕ)
          → Seen around.longest (Rested last) (intersection_one 0 (led_by whole outer) M N)
          (intersection (tree_of_node left) (tree_of_node right)) around'.inside.items
          around'.ended.items
      both_seen true puts last = whole_intersection_seen around.longest around.longest (Rested last)
          0 (led_by true outer) M N (tree_of_node left) (tree_of_node right) counts
          one.inside.items one.ended.items other.inside.items other.ended.items
          (part_seen f same1 last) (part_seen g same2 last) around'.inside.items around'.ended.items
          (moments_until time limit) puts.found puts.told
      both_seen false puts last = intersection_seen around.longest around.longest (Rested last)
          0 (led_by false outer) M N (tree_of_node left) (tree_of_node right) counts
          one.inside.items one.ended.items other.inside.items other.ended.items
          (part_seen f same1 last) (part_seen g same2 last) around'.inside.items around'.ended.items
          puts.found puts.told

      pub intersection_closes :
          PutsBehind around.whole outer (Both (Held one.inside.items) (Held other.inside.items))
          (Both (Held one.ended.items) (Held other.ended.items)) dull idle around around'
          → IntersectionCloses time events outer around around' left left' right right'
      intersection_closes puts = record {
        closes = record {
          counts = (puts_made outer (Both (Held one.inside.items) (Held other.inside.items))
              (Both (Held one.ended.items) (Held other.ended.items)) dull idle around around'
              around.whole puts).0.counts;
          tells = both_seen around.whole puts;
        };
        one = f.tree;
        other = g.tree;
      }

  module _ (around around' : Around) (body body' : Node) (f : HasClosed time events body body')
      (dull idle : Type 0) where
    abbrev inner : Around
    inner = around_of body'

    pub repetition_closes : (around_of body).longest ≡ around.longest
        → Puts (Chain (Held inner.inside.items) (IsInstantBetween time time))
        (Composed (Held inner.ended.items) (Held around'.inside.items)) dull idle around around'
        → RepetitionCloses time events around around' body body'
    repetition_closes same puts = record {
      closes = record {
        counts = puts.made.counts;
        tells = λ last. repetition_seen around.longest (Rested last) (mark_of_node time body)
            (tree_of_node body) inner.inside.items inner.ended.items (part_seen f same last)
            around'.inside.items around'.ended.items (IsInstantBetween time time)
            (instants_empty (Rested last) time time refl refl) puts.found puts.told;
      };
      inner = f.tree;
    }

    module _ (interval : IntervalEnds) (outer : List ZoneBounds) (limit : time ≤ TIME_MAX)
        (same : (around_of body).longest ≡ least_of around.longest interval.high) where
      abbrev A : ℕ → ℕ → Type 0
      A = LastsWithin interval

      abbrev reach : Option ℕ
      reach = least_of around.longest interval.high

      body_seen : (whole : Bool)
          → PutsBehind whole outer (Lasting A (Held inner.inside.items))
          (Lasting A (Held inner.ended.items)) dull idle around around' → (last : Option ℕ)
          → Seen around.longest (Rested last)
          (restriction_one 0 (led_by whole outer) (mark_of_node time body))
          (restriction (tree_of_node body) interval) around'.inside.items around'.ended.items
      body_seen true puts last = whole_restriction_seen around.longest reach (Rested last) 0
          (led_by true outer) (mark_of_node time body) (tree_of_node body) interval
          (reach_counts around.longest interval) inner.inside.items inner.ended.items
          (part_seen f same last) around'.inside.items around'.ended.items
          (moments_until time limit) puts.found puts.told
      body_seen false puts last = restriction_seen around.longest reach (Rested last) 0
          (led_by false outer) (mark_of_node time body) (tree_of_node body) interval
          (reach_counts around.longest interval) inner.inside.items inner.ended.items
          (part_seen f same last) around'.inside.items around'.ended.items puts.found puts.told

      pub restriction_closes :
          PutsBehind around.whole outer (Lasting A (Held inner.inside.items))
          (Lasting A (Held inner.ended.items)) dull idle around around'
          → RestrictionCloses time events interval outer around around' body body'
      restriction_closes puts = record {
        closes = record {
          counts = (puts_made outer (Lasting A (Held inner.inside.items))
              (Lasting A (Held inner.ended.items)) dull idle around around' around.whole puts).0.counts;
          tells = body_seen around.whole puts;
        };
        inner = f.tree;
      }

  -- ---- the node, of its parts

  abbrev pub PartsClose : Node → Node → Type 0
  PartsClose (Eps around) (Eps around') =
      ClosesAs time events (atom_mark [] []) (atom empty) around around'
  PartsClose (Lit around state begun) (Lit around' state' begun') =
      (tree_of state' ≡ tree_of state) × ClosesAs time events
      (atom_mark [] (begun_at time begun.items)) (atom (literal (tree_of state))) around around'
  PartsClose (Rise around state) (Rise around' state') =
      (tree_of state' ≡ tree_of state)
      × ClosesAs time events (atom_mark [] []) (atom (rise (tree_of state))) around around'
  PartsClose (Fall around state) (Fall around' state') =
      (tree_of state' ≡ tree_of state)
      × ClosesAs time events (atom_mark [] []) (atom (fall (tree_of state))) around around'
  PartsClose (Event around number) (Event around' number') =
      (number' ≡ number)
      × ClosesAs time events (atom_mark [] []) (atom (event number)) around around'
  PartsClose (Seq' around x left x' right) (Seq' around' y left' y' right') =
      SequenceCloses time events around around' left left' right right'
  PartsClose (Alt' around x left x' right) (Alt' around' y left' y' right') =
      AlternationCloses time events around around' left left' right right'
  PartsClose (Meet' around reach outer most x left x' right)
      (Meet' around' reach' outer' most' y left' y' right') =
      IntersectionCloses time events outer.items around around' left left' right right'
  PartsClose (Star' around x body) (Star' around' y body') =
      RepetitionCloses time events around around' body body'
  PartsClose (Within' around reach interval outer most x body)
      (Within' around' reach' interval' outer' most' y body') =
      (interval' ≡ interval)
      × RestrictionCloses time events interval outer.items around around' body body'
  PartsClose before after = ⊥

  closed_as : {before after : Node} → tree_of_node after ≡ tree_of_node before
      → ClosesAs time events (mark_of_node time before) (tree_of_node before) (around_of before)
      (around_of after) → HasClosed time events before after
  closed_as same h = record { tree = same; counts = h.counts; tells = h.tells }

  parts_closed : (before after : Node) → PartsClose before after → HasClosed time events before after
  parts_closed (Eps around) (Eps around') h = closed_as refl h
  parts_closed (Lit around state begun) (Lit around' state' begun') h =
      closed_as (ap (λ s. atom (literal s)) h.0) h.1
  parts_closed (Rise around state) (Rise around' state') h =
      closed_as (ap (λ s. atom (rise s)) h.0) h.1
  parts_closed (Fall around state) (Fall around' state') h =
      closed_as (ap (λ s. atom (fall s)) h.0) h.1
  parts_closed (Event around number) (Event around' number') h =
      closed_as (ap (λ k. atom (event k)) h.0) h.1
  parts_closed (Seq' around x left x' right) (Seq' around' y left' y' right') h =
      closed_as (ap (λ t. sequence t (tree_of_node right')) h.one
      ∙ ap (λ t. sequence (tree_of_node left) t) h.other) h.closes
  parts_closed (Alt' around x left x' right) (Alt' around' y left' y' right') h =
      closed_as (ap (λ t. alternation t (tree_of_node right')) h.one
      ∙ ap (λ t. alternation (tree_of_node left) t) h.other) h.closes
  parts_closed (Meet' around reach outer most x left x' right)
      (Meet' around' reach' outer' most' y left' y' right') h =
      closed_as (ap (λ t. intersection t (tree_of_node right')) h.one
      ∙ ap (λ t. intersection (tree_of_node left) t) h.other) h.closes
  parts_closed (Star' around x body) (Star' around' y body') h =
      closed_as (ap (λ t. repetition t) h.inner) h.closes
  parts_closed (Within' around reach interval outer most x body)
      (Within' around' reach' interval' outer' most' y body') h =
      closed_as (ap (λ t. restriction t interval') h.1.inner
      ∙ ap (λ i. restriction (tree_of_node body) i) h.0) h.1.closes
  parts_closed before after h = absurd h

-- The node under another name.
pub closed_by : {time events : ℕ} {node before after : Node} → node ≡ before
    → PartsClose time events before after → HasClosed time events node after
closed_by {time} {events} {node} {before} {after} is h =
    subst (λ (z : Node). HasClosed time events z after) (sym is)
    (parts_closed time events before after h)

-- The parts under other names.
pub sequence_renamed : {time events : ℕ} {around around' : Around}
    {left named left' right named' right' : Node} → left ≡ named → right ≡ named'
    → SequenceCloses time events around around' left left' right right'
    → SequenceCloses time events around around' named left' named' right'
sequence_renamed {time} {events} {around} {around'} {left} {named} {left'} {right} {named'} {right'}
    l r h =
    subst (λ (n : Node). SequenceCloses time events around around' n left' named' right') l
    (subst (λ (n : Node). SequenceCloses time events around around' left left' n right') r h)

pub alternation_renamed : {time events : ℕ} {around around' : Around}
    {left named left' right named' right' : Node} → left ≡ named → right ≡ named'
    → AlternationCloses time events around around' left left' right right'
    → AlternationCloses time events around around' named left' named' right'
alternation_renamed {time} {events} {around} {around'} {left} {named} {left'} {right} {named'}
    {right'} l r h =
    subst (λ (n : Node). AlternationCloses time events around around' n left' named' right') l
    (subst (λ (n : Node). AlternationCloses time events around around' left left' n right') r h)

pub body_renamed : {time events : ℕ} {around around' : Around} {body named body' : Node}
    → body ≡ named → RepetitionCloses time events around around' body body'
    → RepetitionCloses time events around around' named body'
body_renamed {time} {events} {around} {around'} {body} {named} {body'} l h =
    subst (λ (n : Node). RepetitionCloses time events around around' n body') l h

pub restriction_renamed : {time events : ℕ} {interval : IntervalEnds}
    {outer outer' : List ZoneBounds} {around around' : Around} {body named body' : Node}
    → outer ≡ outer' → body ≡ named
    → RestrictionCloses time events interval outer around around' body body'
    → RestrictionCloses time events interval outer' around around' named body'
restriction_renamed {time} {events} {interval} {outer} {outer'} {around} {around'} {body} {named}
    {body'} o l h =
    subst (λ (z : List ZoneBounds). RestrictionCloses time events interval z around around' named
    body') o
    (subst (λ (n : Node). RestrictionCloses time events interval outer around around' n body') l h)

pub intersection_renamed : {time events : ℕ} {outer outer' : List ZoneBounds}
    {around around' : Around} {left named left' right named' right' : Node} → outer ≡ outer'
    → left ≡ named → right ≡ named'
    → IntersectionCloses time events outer around around' left left' right right'
    → IntersectionCloses time events outer' around around' named left' named' right'
intersection_renamed {time} {events} {outer} {outer'} {around} {around'} {left} {named} {left'}
    {right} {named'} {right'} o l r h =
    subst (λ (z : List ZoneBounds). IntersectionCloses time events z around around' named left'
    named' right') o
    (subst (λ (n : Node). IntersectionCloses time events outer around around' n left' named'
    right') l
    (subst (λ (n : Node). IntersectionCloses time events outer around around' left left' n right')
    r h))

-- ---- what atoms match at the end

module _ (time events : ℕ) where
  pub moment_gives : (zone : ZoneBounds)
      → ((a b n : ℕ) → 0 < n → ZoneHolds zone a b n ↔ IsInstantBetween time time a b n)
      → (last : Option ℕ) → GivesZone (Some zone) (AtomMatches (end_rest time last events) empty)
  moment_gives zone held last = record {
    exact = λ a b n some le.
        let one = held a b n some in
        let two = (instants_empty (end_rest time last events) time time refl refl).at a b n some in
        ((λ h. two.0 (one.0 h)), (λ h. one.1 (two.1 h)));
  }

  pub rise_closes : (state : StateTree) (around around' : Around) → PutsFound None around around'
      → ClosesAs time events (atom_mark [] []) (atom (rise state)) around around'
  rise_closes state around around' puts = instant_closes time events (rise state) None around
      around' (λ last. record { never = λ a b n some le h. h.there }) puts

  pub fall_closes : (state : StateTree) (around around' : Around) → PutsFound None around around'
      → ClosesAs time events (atom_mark [] []) (atom (fall state)) around around'
  fall_closes state around around' puts = instant_closes time events (fall state) None around
      around' (λ last. record { never = λ a b n some le h. h.there }) puts

  pub happens_not : (number : ℕ) → (bit_at events number ≡ 1 → ⊥)
      → HasNoPair (HappensAt number time events)
  happens_not number off = record { never = λ a b n some le h. off h.there.1 }

  pub happens_then : (number : ℕ) (zone : ZoneBounds) → bit_at events number ≡ 1
      → ((a b n : ℕ) → 0 < n → ZoneHolds zone a b n ↔ IsInstantBetween time time a b n)
      → IsZoneOf zone (HappensAt number time events)
  happens_then number zone on held = record {
    exact = λ a b n some le.
        let one = held a b n some in (
          (λ h.
              let at = one.0 h in
              let starts = at.starts in
              let same = at.same in
              let ends = at.ends in
              record {
                time = time;
                begin = omega (arith, starts, same, ends);
                end = omega (arith, starts, same, ends);
                there = (refl, on);
              }),
          (λ h.
              let at = ap (λ t. t * n) h.there.0 in
              let begin = h.begin in
              let end = h.end in
              one.1 (record {
                starts = omega (arith, at, begin);
                same = begin ∙ sym end;
                ends = omega (arith, at, end);
              })),
        );
  }
