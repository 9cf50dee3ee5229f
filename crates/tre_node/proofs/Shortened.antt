-- Lists without what lasts too long.
use Rattle.std.proofs.Common.{◌≡◌, ◌∙◌, ℕ, List, [], Option, Bool, sym, subst}
use Rattle.tre_pairs.specs.Pairs.{Either, Lasting}
use Rattle.tre_pairs.proofs.SameLaws.{same_refl, same_trans}
use Rattle.tre_zone.specs.Held.{Held}
use Rattle.tre_zone.specs.Longest.{IsLongest, LastsUpTo}
use Rattle.tre_zone.specs.ZoneList.{SetHolds, HoldExactly}
use Rattle.tre_zone.specs.declared.zone_bounds.ZoneBounds.{ZoneBounds}
use Rattle.tre_syntax.specs.PatternTree.{PatternTree}
use Rattle.tre_edges.specs.declared.piece.Piece.{Piece}
use Rattle.tre_mark.specs.MarkTree.{MarkTree}
use Rattle.tre_mark.specs.Marked.{Marked}
use Rattle.tre_forms.specs.Enters.{alone}
use Rattle.tre_node.specs.declared.node.Node.{Node, Eps, Lit, Rise, Fall, Event, Seq', Alt', Meet', Star', Within'}
use Rattle.tre_node.specs.IsNode.{IsMade, IsNode}
use Rattle.tre_node.specs.Looked.{Told}
use Rattle.tre_node.specs.NodeTree.{around_of}
use Rattle.tre_node.specs.Telling.{AreShortened}
use Rattle.tre_node.proofs.Lists.{exact_alone}

pub shortened_none : (longest : Option ℕ) (zones : List ZoneBounds)
    → AreShortened longest zones zones
shortened_none longest zones = record { same = same_refl (LastsUpTo longest) (Held zones) }

pub shortened_some : (longest : Option ℕ) (zones room new : List ZoneBounds) → room ≡ []
    → HoldExactly new (Either (SetHolds room) (Lasting (LastsUpTo longest) (SetHolds zones)))
    → AreShortened longest zones new
shortened_some longest zones room new none held = record {
  same = record {
    at = λ a b n some short. (
      (λ h. record {
        rising = h.rising;
        held = (((exact_alone none held).exact a b n some h.rising).0 h.held).related;
      }),
      (λ h. record {
        rising = h.rising;
        held = ((exact_alone none held).exact a b n some h.rising).1
            (record { related = h.held; admitted = short });
      }),
    );
  };
}

pub shortened_tells : {longest : Option ℕ} {piece : Piece} {old : MarkTree} {tree : PatternTree}
    {found told told' : List ZoneBounds} {lives : Bool}
    → Told longest piece old tree found told lives → AreShortened longest told told'
    → Told longest piece old tree found told' lives
shortened_tells {longest} {piece} {old} {tree} {found} {told} {told'} {lives} h s = record {
  inside = h.inside;
  ended = same_trans (LastsUpTo longest) (Held told') (Held told) (Marked (alone piece) old tree)
      s.same h.ended;
  dull = h.dull;
  began = h.began;
}

-- The longest duration of a node can be named.
node_limit : (time : ℕ) (node : Node) → IsNode time node → IsLongest (around_of node).longest
node_limit time (Eps around) n = n.limit
node_limit time (Lit around state begun) n = n.0.limit
node_limit time (Rise around state) n = n.0.limit
node_limit time (Fall around state) n = n.0.limit
node_limit time (Event around number) n = n.0.limit
node_limit time (Seq' around box left box' right) n = n.0.limit
node_limit time (Alt' around box left box' right) n = n.0.limit
node_limit time (Meet' around reach outer most box left box' right) n = n.0.limit
node_limit time (Star' around box body) n = n.0.limit
node_limit time (Within' around reach interval outer most box body) n = n.0.limit

pub part_limit : (time : ℕ) (node : Node) {longest longest' : Option ℕ} {whole : Bool}
    → IsNode time node → IsMade longest whole (around_of node) → longest' ≡ longest
    → IsLongest longest'
part_limit time node {longest} {longest'} {whole} n made is =
    subst (λ (z : Option ℕ). IsLongest z) (made.counts ∙ sym is) (node_limit time node n)
