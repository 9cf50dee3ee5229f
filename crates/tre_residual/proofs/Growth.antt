-- What a residual means where the rest of a trace is cut: the pairs over the front are pairs over
-- the whole, and those that end before the cut are pairs over the front.
use Rattle.std.proofs.Common.{◌*◌}
use Rattle.tre_pairs.proofs.Implication.{Implies-Composed, Implies-Either, Implies-Both, Implies-Lasting, ImpliesBefore-Composed, ImpliesBefore-Either, ImpliesBefore-Both, ImpliesBefore-Lasting}
use Rattle.tre_pairs.proofs.Laws.{Implies, ImpliesBefore}
use Rattle.tre_syntax.specs.Cut.{CutRest, time_of, uncut, front_of, MatchesBefore}
use Rattle.tre_syntax.specs.Meaning.{MatchesRest}
use Rattle.tre_syntax.proofs.CutMeaning.{IsOrdered-rest}
use Rattle.tre_zone.specs.Interval.{LastsWithin}
use Rattle.tre_zone.specs.Held.{Held}
use Rattle.tre_mark.proofs.Growth.{Implies-same, Before-same, tree_grows, tree_early, mark_grows, mark_early}
use Rattle.tre_node.specs.NodeTree.{mark_of_node, tree_of_node}
use Rattle.tre_residual.specs.Residual.{ResidualTree, nothing, here, joined, preceded, followed, either, both, lasting, marked, Means}
use Rattle.tre_residual.proofs.Meanings.{IsOrdered-Means}

module _ (cut : CutRest) where
  pub Means-grow : (residual : ResidualTree)
      → Implies (Means residual (front_of cut)) (Means residual (uncut cut))
  Means-grow nothing = record { at = λ a b n h. h }
  Means-grow (here zones) = Implies-same (Held zones)
  Means-grow (joined zones tree) = record {
    at = λ a b n h. record {
      left = h.left;
      right = (tree_grows cut tree).at (cut.start * n) b n h.right;
    };
  }
  Means-grow (preceded zones residual) =
      Implies-Composed (Held zones) (Held zones) (Means residual (front_of cut))
      (Means residual (uncut cut)) (Implies-same (Held zones)) (Means-grow residual)
  Means-grow (followed residual tree) =
      Implies-Composed (Means residual (front_of cut)) (Means residual (uncut cut))
      (MatchesBefore tree cut) (MatchesRest tree (uncut cut)) (Means-grow residual)
      (tree_grows cut tree)
  Means-grow (either one other) =
      Implies-Either (Means one (front_of cut)) (Means one (uncut cut))
      (Means other (front_of cut)) (Means other (uncut cut)) (Means-grow one) (Means-grow other)
  Means-grow (both one other) =
      Implies-Both (Means one (front_of cut)) (Means one (uncut cut))
      (Means other (front_of cut)) (Means other (uncut cut)) (Means-grow one) (Means-grow other)
  Means-grow (lasting residual ends) =
      Implies-Lasting (LastsWithin ends) (Means residual (front_of cut))
      (Means residual (uncut cut)) (Means-grow residual)
  Means-grow (marked node) = mark_grows cut (mark_of_node cut.start node) (tree_of_node node)

  pub Means-early : (residual : ResidualTree)
      → ImpliesBefore (time_of cut) (Means residual (uncut cut)) (Means residual (front_of cut))
  Means-early nothing = record { at = λ a b n before h. h }
  Means-early (here zones) = Before-same (time_of cut) (Held zones)
  Means-early (joined zones tree) = record {
    at = λ a b n before h. record {
      left = h.left;
      right = (tree_early cut tree).at (cut.start * n) b n before h.right;
    };
  }
  Means-early (preceded zones residual) =
      ImpliesBefore-Composed (time_of cut) (Held zones) (Held zones) (Means residual (uncut cut))
      (Means residual (front_of cut)) (IsOrdered-Means (uncut cut) residual)
      (Before-same (time_of cut) (Held zones)) (Means-early residual)
  Means-early (followed residual tree) =
      ImpliesBefore-Composed (time_of cut) (Means residual (uncut cut))
      (Means residual (front_of cut)) (MatchesRest tree (uncut cut)) (MatchesBefore tree cut)
      (IsOrdered-rest tree (uncut cut)) (Means-early residual) (tree_early cut tree)
  Means-early (either one other) =
      ImpliesBefore-Either (time_of cut) (Means one (uncut cut)) (Means one (front_of cut))
      (Means other (uncut cut)) (Means other (front_of cut)) (Means-early one)
      (Means-early other)
  Means-early (both one other) =
      ImpliesBefore-Both (time_of cut) (Means one (uncut cut)) (Means one (front_of cut))
      (Means other (uncut cut)) (Means other (front_of cut)) (Means-early one)
      (Means-early other)
  Means-early (lasting residual ends) =
      ImpliesBefore-Lasting (time_of cut) (LastsWithin ends) (Means residual (uncut cut))
      (Means residual (front_of cut)) (Means-early residual)
  Means-early (marked node) = mark_early cut (mark_of_node cut.start node) (tree_of_node node)
