-- What a residual means speaks of times, the first of which is never after the second.
use Rattle.tre_pairs.proofs.Laws.{Scales, IsOrdered}
use Rattle.tre_pairs.proofs.Order.{IsOrdered-Composed, IsOrdered-Either, IsOrdered-Both, IsOrdered-Lasting}
use Rattle.tre_pairs.proofs.Scaling.{Scales-Composed, Scales-Either, Scales-Both, Scales-Lasting}
use Rattle.tre_syntax.specs.Meaning.{MatchesRest}
use Rattle.tre_syntax.specs.Rest.{Rest}
use Rattle.tre_syntax.proofs.CutMeaning.{IsOrdered-rest, Scales-rest}
use Rattle.tre_syntax.proofs.MeaningLaws.{DurationScales-LastsWithin}
use Rattle.tre_zone.specs.Held.{Held}
use Rattle.tre_zone.specs.Interval.{LastsWithin}
use Rattle.tre_zone.proofs.HeldSets.{Scales-Held, IsOrdered-Held}
use Rattle.tre_zone.proofs.JoinedPairs.{Scales-JoinedAt, IsOrdered-JoinedAt}
use Rattle.tre_mark.proofs.Meanings.{Scales-Marked, IsOrdered-Marked}
use Rattle.tre_node.specs.NodeTree.{mark_of_node, tree_of_node}
use Rattle.tre_residual.specs.Residual.{ResidualTree, nothing, here, joined, preceded, followed, either, both, lasting, marked, Means}

module _ (rest : Rest) where
  pub Scales-Means : (residual : ResidualTree) → Scales (Means residual rest)
  Scales-Means nothing = record { up = λ k a b n pos h. h; down = λ k a b n pos h. h }
  Scales-Means (here zones) = Scales-Held zones
  Scales-Means (joined zones tree) =
      Scales-JoinedAt rest.start (Held zones) (MatchesRest tree rest) (Scales-Held zones)
      (Scales-rest tree rest)
  Scales-Means (preceded zones residual) =
      Scales-Composed (Held zones) (Means residual rest) (Scales-Held zones) (Scales-Means residual)
  Scales-Means (followed residual tree) =
      Scales-Composed (Means residual rest) (MatchesRest tree rest) (Scales-Means residual)
      (Scales-rest tree rest)
  Scales-Means (either one other) =
      Scales-Either (Means one rest) (Means other rest) (Scales-Means one) (Scales-Means other)
  Scales-Means (both one other) =
      Scales-Both (Means one rest) (Means other rest) (Scales-Means one) (Scales-Means other)
  Scales-Means (lasting residual ends) =
      Scales-Lasting (LastsWithin ends) (Means residual rest) (DurationScales-LastsWithin ends)
      (Scales-Means residual)
  Scales-Means (marked node) =
      Scales-Marked rest (mark_of_node rest.start node) (tree_of_node node)

  pub IsOrdered-Means : (residual : ResidualTree) → IsOrdered (Means residual rest)
  IsOrdered-Means nothing = record { le = λ a b n h. absurd h }
  IsOrdered-Means (here zones) = IsOrdered-Held zones
  IsOrdered-Means (joined zones tree) =
      IsOrdered-JoinedAt rest.start (Held zones) (MatchesRest tree rest) (IsOrdered-Held zones)
      (IsOrdered-rest tree rest)
  IsOrdered-Means (preceded zones residual) =
      IsOrdered-Composed (Held zones) (Means residual rest) (IsOrdered-Held zones)
      (IsOrdered-Means residual)
  IsOrdered-Means (followed residual tree) =
      IsOrdered-Composed (Means residual rest) (MatchesRest tree rest) (IsOrdered-Means residual)
      (IsOrdered-rest tree rest)
  IsOrdered-Means (either one other) =
      IsOrdered-Either (Means one rest) (Means other rest) (IsOrdered-Means one)
      (IsOrdered-Means other)
  IsOrdered-Means (both one other) =
      IsOrdered-Both (Means one rest) (Means other rest) (IsOrdered-Means one)
  IsOrdered-Means (lasting residual ends) =
      IsOrdered-Lasting (LastsWithin ends) (Means residual rest) (IsOrdered-Means residual)
  IsOrdered-Means (marked node) =
      IsOrdered-Marked rest (mark_of_node rest.start node) (tree_of_node node)
