-- What a residual stands for behind a piece, from what its parts stand for.
use Rattle.std.proofs.Common.{List}
use Rattle.tre_pairs.specs.Pairs.{Pairs, Composed, Either, Both, Lasting}
use Rattle.tre_pairs.proofs.Agreement.{Agree-Composed, Agree-Either, Agree-Both, Agree-Lasting}
use Rattle.tre_pairs.proofs.Laws.{Agree}
use Rattle.tre_zone.specs.Interval.{IntervalEnds, LastsWithin}
use Rattle.tre_zone.specs.declared.zone_bounds.ZoneBounds.{ZoneBounds}
use Rattle.tre_state.specs.declared.names.TheConstants.{NAMES_MAX}
use Rattle.tre_trace.specs.Trace.{Timeline, AreLong}
use Rattle.tre_syntax.specs.Cut.{back_of, MatchesBehind}
use Rattle.tre_syntax.specs.PatternTree.{PatternTree, NumbersBelow}
use Rattle.tre_edges.specs.Piece.{end_of_piece, cut_behind}
use Rattle.tre_edges.specs.declared.piece.Piece.{Piece}
use Rattle.tre_zone.specs.Held.{Held}
use Rattle.tre_residual.specs.Residual.{ResidualTree, nothing, preceded, followed, either, both, lasting, Means, IsWell, Builds}
use Rattle.tre_derive.specs.Derivative.{StandsBehind}
use Rattle.tre_derive.proofs.Held.{Agree-self}

module _ (piece : Piece) where
  abbrev Behind : ResidualTree → Timeline → Pairs
  Behind residual v = Means residual (back_of (cut_behind piece v))

  -- What it stands for, pair by pair.
  pub stands_at : (F : Timeline → Pairs) (residual : ResidualTree)
      → StandsBehind piece F residual → (v : Timeline) → AreLong v.segments
      → Agree (Behind residual v) (F v)
  stands_at F residual stands v long = record {
    at = λ a b n some. stands.exact v a b n long some;
  }

  -- Of its pairs, and of what it is made of.
  pub stands_of : (F : Timeline → Pairs) (residual : ResidualTree)
      → ((v : Timeline) → AreLong v.segments → Agree (Behind residual v) (F v))
      → IsWell (end_of_piece piece) residual → StandsBehind piece F residual
  stands_of F residual same well = record {
    exact = λ v a b n long some. (same v long).at a b n some;
    well = record { well = well };
  }

  -- The same pairs by another name.
  pub stands_for : (F G : Timeline → Pairs) (residual : ResidualTree)
      → ((v : Timeline) → AreLong v.segments → Agree (F v) (G v)) → StandsBehind piece F residual
      → StandsBehind piece G residual
  stands_for F G residual same stands = record {
    exact = λ v a b n long some.
        let one = stands.exact v a b n long some in
        let two = (same v long).at a b n some in
        ((λ h. two.0 (one.0 h)), (λ h. one.1 (two.1 h)));
    well = stands.well;
  }

  -- What is built as a form stands for the pairs of the form.
  pub stands_built : (F : Timeline → Pairs) (form residual : ResidualTree)
      → StandsBehind piece F form → Builds residual form → StandsBehind piece F residual
  stands_built F form residual stands built = record {
    exact = λ v a b n long some.
        let one = built.pairs (back_of (cut_behind piece v)) a b n some in
        let two = stands.exact v a b n long some in
        ((λ h. two.0 (one.0 h)), (λ h. one.1 (two.1 h)));
    well = built.well (end_of_piece piece) stands.well;
  }

  pub stands_nothing : StandsBehind piece (λ v a b n. ⊥) nothing
  stands_nothing = stands_of (λ v a b n. ⊥) nothing (λ v long. Agree-self (λ a b n. ⊥)) tt

  pub stands_preceded : (F : Timeline → Pairs) (zones : List ZoneBounds)
      (residual : ResidualTree) → StandsBehind piece F residual
      → StandsBehind piece (λ v. Composed (Held zones) (F v)) (preceded zones residual)
  stands_preceded F zones residual stands =
      stands_of (λ v. Composed (Held zones) (F v)) (preceded zones residual)
      (λ v long. Agree-Composed (Held zones) (Held zones) (Behind residual v) (F v)
      (Agree-self (Held zones)) (stands_at F residual stands v long))
      stands.well.well

  pub stands_followed : (F : Timeline → Pairs) (residual : ResidualTree) (tree : PatternTree)
      → NumbersBelow NAMES_MAX tree → StandsBehind piece F residual
      → StandsBehind piece (λ v. Composed (F v) (MatchesBehind tree (cut_behind piece v)))
      (followed residual tree)
  stands_followed F residual tree numbers stands =
      stands_of (λ v. Composed (F v) (MatchesBehind tree (cut_behind piece v)))
      (followed residual tree)
      (λ v long. Agree-Composed (Behind residual v) (F v)
      (MatchesBehind tree (cut_behind piece v)) (MatchesBehind tree (cut_behind piece v))
      (stands_at F residual stands v long)
      (Agree-self (MatchesBehind tree (cut_behind piece v))))
      (stands.well.well, numbers)

  pub stands_either : (F G : Timeline → Pairs) (one other : ResidualTree)
      → StandsBehind piece F one → StandsBehind piece G other
      → StandsBehind piece (λ v. Either (F v) (G v)) (either one other)
  stands_either F G one other f g =
      stands_of (λ v. Either (F v) (G v)) (either one other)
      (λ v long. Agree-Either (Behind one v) (F v) (Behind other v) (G v)
      (stands_at F one f v long) (stands_at G other g v long))
      (f.well.well, g.well.well)

  pub stands_both : (F G : Timeline → Pairs) (one other : ResidualTree)
      → StandsBehind piece F one → StandsBehind piece G other
      → StandsBehind piece (λ v. Both (F v) (G v)) (both one other)
  stands_both F G one other f g =
      stands_of (λ v. Both (F v) (G v)) (both one other)
      (λ v long. Agree-Both (Behind one v) (F v) (Behind other v) (G v)
      (stands_at F one f v long) (stands_at G other g v long))
      (f.well.well, g.well.well)

  pub stands_lasting : (F : Timeline → Pairs) (residual : ResidualTree) (ends : IntervalEnds)
      → StandsBehind piece F residual
      → StandsBehind piece (λ v. Lasting (LastsWithin ends) (F v)) (lasting residual ends)
  stands_lasting F residual ends stands =
      stands_of (λ v. Lasting (LastsWithin ends) (F v)) (lasting residual ends)
      (λ v long. Agree-Lasting (LastsWithin ends) (Behind residual v) (F v)
      (stands_at F residual stands v long))
      stands.well.well
