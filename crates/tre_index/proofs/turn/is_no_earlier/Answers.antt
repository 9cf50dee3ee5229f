use Rattle.std.proofs.Common.{refl}
use Rattle.tre_index.proofs.Turns.{IsNoEarlier-told, not_late}
use Rattle.tre_index.proofs.turn.is_no_earlier.Goals as goal

pub returns-then-is_late : goal.returns-then-is_late
returns-then-is_late c = (
  (λ t. absurd (cc)),
  (λ h. absurd (not_late c.args.row.now c.args.before.now h (c.if-is_late.ensures.0 refl))),
)

pub returns : goal.returns
returns c =
    IsNoEarlier-told c.args.row.now c.args.before.now c.is_early.result
    (λ late. let e = c.if-is_late.ensures.1 late in (cc)) c.is_early.ensures
