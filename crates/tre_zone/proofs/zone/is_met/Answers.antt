use Rattle.std.proofs.Common.{rules}
use Rattle.std.proofs.lemmas.Bool.{iff_false}
use Rattle.std.proofs.lemmas.Int.{to_z-of_z}
use Rattle.tre_zone.proofs.Bounds.{not_weak, tested-at_most, tested-less}
use Rattle.tre_zone.proofs.zone.is_met.Goals as goal

pub returns-then-is_weak : goal.returns-then-is_weak
returns-then-is_weak c =
    search (rules, tested-at_most, to_z-of_z, c.args.bound.now, c.args.p, c.args.q, c.args.n)

pub returns-else-is_weak : goal.returns-else-is_weak
returns-else-is_weak c =
    search (rules, tested-less, not_weak, iff_false, to_z-of_z, c.args.bound.now, c.args.p)
