use Rattle.std.proofs.Common.{refl}
use Rattle.tre_strips.proofs.Trimming.{TrimsBehind-late, TrimsBehind-itself}
use Rattle.tre_strips.proofs.trim.rest_behind.Goals as goal

pub returns-then-first_begin-last_begin : goal.returns-then-first_begin-last_begin
returns-then-first_begin-last_begin c = TrimsBehind-itself c.args.zone.now c.args.other.now

pub returns-then-is_early_held : goal.returns-then-is_early_held
returns-then-is_early_held c =
    TrimsBehind-late _ _ _ _ (c.if-is_early_held.ensures refl) c.late.ensures

pub returns-else-is_early_held : goal.returns-else-is_early_held
returns-else-is_early_held c = TrimsBehind-itself c.args.zone.now c.args.other.now
