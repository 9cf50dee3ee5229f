use Rattle.std.proofs.Common.{rules}
use Rattle.tre_strips.proofs.Trimming.{begun-values, early_given, value_min, value_of_key}
use Rattle.tre_strips.proofs.trim.early.Goals as goal

pub new-requires : goal.new-requires
new-requires c =
    let keys = rw (← c.bounds-bounds.ensures.same) at c.bounds-bounds.ensures.keys in
    begun-values _ _ _ keys (value_of_key _ keys.begin_low)
    (value_min _ _ _ c.tighter.ensures keys.begin_high c.requires.low)

pub returns : goal.returns
returns c = search (rules, early_given, c.bounds-bounds.ensures.same, c.new.result, c.args.last.now)
