use Rattle.std.proofs.Common.{arith}
use Rattle.tre_strips.proofs.Joining.{IsUnion-few}
use Rattle.tre_strips.proofs.profiles.unite.Goals as goal

pub returns-then-len-lt2-clause-union : goal.returns-then-len-lt2-clause-union
returns-then-len-lt2-clause-union c =
    let few = c.if-len-lt2.true in
    IsUnion-few _ c.args.bars.now.items (omega arith) c.requires
