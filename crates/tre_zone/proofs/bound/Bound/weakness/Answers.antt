use Rattle.std.proofs.Common.{rules, w64}
use mir.Val.{SFits}
use Rattle.tre_zone.proofs.Bounds.{low_bit}
use Rattle.tre_zone.proofs.bound.Bound.weakness.Goals as goal

pub returns : goal.returns
returns c =
    let fits : SFits w64 c.self.inside.key = search rules in
    rw (← c.self.view_is) (low_bit c.self.inside.key fits)
