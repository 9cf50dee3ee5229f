use Rattle.std.proofs.Common.{rules, w64}
use mir.Val.{SFits}
use Rattle.std.proofs.lemmas.Int.{to_z-of_z}
use Rattle.tre_zone.proofs.Bounds.{half}
use Rattle.tre_zone.proofs.bound.Bound.value.Goals as goal

pub returns : goal.returns
returns c =
    let fits : SFits w64 c.self.inside.key = search rules in
    rw (← c.self.view_is) (simp to_z-of_z (half c.self.inside.key fits))
