use Rattle.std.proofs.Common.{rules, refl, w64}
use mir.Val.{SFits}
use Rattle.tre_lanes.proofs.Lanes.{Each1-eight, is_reached}
use Rattle.tre_lanes.proofs.rows.reaches.Goals as goal

pub returns : goal.returns
returns c =
    let row = c.args.row.now in
    let key = c.args.key.now in
    is_reached row key _ c.told-row c.told-key
    (Each1-eight (SFits w64) row c.told-row (search rules) (search rules) (search rules)
    (search rules) (search rules) (search rules) (search rules) (search rules))
    (Each1-eight (SFits w64) key c.told-key (search rules) (search rules) (search rules)
    (search rules) (search rules) (search rules) (search rules) (search rules))
    refl
