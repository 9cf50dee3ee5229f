use Rattle.tre_zone.proofs.Bounds.{split, either_bit}
use Rattle.tre_zone.proofs.bound.Bound.either_weakness.Goals as goal

pub returns : goal.returns
returns c =
    let one = split c.args.self.now in
    let two = split c.args.other.now in
    rw (c.weakness.ensures, c.weakness-2.ensures) (either_bit _ _ one.small two.small)
