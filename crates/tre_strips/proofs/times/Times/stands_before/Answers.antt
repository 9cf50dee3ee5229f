use Rattle.std.proofs.Common.{rules}
use Rattle.tre_strips.specs.Times.{sample_of}
use Rattle.tre_strips.proofs.Ends.{fixed, moving, place_moving, place_fixed, place_alike}
use Rattle.tre_strips.proofs.times.Times.stands_before.Goals as goal

pub returns-then-one-other : goal.returns-then-one-other
returns-then-one-other c =
    search (rules, place_alike, c.args.one.now, c.args.other.now, c.part_of-then-one-other.ensures)

pub returns-then-one : goal.returns-then-one
returns-then-one c =
    search (rules, sample_of, place_moving, place_fixed, fixed, c.args.self.now, c.args.one.now)

pub returns-else-one : goal.returns-else-one
returns-else-one c =
    search (rules, sample_of, place_fixed, place_moving, moving, c.args.self.now, c.args.one.now)
