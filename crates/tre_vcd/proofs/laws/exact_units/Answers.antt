use Rattle.std.proofs.Common.{◌+◌, ◌*◌, ◌^◌}
use Rattle.tre_unit.specs.Units.{places_of}
use Rattle.tre_vcd.proofs.Scaling.{whole-is, whole-only}
use Rattle.tre_vcd.proofs.laws.exact_units.Goals as goal

pub returns-clause-alike : goal.returns-clause-alike
returns-clause-alike c = λ scale ticks units unit tick is.
    whole-is (10 ^ places_of tick.unit) (ticks * 10 ^ (places_of unit + scale + tick.tens)) units is

pub returns-clause-none : goal.returns-clause-none
returns-clause-none c = λ scale ticks units unit tick is same.
    whole-only (10 ^ places_of tick.unit) (ticks * 10 ^ (places_of unit + scale + tick.tens)) units
    is same
