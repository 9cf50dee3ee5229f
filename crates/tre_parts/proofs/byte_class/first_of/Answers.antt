use Rattle.tre_parts.proofs.Lanes.{none_inside, ends_at}
use Rattle.tre_parts.proofs.byte_class.first_of.Goals as goal

pub returns-in-Some-clause-first : goal.returns-in-Some-clause-first
returns-in-Some-clause-first g c = ends_at g.C.ByteClass.has _ _ c.in-Some.ensures.first

pub returns-in-None-clause-none : goal.returns-in-None-clause-none
returns-in-None-clause-none g c = none_inside g.C.ByteClass.has _ c.in-None.ensures.none
