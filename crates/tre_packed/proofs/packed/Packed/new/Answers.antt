use Rattle.std.proofs.Common.{[], ap}
use Rattle.tre_trace.specs.Trace.{timeline_of}
use Rattle.tre_packed.proofs.Unpacking.{pack_of, unpacked_is}
use Rattle.tre_packed.proofs.packed.Packed.new.Goals as goal

pub invariant_of-result : goal.invariant_of-result
invariant_of-result c = pack_of [] c.new.result c.new.ensures

pub returns-clause-empty : goal.returns-clause-empty
returns-clause-empty c =
    ap (λ segments. timeline_of segments 0) (unpacked_is [] c.new.result c.new.ensures)

pub returns-clause-trace : goal.returns-clause-trace
returns-clause-trace c = (pack_of [] c.new.result c.new.ensures).trace
