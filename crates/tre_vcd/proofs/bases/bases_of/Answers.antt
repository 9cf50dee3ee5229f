use Rattle.std.proofs.Common.{◌∙◌, sym}
use Rattle.tre_vcd.proofs.Signalling.{signals-more}
use Rattle.tre_vcd.proofs.bases.bases_of.Goals as goal

pub loop-definition-preserved : goal.loop-definition-preserved
loop-definition-preserved c =
    signals-more c.loop-definition.bases c.add_signal.new.self c.add_signal-in-loop-definition.new.self
    c.args.definitions.now c.loop-definition.definition-index c.definition-item.result
    c.as_bytes.result.now c.as_bytes-in-loop-definition.result.now c.loop-definition-test.true
    (sym c.definition-item.is) (c.as_bytes.ensures.value ∙ c.signal.ensures)
    (c.as_bytes-in-loop-definition.ensures.value ∙ c.other.ensures) c.in_ok-add_signal.ensures.kept
    c.in_ok-add_signal-2.ensures.kept c.loop-definition.invariant c.in_ok-add_signal.ensures.added
    c.in_ok-add_signal-2.ensures.added
