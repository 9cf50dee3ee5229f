use Rattle.tre_state.proofs.Bits.{bit_test}
use Rattle.tre_state.proofs.state.State.+eval.Goals as goal

pub returns-in-Prop : goal.returns-in-Prop
returns-in-Prop t c =
    rw c.in-Prop.is (record { holds = bit_test c.args.valuation c.in-Prop.number })
