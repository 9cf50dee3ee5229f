use Rattle.std.proofs.Common.{◌≡◌, inl, inr, length, arith}
use Rattle.std.proofs.lemmas.Bool.{cases_lt}
use Rattle.tre_trace.proofs.Beside.{bit_past}
use Rattle.tre_trace.proofs.planes.widen.Goals as goal

pub returns-else-valuation-len-ne0-clause-all : goal.returns-else-valuation-len-ne0-clause-all
returns-else-valuation-len-ne0-clause-all c number below one =
    let items = c.loop-own.own.items in
    let len : c.len-in-loop-own.result ≡ length items = omega (arith, c.len-in-loop-own.ensures) in
    let none = rw len at c.if-valuation-len-ne0.false in
    elim (cases_lt number (length items)) [
      | inl early ↦ early
      | inr late ↦
          absurd (omega (arith, one, bit_past c.args.valuation (length items) number none late))
    ]
