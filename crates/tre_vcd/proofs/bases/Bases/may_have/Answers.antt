use Rattle.std.proofs.Common.{◌∙◌, map, sym, ap}
use Rattle.std.specs.Int.{bit_at}
use Rattle.std.proofs.lemmas.Nat.Bits.{bit_at-zero}
use Rattle.tre_vcd.proofs.Gathering.{has-map}
use Rattle.tre_vcd.proofs.Signalling.{not-among}
use Rattle.tre_vcd.proofs.bases.Bases.may_have.Goals as goal

pub returns-then-numbers-eq0 : goal.returns-then-numbers-eq0
returns-then-numbers-eq0 c = λ _ has. has.told (λ k may.
    let one = c.numbers.ensures k may in
    let none = ap (λ bits. bit_at bits k) c.if-numbers-eq0.true ∙ bit_at-zero k in
    cc (one, none))

pub returns : goal.returns
returns c = λ none has.
    let keys = c.args.self.now.names.keys in
    let name = c.args.name.now in
    not-among name (map (λ own. own.items) keys)
    (has-map (λ own. own.items) name keys ∙ sym c.contains.ensures ∙ none) has.among
