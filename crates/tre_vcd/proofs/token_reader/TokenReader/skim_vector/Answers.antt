use Rattle.std.proofs.Common.{◌≡◌, ◌∷◌, drop, refl, sym, ap, subst}
use Rattle.tre_vcd.specs.VcdReading.{wide, change, nothing}
use Rattle.tre_vcd.specs.Sections.{Holds}
use Rattle.tre_vcd.proofs.Skimming.{holds-changed}
use Rattle.tre_vcd.proofs.token_reader.TokenReader.skim_vector.Goals as goal

pub returns-clause-holds : goal.returns-clause-holds
returns-clause-holds c = λ past holds defined.
    let reader = c.args.self.now in
    let identifier = c.args.identifier.now in
    let own = c.in-Some.letters.now in
    let letters : own ≡ drop 1 c.args.token.now = sym (ap (drop 1) c.in-Some.ensures.cases.0) in
    subst (λ all. Holds (record reader { past = c.change.new.self }) (record {
      past = change wide identifier all ∷ past;
      inside = nothing;
    })) letters
    (holds-changed reader past wide identifier own c.change.new.self reader.signals
    (c.change.ensures.knows reader.names reader.events past holds.knows.past defined own
    c.ends_true.ensures)
    (c.may_read.ensures c.if-may_read.false reader.names reader.events past wide own defined
    holds.knows.signals) refl holds)
