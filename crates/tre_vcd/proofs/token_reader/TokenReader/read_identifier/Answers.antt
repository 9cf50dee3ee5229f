use Rattle.std.proofs.Common.{◌≡◌, ◌∷◌, refl, sym, subst, ◌∙◌}
use Rattle.tre_vcd.specs.VcdReading.{wide, change, nothing}
use Rattle.tre_vcd.specs.Defined.{KnowsSignals}
use Rattle.tre_vcd.specs.declared.inside.Inside.TheVariants.{Nothing}
use Rattle.tre_vcd.proofs.Staying.{knows-kept}
use Rattle.tre_vcd.proofs.Changing.{past-changed}
use Rattle.tre_vcd.proofs.Undefined.{signals-undefined}
use Rattle.tre_vcd.proofs.token_reader.TokenReader.read_identifier.Goals as goal

pub returns-then-is_empty-clause-tells : goal.returns-then-is_empty-clause-tells
returns-then-is_empty-clause-tells c = λ past letters holds value_is.
    let reader = c.args.self.now in
    let identifier = c.args.identifier.now in
    record {
      state = record { past = change wide identifier letters ∷ past; inside = nothing };
      says = refl;
      is_held = record {
        knows = knows-kept _ Nothing reader.tokens reader.letters _ (past-changed reader past wide identifier letters c.change.new.self reader.signals
            (c.change.ensures.knows reader.names reader.events past holds.knows.past holds.suits letters
            value_is)
            (signals-undefined reader.names reader.events reader.signals past _
            (sym c.is_empty.ensures ∙ c.if-is_empty.true) holds.knows.signals) refl holds.knows);
        inside = refl;
        tokens = holds.tokens;
        suits = tt;
        letters = tt;
      };
    }

pub returns-in-Ok-clause-tells : goal.returns-in-Ok-clause-tells
returns-in-Ok-clause-tells c = λ past letters holds value_is.
    let reader = c.args.self.now in
    let identifier = c.args.identifier.now in
    let said : c.deref.result.now ≡ letters =
    c.deref.ensures.value ∙ holds.letters (sym c.is_empty.ensures ∙ c.if-is_empty.false) in
    record {
      state = record { past = change wide identifier letters ∷ past; inside = nothing };
      says = refl;
      is_held = record {
        knows = knows-kept _ Nothing reader.tokens reader.letters _ (past-changed reader past wide identifier letters c.change.new.self
            c.change-2.new.self
            (c.change.ensures.knows reader.names reader.events past holds.knows.past holds.suits letters
            value_is)
            (subst (λ own. KnowsSignals reader.names reader.events c.change-2.new.self
            (change wide identifier own ∷ past)) said
            (c.in-Ok.ensures.knows reader.names reader.events past wide holds.suits
            holds.knows.signals)) c.in-Ok.ensures.kept holds.knows);
        inside = refl;
        tokens = holds.tokens;
        suits = tt;
        letters = tt;
      };
    }
