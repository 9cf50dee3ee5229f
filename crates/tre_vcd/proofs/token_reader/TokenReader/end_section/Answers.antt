use Rattle.std.proofs.Common.{◌≡◌, ◌∷◌, map, take, refl, sym, ap, ◌∙◌, subst}
use Rattle.tre_parts.specs.Walk.{TellsPart}
use Rattle.tre_vcd.specs.Sections.{Holds, asked_of_reader}
use Rattle.tre_vcd.specs.VcdReading.{upscope, timescale, definitions, nothing}
use Rattle.tre_vcd.specs.Timescale.{tick_of}
use Rattle.tre_vcd.specs.declared.command.Command.TheVariants.{Scope, Upscope, Var, Timescale, EndDefinitions}
use Rattle.tre_vcd.specs.Offers.{KnowsOffers}
use Rattle.tre_vcd.proofs.Needing.{needed-same}
use Rattle.tre_vcd.proofs.Standing.{reads-no_var, stays}
use Rattle.tre_vcd.proofs.Staying.{offers-stay, past-stays}
use Rattle.tre_vcd.proofs.Tokens.{section-ended, tick-kept}
use Rattle.tre_vcd.proofs.token_reader.TokenReader.end_section.Goals as goal

pub returns-in-Scope-clause-tells : goal.returns-in-Scope-clause-tells
returns-in-Scope-clause-tells c = λ past word tokens holds is.
    subst (λ said. TellsPart (asked_of_reader c.args.self.now) said (Holds c.end_scope.new.self)
    c.end_scope.result)
    (sym (section-ended past word tokens Scope (sym c.in-Scope.is ∙ is)))
    (c.end_scope.ensures.tells past word tokens holds)

pub returns-in-Var-clause-tells : goal.returns-in-Var-clause-tells
returns-in-Var-clause-tells c = λ past word tokens holds is.
    subst (λ said. TellsPart (asked_of_reader c.args.self.now) said (Holds c.end_declaration.new.self)
    c.end_declaration.result)
    (sym (section-ended past word tokens Var (sym c.in-Var.is ∙ is)))
    (c.end_declaration.ensures.tells past word tokens holds)

pub returns-in-Upscope-clause-tells : goal.returns-in-Upscope-clause-tells
returns-in-Upscope-clause-tells c = λ past word tokens holds is. record {
  state = record { past = upscope ∷ past; inside = nothing };
  says = section-ended past word tokens Upscope (sym c.in-Upscope.is ∙ is);
  is_held = c.close.ensures.holds (upscope ∷ past)
      (past-stays c.args.self.now past (upscope ∷ past) c.leave.new.self
      (λ test own. refl) (stays upscope past tt)
      (c.leave.ensures c.args.self.now.names c.args.self.now.events past holds.knows.past)
      holds.knows);
}

pub returns-in-Timescale-clause-tells : goal.returns-in-Timescale-clause-tells
returns-in-Timescale-clause-tells c = λ past word tokens holds is.
    let reader = c.args.self.now in
    let kept : map (λ token. token.items) c.deref.result.now ≡ take 6 tokens =
    ap (map (λ token. token.items)) c.deref.ensures.value ∙ holds.tokens in
    record {
      state = record { past = timescale tokens ∷ past; inside = nothing };
      says = section-ended past word tokens Timescale (sym c.in-Timescale.is ∙ is);
      is_held = c.close-in-Timescale.ensures.holds (timescale tokens ∷ past)
          (past-stays reader past (timescale tokens ∷ past) c.measure.new.self
          (λ test own. refl) (stays (timescale tokens) past tt)
          (c.measure.ensures reader.names reader.events past tokens holds.knows.past
          (ap tick_of kept ∙ tick-kept tokens)) holds.knows);
    }

pub returns-in-EndDefinitions-clause-tells : goal.returns-in-EndDefinitions-clause-tells
returns-in-EndDefinitions-clause-tells c = λ past word tokens holds is.
    let reader = c.args.self.now in
    record {
      state = record { past = definitions ∷ past; inside = nothing };
      says = section-ended past word tokens EndDefinitions (sym c.in-EndDefinitions.is ∙ is);
      is_held = c.close-in-EndDefinitions.ensures.holds (definitions ∷ past) (record {
        past = c.define.ensures reader.events past holds.knows.past;
        needed = needed-same past (definitions ∷ past) reader.needed (λ test name. refl)
            holds.knows.needed;
        signals = c.sift.ensures.knows reader.names reader.events past holds.suits
            holds.knows.signals;
        offers =
            subst (λ all. KnowsOffers all (definitions ∷ past) reader.needed)
            (ap (λ all. all.items) (sym c.sift.ensures.kept))
            (offers-stay reader.signals.definitions.items past (definitions ∷ past)
            reader.needed (reads-no_var definitions past tt) holds.knows.offers);
        within = holds.knows.within;
        needed_within = holds.knows.needed_within;
      });
    }
