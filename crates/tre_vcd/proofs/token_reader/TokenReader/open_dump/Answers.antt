use Rattle.std.proofs.Common.{◌≡◌, ◌∷◌, Bool, false, Err, refl, sym, ap, ◌∙◌, if◌then◌else◌}
use Rattle.tre_trace.specs.declared.fault.TraceKind.TheVariants.{BadToken}
use Rattle.tre_vcd.specs.VcdReading.{dump, nothing, in_dump, goes_to}
use Rattle.tre_vcd.proofs.Standing.{stays}
use Rattle.tre_vcd.proofs.Staying.{past-stays}
use Rattle.tre_vcd.proofs.token_reader.TokenReader.open_dump.Goals as goal

pub returns-clause-tells : goal.returns-clause-tells
returns-clause-tells c = λ past holds defined.
    let outside : in_dump past ≡ false = sym holds.knows.past.dump ∙ c.if-self.false in
    record {
      state = record { past = dump ∷ past; inside = nothing };
      says = ap (λ (b : Bool). if b then Err BadToken else goes_to (dump ∷ past) nothing) outside;
      is_held = record {
        knows = past-stays c.args.self.now past (dump ∷ past) c.open_dump.new.self
            (λ test own. refl) (stays dump past tt)
            (c.open_dump.ensures c.args.self.now.names c.args.self.now.events past holds.knows.past)
            holds.knows;
        inside = holds.inside;
        tokens = holds.tokens;
        suits = tt;
        letters = tt;
      };
    }
