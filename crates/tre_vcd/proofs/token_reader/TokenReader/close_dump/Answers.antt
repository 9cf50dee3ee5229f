use Rattle.std.proofs.Common.{◌≡◌, ◌∷◌, Bool, true, Err, refl, sym, ap, ◌∙◌, if◌then◌else◌}
use Rattle.tre_trace.specs.declared.fault.TraceKind.TheVariants.{BadToken}
use Rattle.tre_vcd.specs.VcdReading.{dump_end, nothing, in_dump, goes_to}
use Rattle.tre_vcd.proofs.Standing.{stays}
use Rattle.tre_vcd.proofs.Staying.{past-stays}
use Rattle.tre_vcd.proofs.token_reader.TokenReader.close_dump.Goals as goal

pub returns-clause-tells : goal.returns-clause-tells
returns-clause-tells c = λ past holds defined.
    let inside : in_dump past ≡ true = sym holds.knows.past.dump ∙ c.if-not-self.false in
    record {
      state = record { past = dump_end ∷ past; inside = nothing };
      says =
          ap (λ (b : Bool). if b then goes_to (dump_end ∷ past) nothing else Err BadToken) inside;
      is_held = record {
        knows = past-stays c.args.self.now past (dump_end ∷ past) c.close_dump.new.self
            (λ test own. refl) (stays dump_end past tt)
            (c.close_dump.ensures c.args.self.now.names c.args.self.now.events past holds.knows.past)
            holds.knows;
        inside = holds.inside;
        tokens = holds.tokens;
        suits = tt;
        letters = tt;
      };
    }
