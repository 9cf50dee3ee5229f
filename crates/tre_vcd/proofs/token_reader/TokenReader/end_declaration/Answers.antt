use Rattle.std.proofs.Common.{refl, ◌≡◌, ◌∷◌, length, map, take, sym, ap, ◌∙◌, arith}
use Rattle.tre_trace.specs.declared.fault.TraceKind.TheVariants.{Memory, Spent}
use Rattle.std.proofs.lemmas.List.{length-map}
use Rattle.tre_vcd.specs.VcdReading.{var, nothing}
use Rattle.tre_vcd.proofs.Tokens.{declaration-long}
use Rattle.tre_vcd.proofs.token_reader.TokenReader.end_declaration.Goals as goal

pub returns-in-Ok-clause-tells : goal.returns-in-Ok-clause-tells
returns-in-Ok-clause-tells c = λ past word tokens holds.
    let all = c.as_slice.result.now in
    let kept : map (λ token. token.items) all ≡ take 6 tokens =
    ap (map (λ token. token.items)) c.as_slice.ensures.value ∙ holds.tokens in
    let count : length all ≡ length (take 6 tokens) =
    sym (length-map all (λ token. token.items)) ∙ ap length kept in
    record {
      state = record { past = var tokens ∷ past; inside = nothing };
      says = declaration-long past tokens (omega (arith, count, c.if-as_slice-lt4.false));
      is_held = c.close.ensures.holds (var tokens ∷ past)
          (c.in-Ok.ensures.knows past word tokens holds);
    }

pub returns-in-Err-clause-tells : goal.returns-in-Err-clause-tells
returns-in-Err-clause-tells c = λ past word tokens holds. record {
  says = λ other. absurd (other refl);
  never_spent = λ (e : Memory ≡ Spent). cc;
}
