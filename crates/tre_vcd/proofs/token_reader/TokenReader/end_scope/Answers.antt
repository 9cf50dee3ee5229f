use Rattle.std.proofs.Common.{◌≡◌, ◌∷◌, length, map, take, refl, sym, ap, ◌∙◌, arith}
use Rattle.tre_trace.specs.declared.fault.TraceKind.TheVariants.{Memory, Spent}
use Rattle.std.proofs.lemmas.List.{length-map}
use Rattle.tre_vcd.specs.VcdReading.{scope, nothing}
use Rattle.tre_vcd.proofs.Tokens.{scope-long, kept-at}
use Rattle.tre_vcd.proofs.Standing.{stays}
use Rattle.tre_vcd.proofs.Staying.{past-stays}
use Rattle.tre_vcd.proofs.token_reader.TokenReader.end_scope.Goals as goal

pub returns-in-Ok-clause-tells : goal.returns-in-Ok-clause-tells
returns-in-Ok-clause-tells c = λ past word tokens holds.
    let reader = c.args.self.now in
    let all = c.as_slice.result.now in
    let kept : map (λ token. token.items) all ≡ take 6 tokens =
    ap (map (λ token. token.items)) c.as_slice.ensures.value ∙ holds.tokens in
    let again : map (λ token. token.items) c.as_slice-2.result.now ≡ take 6 tokens =
    ap (map (λ token. token.items)) c.as_slice-2.ensures.value ∙ holds.tokens in
    let count : length all ≡ length (take 6 tokens) =
    sym (length-map all (λ token. token.items)) ∙ ap length kept in
    let count_again : length c.as_slice-2.result.now ≡ length (take 6 tokens) =
    sym (length-map c.as_slice-2.result.now (λ token. token.items)) ∙ ap length again in
    let name = c.deref.result.now in
    record {
      state = record { past = scope name ∷ past; inside = nothing };
      says =
          scope-long past tokens name (omega (arith, count, c.if-as_slice-lt2.false))
          (kept-at (λ token. token.items) c.as_slice-2.result.now (take 6 tokens) 1
          c.index-as_slice-1.result c.index-as_slice-1.result name again
          (omega (arith, count, count_again, c.if-as_slice-lt2.false)) c.index-as_slice-1.is
          c.deref.ensures.value);
      is_held = c.close.ensures.holds (scope name ∷ past)
          (past-stays reader past (scope name ∷ past) c.enter.new.self
          (λ test own. refl) (stays (scope name) past tt)
          (c.in-Ok.ensures reader.names reader.events past holds.knows.past) holds.knows);
    }

pub returns-in-Err-clause-tells : goal.returns-in-Err-clause-tells
returns-in-Err-clause-tells c = λ past word tokens holds. record {
  says = λ other. absurd (other refl);
  never_spent = λ (e : Memory ≡ Spent). cc;
}
