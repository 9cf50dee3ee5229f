use Rattle.std.proofs.Common.{◌≡◌, ◌∙◌, ◌≤◌, ◌<◌, ◌∷◌, [], ◌++◌, ℕ, List, length, take, ap, sym, arith, refl, length-append, length-take, rules}
use Rattle.std.proofs.lemmas.List.{length-map, take-append-le, take_all}
use Rattle.tre_trace.specs.declared.fault.TraceKind.TheVariants.{Memory, Spent}
use Rattle.tre_vcd.specs.VcdReading.{section}
use Rattle.tre_vcd.proofs.Staying.{knows-kept}
use Rattle.tre_vcd.proofs.token_reader.TokenReader.keep.Goals as goal

-- Of the first tokens that are kept there are as many as may be, or one more comes.
module _ (most : ℕ) (tokens kept : List (List ℕ)) (token : List ℕ) (is : kept ≡ take most tokens)
  where
    no-more : most ≤ length kept → kept ≡ take most (tokens ++ token ∷ [])
    no-more full =
        is ∙ sym (take-append-le most tokens (token ∷ [])
        (omega (arith, ap length is, length-take most tokens, full)))

    one-more : (now : List (List ℕ)) → length kept < most → now ≡ kept ++ token ∷ []
        → now ≡ take most (tokens ++ token ∷ [])
    one-more now few more =
        let short : length tokens < most =
        omega (arith, ap length is, length-take most tokens, few) in
        more
        ∙ ap (λ front. front ++ token ∷ []) (is ∙ take_all most tokens (omega (arith, short)))
        ∙ sym (take_all most (tokens ++ token ∷ [])
        (omega (arith, short, length-append tokens (token ∷ []))))

pub returns-then-as_slice-ge-KEPT_MAX-clause-tells :
    goal.returns-then-as_slice-ge-KEPT_MAX-clause-tells
returns-then-as_slice-ge-KEPT_MAX-clause-tells c =
    search (rules, section, no-more, length-map, c.args.self.now.tokens.items, c.args.token.now)

pub returns-in-Ok-clause-tells : goal.returns-in-Ok-clause-tells
returns-in-Ok-clause-tells c =
    search (rules, section, knows-kept, one-more, length-map, c.args.self.now, c.args.token.now)

pub returns-in-Err-clause-tells : goal.returns-in-Err-clause-tells
returns-in-Err-clause-tells c = λ past command tokens holds. record {
  says = λ other. absurd (other refl);
  never_spent = λ (e : Memory ≡ Spent). cc;
}
