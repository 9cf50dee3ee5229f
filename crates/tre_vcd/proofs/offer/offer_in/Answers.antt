use Rattle.std.proofs.Common.{◌∙◌, arith}
use Rattle.std.proofs.lemmas.Result.{IfOk-weaker}
use Rattle.tre_vcd.proofs.Declarations.{offered-five, offered-four}
use Rattle.tre_vcd.proofs.offer.offer_in.Goals as goal

pub returns-in-len4 : goal.returns-in-len4
returns-in-len4 c = λ scopes are.
    IfOk-weaker c.offer_of.result _ _ (λ offered is.
    is ∙ offered-four scopes c.args.tokens.now c.kind-item.result c.size-item.result
    c.identifier-item.result c.reference-item.result _ _ _ _
    (omega (arith, c.in-len4.len_at_least)) (omega (arith, c.in-len4.len_below))
    c.kind-item.is c.size-item.is c.identifier-item.is c.reference-item.is
    c.deref.ensures.value c.deref-in-len4.ensures.value c.deref-in-len4-2.ensures.value
    c.deref-in-len4-3.ensures.value) (c.offer_of.ensures scopes are)

pub returns-in-len5 : goal.returns-in-len5
returns-in-len5 c = λ scopes are.
    IfOk-weaker c.offer_of_range.result _ _ (λ offered is.
    is ∙ offered-five scopes c.args.tokens.now c.kind-item-then-tokens-lt6.result
    c.size-item-then-tokens-lt6.result c.identifier-item-then-tokens-lt6.result
    c.reference-item-then-tokens-lt6.result c.range-item.result _ _ _ _ _
    (omega (arith, c.in-len5.len_at_least)) (omega (arith, c.in-len5.len_below))
    c.kind-item-then-tokens-lt6.is c.size-item-then-tokens-lt6.is
    c.identifier-item-then-tokens-lt6.is c.reference-item-then-tokens-lt6.is c.range-item.is
    c.deref-in-len5.ensures.value c.deref-in-len5-2.ensures.value
    c.deref-in-len5-3.ensures.value c.deref-in-len5-4.ensures.value
    c.deref-in-len5-5.ensures.value) (c.offer_of_range.ensures scopes are)
