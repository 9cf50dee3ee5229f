use Rattle.std.proofs.Common.{◌≡◌, ◌∙◌, false, true, sym}
use Rattle.std.proofs.lemmas.Result.{IfOk-weaker}
use Rattle.tre_derive.proofs.Held.{composition_of}
use Rattle.tre_derive.proofs.ending.led_to.Goals as goal

pub returns : goal.returns
returns c =
    IfOk-weaker c.composed.result _ _
    (λ led composed. record {
      all = λ w. let wrong : false ≡ true = sym c.if-whole.false ∙ w in absurd cc;
      some = λ none. composition_of led c.in_ok-outer.outer c.args.outer.now c.args.inner
          c.in_ok-outer.ensures composed;
    })
    c.composed.ensures
