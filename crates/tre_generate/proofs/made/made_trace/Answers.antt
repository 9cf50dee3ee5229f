use Rattle.std.proofs.Common.{arith, [], ◌∷◌, ◌++◌, sym, ap, ◌∙◌}
use Rattle.tre_trace.specs.Trace.{Timeline, quiet}
use Rattle.tre_generate.specs.Made.{made_segment}
use Rattle.tre_generate.proofs.MadeTraces.{made_trace-none, made_trace-next, made_fits}
use Rattle.tre_generate.proofs.made.made_trace.Goals as goal

pub loop-number-init : goal.loop-number-init
loop-number-init c = c.new-trace.ensures.empty ∙ ap quiet (sym made_trace-none)

pub push_made-requires : goal.push_made-requires
push_made-requires c =
    let below = c.loop-number-test.true in
    let few = c.requires in
    rw c.loop-number.invariant (made_fits c.loop-number.number (omega (arith, below, few)))

pub loop-number-preserved : goal.loop-number-preserved
loop-number-preserved c =
    c.in_ok-push_made.ensures
    ∙ ap (λ (trace : Timeline). quiet (trace.segments ++ made_segment c.loop-number.number ∷ []))
    c.loop-number.invariant ∙ ap quiet (sym (made_trace-next c.loop-number.number))
