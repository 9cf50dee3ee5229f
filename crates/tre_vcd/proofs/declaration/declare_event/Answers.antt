use Rattle.std.proofs.Common.{sym, ◌∙◌, subst}
use Rattle.std.proofs.lemmas.Result.{on_ok_weaker}
use Rattle.tre_vcd.specs.VcdReading.{scopes_at, is_event}
use Rattle.tre_vcd.specs.Kept.{Declares}
use Rattle.tre_vcd.proofs.declaration.declare_event.Goals as goal

pub returns-clause-knows : goal.returns-clause-knows
returns-clause-knows c = λ names before tokens knows undefined all declares none.
    let identifier = c.args.identifier.now in
    let named = c.as_slice-name.ensures.value
    ∙ c.in_ok-own_path.ensures (scopes_at before) knows.scopes in
    let own = subst (Declares is_event (scopes_at before) tokens identifier) (sym named) declares in
    let found = c.declare_event.ensures.knows before identifier tokens all own none in
    on_ok_weaker c.declare_event-2.result (λ kept. (kept, found))
    (c.declare_event-2.ensures names before tokens knows undefined own none)
