use Rattle.std.proofs.Common.{List, ℕ, [], ◌∷◌, subst, ◌∙◌}
use Rattle.tre_watch.specs.Steps.{AddsPatterns}
use Rattle.tre_watch.proofs.Lines.{adds_both}
use Rattle.tre_watch.proofs.add.add_patterns.Goals as goal

pub returns-in-Ok-shifted : goal.returns-in-Ok-shifted
returns-in-Ok-shifted c =
    rw c.in-Some.is
    (subst (λ (second : List ℕ).
    AddsPatterns c.args.scale (c.args.check.first.now ∷ second ∷ []) c.args.number
    c.args.patterns.now.items c.add_pattern-in-Ok-shifted.new.patterns.items
    c.add_pattern-in-Ok-shifted.result)
    (c.as_str.ensures.value ∙ c.in-Ok-shifted.ensures)
    (adds_both c.args.scale c.args.number c.args.check.first.now c.as_str.result.now
    c.args.patterns.now.items c.add_pattern.new.patterns.items
    c.add_pattern-in-Ok-shifted.new.patterns.items c.in-Ok.ensures.0 c.in-Ok.ensures.1
    c.in-Ok.ensures.2 c.add_pattern-in-Ok-shifted.result
    c.add_pattern-in-Ok-shifted.ensures))
