use Rattle.std.proofs.Common.{◌≡◌, false, true, refl, ◌∙◌}
use Rattle.tre_syntax.specs.Expr.{tree_of}
use Rattle.tre_generate.specs.FixedPattern.{fixed_tree}
use Rattle.tre_generate.proofs.FixedTrees.{fixed_small, fixed_numbered, fixed_no_events}
use Rattle.tre_generate.proofs.pattern.fixed_pattern.Goals as goal

pub unreachable-requires : goal.unreachable-requires
unreachable-requires c =
    let tree : tree_of c.in_ok-expr.expr ≡ fixed_tree =
    c.in_ok-expr.ensures
    ∙ rw (c.in_ok-once.ensures, c.in_ok-new.ensures.ok, c.in_ok-pulse_and_pause.ensures) refl in
    let never : false ≡ true = c.in-None.ensures.some.1 (
      rw tree fixed_small,
      rw (tree, c.in_ok-names.ensures) fixed_numbered,
      rw (tree, c.new-events.ensures) fixed_no_events,
    ) in
    cc
