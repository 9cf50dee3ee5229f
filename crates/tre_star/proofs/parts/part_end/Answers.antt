use Rattle.std.proofs.Common.{rules, length, arith}
use mir.Val.{to_z}
use Rattle.tre_star.proofs.Separate.{EndBy-first, EndBy-more, LieBefore-behind, LieBefore-none, held_as}
use Rattle.tre_star.proofs.parts.part_end.Goals as goal

pub loop-end-init : goal.loop-end-init
loop-end-init c =
    search (rules, EndBy-first, c.args.steps.now, c.key-reach.result, c.index-steps-start.result)

pub loop-end-preserved : goal.loop-end-preserved
loop-end-preserved c =
    search (rules, EndBy-more, c.greater-reach.result, c.key.result, c.index-steps-end.result)

pub returns-then-is_behind-clause-apart : goal.returns-then-is_behind-clause-apart
returns-then-is_behind-clause-apart c = search (rules, LieBefore-behind, to_z, held_as)

pub returns-clause-apart : goal.returns-clause-apart
returns-clause-apart c =
    LieBefore-none _ c.args.steps.now (length c.args.steps.now) (omega arith)

pub is_behind-requires-clause-begin : goal.is_behind-requires-clause-begin
is_behind-requires-clause-begin c =
    search (rules, c.args.steps.now, c.loop-end.end, c.args.begins.now, c.loop-end-test.true)
