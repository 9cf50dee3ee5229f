use Rattle.tre_feed.specs.Growth.{Keep}
use Rattle.tre_feed.proofs.shares.view_among.Given as goal

-- each group is still there
abbrev pub invariant-loop-number : goal.invariant-loop-number
invariant-loop-number l = Keep l.fn.groups l.groups
