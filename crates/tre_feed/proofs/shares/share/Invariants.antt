use Rattle.std.proofs.Common.{take, map}
use Rattle.tre_syntax.specs.Pattern.{names_of}
use Rattle.tre_feed.specs.Shares.{AreShared}
use Rattle.tre_feed.proofs.shares.share.Given as goal

abbrev pub invariant-loop-pattern : goal.invariant-loop-pattern
invariant-loop-pattern l = AreShared (map names_of (take l.pattern-index l.patterns)) l.shares
