use Rattle.std.proofs.Common.{◌≡◌, take}
use Rattle.tre_num.specs.Told.{others_of}
use Rattle.tre_num.proofs.layout.others_of.Given as goal

-- the others among the columns before this one
abbrev pub invariant-loop-column : goal.invariant-loop-column
invariant-loop-column l = l.others.items ≡ others_of l.own (take l.column-index l.all)
