use Rattle.tre_show.proofs.line.+write_last.Given as goal

abbrev pub decreases-write_last : goal.decreases-write_last
decreases-write_last l = l.count
