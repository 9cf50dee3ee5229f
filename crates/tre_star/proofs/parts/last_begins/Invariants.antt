use Rattle.tre_star.proofs.Separate.{HaveBegins}
use Rattle.tre_star.proofs.parts.last_begins.Given as goal

abbrev pub invariant-loop-count : goal.invariant-loop-count
invariant-loop-count l = HaveBegins l.steps l.begins.items l.count l.earliest
