use Rattle.tre_strips.proofs.Joining.{IsJoining}
use Rattle.tre_strips.proofs.profiles.joined.Given as goal

abbrev pub invariant-loop-bar : goal.invariant-loop-bar
invariant-loop-bar l =
    IsJoining l.initial.times l.times l.first l.rest l.bar-index l.joined.items l.last
