use Rattle.std.proofs.Common.{◌≡◌, ◌==◌, drop, length}
use Rattle.std.specs.List.{list_all}
use Rattle.tre_num.specs.Needs.{declared_of}
use Rattle.tre_num.proofs.needed.Needed.has_events.Given as goal

-- nobody asks for an event exactly where nobody from here on does
abbrev pub invariant-loop-asked : goal.invariant-loop-asked
invariant-loop-asked l = list_all (λ asked. length asked.events == 0) (declared_of l.self)
    ≡ list_all (λ asked. length asked.events == 0) (drop l.asked-index (declared_of l.self))
