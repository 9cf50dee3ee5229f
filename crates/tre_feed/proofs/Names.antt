-- Names by their lists.
use Rattle.std.proofs.Common.{◌≡◌, ℕ, List, rules}
use Rattle.tre_trace.specs.Reading.{Vocabulary}

pub vocabulary_same : (names events : List (List ℕ)) (other : Vocabulary) → names ≡ other.names
    → events ≡ other.events → record { names = names; events = events } ≡ other
vocabulary_same names events other same same_events = search rules
