-- When blocks begin, with one more block or one more segment.
use Rattle.std.proofs.Common.{ℕ, ◌*◌, ◌<◌, List, [], ◌∷◌, ◌++◌, length, rules}
use Rattle.std.proofs.lemmas.List.{length-append, take-append-le}
use Rattle.tre_trace.specs.declared.segment.Segment.{Segment}
use Rattle.tre_trace.specs.Starts.{AreStarts}
use Rattle.tre_trace.specs.Trace.{end_of}

-- the same starts, where there is room for one more segment
pub AreStarts-push : (segments : List Segment) (segment : Segment) (starts : List ℕ)
    → AreStarts segments starts → length segments < length starts * 64
    → AreStarts (segments ++ segment ∷ []) starts
AreStarts-push segments segment starts are room =
    search (rules, length-append, end_of, take-append-le, are.begun, are.times)
