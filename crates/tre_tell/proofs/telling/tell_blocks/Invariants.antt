use Rattle.std.proofs.Common.{◌≡◌, ◌++◌, ℕ, List, Option, map, string_bytes, take}
use Rattle.tre_feed.specs.Standing.{Asks, Wait}
use Rattle.tre_online.specs.Watch.{trees_of, Watches}
use Rattle.tre_trace.specs.Reading.{Stretch, Vocabulary}
use Rattle.tre_tell.specs.Sought.{Sought, all_names}
use Rattle.tre_tell.specs.Telling.{rows_for, HasTold}
use Rattle.tre_tell.proofs.telling.tell_blocks.Given as goal

-- the columns so far were told, and no write failed
abbrev pub invariant-loop-place : goal.invariant-loop-place
invariant-loop-place g l =
    let names = g.R.TraceReader.names in
    let sink = g.O.Sink in
    record {
      stands : (asked : List Vocabulary) (told waiting : List Stretch) → Asks names l.input asked
          → Wait names l.input waiting → Watches l.fn.watch (rows_for asked told)
          → Watches l.watch (rows_for asked (told ++ take l.place waiting));
      trees : trees_of l.watch ≡ trees_of l.fn.watch;
      told : (patterns : List Sought) (told waiting : List Stretch) (before : Option (List ℕ))
          → Asks names l.input (all_names patterns) → Wait names l.input waiting
          → HasTold l.fn.watch (map string_bytes l.labels) l.scale patterns
          (rows_for (all_names patterns) told) before (sink.told l.fn.out).written
          → HasTold l.watch (map string_bytes l.labels) l.scale patterns
          (rows_for (all_names patterns) (told ++ take l.place waiting)) before
          (sink.told l.out).written;
      no_fault : (sink.told l.out).faults ≡ (sink.told l.fn.out).faults;
    }
