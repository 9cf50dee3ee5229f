use Rattle.std.proofs.Common.{◌≡◌, ◌+◌, ◌-◌, [], map, string_bytes, true}
use Rattle.tre_feed.specs.Input.{input_told}
use Rattle.tre_feed.specs.Standing.{IsAsked, Wait, WereFed, limit_of, recording_of, taken_of}
use Rattle.tre_tell.specs.Request.{request_by}
use Rattle.tre_tell.proofs.Loop.{IsTelling}
use Rattle.tre_tell.proofs.telling.tell_matches.Given as goal

-- the bytes so far were fed, the blocks of the stretches that they say were written, and none
-- waits; no fault was counted, and the source is as it was
abbrev pub invariant-loop-room : goal.invariant-loop-room
invariant-loop-room g l =
    let source = g.S.Source in
    let reader = g.R.TraceReader in
    let sink = g.O.Sink in
    record {
      telling : IsTelling (request_by l.job [] (map string_bytes l.labels) l.patterns
          (recording_of reader.recording reader.terms l.fn.input))
          (WereFed reader.terms reader.represents l.input)
          (input_told (source.told l.fn.source) (source.told l.source)) (taken_of l.input) l.watch
          (map string_bytes l.labels) (sink.told l.fn.out).written (sink.told l.out).written;
      none : Wait reader.names l.input [];
      same : IsAsked reader.names reader.terms reader.recording l.fn.input l.input;
      opened : (source.told l.source).opened ≡ true;
      sound : (source.told l.source).sound ≡ (source.told l.fn.source).sound;
      no_fault : (source.told l.source).faults ≡ (source.told l.fn.source).faults;
      good : (sink.told l.out).faults ≡ (sink.told l.fn.out).faults;
    }

abbrev pub decreases-loop-room : goal.decreases-loop-room
decreases-loop-room g l = limit_of l.input + 1 - taken_of l.input
