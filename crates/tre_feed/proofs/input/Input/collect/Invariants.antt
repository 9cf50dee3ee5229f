use Rattle.std.proofs.Common.{◌≡◌, ◌+◌, ◌-◌, [], true}
use Rattle.tre_feed.specs.Input.{input_told}
use Rattle.tre_feed.specs.Packing.{ArePacked}
use Rattle.tre_feed.specs.Standing.{IsAsked, Wait, WereFed, recording_of}
use Rattle.tre_feed.proofs.Collected.{IsCollected}
use Rattle.tre_feed.proofs.input.Input.collect.Given as goal

-- the bytes so far were fed as far as the limit, what they say is packed, and nothing waits; no
-- fault was counted, and the input is asked what it was
abbrev pub invariant-loop-more : goal.invariant-loop-more
invariant-loop-more g l =
    let source = g.S.Source in
    let reader = g.R.TraceReader in
    record {
      collected : IsCollected (WereFed reader.terms reader.represents l.self)
          (ArePacked reader.names l.self l.traces)
          (recording_of reader.recording reader.terms l.self)
          l.self.limit (input_told (source.told l.fn.source) (source.told l.source)) l.self.taken;
      none : Wait reader.names l.self [];
      same : IsAsked reader.names reader.terms reader.recording l.fn.self l.self;
      opened : (source.told l.source).opened ≡ true;
      sound : (source.told l.source).sound ≡ (source.told l.fn.source).sound;
      no_fault : (source.told l.source).faults ≡ (source.told l.fn.source).faults;
    }

abbrev pub decreases-loop-more : goal.decreases-loop-more
decreases-loop-more g l = l.self.limit + 1 - l.self.taken
