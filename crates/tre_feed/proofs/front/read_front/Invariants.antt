use Rattle.std.proofs.Common.{◌≡◌, ◌≤◌, ◌-◌, length, true}
use Rattle.std.specs.Io.KnownBytes.{Consumes}
use Rattle.tre_feed.specs.declared.TheConstants.{PIECE}
use Rattle.tre_feed.proofs.front.read_front.Given as goal

-- the bytes so far are the front of the input; no fault was counted, and the input is as it was
abbrev pub invariant-loop-bytes : goal.invariant-loop-bytes
invariant-loop-bytes g l =
    let source = g.S.Source in
    record {
      front : Consumes (source.told l.fn.input).file (source.told l.input).left l.bytes.items;
      few : length l.bytes.items ≤ l.most;
      room : length l.buffer.items ≡ PIECE;
      opened : (source.told l.input).opened ≡ true;
      sound : (source.told l.input).sound ≡ (source.told l.fn.input).sound;
      no_fault : (source.told l.input).faults ≡ (source.told l.fn.input).faults;
    }

abbrev pub decreases-loop-bytes : goal.decreases-loop-bytes
decreases-loop-bytes g l = l.most - length l.bytes.items
