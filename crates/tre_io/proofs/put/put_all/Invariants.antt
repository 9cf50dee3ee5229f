-- The sink has taken the bytes up to `done`, and has not failed.
use Rattle.std.proofs.Common.{length, ◌-◌, ◌≡◌, ◌≤◌, take}
use Rattle.std.specs.Io.KnownBytes.{Appends}
use Rattle.tre_io.proofs.put.put_all.Given as goal

abbrev pub invariant-loop-done : goal.invariant-loop-done
invariant-loop-done g l = record {
  within : l.done ≤ length l.bytes;
  taken : Appends (g.K.Sink.told l.initial.sink).written (g.K.Sink.told l.sink).written
      (take l.done l.bytes);
  steady : (g.K.Sink.told l.sink).faults ≡ (g.K.Sink.told l.initial.sink).faults;
}

abbrev pub decreases-loop-done : goal.decreases-loop-done
decreases-loop-done g l = length l.bytes - l.done
