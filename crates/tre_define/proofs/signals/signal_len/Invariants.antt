use Rattle.std.proofs.Common.{◌≡◌, ◌+◌, drop}
use Rattle.tre_define.specs.Signals.{signal_len}
use Rattle.tre_define.proofs.signals.signal_len.Given as goal

-- the bytes before this place go on with the signal's text
abbrev pub invariant-loop-place : goal.invariant-loop-place
invariant-loop-place l = signal_len l.bytes ≡ l.place + signal_len (drop l.place l.bytes)
