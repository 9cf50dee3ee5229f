-- Memory as a sink.
use Rattle.std.specs.Prelude.{ℕ, List, [], ◌++◌}
use Rattle.tre_io.specs.Calls.{CallCounts, new_calls, after_call, after_fault}

-- All bytes that it took, and how many a write takes at most.
pub record MemoryOutput : Type 0 where
  pub written : List ℕ
  pub most : ℕ
  pub calls : CallCounts

-- with nothing written, and no call made
abbrev pub new_output : ℕ → List ℕ → MemoryOutput
new_output most fails = record { written = []; most = most; calls = new_calls fails }

-- these bytes were taken
abbrev pub after_write : MemoryOutput → List ℕ → MemoryOutput
after_write output bytes =
    record output { written = output.written ++ bytes; calls = after_call output.calls }

-- a call failed
abbrev pub after_failed_output : MemoryOutput → MemoryOutput
after_failed_output output = record output { calls = after_fault output.calls }
