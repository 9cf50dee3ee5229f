-- A file in memory as a source.
use Rattle.std.specs.Prelude.{◌≡◌, ℕ, List, Bool, true, false, length, drop, ◌==◌}
use Rattle.tre_io.specs.Calls.{CallCounts, new_calls, is_next_failing, after_call, after_fault}

-- Its name and all its bytes, those not yet read, those that the last read found left, whether it
-- is open, and how much a read gives at most.
pub record MemoryInput : Type 0 where
  pub name : List ℕ
  pub bytes : List ℕ
  pub left : List ℕ
  pub found : List ℕ
  pub opened : Bool
  pub most : ℕ
  pub calls : CallCounts

-- not opened, with no call made
abbrev pub new_input : List ℕ → List ℕ → ℕ → List ℕ → MemoryInput
new_input name bytes most fails = record {
  name = name;
  bytes = bytes;
  left = bytes;
  found = bytes;
  opened = false;
  most = most;
  calls = new_calls fails;
}

-- no call is to fail
abbrev pub is_sound : MemoryInput → Bool
is_sound input = length input.calls.fails == 0

-- the next call is not to fail, and this is the file's name
abbrev pub CanOpen : MemoryInput → List ℕ → Type 0
CanOpen input name = (is_next_failing input.calls ≡ false) × (name ≡ input.name)

-- opened, with all bytes left
abbrev pub after_open : MemoryInput → MemoryInput
after_open input = record input {
  left = input.bytes;
  found = input.bytes;
  opened = true;
  calls = after_call input.calls;
}

-- this many bytes were read
abbrev pub after_read : MemoryInput → ℕ → MemoryInput
after_read input count = record input {
  left = drop count input.left;
  found = input.left;
  calls = after_call input.calls;
}

-- a call to open failed
abbrev pub after_failed_open : MemoryInput → MemoryInput
after_failed_open input = record input { calls = after_fault input.calls }

-- a call to read failed
abbrev pub after_failed_read : MemoryInput → MemoryInput
after_failed_read input =
    record input { found = input.left; calls = after_fault input.calls }
