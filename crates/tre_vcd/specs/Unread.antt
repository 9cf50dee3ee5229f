-- Definitions that read nothing of a signal.
use Rattle.std.specs.Prelude.{◌≡◌, ℕ, List, None, All}
use Rattle.tre_define.specs.Signals.{SignalDefined, part_of_text}

-- Its texts name no part of a signal of this full name.
pub record IsUnread (full_name : List ℕ) (one : SignalDefined) : Type 0 where
  pub signal : (size : ℕ) → part_of_text one.signal full_name size ≡ None
  pub other : (size : ℕ) → part_of_text one.other full_name size ≡ None

abbrev pub AreUnread : List SignalDefined → List ℕ → Type 0
AreUnread all full_name = All (IsUnread full_name) all
