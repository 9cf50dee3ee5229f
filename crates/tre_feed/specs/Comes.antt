-- What the bytes of an input come to.
use Rattle.std.specs.Prelude.{◌≡◌, ℕ, ◌≤◌, nat_le, Bool, true, false, List, length, take, Option, None, Some, IfSome}
use Rattle.std.specs.Io.KnownBytes.{Consumes}
use Rattle.tre_trace.specs.Reading.{Recording, Stretch}
use Rattle.tre_trace.specs.declared.fault.TraceFault.{TraceFault}
use Rattle.tre_feed.specs.Input.{InputTold, WereRead}

-- They are a trace, they have a first fault, or they have no fault and are too many.
pub data Outcome : Type 0 where
  completes : Outcome
  refuses : TraceFault → Outcome
  exceeds : Outcome

-- a fault comes first, and then the limit
abbrev pub outcome_from : Bool → Option TraceFault → Outcome
outcome_from closed (Some fault) = refuses fault
outcome_from true None = completes
outcome_from false None = exceeds

-- What bytes say that may be `limit`: those past it aren't judged, and keep the input from closing.
abbrev pub recording_within : (Bool → List ℕ → Recording) → ℕ → List ℕ → Recording
recording_within recording limit bytes =
    recording (nat_le (length bytes) limit) (take limit bytes)

unfoldable pub outcome_of : (Bool → List ℕ → Recording) → ℕ → List ℕ → Outcome
outcome_of recording limit bytes =
    outcome_from (nat_le (length bytes) limit) (recording_within recording limit bytes).fault

-- What was read comes to this, and so do all bytes, with these stretches within the limit.
pub record InputComesTo (recording : Bool → List ℕ → Recording) (limit : ℕ) (input : InputTold)
    (outcome : Outcome) (stretches : List Stretch) : Type 0 where
  pub bytes : List ℕ
  pub front : Consumes input.before.file input.now.left bytes
  pub comes : outcome_of recording limit bytes ≡ outcome
  pub here : (recording_within recording limit bytes).stretches ≡ stretches
  pub whole : IfSome input.before.file (λ all. outcome_of recording limit all ≡ outcome)
  pub same : IfSome input.before.file (λ all.
      (recording_within recording limit all).stretches ≡ stretches)

-- The bytes that were read are within the limit and have no fault, so the input may go on.
pub record MayGoOn (recording : Bool → List ℕ → Recording) (limit : ℕ) (input : InputTold)
    : Type 0 where
  pub bytes : List ℕ
  pub read : WereRead input bytes
  pub within : length bytes ≤ limit
  pub faultless : (recording false bytes).fault ≡ None
