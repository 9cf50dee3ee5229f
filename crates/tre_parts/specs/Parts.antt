-- What a reader of pieces stands for.
use Rattle.std.specs.Prelude.{◌≡◌, ℕ, Bool, false, List, length, None}
use Rattle.tre_parts.specs.Format.{Format, recording_of}
use Rattle.tre_parts.specs.Walk.{IsAt}
use Rattle.tre_parts.specs.declared.spot.Spot.{Spot}

-- It was fed these bytes, found no fault in them, and goes on.
pub record IsFedWith {Reader Terms State : Type 0} (terms_of : Reader → Terms)
    (format : Terms → Format State) (holds : Reader → State → Type 0)
    (reader : Reader) (part : List ℕ) (spot : Spot) (fed : ℕ) (is_spent : Bool) (bytes : List ℕ) :
    Type 0 where
  pub at : IsAt terms_of format holds (terms_of reader) reader part spot bytes
  pub counts : fed ≡ length bytes
  pub faultless : (recording_of (format (terms_of reader)) false bytes).fault ≡ None
  pub goes_on : is_spent ≡ false
