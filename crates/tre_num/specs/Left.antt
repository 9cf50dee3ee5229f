-- What a reader of records has left, between two of them.
use Rattle.std.specs.Prelude.{◌≡◌, ℕ, ◌<◌, Bool, true, false, List, [], ◌∷◌, Option, Some, length}
use Rattle.csv.specs.Machine.{ends_at_end}
use Rattle.csv.specs.Reading.{Ready, default_config, reader_config, reader_state, reader_trim, records_from, source_of}
use Rattle.csv.specs.declared.reader.Reader.{Reader}
use Rattle.csv.specs.declared.reader.Trim.TheVariants as trim

-- These records are left: those of the bytes that it hasn't read. `known` tells the bytes that a
-- source will give, where they are known.
pub record IsLeft {R : Type 0} (known : R → Option (List ℕ)) (rows : Reader R)
    (left : List (List (List ℕ))) : Type 0 where
  pub trim : reader_trim rows ≡ trim.None
  pub ready : Ready rows
  pub config : reader_config rows ≡ default_config
  pub bytes : List ℕ
  pub source : source_of known rows ≡ Some bytes
  pub between : ends_at_end (reader_state rows) ≡ false
  pub most : ℕ
  pub room : length bytes < most
  pub is : left ≡ records_from default_config most (reader_state rows) bytes

-- Of the records that were left, the first was read.
pub record TakesRecord {R : Type 0} (known : R → Option (List ℕ)) (fields : List (List ℕ))
    (rows : Reader R) (left : List (List (List ℕ))) : Type 0 where
  pub others : List (List (List ℕ))
  pub first : left ≡ fields ∷ others
  pub rest : IsLeft known rows others

-- A record was read, or none was left.
abbrev pub IsNextRecord : {R : Type 0} → (R → Option (List ℕ)) → Bool → List (List ℕ) → Reader R
    → List (List (List ℕ)) → Type 0
IsNextRecord known true fields rows left = TakesRecord known fields rows left
IsNextRecord known false fields rows left = left ≡ []
