-- Lists of names, each with its place as its number.
use Rattle.std.specs.Prelude.{◌≢◌, ℕ, ◌≤◌, List, Option, length, All, AllPairs, position}
use Rattle.std.specs.Str.{bytes_eq}
use Rattle.tre_state.specs.Name.{IsName}
use Rattle.tre_state.specs.declared.names.TheConstants.{NAMES_MAX}

abbrev pub place_of : List (List ℕ) → List ℕ → Option ℕ
place_of names bytes = position (bytes_eq bytes) names

-- A list of names as a pattern has: not too many, each a name, and no two the same.
pub record IsNameList (names : List (List ℕ)) : Type 0 where
  pub few : length names ≤ NAMES_MAX
  pub each : All IsName names
  pub distinct : AllPairs (λ name other. name ≢ other) names
