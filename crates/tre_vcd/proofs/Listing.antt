-- What a dump says hangs on whether all names that are needed are declared, however these are listed.
use Rattle.std.proofs.Common.{◌≡◌, ℕ, List, [], ◌∷◌, Option, refl, rules}
use Rattle.std.proofs.Math.Path.{fun_ext}
use Rattle.std.specs.List.{list_all}
use Rattle.tre_define.specs.Signals.{SignalDefined}
use Rattle.tre_parts.specs.Format.{recording_of}
use Rattle.tre_trace.specs.Reading.{Vocabulary}
use Rattle.tre_unit.specs.declared.unit.TimeUnit.{TimeUnit}
use Rattle.tre_vcd.specs.VcdReading.{Terms, Statement, Open, Place, nothing, section, comment, vector, number, are_declared, token_at, token_says, vcd_format, vcd_recording}

module _ (one other : List Vocabulary) (scale : ℕ) (unit : Option TimeUnit)
    (defined : List SignalDefined)
    (same : (past : List Statement) → list_all (are_declared defined past) one
    ≡ list_all (are_declared defined past) other) where
  abbrev pub terms : List Vocabulary → Terms
  terms declared =
      record { declared = declared; scale = scale; unit = unit; definitions = defined }

  token-alike : (past : List Statement) (inside : Open) (token : List ℕ)
      → token_at (terms one) past inside token ≡ token_at (terms other) past inside token
  token-alike past nothing token = search rules
  token-alike past (section command tokens) token = refl
  token-alike past comment token = refl
  token-alike past (vector letters) token = refl
  token-alike past number token = refl

  says-alike : (place : Place) (token : List ℕ)
      → token_says (terms one) place token ≡ token_says (terms other) place token
  unfolding token_says
  says-alike place [] = refl
  says-alike place (byte ∷ bytes) = token-alike place.past place.inside (byte ∷ bytes)

  pub listed-alike : vcd_recording (terms one) ≡ vcd_recording (terms other)
  listed-alike = search (rules, fun_ext, recording_of, vcd_format, says-alike)
