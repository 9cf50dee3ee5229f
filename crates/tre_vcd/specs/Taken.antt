-- What was read of a token that was looked at among others.
use Rattle.std.specs.Prelude.{◌≡◌, ℕ, Bool, true, false, List, ◌∷◌, Result}
use Rattle.tre_parts.specs.Format.{Step}
use Rattle.tre_parts.specs.Walk.{AddsPart}
use Rattle.tre_trace.specs.Reading.{Vocabulary}
use Rattle.tre_trace.specs.declared.fault.TraceKind.{TraceKind}
use Rattle.tre_trace.specs.declared.segment.Segment.{Segment}
use Rattle.tre_vcd.specs.VcdReading.{Statement, nothing, vector, Place, goes_to}
use Rattle.tre_vcd.specs.declared.skim.Taken.{Taken}
use Rattle.tre_vcd.specs.declared.skim.Taken.TheVariants.{Whole, Vector, Not}
use Rattle.tre_vcd.specs.declared.token_reader.TokenReader.{TokenReader}

-- The token was read. Or nothing was done, and where it is a vector, its letters are these.
abbrev pub IsTaken : Vocabulary → Result (Step Place) TraceKind → (Place → Type 0)
    → List Statement → List ℕ → List Segment → List Segment → Taken → Type 0
IsTaken asked said holds past letters old new Whole = AddsPart asked said holds old new
IsTaken asked said holds past letters old new Vector =
    (said ≡ goes_to past (vector letters)) × holds (record { past = past; inside = nothing })
    × (new ≡ old)
IsTaken asked said holds past letters old new Not =
    holds (record { past = past; inside = nothing }) × (new ≡ old)

-- A reader that was among the values with nothing open is so still.
abbrev pub StaysAmong : TokenReader → TokenReader → Type 0
StaysAmong old new =
    (new.past.is_defined ≡ old.past.is_defined) × (new.inside ≡ old.inside)

-- the past, with the statement where it was read
abbrev pub behind_if : Bool → Statement → List Statement → List Statement
behind_if true statement past = statement ∷ past
behind_if false statement past = past
