-- The valuation of a row has room for one more bit.
use Rattle.std.proofs.Common.{ℕ, ◌+◌, ◌*◌, ◌^◌, ◌<◌, ◌≤◌, Bool, true, false, List, [], ◌∷◌, Option, length, drop, arith, if◌then◌else◌}
use Rattle.std.proofs.lemmas.List.{length-drop}
use Rattle.std.proofs.Math.Nat.{two-pow-succ}
use Rattle.std.proofs.Math.Pow.{pow_mono}
use Rattle.tre_num.specs.Told.{holds_in, valuation_of}
use Rattle.tre_num.specs.declared.column.Column.{Column}
use Rattle.tre_state.specs.declared.names.TheConstants.{NAMES_MAX}

bit-small : (holds : Bool) → (if holds then 1 else 0) ≤ 1
bit-small true = omega arith
bit-small false = omega arith

valuation-lt : (columns : List (Option Column)) (fields : List (List ℕ))
    → valuation_of columns fields < 2 ^ length columns
valuation-lt [] fields = omega arith
valuation-lt (column ∷ columns) fields =
    omega (
      arith,
      bit-small (holds_in fields column),
      valuation-lt columns fields,
      two-pow-succ (length columns),
    )

pub room-left : (columns : List (Option Column)) (fields : List (List ℕ)) (left : ℕ)
    → length columns ≤ NAMES_MAX → 0 < left → left ≤ length columns
    → 2 * valuation_of (drop left columns) fields + 1 < 2 ^ 64
room-left columns fields left few some within =
    let rest = drop left columns in
    let short : length rest ≤ 63 = omega (arith, length-drop left columns, few, some, within) in
    omega (arith, valuation-lt rest fields, pow_mono {i = length rest} {j = 63} short)
