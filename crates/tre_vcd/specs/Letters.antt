-- What a token among the values is, by its first byte.
use Rattle.std.specs.Prelude.{ℕ, ◌||◌, ◌==◌, codes, if◌then◌else◌}
use Rattle.std.specs.List.{list_any}
use Rattle.tre_vcd.specs.VcdReading.{is_scalar}
use Rattle.tre_vcd.specs.declared.token.Letter.{Letter}
use Rattle.tre_vcd.specs.declared.token.Letter.TheVariants.{Time, Keyword, Vector, Number, Scalar, Other}

abbrev pub letter_of : ℕ → Letter
letter_of byte =
    if byte == 35 then Time
    else (if byte == 36 then Keyword
    else (if byte == 98 || byte == 66 then Vector
    else (if list_any (λ letter. byte == letter) (codes "rRsS") then Number
    else (if is_scalar byte then Scalar else Other))))
