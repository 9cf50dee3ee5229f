-- What is kept for some names is what holds of each.
use Rattle.std.proofs.Common.{◌≡◌, ℕ, Bool, List, [], ◌∷◌, Option, refl, arith, rules}
use Rattle.tre_trace.specs.Reading.{bits_of}
use Rattle.tre_trace.specs.Segments.{segment_with}
use Rattle.tre_vcd.specs.Kept.{is_of, mask_from}
use Rattle.tre_vcd.proofs.MaskBits.{split-bits}

pub mask-bits : (identified : List ℕ → Option (List ℕ)) (test : List ℕ → Bool)
    (names : List (List ℕ)) → mask_from identified test 0 names
    ≡ bits_of (is_of identified test) names
mask-bits identified test [] = refl
mask-bits identified test (name ∷ names) =
    omega (
      arith,
      split-bits identified test name names,
      mask-bits identified test names,
    )

pub segment-with : (one_len other_len one_val other_val one_ev other_ev : ℕ)
    → one_len ≡ other_len → one_val ≡ other_val → one_ev ≡ other_ev
    → segment_with one_len one_val one_ev ≡ segment_with other_len other_val other_ev
segment-with one_len other_len one_val other_val one_ev other_ev len val ev = search rules
