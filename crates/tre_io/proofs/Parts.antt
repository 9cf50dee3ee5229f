-- Parts of a text that are read or written one after the other.
use Rattle.std.proofs.Common.{◌≡◌, ℕ, ◌+◌, ◌-◌, List, Option, length, take, drop, ap, ◌∙◌, arith}
use Rattle.std.proofs.lemmas.List.{length-drop, take_all}
use Rattle.std.specs.Io.KnownBytes.{Appends}
use Rattle.std.proofs.KnownBytes.{Appends-trans}
use Rattle.std.proofs.Math.Seq.{take-add}

-- the first bytes, and then the first of those that follow
pub Appends-more : (a b c : Option (List ℕ)) (bytes rest : List ℕ) (done count : ℕ)
    → rest ≡ drop done bytes
    → Appends a b (take done bytes) → Appends b c (take count rest)
    → Appends a c (take (done + count) bytes)
Appends-more a b c bytes rest done count e first second =
    rw (take-add done count bytes) (Appends-trans a b c _ _ first (rw e at second))

-- All bytes from a place on, as they are sliced.
pub rest_is : (place : ℕ) (bytes now : List ℕ) → now ≡ bytes
    → take (length now - place) (drop place now) ≡ drop place bytes
rest_is place bytes now same =
    take_all (length now - place) (drop place now) (omega (arith, length-drop place now))
    ∙ ap (drop place) same
