use Rattle.std.proofs.Common.{◌≡◌, ℕ, ◌<◌, get_or, false}
use Rattle.tre_define.specs.Texts.{is_semicolon}
use Rattle.tre_define.proofs.pieces.first_part.Given as goal

-- no semicolon stands before this place
abbrev pub invariant-loop-place : goal.invariant-loop-place
invariant-loop-place l = (k : ℕ) → k < l.place → is_semicolon (get_or l.bytes k 0) ≡ false
