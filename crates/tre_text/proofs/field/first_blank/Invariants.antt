use Rattle.std.proofs.Common.{◌≡◌, ℕ, ◌<◌, get_or, false}
use Rattle.tre_text.specs.TextReading.{is_blank}
use Rattle.tre_text.proofs.field.first_blank.Given as goal

-- no blank stands before this place
abbrev pub invariant-loop-place : goal.invariant-loop-place
invariant-loop-place l = (k : ℕ) → k < l.place → is_blank (get_or l.bytes k 0) ≡ false
