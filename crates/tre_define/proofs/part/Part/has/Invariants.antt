use Rattle.std.proofs.Common.{◌≡◌, ℕ, ◌+◌, ◌<◌}
use Rattle.tre_define.specs.Values.{letter_at}
use Rattle.tre_define.proofs.part.Part.has.Given as goal

-- none of the bits so far has the letter
abbrev pub invariant-loop-step : goal.invariant-loop-step
invariant-loop-step l = (k : ℕ) → k < l.step → letter_at l.letters (l.self.low + k) ≡ l.letter → ⊥
