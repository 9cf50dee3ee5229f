use Rattle.std.proofs.Common.{◌≡◌, ℕ, ◌+◌, ◌<◌}
use Rattle.tre_define.specs.Values.{letter_at}
use Rattle.tre_define.proofs.part.Part.differs.Given as goal

-- the bits so far have the same letters
abbrev pub invariant-loop-step : goal.invariant-loop-step
invariant-loop-step l = (k : ℕ) → k < l.step
    → letter_at l.old (l.self.low + k) ≡ letter_at l.new (l.self.low + k)
