use Rattle.std.proofs.Common.{◌≡◌, ℕ, ◌<◌, None, drop}
use Rattle.tre_watch.specs.Lines.{form_at}
use Rattle.tre_watch.proofs.line.first_arrow.Given as goal

abbrev pub invariant-loop-place : goal.invariant-loop-place
invariant-loop-place l = (before : ℕ) → before < l.place → form_at (drop before l.text) ≡ None
