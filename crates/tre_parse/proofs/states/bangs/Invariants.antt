use Rattle.std.proofs.Common.{◌≡◌, ◌≤◌, ◌-◌, ◌++◌, length, replicate}
use Rattle.tre_parse.specs.declared.token.Token.TheVariants.{Bang}
use Rattle.tre_parse.proofs.states.bangs.Given as goal

abbrev pub invariant-loop : goal.invariant-loop
invariant-loop l = record {
  bangs : l.fn.tokens ≡ replicate (length l.fn.tokens - length l.tokens) Bang ++ l.tokens;
  shorter : length l.tokens ≤ length l.fn.tokens;
}

abbrev pub decreases-loop : goal.decreases-loop
decreases-loop l = length l.tokens
