use Rattle.std.proofs.Common.{◌≡◌, ◌≤◌, drop}
use Rattle.tre_parse.specs.declared.limits.TheConstants.{DEPTH_MAX}
use Rattle.tre_parse.specs.Front.{tokens_in}
use Rattle.tre_parse.specs.Limits.{deep_place}
use Rattle.tre_parse.proofs.limits.first_deep.Given as goal

abbrev pub invariant-loop-place : goal.invariant-loop-place
invariant-loop-place l = record {
  deep : deep_place 0 0 (tokens_in l.tokens)
      ≡ deep_place l.depth l.place (tokens_in (drop l.place l.tokens));
  few : l.depth ≤ DEPTH_MAX;
}
