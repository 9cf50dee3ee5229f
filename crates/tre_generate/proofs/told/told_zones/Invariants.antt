use Rattle.std.proofs.Common.{◌≡◌, take}
use Rattle.tre_online.specs.Session.{pattern_of, StandsFor}
use Rattle.tre_syntax.specs.Pattern.{pattern_tree}
use Rattle.tre_generate.specs.Told.{MatchesAreTold}
use Rattle.tre_generate.proofs.told.told_zones.Given as goal

abbrev pub invariant-loop-segment : goal.invariant-loop-segment
invariant-loop-segment l = record {
  stands : StandsFor l.session (take l.segment-index l.segment-items);
  tree : pattern_tree (pattern_of l.session) ≡ pattern_tree l.fn.pattern;
  told : MatchesAreTold (pattern_tree l.fn.pattern) (take l.segment-index l.segment-items) l.zones.items;
}
