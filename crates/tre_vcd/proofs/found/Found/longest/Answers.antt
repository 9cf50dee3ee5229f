use Rattle.std.proofs.Common.{rules}
use Rattle.tre_vcd.proofs.Longest.{both-below, longest-map}
use Rattle.tre_vcd.proofs.Needing.{within-both}
use Rattle.tre_vcd.proofs.found.Found.longest.Goals as goal

pub returns : goal.returns
returns c =
    search (rules, both-below, within-both, longest-map, c.longest_in-names.result)
