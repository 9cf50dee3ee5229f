use Rattle.std.proofs.Common.{rules}
use Rattle.tre_vcd.proofs.Flagging.{all-false}
use Rattle.tre_vcd.proofs.found.lowered.Goals as goal

pub returns : goal.returns
returns c = search (rules, all-false, c.args.count, c.new-flags.result.items)
