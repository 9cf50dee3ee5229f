use Rattle.std.proofs.Common.{◌∙◌, ap, set}
use Rattle.tre_node.proofs.Begins.{replaced}
use Rattle.tre_node.proofs.stretches.replace_two.Goals as goal

pub returns : goal.returns
returns c =
    ap (λ list. set list c.args.place c.args.whole.now) c.remove.ensures.items
    ∙ replaced c.args.begun.now.items c.args.place c.args.whole.now c.requires
