use Rattle.tre_node.proofs.Lists.{removed}
use Rattle.tre_node.proofs.pruning.prune_at.Goals as goal

pub returns-then-is_gone-clause-held : goal.returns-then-is_gone-clause-held
returns-then-is_gone-clause-held c =
    removed c.args.zones.now.items c.deref.result.now c.remove.new.self.items
    c.index.result.now c.args.place c.deref.ensures.value c.requires
    c.index.ensures c.remove.ensures.items c.remove.ensures.by_index.2
    (c.is_gone.ensures c.if-is_gone.true)
