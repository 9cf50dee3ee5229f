use Rattle.std.proofs.Common.{rules}
use Rattle.std.proofs.lemmas.List.Edits.{map_over_more}
use Rattle.tre_feed.specs.Shown.{masked_segment}
use Rattle.tre_feed.proofs.view.mask_each.Goals as goal

pub loop-segment-preserved : goal.loop-segment-preserved
loop-segment-preserved c =
    search (rules, map_over_more (masked_segment c.args.names c.args.events))
