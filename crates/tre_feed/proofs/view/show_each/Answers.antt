use Rattle.std.proofs.Common.{rules}
use Rattle.std.proofs.lemmas.List.Edits.{map_over_more}
use Rattle.tre_feed.specs.Shown.{shown_segment}
use Rattle.tre_feed.proofs.view.show_each.Goals as goal

pub loop-segment-preserved : goal.loop-segment-preserved
loop-segment-preserved c =
    search (rules, c.segment.ensures, map_over_more (shown_segment c.args.view.now))
