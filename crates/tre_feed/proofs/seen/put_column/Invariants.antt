use Rattle.std.proofs.Common.{◌≡◌, map, take}
use Rattle.tre_feed.specs.Seen.{rows_in, segment_seen}
use Rattle.tre_feed.proofs.seen.put_column.Given as goal

abbrev pub invariant-loop-view : goal.invariant-loop-view
invariant-loop-view g l = l.segments.items
    ≡ map (segment_seen (rows_in l.each) l.place) (take l.view-index l.views)
