use Rattle.std.proofs.Common.{rules}
use Rattle.std.proofs.lemmas.List.{get_or_read}
use Rattle.tre_feed.specs.Seen.{no_segment, fed_row}
use Rattle.tre_feed.proofs.Seeing.{at_mapped}
use Rattle.tre_feed.proofs.seen.segment_at.Goals as goal

pub index-requires : goal.index-requires
index-requires g c =
    search (rules, fed_row, at_mapped, c.args.each.now, c.args.group, c.index-each-group.result)

pub returns : goal.returns
returns g c = search (rules, fed_row, at_mapped, get_or_read, no_segment, c.args.each.now)
