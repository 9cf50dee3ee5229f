use Rattle.std.proofs.Common.{◌≡◌, ◌++◌, List, OnOk, refl, subst, sym, rules}
use Rattle.std.proofs.lemmas.List.{with_items_is}
use Rattle.tre_trace.specs.Trace.{IsTrace, quiet}
use Rattle.tre_trace.specs.declared.segment.Segment.{Segment}
use Rattle.tre_feed.specs.Shown.{shown_segment}
use Rattle.tre_feed.proofs.seen.pack_row.Goals as goal

pub add-requires : goal.add-requires
add-requires c =
    subst (λ (shown : List Segment). IsTrace (c.args.trace.now.segments ++ shown))
    (c.if-shows_all.ensures refl) c.requires

pub returns-then-shows_all : goal.returns-then-shows_all
returns-then-shows_all c =
    subst (λ (shown : List Segment). OnOk c.add.result (c.add.new.self
    ≡ quiet (c.args.trace.now.segments ++ shown))) (sym (c.if-shows_all.ensures refl))
    c.add.ensures.added

pub add-requires-2 : goal.add-requires-2
add-requires-2 c =
    search (rules, with_items_is, shown_segment, c.extend_from_slice.new.self, c.narrow.new.row)

pub returns : goal.returns
returns c =
    search (rules, with_items_is, c.extend_from_slice.new.self, c.narrow.new.row, c.add-2.result)
