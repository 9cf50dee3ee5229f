use Rattle.std.proofs.Common.{refl, rules}
use Rattle.tre_feed.proofs.Begun.{none_left}
use Rattle.tre_feed.proofs.seen.+pack_rows.Goals as goal

pub pack_rows-requires : goal.pack_rows-requires
pack_rows-requires g t c κs within =
    search (rules, c.in-Some.ensures.cases.0, c.requires.within, c.requires.fits)

pub returns-in_default : goal.returns-in_default
returns-in_default g t c = rw (none_left c.args.views.now c.in_default.ensures.cases) refl

pub returns-in_default-split_first_mut : goal.returns-in_default-split_first_mut
returns-in_default-split_first_mut g t c = search (rules, none_left, c.args.traces.now)
