use Rattle.std.proofs.Common.{rules}
use Rattle.tre_feed.proofs.Inputs.{if_ok_then}
use Rattle.tre_feed.proofs.Seeing.{lasts_are}
use Rattle.tre_feed.proofs.input.Input.lasts.Goals as goal

pub returns : goal.returns
returns g c =
    search (rules, if_ok_then, lasts_are, c.args.self.now, c.lasts_of.result, g.R.TraceReader.names)

pub lasts_of-requires : goal.lasts_of-requires
lasts_of-requires g c = rw (c.deref.ensures.value, c.deref-2.ensures.value) c.args.self.now.within
