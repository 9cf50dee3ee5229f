use Rattle.std.proofs.Common.{rules}
use Rattle.std.proofs.lemmas.List.Elements.{All-weaker}
use Rattle.std.proofs.lemmas.List.Folds.{map_fixed}
use Rattle.tre_feed.proofs.view.View.shows_all.Goals as goal

pub returns : goal.returns
returns c is =
    search (rules, map_fixed, All-weaker, c.args.self.now, c.in-Some.names, c.in-Some-mask.events)
