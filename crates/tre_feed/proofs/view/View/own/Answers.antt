use Rattle.std.proofs.Common.{rules}
use Rattle.tre_syntax.specs.Pattern.{names_of}
use Rattle.tre_feed.proofs.Sharing.{shows, view-last}
use Rattle.tre_feed.proofs.view.View.own.Goals as goal

pub returns : goal.returns
returns c groups group = search (rules, names_of, view-last, shows, c.args.pattern.now)
