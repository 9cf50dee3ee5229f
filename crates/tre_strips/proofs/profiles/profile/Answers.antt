use Rattle.std.proofs.Common.{rules}
use Rattle.tre_strips.proofs.Comparing.{Narrows-trans}
use Rattle.tre_strips.proofs.ZoneBars.{AreBarsOf-filled, IsProfile-union}
use Rattle.tre_strips.proofs.profiles.profile.Goals as goal

pub unite-requires : goal.unite-requires
unite-requires c = AreBarsOf-filled _ c.args.zones.now _ c.in_ok-find_bars.ensures.bars

pub returns : goal.returns
returns c =
    search (rules, Narrows-trans, IsProfile-union, c.in_ok-unite.ensures.narrowed, c.args.zones.now)
