use Rattle.tre_star.proofs.OneWay.{HoldExactly-turned}
use Rattle.tre_star.proofs.one_way.chains_one_way.Goals as goal

pub returns : goal.returns
returns c =
    HoldExactly-turned c.in_ok-chains.chains.items c.reverse.new.self.items _
    c.reverse.ensures.permutation c.in_ok-chains.ensures
