use Rattle.std.proofs.Common.{◌∷◌, refl, arith}
use Rattle.tre_answer.proofs.Wanted.{behind_first, wanted-left}
use Rattle.tre_answer.proofs.offline.wanted_matches.Goals as goal

pub returns : goal.returns
returns c =
    wanted-left c.args.patterns.now _ (c.args.first ∷ c.args.others.now) c.args.others.now _
    c.args.first _ _ (omega (arith, c.requires)) (omega (arith, c.requires))
    c.index-patterns-0.is (behind_first c.args.patterns.now) refl refl c.in_ok-set.ensures
    c.in_ok-left.ensures
