use Rattle.std.proofs.Common.{take, drop, rules}
use Rattle.std.proofs.lemmas.List.{take-append-drop, take_all}
use Rattle.tre_zoneset.proofs.Stretches.{take_to}
use Rattle.tre_star.proofs.Separate.{AreCanonical-parts}
use Rattle.tre_star.proofs.composition.compositions_of.Goals as goal

pub returns-then-are_few : goal.returns-then-are_few
returns-then-are_few c =
    search (rules, take_to, take_all, c.args.second.now, c.count_in_turn-turned.result)

pub compose_in_turn-requires-clause-seconds : goal.compose_in_turn-requires-clause-seconds
compose_in_turn-requires-clause-seconds c =
    (AreCanonical-parts (take c.count_in_turn-turned.result c.args.second.now)
    (drop c.count_in_turn-turned.result c.args.second.now)
    (rw (take-append-drop c.count_in_turn-turned.result c.args.second.now) c.requires.seconds)).0
