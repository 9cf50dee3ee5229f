use Rattle.std.proofs.Common.{map, sym, rules}
use Rattle.tre_vcd.proofs.Gathering.{named-is, sorted-defined, wanted-defined}
use Rattle.tre_vcd.proofs.needed.add.Goals as goal

pub returns-in_err-add_definition-in-Some-clause-sorted : goal.returns-in_err-add_definition-in-Some-clause-sorted
returns-in_err-add_definition-in-Some-clause-sorted c = λ sorted.
    sorted-defined c.args.definitions.now (map _ c.args.set.now.keys) c.args.defined.now.items
    c.add_definition.new.defined.items c.in-Some.definition.now c.args.name.now
    (sym c.in-Some.ensures) c.add_definition.ensures.either sorted

pub returns-in_ok-add_definition-in-Some-clause-joins : goal.returns-in_ok-add_definition-in-Some-clause-joins
returns-in_ok-add_definition-in-Some-clause-joins c =
    search (rules, wanted-defined, named-is, c.args.name.now, c.in-Some.definition.now)

pub returns-in_ok-add_definition-in-Some-clause-sorted : goal.returns-in_ok-add_definition-in-Some-clause-sorted
returns-in_ok-add_definition-in-Some-clause-sorted c = λ sorted.
    sorted-defined c.args.definitions.now (map _ c.args.set.now.keys) c.args.defined.now.items
    c.add_definition.new.defined.items c.in-Some.definition.now c.args.name.now
    (sym c.in-Some.ensures) c.add_definition.ensures.either sorted
