use Rattle.std.proofs.Common.{◌∙◌, map, sym}
use Rattle.tre_vcd.proofs.Gathering.{has-all, has-map}
use Rattle.tre_vcd.proofs.needed.add_name.Goals as goal

pub returns-then-contains-clause-joins : goal.returns-then-contains-clause-joins
returns-then-contains-clause-joins c = λ test.
    let keys = c.args.set.now.keys in
    sym (has-all test c.args.name.now (map _ keys)
    (has-map _ c.args.name.now keys ∙ sym c.contains.ensures ∙ c.if-contains.true))
