use Rattle.std.proofs.Common.{map}
use Rattle.std.proofs.lemmas.List.{length-map}
use Rattle.tre_index.proofs.search.next_of_few.Goals as goal

pub returns : goal.returns
returns g c =
    let items = c.args.items.now in
    let rows = map g.T.HasRow.row_of items in
    rw (length-map items g.T.HasRow.row_of) c.first_between.ensures
