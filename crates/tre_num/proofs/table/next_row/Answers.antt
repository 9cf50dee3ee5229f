use Rattle.csv.specs.Records.{fields_of}
use Rattle.tre_num.proofs.Records.{takes-next, none-left}
use Rattle.tre_num.proofs.table.next_row.Goals as goal

pub returns-then-found-clause-next : goal.returns-then-found-clause-next
returns-then-found-clause-next g c left is =
    let new = c.read_byte_record.new in
    takes-next g.R.Read.remaining c.args.rows.now new.self left is (fields_of new.row)
    (rw c.if-found.true at (c.in-Ok.ensures.reads is.trim is.ready)) (c.in-Ok.ensures.ready is.trim)

pub returns-clause-next : goal.returns-clause-next
returns-clause-next g c left is =
    let new = c.read_byte_record.new in
    none-left g.R.Read.remaining c.args.rows.now new.self left is (fields_of new.row)
    (rw c.if-found.false at (c.in-Ok.ensures.reads is.trim is.ready))
