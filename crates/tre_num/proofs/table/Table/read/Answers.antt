use Rattle.tre_num.proofs.table.Table.read.Goals as goal

pub returns-clause-whole : goal.returns-clause-whole
returns-clause-whole g c = λ bytes known.
    c.read_left.ensures.whole _ (c.records_of-rows.ensures bytes known)

pub returns-clause-adds : goal.returns-clause-adds
returns-clause-adds g c = λ bytes known.
    c.read_left.ensures.adds _ (c.records_of-rows.ensures bytes known)

pub returns-clause-refused : goal.returns-clause-refused
returns-clause-refused g c = λ bytes known.
    c.read_left.ensures.refused _ (c.records_of-rows.ensures bytes known)

pub returns-clause-placed : goal.returns-clause-placed
returns-clause-placed g c = c.read_left.ensures.placed

pub returns-clause-never_spent : goal.returns-clause-never_spent
returns-clause-never_spent g c = c.read_left.ensures.never_spent
