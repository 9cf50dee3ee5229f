use Rattle.std.proofs.Common.{rules, ◌≡◌, true, false, None, sym, ap, subst}
use Rattle.std.specs.Prelude.{IfErr, OnOk}
use Rattle.std.proofs.lemmas.Result.{err_from_is_err_and}
use Rattle.csv.specs.Records.{fields_of}
use Rattle.tre_num.specs.Left.{TakesRecord}
use Rattle.tre_num.specs.Told.{IsUnder}
use Rattle.tre_num.proofs.Tables.{heads, memory_placed, memory_unspent, no_rows, refused, stopped, under}
use Rattle.tre_parts.specs.Format.{nothing}
use Rattle.tre_trace.specs.Reading.{Adds, IsRefused, Recording}
use Rattle.tre_trace.specs.declared.fault.TraceFault.{TraceFault}
use Rattle.tre_trace.proofs.Readings.{Adds-none}
use Rattle.tre_num.proofs.table.Table.read_left.Goals as goal

pub returns-in_err-found-clause-whole : goal.returns-in_err-found-clause-whole
returns-in_err-found-clause-whole g c left is =
    let p = err_from_is_err_and c.from_residual.result c.from_residual.ensures.1 in rw p.1 tt

pub returns-in_err-found-clause-adds : goal.returns-in_err-found-clause-adds
returns-in_err-found-clause-adds g c left is =
    let p = err_from_is_err_and c.from_residual.result c.from_residual.ensures.1 in rw p.1 tt

pub returns-in_err-found-clause-refused : goal.returns-in_err-found-clause-refused
returns-in_err-found-clause-refused g c left is =
    let p = err_from_is_err_and c.from_residual.result c.from_residual.ensures.1 in
    rw (p.1, p.2) (stopped c.args.self.now.terms c.args.self.now.names left c.args.segments.now.items _
    (ap (λ (fault : TraceFault). fault.kind) c.in_err-found.ensures.fault))

pub returns-in_err-found-clause-placed : goal.returns-in_err-found-clause-placed
returns-in_err-found-clause-placed g c =
    let p = err_from_is_err_and c.from_residual.result c.from_residual.ensures.1 in
    rw (p.1, p.2) (memory_placed _ c.in_err-found.ensures.fault)

pub returns-in_err-found-clause-never_spent : goal.returns-in_err-found-clause-never_spent
returns-in_err-found-clause-never_spent g c =
    let p = err_from_is_err_and c.from_residual.result c.from_residual.ensures.1 in
    rw (p.1, p.2) (memory_unspent _ c.in_err-found.ensures.fault)

pub returns-in_err-layout-clause-whole : goal.returns-in_err-layout-clause-whole
returns-in_err-layout-clause-whole g c left is =
    let p = err_from_is_err_and c.from_residual-in_err-layout.result
    c.from_residual-in_err-layout.ensures.1 in rw p.1 tt

pub returns-in_err-layout-clause-adds : goal.returns-in_err-layout-clause-adds
returns-in_err-layout-clause-adds g c left is =
    let p = err_from_is_err_and c.from_residual-in_err-layout.result
    c.from_residual-in_err-layout.ensures.1 in rw p.1 tt

pub returns-in_err-layout-clause-refused : goal.returns-in_err-layout-clause-refused
returns-in_err-layout-clause-refused g c left is =
    let header = fields_of c.next_row.new.row in
    let said = heads c.args.self.now.terms c.args.self.now.names left g.R.Read.remaining c.in_ok-found.found header
    c.next_row.new.rows (c.in_ok-found.ensures.next left is) c.in_ok-found.ensures.none in
    let p = err_from_is_err_and c.from_residual-in_err-layout.result
    c.from_residual-in_err-layout.ensures.1 in
    let ensures = c.in_err-layout.ensures in
    rw (p.1, p.2) (refused c.args.self.now.terms c.args.self.now.names left c.args.segments.now.items _ header said
    ensures.unknown ensures.never_spent)

pub returns-in_err-layout-clause-placed : goal.returns-in_err-layout-clause-placed
returns-in_err-layout-clause-placed g c =
    let p = err_from_is_err_and c.from_residual-in_err-layout.result
    c.from_residual-in_err-layout.ensures.1 in rw (p.1, p.2) c.in_err-layout.ensures.placed

pub returns-in_err-layout-clause-never_spent : goal.returns-in_err-layout-clause-never_spent
returns-in_err-layout-clause-never_spent g c =
    let p = err_from_is_err_and c.from_residual-in_err-layout.result
    c.from_residual-in_err-layout.ensures.1 in rw (p.1, p.2) c.in_err-layout.ensures.never_spent

pub returns-then-not-found-clause-whole : goal.returns-then-not-found-clause-whole
returns-then-not-found-clause-whole g c left is =
    let end : c.in_ok-found.found ≡ false = search rules in
    ap (λ (r : Recording). r.fault) (no_rows c.args.self.now.terms c.args.self.now.names left (fields_of c.next_row.new.row)
    c.in_ok-layout.layout.all.items (rw end at (c.in_ok-found.ensures.next left is))
    (c.in_ok-found.ensures.none end) c.in_ok-layout.ensures.under.all_are)

pub returns-then-not-found-clause-adds : goal.returns-then-not-found-clause-adds
returns-then-not-found-clause-adds g c left is =
    let end : c.in_ok-found.found ≡ false = search rules in
    let none = no_rows c.args.self.now.terms c.args.self.now.names left (fields_of c.next_row.new.row)
    c.in_ok-layout.layout.all.items (rw end at (c.in_ok-found.ensures.next left is))
    (c.in_ok-found.ensures.none end) c.in_ok-layout.ensures.under.all_are in
    Adds-none _ _ _ _ (ap (λ (r : Recording). r.stretches) none)

pub returns-clause-whole : goal.returns-clause-whole
returns-clause-whole g c left is =
    let by = c.args.self.now in
    let header = fields_of c.next_row.new.row in
    let layout = c.in_ok-layout.layout in
    let found : c.in_ok-found.found ≡ true = search rules in
    let takes : TakesRecord g.R.Read.remaining header c.next_row.new.rows left =
    rw found at (c.in_ok-found.ensures.next left is) in
    let lies : IsUnder by header layout = c.in_ok-layout.ensures.under in
    subst (λ (r : Recording). OnOk c.read_behind.result (r.fault ≡ None))
    (sym (under by.terms by.names left header takes.others layout.all.items takes.first
    lies.all_are))
    (c.read_behind.ensures.whole by header takes.others lies takes.rest)

pub returns-clause-adds : goal.returns-clause-adds
returns-clause-adds g c left is =
    let by = c.args.self.now in
    let header = fields_of c.next_row.new.row in
    let layout = c.in_ok-layout.layout in
    let found : c.in_ok-found.found ≡ true = search rules in
    let takes : TakesRecord g.R.Read.remaining header c.next_row.new.rows left =
    rw found at (c.in_ok-found.ensures.next left is) in
    let lies : IsUnder by header layout = c.in_ok-layout.ensures.under in
    subst (λ (r : Recording). OnOk c.read_behind.result (Adds by.names c.args.segments.now.items
    c.read_behind.new.segments.items nothing r))
    (sym (under by.terms by.names left header takes.others layout.all.items takes.first
    lies.all_are))
    (c.read_behind.ensures.adds by header takes.others lies takes.rest)

pub returns-clause-refused : goal.returns-clause-refused
returns-clause-refused g c left is =
    let by = c.args.self.now in
    let header = fields_of c.next_row.new.row in
    let layout = c.in_ok-layout.layout in
    let found : c.in_ok-found.found ≡ true = search rules in
    let takes : TakesRecord g.R.Read.remaining header c.next_row.new.rows left =
    rw found at (c.in_ok-found.ensures.next left is) in
    let lies : IsUnder by header layout = c.in_ok-layout.ensures.under in
    subst (λ (r : Recording). IfErr c.read_behind.result (IsRefused by.names
    c.args.segments.now.items c.read_behind.new.segments.items nothing r))
    (sym (under by.terms by.names left header takes.others layout.all.items takes.first
    lies.all_are))
    (c.read_behind.ensures.refused by header takes.others lies takes.rest)

pub returns-clause-placed : goal.returns-clause-placed
returns-clause-placed g c = c.read_behind.ensures.placed

pub returns-clause-never_spent : goal.returns-clause-never_spent
returns-clause-never_spent g c = c.read_behind.ensures.never_spent
