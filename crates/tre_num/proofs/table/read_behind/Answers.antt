use Rattle.std.proofs.Common.{rules, ◌≡◌, ◌+◌, ◌-◌, length, length-append, true, false, refl, sym, ap, ◌∙◌, arith}
use Rattle.std.specs.Result.{is_ok}
use Rattle.std.proofs.lemmas.List.{length-map, length_push}
use Rattle.std.proofs.lemmas.Result.{err_from_is_err_and}
use Rattle.csv.specs.Records.{fields_of}
use Rattle.tre_num.specs.Left.{TakesRecord}
use Rattle.tre_num.specs.Rows.{row_says}
use Rattle.tre_num.proofs.Telling.{row-is, says-fault, says-stretch}
use Rattle.tre_num.proofs.Tables.{memory_placed, memory_unspent}
use Rattle.tre_num.proofs.Reading.{read-none, read-one, read-fault, read-stopped, read-all, read-faultless}
use Rattle.tre_trace.specs.Reading.{segment_for, segments_for}
use Rattle.tre_trace.specs.declared.fault.TraceFault.{TraceFault}
use Rattle.tre_num.proofs.table.read_behind.Goals as goal

pub loop-init : goal.loop-init
loop-init g c = record {
  in_time = omega arith;
  more = omega arith;
  reads = λ by header left under is. read-none g.R.Read.remaining by header
      c.args.layout.now left c.args.segments.now.items c.args.rows.now is;
}

pub returns-in_err-found-clause-refused : goal.returns-in_err-found-clause-refused
returns-in_err-found-clause-refused g c by header left under is =
    let p = err_from_is_err_and c.from_residual.result c.from_residual.ensures.1 in
    rw (p.1, p.2)
    (read-stopped g.R.Read.remaining by header c.args.layout.now left
    c.args.segments.now.items c.loop.segments.items c.loop.end c.loop.rows _
    (c.loop.invariant.reads by header left under is)
    (ap (λ (fault : TraceFault). fault.kind) c.in_err-found.ensures.fault))

pub returns-in_err-found-clause-whole : goal.returns-in_err-found-clause-whole
returns-in_err-found-clause-whole g c by header left under is =
    let p = err_from_is_err_and c.from_residual.result c.from_residual.ensures.1 in rw p.1 tt

pub returns-in_err-found-clause-adds : goal.returns-in_err-found-clause-adds
returns-in_err-found-clause-adds g c by header left under is =
    let p = err_from_is_err_and c.from_residual.result c.from_residual.ensures.1 in rw p.1 tt

pub returns-in_err-found-clause-placed : goal.returns-in_err-found-clause-placed
returns-in_err-found-clause-placed g c =
    let p = err_from_is_err_and c.from_residual.result c.from_residual.ensures.1 in
    rw (p.1, p.2) (memory_placed _ c.in_err-found.ensures.fault)

pub returns-in_err-found-clause-never_spent : goal.returns-in_err-found-clause-never_spent
returns-in_err-found-clause-never_spent g c =
    let p = err_from_is_err_and c.from_residual.result c.from_residual.ensures.1 in
    rw (p.1, p.2) (memory_unspent _ c.in_err-found.ensures.fault)

pub returns-then-not-found-clause-whole : goal.returns-then-not-found-clause-whole
returns-then-not-found-clause-whole g c by header left under is =
    let so_far = c.loop.invariant.reads by header left under is in
    let end : c.in_ok-found.found ≡ false = search rules in
    read-faultless g.R.Read.remaining by header c.args.layout.now left
    c.args.segments.now.items c.loop.segments.items c.loop.end c.loop.rows so_far
    (rw end at (c.in_ok-found.ensures.next so_far.rest so_far.left))

pub returns-then-not-found-clause-adds : goal.returns-then-not-found-clause-adds
returns-then-not-found-clause-adds g c by header left under is =
    let so_far = c.loop.invariant.reads by header left under is in
    let end : c.in_ok-found.found ≡ false = search rules in
    read-all g.R.Read.remaining by header c.args.layout.now left
    c.args.segments.now.items c.loop.segments.items c.loop.end c.loop.rows so_far
    (rw end at (c.in_ok-found.ensures.next so_far.rest so_far.left))

pub returns-in-Err-clause-refused : goal.returns-in-Err-clause-refused
returns-in-Err-clause-refused g c by header left under is =
    let known = g.R.Read.remaining in
    let layout = c.args.layout.now in
    let before = c.args.segments.now.items in
    let segments = c.loop.segments.items in
    let end = c.loop.end in
    let fields = fields_of c.next_row.new.row in
    let so_far = c.loop.invariant.reads by header left under is in
    let found : c.in_ok-found.found ≡ true = search rules in
    let takes : TakesRecord known fields c.next_row.new.rows so_far.rest =
    rw found at (c.in_ok-found.ensures.next so_far.rest so_far.left) in
    let says = says-fault by.names (row_says by.terms header layout.all.items end fields) c.in-Err.kind
    (sym (row-is under end fields) ∙ sym c.read_row.ensures.gives ∙ c.in-Err.is) in
    let now : c.len.result ≡ length segments = omega (arith, c.loop.segments.ok.0) in
    let then : c.len-before.result ≡ length before = omega (arith, c.args.segments.now.ok.0) in
    let all : length segments ≡ length before + length so_far.read =
    ap length so_far.put ∙ length-append before (segments_for by.names so_far.read)
    ∙ ap (λ n. length before + n) (length-map so_far.read (segment_for by.names)) in
    let count : c.len.result - c.len-before.result ≡ length so_far.read =
    omega (arith, now, then, all) in
    read-fault known by header layout left before segments end c.loop.rows c.next_row.new.rows
    fields c.in-Err.kind (c.len.result - c.len-before.result) so_far takes says
    c.in-Err.ensures.kinds.1 count

pub returns-in-Err-clause-placed : goal.returns-in-Err-clause-placed
returns-in-Err-clause-placed g c =
    record { memory = λ memory. absurd (c.in-Err.ensures.kinds.0 memory) }

pub returns-in-Err-clause-never_spent : goal.returns-in-Err-clause-never_spent
returns-in-Err-clause-never_spent g c = c.in-Err.ensures.kinds.1

pub returns-then-is_err-clause-placed : goal.returns-then-is_err-clause-placed
returns-then-is_err-clause-placed g c = memory_placed _ refl

pub returns-then-is_err-clause-never_spent : goal.returns-then-is_err-clause-never_spent
returns-then-is_err-clause-never_spent g c = memory_unspent _ refl

pub returns-then-is_err-clause-refused : goal.returns-then-is_err-clause-refused
returns-then-is_err-clause-refused g c by header left under is =
    let bad : is_ok c.push.result ≡ false = search rules in
    rw (rw bad at c.push.ensures.items)
    (read-stopped g.R.Read.remaining by header c.args.layout.now left
    c.args.segments.now.items c.loop.segments.items c.loop.end c.loop.rows _
    (c.loop.invariant.reads by header left under is) refl)

pub loop-preserved : goal.loop-preserved
loop-preserved g c =
    let known = g.R.Read.remaining in
    let layout = c.args.layout.now in
    let before = c.args.segments.now.items in
    let segments = c.loop.segments.items in
    let segment = c.in-Ok.segment in
    let end = c.loop.end in
    let fields = fields_of c.next_row.new.row in
    let good : is_ok c.push.result ≡ true = search rules in
    let found : c.in_ok-found.found ≡ true = search rules in
    let items = rw good at c.push.ensures.items in
    let gives = sym c.read_row.ensures.gives ∙ c.in-Ok.is in
    rw items (record {
      in_time = c.in-Ok.ensures.fits.1;
      more = omega (arith, c.loop.invariant.more, length_push segments segment);
      reads = λ by header left under is.
          let so_far = c.loop.invariant.reads by header left under is in
          let takes : TakesRecord known fields c.next_row.new.rows so_far.rest =
          rw found at (c.in_ok-found.ensures.next so_far.rest so_far.left) in
          read-one known by header layout left before segments end c.loop.rows
          c.next_row.new.rows fields segment so_far takes
          (says-stretch by.names (row_says by.terms header layout.all.items end fields) segment
          (sym (row-is under end fields) ∙ gives));
    })

pub returns-clause-placed : goal.returns-clause-placed
returns-clause-placed g c = memory_placed _ refl

pub returns-clause-never_spent : goal.returns-clause-never_spent
returns-clause-never_spent g c = memory_unspent _ refl

pub returns-clause-refused : goal.returns-clause-refused
returns-clause-refused g c by header left under is =
    read-stopped g.R.Read.remaining by header c.args.layout.now left
    c.args.segments.now.items c.loop.segments.items c.loop.end c.loop.rows _
    (c.loop.invariant.reads by header left under is) refl
