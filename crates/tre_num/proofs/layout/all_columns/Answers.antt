use Rattle.std.proofs.Common.{rules, ◌≡◌, true, ap, sym, ◌∙◌}
use Rattle.std.specs.Result.{is_ok}
use Rattle.std.proofs.lemmas.Result.{err_from_is_err_and}
use Rattle.csv.specs.Records.{fields_of}
use Rattle.tre_num.specs.Needs.{declared_of, definitions_of}
use Rattle.tre_num.specs.Rows.{columns_of}
use Rattle.tre_num.proofs.NameColumns.{all-more, all-none}
use Rattle.tre_trace.specs.Reading.{Vocabulary}
use Rattle.tre_num.proofs.layout.all_columns.Goals as goal

pub returns-in_err-columns-clause-unknown : goal.returns-in_err-columns-clause-unknown
returns-in_err-columns-clause-unknown c =
    let p = err_from_is_err_and c.from_residual.result c.from_residual.ensures.1 in
    let definitions = definitions_of c.args.needed.now in
    let header = fields_of c.args.header.now in
    rw (p.1, p.2) (λ other. (
      all-none definitions header (declared_of c.args.needed.now) c.loop-asked.all.items
          c.loop-asked.asked-index c.asked-item.result
          (rw c.deref-asked-items.ensures.value at c.loop-asked-test.true)
          (rw c.deref-asked-items.ensures.value at c.asked-item.is)
          (ap (λ (asked : Vocabulary). columns_of definitions header asked.names)
          (sym c.asked.view_is)
          ∙ rw c.deref.ensures.value at (c.in_err-columns.ensures.unknown other).0)
          c.loop-asked.invariant,
      (c.in_err-columns.ensures.unknown other).1,
    ))

pub loop-asked-preserved : goal.loop-asked-preserved
loop-asked-preserved c =
    let definitions = definitions_of c.args.needed.now in
    let header = fields_of c.args.header.now in
    let good : is_ok c.extend_from_slice.result ≡ true = search rules in
    let items = rw good at c.extend_from_slice.ensures.items in
    rw (items, c.deref-in-loop-asked.ensures.value)
    (all-more definitions header (declared_of c.args.needed.now) c.loop-asked.all.items
    c.in_ok-columns.columns.items c.loop-asked.asked-index c.asked-item.result
    (rw c.deref-asked-items.ensures.value at c.loop-asked-test.true)
    (rw c.deref-asked-items.ensures.value at c.asked-item.is)
    (ap (λ (asked : Vocabulary). columns_of definitions header asked.names)
    (sym c.asked.view_is)
    ∙ rw c.deref.ensures.value at c.in_ok-columns.ensures.found)
    c.loop-asked.invariant)
