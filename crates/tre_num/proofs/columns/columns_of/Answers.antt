use Rattle.std.proofs.Common.{rules, ◌≡◌, ◌<◌, true, Some, length, get_or, [], refl, sym, ◌∙◌, arith}
use Rattle.std.specs.Result.{is_ok}
use Rattle.csv.specs.Records.{fields_of}
use Rattle.tre_num.specs.Rows.{compared_column}
use Rattle.tre_num.proofs.NameColumns.{all-found, begins, none-here, one-more}
use Rattle.tre_num.proofs.Tables.{memory_placed, memory_unspent, unknown_placed, unknown_unspent}
use Rattle.tre_num.proofs.columns.columns_of.Goals as goal

pub loop-number-init : goal.loop-number-init
loop-number-init c =
    begins c.args.definitions.now (fields_of c.args.header.now) c.args.names.now _
    c.new-columns.ensures.items

pub column_at-requires : goal.column_at-requires
column_at-requires c = omega (arith, c.loop-number-test.true, c.len-number-end.ensures.len)

pub returns-in_default-clause-unknown : goal.returns-in_default-clause-unknown
returns-in_default-clause-unknown c = λ other. (
  none-here c.args.definitions.now (fields_of c.args.header.now) c.args.names.now
      c.loop-number.columns.items c.loop-number.number
      (omega (arith, c.loop-number-test.true, c.len-number-end.ensures.len))
      (sym c.column_at.ensures ∙ c.in_default.is) c.loop-number.invariant,
  refl,
)

pub returns-in_default-clause-placed : goal.returns-in_default-clause-placed
returns-in_default-clause-placed c = unknown_placed

pub returns-in_default-clause-never_spent : goal.returns-in_default-clause-never_spent
returns-in_default-clause-never_spent c = unknown_unspent

pub returns-then-is_err-clause-unknown : goal.returns-then-is_err-clause-unknown
returns-then-is_err-clause-unknown c = λ other. absurd (other refl)

pub returns-then-is_err-clause-placed : goal.returns-then-is_err-clause-placed
returns-then-is_err-clause-placed c = memory_placed _ refl

pub returns-then-is_err-clause-never_spent : goal.returns-then-is_err-clause-never_spent
returns-then-is_err-clause-never_spent c = memory_unspent _ refl

pub loop-number-preserved : goal.loop-number-preserved
loop-number-preserved c =
    let names = c.args.names.now in
    let number = c.loop-number.number in
    let header = fields_of c.args.header.now in
    let column = c.in-Some.column in
    let good : is_ok c.push.result ≡ true = search rules in
    let items = rw good at c.push.ensures.items in
    let below : number < length names =
    omega (arith, c.loop-number-test.true, c.len-number-end.ensures.len) in
    let found : compared_column c.args.definitions.now header (get_or names number []) ≡ Some column =
    sym c.column_at.ensures ∙ c.in-Some.is in
    let more = one-more c.args.definitions.now header names c.loop-number.columns.items number
    column below found c.loop-number.invariant in
    rw items more

pub returns-clause-found : goal.returns-clause-found
returns-clause-found c =
    all-found c.args.definitions.now (fields_of c.args.header.now) c.args.names.now
    c.loop-number.columns.items c.loop-number.number
    (omega (arith, c.loop-number-test.false, c.len-number-end.ensures.len))
    c.loop-number.invariant
