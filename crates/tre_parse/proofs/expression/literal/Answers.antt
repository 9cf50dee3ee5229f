use Rattle.std.proofs.Common.{None, true, false}
use Rattle.std.proofs.lemmas.Result.{err_from_is_err_and}
use Rattle.tre_parse.specs.declared.token.Token.TheVariants.{Begins, Ends}
use Rattle.tre_parse.specs.Joins.{edged_literal}
use Rattle.tre_parse.specs.Reader.{got, give, accept, state_operand, unsigned, run, read, read_state, read_pattern}
use Rattle.tre_parse.proofs.Equations.{literal_read, literal_ends}
use Rattle.tre_parse.proofs.Steps.{goes_first, goes_turned, stops_first}
use Rattle.tre_parse.proofs.Unkept.{up_to_accept, up_to_accepted, up_to_state}
use Rattle.tre_parse.proofs.expression.literal.Goals as goal

pub returns-in_err-formula-clause-reads : goal.returns-in_err-formula-clause-reads
returns-in_err-formula-clause-reads c =
    let begins = c.accept-begins.result in
    let p = err_from_is_err_and c.from_residual.result c.from_residual.ensures.1 in
    rw (p.1, p.2) (stops_first (read_state (state_operand true) c.accept-begins.new.self)
    (read_pattern unsigned c.args.tokens.now) c.in_err-formula.field-0.0 c.operand.new.tokens
    (λ s us. run read (accept Ends (give (edged_literal begins true s))
    (give (edged_literal begins false s))) us)
    (literal_read begins c.args.tokens.now c.accept-begins.new.self c.requires
    c.accept-begins.ensures) c.in_err-formula.ensures.reads)

pub returns-clause-reads : goal.returns-clause-reads
returns-clause-reads c =
    let begins = c.accept-begins.result in
    goes_turned c.in_ok-whole.whole (λ x. got x c.accept-ends.new.self)
    (edged_literal begins c.accept-ends.result)
    (goes_first (read_pattern unsigned c.args.tokens.now)
    (λ s us. run read (accept Ends (give (edged_literal begins true s))
    (give (edged_literal begins false s))) us)
    (literal_read begins c.args.tokens.now c.accept-begins.new.self c.requires
    c.accept-begins.ensures) c.in_ok-formula.ensures.reads) c.in_ok-whole.ensures.stands
    (λ s. literal_ends begins c.accept-ends.result s c.operand.new.tokens
    c.accept-ends.new.self c.accept-ends.ensures)

pub returns-clause-unkept : goal.returns-clause-unkept
returns-clause-unkept c =
    up_to_accept Begins c.accept-begins.result c.args.tokens.now c.accept-begins.new.self
    c.accept-ends.new.self c.in_ok-whole.whole.unkept c.accept-begins.ensures (λ q. cc)
    (up_to_accepted Ends c.accept-ends.result c.accept-begins.new.self c.operand.new.tokens
    c.accept-ends.new.self None c.in_ok-whole.whole.unkept
    (up_to_state (state_operand true) c.in_ok-formula.formula c.accept-begins.new.self
    c.operand.new.tokens c.in_ok-formula.ensures.reads) c.accept-ends.ensures
    (λ q. cc) c.in_ok-whole.ensures.unkept)
