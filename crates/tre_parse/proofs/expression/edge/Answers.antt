use Rattle.std.proofs.Common.{None, refl, sym, ◌∙◌, ap}
use Rattle.std.proofs.lemmas.Result.{err_from_is_err_and}
use Rattle.tre_state.specs.StateTree.{StateTree, always}
use Rattle.tre_parse.specs.declared.token.Token.TheVariants.{LeftParen, RightParen}
use Rattle.tre_parse.specs.declared.connective.Connective.TheVariants.{Or}
use Rattle.tre_parse.specs.Joins.{edge_of, edge_sign}
use Rattle.tre_parse.specs.Reader.{got, give, call, expect, state_by, of_state, unsigned, run, read, read_state, read_pattern}
use Rattle.tre_parse.proofs.Equations.{passed, unpassed, edge_some, edge_read, opened_edge}
use Rattle.tre_parse.proofs.Steps.{goes_past, goes_first, goes_turned, stops_here, stops_first, stops_at}
use Rattle.tre_parse.proofs.Unkept.{up_to_past, up_to_end, up_to_state, edge_no_percent}
use Rattle.tre_parse.proofs.expression.edge.Goals as goal

pub returns-in_err-expect-clause-reads : goal.returns-in_err-expect-clause-reads
returns-in_err-expect-clause-reads c =
    let e = goes_past c.args.tokens.now c.advance.new.self (edge_sign c.args.rises) (sym c.requires)
    (edge_some c.args.rises) c.advance.ensures in
    let p = err_from_is_err_and c.from_residual.result c.from_residual.ensures.1 in
    let s = unpassed LeftParen (call (of_state (state_by Or))
    (λ s. expect RightParen (give (edge_of c.args.rises s)))) c.in_err-expect.field-0.0
    c.advance.new.self c.expect.new.self c.in_err-expect.ensures in
    rw (p.1, p.2) (stops_here (read_pattern unsigned c.args.tokens.now) c.in_err-expect.field-0.0
    c.expect.new.self s.0
    (ap (λ ts. read_pattern unsigned ts) e ∙ edge_read c.args.rises c.advance.new.self ∙ s.1))

pub returns-in_err-inside-clause-reads : goal.returns-in_err-inside-clause-reads
returns-in_err-inside-clause-reads c =
    let e = goes_past c.args.tokens.now c.advance.new.self (edge_sign c.args.rises) (sym c.requires)
    (edge_some c.args.rises) c.advance.ensures in
    let p = err_from_is_err_and c.from_residual-in_err-inside.result
    c.from_residual-in_err-inside.ensures.1 in
    rw (p.1, p.2) (stops_first (read_state (state_by Or) c.expect.new.self)
    (read_pattern unsigned c.args.tokens.now) c.in_err-inside.field-0.0 c.state.new.tokens
    (λ s us. run read (expect RightParen (give (edge_of c.args.rises s))) us)
    (opened_edge c.args.rises c.args.tokens.now c.advance.new.self c.expect.new.self e
    c.in_ok-expect.ensures) c.in_err-inside.ensures.reads)

pub returns-in_err-expect-2-clause-reads : goal.returns-in_err-expect-2-clause-reads
returns-in_err-expect-2-clause-reads c =
    let e = goes_past c.args.tokens.now c.advance.new.self (edge_sign c.args.rises) (sym c.requires)
    (edge_some c.args.rises) c.advance.ensures in
    let p = err_from_is_err_and c.from_residual-in_err-expect-2.result
    c.from_residual-in_err-expect-2.ensures.1 in
    let stopped = λ (s : StateTree). unpassed RightParen (give (edge_of c.args.rises s))
    c.in_err-expect-2.field-0.0 c.state.new.tokens c.expect-2.new.self c.in_err-expect-2.ensures in
    rw (p.1, p.2) (stops_at c.in_err-expect-2.field-0.0 c.expect-2.new.self
    (goes_first (read_pattern unsigned c.args.tokens.now)
    (λ s us. run read (expect RightParen (give (edge_of c.args.rises s))) us)
    (opened_edge c.args.rises c.args.tokens.now c.advance.new.self c.expect.new.self e
    c.in_ok-expect.ensures) c.in_ok-inside.ensures.reads) (stopped always).0
    (λ s. (stopped s).1))

pub returns-clause-reads : goal.returns-clause-reads
returns-clause-reads c =
    let e = goes_past c.args.tokens.now c.advance.new.self (edge_sign c.args.rises) (sym c.requires)
    (edge_some c.args.rises) c.advance.ensures in
    goes_turned c.edge.result (λ x. got x c.expect-2.new.self) (edge_of c.args.rises)
    (goes_first (read_pattern unsigned c.args.tokens.now)
    (λ s us. run read (expect RightParen (give (edge_of c.args.rises s))) us)
    (opened_edge c.args.rises c.args.tokens.now c.advance.new.self c.expect.new.self e
    c.in_ok-expect.ensures) c.in_ok-inside.ensures.reads) c.edge.ensures.stands
    (λ s. passed RightParen (give (edge_of c.args.rises s)) c.state.new.tokens
    c.expect-2.new.self refl c.in_ok-expect-2.ensures)

pub returns-clause-unkept : goal.returns-clause-unkept
returns-clause-unkept c =
    let e = goes_past c.args.tokens.now c.advance.new.self (edge_sign c.args.rises) (sym c.requires)
    (edge_some c.args.rises) c.advance.ensures in
    up_to_past (edge_sign c.args.rises) c.args.tokens.now c.advance.new.self c.expect-2.new.self
    c.edge.result.unkept e (edge_no_percent c.args.rises)
    (up_to_past LeftParen c.advance.new.self c.expect.new.self c.expect-2.new.self
    c.edge.result.unkept c.in_ok-expect.ensures (λ q. cc)
    (up_to_end RightParen c.expect.new.self c.state.new.tokens c.expect-2.new.self None
    c.edge.result.unkept
    (up_to_state (state_by Or) c.in_ok-inside.inside c.expect.new.self c.state.new.tokens
    c.in_ok-inside.ensures.reads) c.in_ok-expect-2.ensures (λ q. cc)
    c.edge.ensures.unkept))
