use Rattle.std.proofs.Common.{◌≡◌, ℕ, Ok, List, ◌∷◌, refl, sym, ◌∙◌, ap}
use Rattle.std.proofs.lemmas.Result.{err_from_is_err_and}
use Rattle.tre_syntax.specs.PatternTree.{event, atom}
use Rattle.tre_parse.specs.declared.token.Token.{Token}
use Rattle.tre_parse.specs.declared.token.Token.TheVariants.{LeftParen, RightParen, Event}
use Rattle.tre_parse.specs.Reader.{give, part, event_number_of, behind_event, unsigned, run, read, read_pattern}
use Rattle.tre_parse.specs.Reading.{IsReadPart}
use Rattle.tre_parse.proofs.Counts.{leaf_counts}
use Rattle.tre_parse.proofs.Equations.{passed, unpassed, part_said, part_unsaid, event_read}
use Rattle.tre_parse.proofs.Steps.{goes_past, goes_here, stops_here}
use Rattle.tre_parse.proofs.expression.event.Goals as goal

opened : (old us ts : List Token) → old ≡ Event ∷ us → us ≡ LeftParen ∷ ts
    → read_pattern unsigned old ≡ run read (part event_number_of behind_event) ts
opened old us ts e f = ap (λ l. read_pattern unsigned l) e ∙ event_read us
    ∙ passed LeftParen (part event_number_of behind_event) us ts refl f

named : (old us ts new : List Token) (i : ℕ) → old ≡ Event ∷ us → us ≡ LeftParen ∷ ts
    → IsReadPart event_number_of (Ok i) ts new → read_pattern unsigned old ≡ run read (behind_event i) new
named old us ts new i e f h = opened old us ts e f ∙ part_said event_number_of behind_event i ts new h

pub returns-in_err-expect-clause-reads : goal.returns-in_err-expect-clause-reads
returns-in_err-expect-clause-reads c =
    let e = goes_past c.args.tokens.now c.advance.new.self Event (sym c.requires) (λ q. cc)
    c.advance.ensures in
    let p = err_from_is_err_and c.from_residual.result c.from_residual.ensures.1 in
    let s = unpassed LeftParen (part event_number_of behind_event) c.in_err-expect.field-0.0
    c.advance.new.self c.expect.new.self c.in_err-expect.ensures in
    rw (p.1, p.2) (stops_here (read_pattern unsigned c.args.tokens.now) c.in_err-expect.field-0.0
    c.expect.new.self s.0
    (ap (λ ts. read_pattern unsigned ts) e ∙ event_read c.advance.new.self ∙ s.1))

pub returns-in_err-number-clause-reads : goal.returns-in_err-number-clause-reads
returns-in_err-number-clause-reads c =
    let e = goes_past c.args.tokens.now c.advance.new.self Event (sym c.requires) (λ q. cc)
    c.advance.ensures in
    let p = err_from_is_err_and c.from_residual-in_err-number.result
    c.from_residual-in_err-number.ensures.1 in
    let s = part_unsaid event_number_of behind_event c.in_err-number.field-0.0 c.expect.new.self
    c.event_name.new.tokens c.in_err-number.ensures in
    rw (p.1, p.2) (stops_here (read_pattern unsigned c.args.tokens.now) c.in_err-number.field-0.0
    c.event_name.new.tokens s.0
    (opened c.args.tokens.now c.advance.new.self c.expect.new.self e c.in_ok-expect.ensures ∙ s.1))

pub returns-in_err-expect-2-clause-reads : goal.returns-in_err-expect-2-clause-reads
returns-in_err-expect-2-clause-reads c =
    let e = goes_past c.args.tokens.now c.advance.new.self Event (sym c.requires) (λ q. cc)
    c.advance.ensures in
    let p = err_from_is_err_and c.from_residual-in_err-expect-2.result
    c.from_residual-in_err-expect-2.ensures.1 in
    let s = unpassed RightParen (give (atom (event c.in_ok-number.number)))
    c.in_err-expect-2.field-0.0 c.event_name.new.tokens c.expect-2.new.self
    c.in_err-expect-2.ensures in
    rw (p.1, p.2) (stops_here (read_pattern unsigned c.args.tokens.now)
    c.in_err-expect-2.field-0.0 c.expect-2.new.self s.0
    (named c.args.tokens.now c.advance.new.self c.expect.new.self c.event_name.new.tokens
    c.in_ok-number.number e c.in_ok-expect.ensures c.in_ok-number.ensures ∙ s.1))

pub returns-clause-reads : goal.returns-clause-reads
returns-clause-reads c =
    let e = goes_past c.args.tokens.now c.advance.new.self Event (sym c.requires) (λ q. cc)
    c.advance.ensures in
    let i = c.in_ok-number.number in
    goes_here c.leaf.result (atom (event i)) (read_pattern unsigned c.args.tokens.now)
    c.expect-2.new.self
    (named c.args.tokens.now c.advance.new.self c.expect.new.self c.event_name.new.tokens i e
    c.in_ok-expect.ensures c.in_ok-number.ensures
    ∙ passed RightParen (give (atom (event i))) c.event_name.new.tokens c.expect-2.new.self refl
    c.in_ok-expect-2.ensures)
    (leaf_counts c.leaf.result _ c.leaf.ensures.nodes c.leaf.ensures.tree refl)
