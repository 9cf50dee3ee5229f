use Rattle.std.proofs.Common.{◌≡◌, ℕ, arith, length, ◌∙◌, ◌∷◌, refl, sym, ap, subst}
use Rattle.std.proofs.lemmas.Result.{err_from_is_err_and}
use Rattle.tre_state.specs.StateTree.{StateTree, always, proposition}
use Rattle.tre_parse.proofs.Counts.{leaf_counts, negated_more}
use Rattle.tre_parse.specs.declared.cursor.Stop.TheVariants.{Syntax}
use Rattle.tre_parse.specs.declared.connective.Connective.TheVariants.{Or}
use Rattle.tre_parse.specs.Front.{front, tail}
use Rattle.tre_parse.specs.Joins.{negated, connected, connective_sign, brackets_of}
use Rattle.tre_parse.specs.Operands.{RepresentsState}
use Rattle.tre_parse.specs.Reader.{got, give, expect, state_by, state_after, state_operand, state_part, leaf_of, run, read, read_state}
use Rattle.tre_parse.proofs.Equations.{not_sign, passed, unpassed, part_said, part_unsaid, state_begins, state_goes_on, state_ends, bangs_read, closing_same, bracket_read, leaf_read, no_leaf}
use Rattle.tre_parse.proofs.Steps.{one_shorter, goes_here, goes_first, goes_turned, goes_on, goes_joined, stops_here, stops_first, stops_joined, stops_at}
use Rattle.tre_parse.proofs.states.+state.Goals as goal

pub operand-returns-in_err-whole-clause-reads : goal.operand-returns-in_err-whole-clause-reads
operand-returns-in_err-whole-clause-reads t c =
    let p = err_from_is_err_and c.from_residual.result c.from_residual.ensures.1 in
    let e = ap (λ ts. read_state (state_operand c.args.braces) ts) c.bangs-bangs.ensures.bangs
    ∙ bangs_read c.args.braces c.bangs-bangs.result c.bangs-bangs.new.tokens in
    rw (p.1, p.2) (stops_first (read_state (state_operand c.args.braces) c.bangs-bangs.new.tokens)
    (read_state (state_operand c.args.braces) c.args.tokens.now) c.in_err-whole.field-0.0
    c.without_bangs.new.tokens (λ s us. got (negated c.bangs-bangs.result s) us) e
    c.in_err-whole.ensures.reads)

pub operand-loop-preserved : goal.operand-loop-preserved
operand-loop-preserved t c = λ s h.
    let P = λ (u : StateTree). RepresentsState c.in_ok-whole-2.whole u in
    subst P (sym (negated_more c.loop.counter s)) (c.in_ok-whole-2.ensures
    (negated c.loop.counter s) (c.loop.invariant s h))

pub operand-returns-clause-reads : goal.operand-returns-clause-reads
operand-returns-clause-reads t c =
    let all : c.loop.counter ≡ c.bangs-bangs.result =
    omega (arith, c.loop-test.false, c.loop.auto.counter-end) in
    let P = λ (n : ℕ). (s : StateTree) → RepresentsState c.in_ok-whole.whole s
    → RepresentsState c.loop.whole (negated n s) in
    let e = ap (λ ts. read_state (state_operand c.args.braces) ts) c.bangs-bangs.ensures.bangs
    ∙ bangs_read c.args.braces c.bangs-bangs.result c.bangs-bangs.new.tokens in
    goes_turned c.loop.whole (λ s. got s c.without_bangs.new.tokens)
    (negated c.bangs-bangs.result)
    (goes_first (read_state (state_operand c.args.braces) c.args.tokens.now)
    (λ s us. got (negated c.bangs-bangs.result s) us) e c.in_ok-whole.ensures.reads)
    (subst P all c.loop.invariant) (λ s. refl)

pub state-returns-in_err-whole-clause-reads : goal.state-returns-in_err-whole-clause-reads
state-returns-in_err-whole-clause-reads t c =
    let p = err_from_is_err_and c.from_residual.result c.from_residual.ensures.1 in
    rw (p.1, p.2) (stops_first (read_state (state_part c.args.how) c.args.tokens.now)
    (read_state (state_by c.args.how) c.args.tokens.now) c.in_err-whole.field-0.0
    c.part.new.tokens (λ s us. read_state (state_after c.args.how s) us)
    (state_begins c.args.how c.args.tokens.now) c.in_err-whole.ensures.reads)

pub state-loop-alloc-init : goal.state-loop-alloc-init
state-loop-alloc-init t c = record {
  reads = goes_first (read_state (state_by c.args.how) c.args.tokens.now)
      (λ s us. read_state (state_after c.args.how s) us)
      (state_begins c.args.how c.args.tokens.now) c.in_ok-whole.ensures.reads;
  shorter = c.in_ok-whole.ensures.shorter;
}

pub state-returns-in_err-next-clause-reads : goal.state-returns-in_err-next-clause-reads
state-returns-in_err-next-clause-reads t c =
    let e = c.loop-alloc-test.ensures ∙ ap (λ s. s ∷ c.accept.new.self) c.sign.ensures in
    let p = err_from_is_err_and c.from_residual-in_err-next.result
    c.from_residual-in_err-next.ensures.1 in
    rw (p.1, p.2) (stops_joined (read_state (state_part c.args.how) c.accept.new.self)
    c.in_err-next.field-0.0 c.part-in-loop-alloc.new.tokens
    (λ s u us. read_state (state_after c.args.how (connected c.args.how s u)) us)
    c.loop-alloc.invariant.reads
    (λ s. ap (λ ts. read_state (state_after c.args.how s) ts) e
    ∙ state_goes_on c.args.how s c.accept.new.self) c.in_err-next.ensures.reads)

pub state-loop-alloc-preserved : goal.state-loop-alloc-preserved
state-loop-alloc-preserved t c =
    let e = c.loop-alloc-test.ensures ∙ ap (λ s. s ∷ c.accept.new.self) c.sign.ensures in
    let n = one_shorter c.loop-alloc.tokens c.accept.new.self (connective_sign c.args.how) e in
    record {
      reads = goes_joined c.in_ok-whole-2.whole
          (λ s. read_state (state_after c.args.how s) c.part-in-loop-alloc.new.tokens)
          (connected c.args.how)
          (λ s u us. read_state (state_after c.args.how (connected c.args.how s u)) us)
          c.loop-alloc.invariant.reads c.in_ok-next.ensures.reads c.in_ok-whole-2.ensures
          (λ s. ap (λ ts. read_state (state_after c.args.how s) ts) e
          ∙ state_goes_on c.args.how s c.accept.new.self) (λ s u. refl);
      shorter = omega (arith, n, c.in_ok-next.ensures.shorter, c.loop-alloc.invariant.shorter);
    }

pub state-returns-clause-reads : goal.state-returns-clause-reads
state-returns-clause-reads t c =
    let h = c.loop-alloc-test.ensures in
    let n = not_sign (connective_sign c.args.how) (front c.loop-alloc.tokens)
    (λ q. h.1 (q ∙ sym c.sign.ensures)) in
    goes_on (λ s. got s c.accept.new.self) c.loop-alloc.invariant.reads
    (λ s. state_ends c.args.how s c.loop-alloc.tokens n ∙ ap (λ ts. got s ts) (sym h.0))

pub without_bangs-returns-in_err-inside-clause-reads
    : goal.without_bangs-returns-in_err-inside-clause-reads
without_bangs-returns-in_err-inside-clause-reads t c =
    let e = c.if-accept.ensures ∙ ap (λ s. s.0 ∷ c.accept.new.self) c.brackets-opening.ensures in
    let p = err_from_is_err_and c.from_residual.result c.from_residual.ensures.1 in
    let q = ap (λ ts. read_state (state_operand c.args.braces) ts) e
    ∙ bracket_read c.args.braces c.accept.new.self in
    rw (p.1, p.2) (stops_first (read_state (state_by Or) c.accept.new.self)
    (read_state (state_operand c.args.braces) c.args.tokens.now) c.in_err-inside.field-0.0
    c.state.new.tokens (λ s us. run read (expect (brackets_of c.args.braces).1 (give s)) us) q
    c.in_err-inside.ensures.reads)

pub without_bangs-returns-in_err-expect-clause-reads
    : goal.without_bangs-returns-in_err-expect-clause-reads
without_bangs-returns-in_err-expect-clause-reads t c =
    let e = c.if-accept.ensures ∙ ap (λ s. s.0 ∷ c.accept.new.self) c.brackets-opening.ensures in
    let p = err_from_is_err_and c.from_residual-in_err-expect.result
    c.from_residual-in_err-expect.ensures.1 in
    let q = ap (λ ts. read_state (state_operand c.args.braces) ts) e
    ∙ bracket_read c.args.braces c.accept.new.self in
    let x = c.in_err-expect.ensures in
    let stopped = λ (s : StateTree). unpassed (brackets_of c.args.braces).1 (give s)
    c.in_err-expect.field-0.0 c.state.new.tokens c.expect.new.self
    (x.0, x.1, λ r. x.2 (r ∙ sym (ap (λ s. s.1) c.brackets-opening.ensures))) in
    rw (p.1, p.2) (stops_at c.in_err-expect.field-0.0 c.expect.new.self
    (goes_first (read_state (state_operand c.args.braces) c.args.tokens.now)
    (λ s us. run read (expect (brackets_of c.args.braces).1 (give s)) us) q
    c.in_ok-inside.ensures.reads) (stopped always).0 (λ s. (stopped s).1))

pub without_bangs-returns-then-accept-clause-reads
    : goal.without_bangs-returns-then-accept-clause-reads
without_bangs-returns-then-accept-clause-reads t c =
    let e = c.if-accept.ensures ∙ ap (λ s. s.0 ∷ c.accept.new.self) c.brackets-opening.ensures in
    let f = c.in_ok-expect.ensures ∙ ap (λ s. s.1 ∷ c.expect.new.self) c.brackets-opening.ensures in
    let q = ap (λ ts. read_state (state_operand c.args.braces) ts) e
    ∙ bracket_read c.args.braces c.accept.new.self in
    goes_on (λ s. got s c.expect.new.self)
    (goes_first (read_state (state_operand c.args.braces) c.args.tokens.now)
    (λ s us. run read (expect (brackets_of c.args.braces).1 (give s)) us) q
    c.in_ok-inside.ensures.reads)
    (λ s. passed (brackets_of c.args.braces).1 (give s) c.state.new.tokens c.expect.new.self
    (closing_same c.args.braces) f)

pub without_bangs-returns-in-Name-clause-reads : goal.without_bangs-returns-in-Name-clause-reads
without_bangs-returns-in-Name-clause-reads t c =
    let same = c.if-accept.ensures.0 in
    let e = leaf_read c.args.braces c.args.tokens.now c.requires
    (λ q. c.if-accept.ensures.1 (q ∙ sym (ap (λ s. s.0) c.brackets-opening.ensures))) in
    let s = proposition c.in-Name.number in
    goes_here c.leaf.result s (read_state (state_operand c.args.braces) c.args.tokens.now)
    c.advance.new.self
    (e ∙ part_said leaf_of (λ s. give s) s c.args.tokens.now c.advance.new.self
    (ap leaf_of (ap front (sym same) ∙ sym c.in-Name.ensures), c.advance.ensures ∙ ap tail same))
    (leaf_counts c.leaf.result _ c.leaf.ensures.nodes c.leaf.ensures.tree refl)

pub without_bangs-returns-in-True-clause-reads : goal.without_bangs-returns-in-True-clause-reads
without_bangs-returns-in-True-clause-reads t c =
    let same = c.if-accept.ensures.0 in
    let e = leaf_read c.args.braces c.args.tokens.now c.requires
    (λ q. c.if-accept.ensures.1 (q ∙ sym (ap (λ s. s.0) c.brackets-opening.ensures))) in
    goes_here c.leaf-in-True.result always
    (read_state (state_operand c.args.braces) c.args.tokens.now) c.advance-in-True.new.self
    (e ∙ part_said leaf_of (λ s. give s) always c.args.tokens.now c.advance-in-True.new.self (
      ap leaf_of (ap front (sym same) ∙ sym c.in-True.ensures),
      c.advance-in-True.ensures ∙ ap tail same,
    ))
    (leaf_counts c.leaf-in-True.result _ c.leaf-in-True.ensures.nodes
    c.leaf-in-True.ensures.tree refl)

pub without_bangs-returns-in_default-clause-reads
    : goal.without_bangs-returns-in_default-clause-reads
without_bangs-returns-in_default-clause-reads t c =
    let same = c.if-accept.ensures.0 in
    let e = leaf_read c.args.braces c.args.tokens.now c.requires
    (λ q. c.if-accept.ensures.1 (q ∙ sym (ap (λ s. s.0) c.brackets-opening.ensures))) in
    let none = no_leaf (front c.args.tokens.now)
    (λ i q. c.in_default.not-Name i (c.peek.ensures ∙ ap front same ∙ q))
    (λ q. c.in_default.not-True (c.peek.ensures ∙ ap front same ∙ q)) in
    let s = part_unsaid leaf_of (λ s. give s) c.refused.result c.args.tokens.now
    c.accept.new.self (none, same, c.refused.ensures ∙ ap (λ l. Syntax (length l)) same) in
    stops_here (read_state (state_operand c.args.braces) c.args.tokens.now) c.refused.result
    c.accept.new.self s.0 (e ∙ s.1)
