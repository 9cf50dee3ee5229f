use Rattle.std.proofs.Common.{◌≡◌, ◌≢◌, ◌≤◌, ℕ, false, Option, Result, Ok, Err, List, length, subst, arith, ◌∙◌, ◌∷◌, refl, sym, ap, rules}
use Rattle.std.specs.Prelude.{IfOk, IfErr}
use Rattle.std.proofs.lemmas.Result.{err_from_is_err_and}
use Rattle.std.specs.Option.{option_or}
use Rattle.tre_syntax.specs.PatternTree.{PatternTree, atom, empty, sequence, alternation, repetition, restriction}
use Rattle.tre_parse.specs.declared.token.Token.{Token}
use Rattle.tre_parse.specs.declared.token.Token.TheVariants.{LeftParen, RightParen, Star, Plus, Question, Percent, Ends}
use Rattle.tre_parse.specs.declared.cursor.Stop.{Stop}
use Rattle.tre_parse.specs.declared.cursor.Stop.TheVariants.{Syntax}
use Rattle.tre_parse.specs.declared.connective.Join.TheVariants.{Alternation}
use Rattle.tre_parse.specs.Front.{front}
use Rattle.tre_parse.specs.Joins.{joined_by, join_sign}
use Rattle.tre_parse.specs.Operands.{Operand, Represents}
use Rattle.tre_parse.specs.Reading.{ReadingGoes, IsReadAs, Passes, Stops}
use Rattle.tre_parse.specs.Parts.{IsMadeOf}
use Rattle.tre_zone.specs.Interval.{IntervalEnds}
use Rattle.tre_parse.specs.Reader.{Reading, is_behind, got, give, expect, expression_by, expression_after, operand, operand_after, unsigned, of_interval, expression_part, run, read, read_pattern}
use Rattle.tre_parse.proofs.Counts.{leaf_counts}
use Rattle.tre_parse.proofs.Equations.{not_sign, passed, unpassed, expression_begins, expression_goes_on, expression_ends, operand_begins, star_read, plus_read, question_read, percent_read, operand_ends, ends_stop, eps_read, parens_read, no_sign_behind}
use Rattle.tre_parse.proofs.Steps.{goes_past, one_shorter, goes_here, goes_first, goes_turned, goes_on, goes_joined, stops_first, stops_joined, stops_at}
use Rattle.tre_parse.specs.Unkept.{FindsUpTo, unkept_at}
use Rattle.tre_parse.proofs.Unkept.{or_none, up_to_past, up_to_end, up_to_joined, up_to_interval}
use Rattle.tre_parse.proofs.expression.+expression.Goals as goal

pub expression-returns-in_err-whole-clause-reads : goal.expression-returns-in_err-whole-clause-reads
expression-returns-in_err-whole-clause-reads t c =
    let p = err_from_is_err_and c.from_residual.result c.from_residual.ensures.1 in
    rw (p.1, p.2) (stops_first (read_pattern (expression_part c.args.how) c.args.tokens.now)
    (read_pattern (expression_by c.args.how) c.args.tokens.now) c.in_err-whole.field-0.0
    c.part.new.tokens (λ e us. read_pattern (expression_after c.args.how e) us)
    (expression_begins c.args.how c.args.tokens.now) c.in_err-whole.ensures.reads)

pub expression-loop-alloc-init : goal.expression-loop-alloc-init
expression-loop-alloc-init t c =
    search (rules, goes_first, read_pattern, expression_by, expression_after, expression_begins)

pub expression-returns-in_err-next-clause-reads : goal.expression-returns-in_err-next-clause-reads
expression-returns-in_err-next-clause-reads t c =
    let e = c.loop-alloc-test.ensures ∙ ap (λ s. s ∷ c.accept.new.self) c.sign.ensures in
    let p = err_from_is_err_and c.from_residual-in_err-next.result
    c.from_residual-in_err-next.ensures.1 in
    rw (p.1, p.2) (stops_joined (read_pattern (expression_part c.args.how) c.accept.new.self)
    c.in_err-next.field-0.0 c.part-in-loop-alloc.new.tokens
    (λ x y us. read_pattern (expression_after c.args.how (joined_by c.args.how x y)) us)
    c.loop-alloc.invariant.reads
    (λ x. ap (λ ts. read_pattern (expression_after c.args.how x) ts) e
    ∙ expression_goes_on c.args.how x c.accept.new.self) c.in_err-next.ensures.reads)

pub expression-loop-alloc-preserved : goal.expression-loop-alloc-preserved
expression-loop-alloc-preserved t c =
    search (
      rules,
      one_shorter,
      join_sign,
      goes_joined,
      read_pattern,
      expression_after,
      joined_by,
      expression_goes_on,
      up_to_joined,
    )

pub expression-returns-clause-reads : goal.expression-returns-clause-reads
expression-returns-clause-reads t c =
    search (rules, not_sign, join_sign, front, goes_on, got, expression_ends, c.args.how)

pub expression-returns-clause-unkept : goal.expression-returns-clause-unkept
expression-returns-clause-unkept t c =
    subst (λ ts. FindsUpTo c.args.tokens.now ts c.loop-alloc.whole.unkept)
    (sym c.loop-alloc-test.ensures.0) c.loop-alloc.invariant.unkept

pub primary-expression-requires : goal.primary-expression-requires
primary-expression-requires t c =
    search (rules, c.args.tokens.now, c.advance-in-LeftParen.new.self, c.in-LeftParen.ensures)

pub primary-returns-in_err-inside-in-LeftParen-clause-reads
    : goal.primary-returns-in_err-inside-in-LeftParen-clause-reads
primary-returns-in_err-inside-in-LeftParen-clause-reads t c =
    let e = goes_past c.args.tokens.now c.advance-in-LeftParen.new.self LeftParen
    c.in-LeftParen.ensures (λ q. cc) c.advance-in-LeftParen.ensures in
    let p = err_from_is_err_and c.from_residual.result c.from_residual.ensures.1 in
    rw (p.1, p.2) (stops_first
    (read_pattern (expression_by Alternation) c.advance-in-LeftParen.new.self)
    (read_pattern unsigned c.args.tokens.now) c.in_err-inside-in-LeftParen.field-0.0
    c.expression.new.tokens (λ x us. run read (expect RightParen (give x)) us)
    (ap (λ ts. read_pattern unsigned ts) e ∙ parens_read c.advance-in-LeftParen.new.self)
    c.in_err-inside-in-LeftParen.ensures.reads)

closed_reads : (r : Result Operand Stop) (inside : Operand) (q : Reading PatternTree)
    (us new : List Token)
    → ReadingGoes Represents inside q (λ x. run read (expect RightParen (give x)) us)
    → IfOk r (λ x. (x ≡ inside) × (us ≡ RightParen ∷ new))
    → IfErr r (λ s. Passes RightParen (Err s) us new) → IsReadAs Represents q r new
closed_reads (Ok x) inside q us new h ok err = search (rules, got, goes_on, passed, give)
closed_reads (Err s) inside q us new h ok err =
    let stopped = λ (t : PatternTree). unpassed RightParen (give t) s us new err in
    stops_at s new h (stopped (atom empty)).0 (λ t. (stopped t).1)

closed_shorter : (r : Result Operand Stop) (inside : Operand) (us new : List Token) (n : ℕ)
    → length us ≤ n → IfOk r (λ x. (x ≡ inside) × (us ≡ RightParen ∷ new))
    → IfOk r (λ x. length new ≤ n)
closed_shorter (Ok x) inside us new n h ok =
    let m = one_shorter us new RightParen ok.1 in omega (arith, m, h)
closed_shorter (Err s) inside us new n h ok = tt

closed_unkept : (r : Result Operand Stop) (inside : Operand) (old us new : List Token)
    → FindsUpTo old us inside.unkept → IfOk r (λ x. (x ≡ inside) × (us ≡ RightParen ∷ new))
    → IfOk r (λ x. FindsUpTo old new x.unkept)
closed_unkept (Ok x) inside old us new h ok =
    up_to_end RightParen old us new inside.unkept x.unkept h ok.1 (λ q. cc)
    (ap (λ (y : Operand). y.unkept) ok.0)
closed_unkept (Err s) inside old us new h ok = tt

pub primary-returns-in_ok-inside-in-LeftParen-clause-reads
    : goal.primary-returns-in_ok-inside-in-LeftParen-clause-reads
primary-returns-in_ok-inside-in-LeftParen-clause-reads t c =
    let e = goes_past c.args.tokens.now c.advance-in-LeftParen.new.self LeftParen
    c.in-LeftParen.ensures (λ q. cc) c.advance-in-LeftParen.ensures in
    closed_reads c.close.result c.in_ok-inside-in-LeftParen.inside
    (read_pattern unsigned c.args.tokens.now) c.expression.new.tokens c.close.new.self
    (goes_first (read_pattern unsigned c.args.tokens.now)
    (λ x us. run read (expect RightParen (give x)) us)
    (ap (λ ts. read_pattern unsigned ts) e ∙ parens_read c.advance-in-LeftParen.new.self)
    c.in_ok-inside-in-LeftParen.ensures.reads) c.close.ensures.ok c.close.ensures.err

pub primary-returns-in_ok-inside-in-LeftParen-clause-shorter
    : goal.primary-returns-in_ok-inside-in-LeftParen-clause-shorter
primary-returns-in_ok-inside-in-LeftParen-clause-shorter t c =
    let e = goes_past c.args.tokens.now c.advance-in-LeftParen.new.self LeftParen
    c.in-LeftParen.ensures (λ q. cc) c.advance-in-LeftParen.ensures in
    let n = one_shorter c.args.tokens.now c.advance-in-LeftParen.new.self LeftParen e in
    closed_shorter c.close.result c.in_ok-inside-in-LeftParen.inside c.expression.new.tokens
    c.close.new.self (length c.args.tokens.now)
    (omega (arith, n, c.in_ok-inside-in-LeftParen.ensures.shorter)) c.close.ensures.ok

pub primary-returns-in_ok-inside-in-LeftParen-clause-unkept
    : goal.primary-returns-in_ok-inside-in-LeftParen-clause-unkept
primary-returns-in_ok-inside-in-LeftParen-clause-unkept t c =
    let e = goes_past c.args.tokens.now c.advance-in-LeftParen.new.self LeftParen
    c.in-LeftParen.ensures (λ q. cc) c.advance-in-LeftParen.ensures in
    closed_unkept c.close.result c.in_ok-inside-in-LeftParen.inside c.args.tokens.now
    c.expression.new.tokens c.close.new.self
    (up_to_past LeftParen c.args.tokens.now c.advance-in-LeftParen.new.self
    c.expression.new.tokens c.in_ok-inside-in-LeftParen.inside.unkept e (λ q. cc)
    c.in_ok-inside-in-LeftParen.ensures.unkept) c.close.ensures.ok

pub primary-returns-in-Eps-clause-unkept : goal.primary-returns-in-Eps-clause-unkept
primary-returns-in-Eps-clause-unkept t c =
    search (rules, c.args.tokens.now, c.advance.new.self, c.in-Eps.ensures, c.advance.ensures)

pub primary-returns-in-Eps-clause-reads : goal.primary-returns-in-Eps-clause-reads
primary-returns-in-Eps-clause-reads t c =
    search (rules, goes_past, goes_here, atom, empty, read_pattern, unsigned, eps_read, leaf_counts)

pub operand-returns-in_err-whole-clause-reads : goal.operand-returns-in_err-whole-clause-reads
operand-returns-in_err-whole-clause-reads t c =
    let p = err_from_is_err_and c.from_residual.result c.from_residual.ensures.1 in
    rw (p.1, p.2) (stops_first (read_pattern unsigned c.args.tokens.now)
    (read_pattern operand c.args.tokens.now) c.in_err-whole.field-0.0 c.primary.new.tokens
    (λ x us. read_pattern (operand_after x) us) (operand_begins c.args.tokens.now)
    c.in_err-whole.ensures.reads)

pub operand-loop-tokens-init : goal.operand-loop-tokens-init
operand-loop-tokens-init t c =
    search (rules, goes_first, read_pattern, operand, operand_after, operand_begins)

pub operand-loop-tokens-preserved-in-Star : goal.operand-loop-tokens-preserved-in-Star
operand-loop-tokens-preserved-in-Star t c =
    let e = goes_past c.loop-tokens.tokens c.advance.new.self Star c.in-Star.ensures (λ q. cc)
    c.advance.ensures in
    let n = one_shorter c.loop-tokens.tokens c.advance.new.self Star e in
    record {
      reads = goes_turned c.in_ok-whole-in-Star.whole
          (λ x. read_pattern (operand_after x) c.advance.new.self) repetition
          c.loop-tokens.invariant.reads c.in_ok-whole-in-Star.ensures.stands
          (λ x. ap (λ ts. read_pattern (operand_after x) ts) e ∙ star_read x c.advance.new.self);
      shorter = omega (arith, n, c.loop-tokens.invariant.shorter);
      unkept = up_to_end Star c.args.tokens.now c.loop-tokens.tokens c.advance.new.self
          c.loop-tokens.whole.unkept c.in_ok-whole-in-Star.whole.unkept
          c.loop-tokens.invariant.unkept e (λ q. cc) c.in_ok-whole-in-Star.ensures.unkept;
    }

pub operand-loop-tokens-preserved-in-Plus : goal.operand-loop-tokens-preserved-in-Plus
operand-loop-tokens-preserved-in-Plus t c =
    let e = goes_past c.loop-tokens.tokens c.advance-in-Plus.new.self Plus c.in-Plus.ensures
    (λ q. cc) c.advance-in-Plus.ensures in
    let n = one_shorter c.loop-tokens.tokens c.advance-in-Plus.new.self Plus e in
    record {
      reads = goes_turned c.in_ok-whole-in-Plus.whole
          (λ x. read_pattern (operand_after x) c.advance-in-Plus.new.self)
          (λ x. sequence x (repetition x)) c.loop-tokens.invariant.reads
          c.in_ok-whole-in-Plus.ensures.stands
          (λ x. ap (λ ts. read_pattern (operand_after x) ts) e
          ∙ plus_read x c.advance-in-Plus.new.self);
      shorter = omega (arith, n, c.loop-tokens.invariant.shorter);
      unkept = up_to_end Plus c.args.tokens.now c.loop-tokens.tokens c.advance-in-Plus.new.self
          c.loop-tokens.whole.unkept c.in_ok-whole-in-Plus.whole.unkept
          c.loop-tokens.invariant.unkept e (λ q. cc) c.in_ok-whole-in-Plus.ensures.unkept;
    }

pub operand-loop-tokens-preserved-in-Question : goal.operand-loop-tokens-preserved-in-Question
operand-loop-tokens-preserved-in-Question t c =
    let e = goes_past c.loop-tokens.tokens c.advance-in-Question.new.self Question
    c.in-Question.ensures (λ q. cc) c.advance-in-Question.ensures in
    let n = one_shorter c.loop-tokens.tokens c.advance-in-Question.new.self Question e in
    record {
      reads = goes_turned c.in_ok-whole-in-Question.whole
          (λ x. read_pattern (operand_after x) c.advance-in-Question.new.self)
          (λ x. alternation x (atom empty)) c.loop-tokens.invariant.reads
          (λ x h. c.in_ok-whole-in-Question.ensures.stands x (atom empty) h
          (leaf_counts c.leaf-empty.result _ c.leaf-empty.ensures.nodes
          c.leaf-empty.ensures.tree refl))
          (λ x. ap (λ ts. read_pattern (operand_after x) ts) e
          ∙ question_read x c.advance-in-Question.new.self);
      shorter = omega (arith, n, c.loop-tokens.invariant.shorter);
      unkept = up_to_end Question c.args.tokens.now c.loop-tokens.tokens
          c.advance-in-Question.new.self c.loop-tokens.whole.unkept
          c.in_ok-whole-in-Question.whole.unkept c.loop-tokens.invariant.unkept e (λ q. cc)
          (c.in_ok-whole-in-Question.ensures.unkept
          ∙ ap (option_or c.loop-tokens.whole.unkept) c.leaf-empty.ensures.unkept
          ∙ or_none c.loop-tokens.whole.unkept);
    }

percent_err : (r : Result (Option IntervalEnds) Stop) (s : Stop) (us new : List Token)
    → IsReadAs IsMadeOf (read of_interval us) r new → r ≡ Err s → Stops (read of_interval us) s new
percent_err r s us new h e = search (rules, read, of_interval)

percent_ok : (r : Result (Option IntervalEnds) Stop) (w : Option IntervalEnds) (us new : List Token)
    → IsReadAs IsMadeOf (read of_interval us) r new → r ≡ Ok w
    → ReadingGoes IsMadeOf w (read of_interval us) (λ ends. got ends new)
percent_ok r w us new h e = search (rules, read, of_interval)

percent_shorter : (r : Result (Option IntervalEnds) Stop) (w : Option IntervalEnds)
    (us new : List Token)
    → IfOk r (λ x. length new ≤ length us) → r ≡ Ok w → length new ≤ length us
percent_shorter r w us new h e =
    let P = λ (q : Result (Option IntervalEnds) Stop). IfOk q (λ x. length new ≤ length us) in
    subst P e h

pub operand-returns-in_err-within-in-Percent-clause-reads
    : goal.operand-returns-in_err-within-in-Percent-clause-reads
operand-returns-in_err-within-in-Percent-clause-reads t c =
    let e = goes_past c.loop-tokens.tokens c.advance-in-Percent.new.self Percent
    c.in-Percent.ensures (λ q. cc) c.advance-in-Percent.ensures in
    let p = err_from_is_err_and c.from_residual-in_err-within-in-Percent.result
    c.from_residual-in_err-within-in-Percent.ensures.1 in
    rw (p.1, p.2) (stops_joined (read of_interval c.advance-in-Percent.new.self)
    c.in_err-within-in-Percent.field-0.0 c.interval.new.tokens
    (λ x ends us. read_pattern (operand_after (restriction x ends)) us)
    c.loop-tokens.invariant.reads
    (λ x. ap (λ ts. read_pattern (operand_after x) ts) e
    ∙ percent_read x c.advance-in-Percent.new.self)
    (percent_err c.interval.result c.in_err-within-in-Percent.field-0.0
    c.advance-in-Percent.new.self c.interval.new.tokens c.interval.ensures.reads
    c.in_err-within-in-Percent.ensures.err))

pub operand-loop-tokens-preserved : goal.operand-loop-tokens-preserved
operand-loop-tokens-preserved t c =
    let e = goes_past c.loop-tokens.tokens c.advance-in-Percent.new.self Percent
    c.in-Percent.ensures (λ q. cc) c.advance-in-Percent.ensures in
    let n = one_shorter c.loop-tokens.tokens c.advance-in-Percent.new.self Percent e in
    let us = c.advance-in-Percent.new.self in
    let w = c.in_ok-within-in-Percent.within in
    let same = c.in_ok-within-in-Percent.ensures in
    let reads = percent_ok c.interval.result w us c.interval.new.tokens c.interval.ensures.reads
    same.first in
    let short = percent_shorter c.interval.result w us c.interval.new.tokens
    c.interval.ensures.shorter same.first in
    record {
      reads = goes_joined c.in_ok-whole-in-Percent.whole
          (λ x. read_pattern (operand_after x) c.interval.new.tokens) restriction
          (λ x ends us. read_pattern (operand_after (restriction x ends)) us)
          c.loop-tokens.invariant.reads reads
          (λ x ends h m. c.in_ok-whole-in-Percent.ensures.stands x ends m
          (subst (λ y. Represents y x) (sym same.second) h))
          (λ x. ap (λ ts. read_pattern (operand_after x) ts) e ∙ percent_read x us)
          (λ x ends. refl);
      shorter = omega (arith, n, short, c.loop-tokens.invariant.shorter);
      unkept = up_to_joined c.args.tokens.now c.loop-tokens.tokens c.interval.new.tokens
          c.loop-tokens.whole.unkept (unkept_at w (length us)) c.in_ok-whole-in-Percent.whole.unkept
          c.loop-tokens.invariant.unkept
          (subst (λ ts. FindsUpTo ts c.interval.new.tokens (unkept_at w (length us)))
          (sym e) (up_to_interval w us c.interval.new.tokens reads))
          (c.in_ok-whole-in-Percent.ensures.unkept
          ∙ ap (λ (y : Operand). option_or y.unkept (unkept_at w c.left-at.result)) same.second
          ∙ ap (λ k. option_or c.loop-tokens.whole.unkept (unkept_at w k)) c.left-at.ensures);
    }

ended_reads : (r : Result Operand Stop) (whole : Operand) (q : Reading PatternTree)
    (ts : List Token) → is_behind (front ts) ≡ false
    → ReadingGoes Represents whole q (λ x. read_pattern (operand_after x) ts)
    → IfOk r (λ x. (x ≡ whole) × (front ts ≢ Ends))
    → IfErr r (λ s. (front ts ≡ Ends) × (s ≡ Syntax (length ts))) → IsReadAs Represents q r ts
ended_reads (Ok x) whole q ts none h ok err =
    let P = λ (y : Operand). ReadingGoes Represents y q (λ t. got t ts) in
    subst P (sym ok.0) (goes_on (λ t. got t ts) h (λ t. operand_ends t ts none ok.1))
ended_reads (Err s) whole q ts none h ok err =
    stops_at s ts h err.1 (λ t. ends_stop t ts err.0)

ended_unkept : (r : Result Operand Stop) (whole : Operand) (old ts : List Token)
    → FindsUpTo old ts whole.unkept → IfOk r (λ x. (x ≡ whole) × (front ts ≢ Ends))
    → IfOk r (λ x. FindsUpTo old ts x.unkept)
ended_unkept (Ok x) whole old ts h ok =
    let P = λ (y : Operand). FindsUpTo old ts y.unkept in subst P (sym ok.0) h
ended_unkept (Err s) whole old ts h ok = tt

ended_shorter : (r : Result Operand Stop) (ts old : List Token) → length ts ≤ length old
    → IfOk r (λ x. length ts ≤ length old)
ended_shorter (Ok x) ts old h = h
ended_shorter (Err s) ts old h = tt

pub operand-returns-in_default-clause-reads : goal.operand-returns-in_default-clause-reads
operand-returns-in_default-clause-reads t c =
    let none = no_sign_behind (front c.loop-tokens.tokens)
    (λ q. c.in_default.not-Star (c.peek.ensures ∙ q))
    (λ q. c.in_default.not-Plus (c.peek.ensures ∙ q))
    (λ q. c.in_default.not-Question (c.peek.ensures ∙ q))
    (λ q. c.in_default.not-Percent (c.peek.ensures ∙ q)) in
    ended_reads c.not_ended.result c.loop-tokens.whole (read_pattern operand c.args.tokens.now)
    c.loop-tokens.tokens none c.loop-tokens.invariant.reads c.not_ended.ensures.ok
    c.not_ended.ensures.err

pub operand-returns-in_default-clause-shorter : goal.operand-returns-in_default-clause-shorter
operand-returns-in_default-clause-shorter t c = ended_shorter _ _ _ c.loop-tokens.invariant.shorter

pub operand-returns-in_default-clause-unkept : goal.operand-returns-in_default-clause-unkept
operand-returns-in_default-clause-unkept t c =
    ended_unkept c.not_ended.result c.loop-tokens.whole c.args.tokens.now c.loop-tokens.tokens
    c.loop-tokens.invariant.unkept c.not_ended.ensures.ok
