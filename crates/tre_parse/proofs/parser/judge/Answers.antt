use Rattle.std.proofs.Common.{◌≡◌, ◌≤◌, ◌-◌, List, [], ◌∷◌, length, refl, sym, ◌∙◌, ap, arith, inr, subst, rules}
use Rattle.std.specs.Prelude.{position}
use Rattle.tre_parse.specs.declared.token.Token.{Token}
use Rattle.tre_parse.specs.Front.{tokens_in}
use Rattle.tre_parse.specs.Operands.{Represents}
use Rattle.tre_parse.specs.Reader.{got}
use Rattle.tre_parse.specs.Reading.{ReadingGoes}
use Rattle.tre_parse.specs.ScannedOutcome.{offset_of}
use Rattle.tre_parse.specs.Limits.{is_past}
use Rattle.tre_parse.specs.Answers.{text_tokens_in}
use Rattle.tre_parse.specs.Unkept.{FindsUpTo}
use Rattle.tre_parse.proofs.Judging.{rest_outcome, is_whole, none_empty, first_found, empty_outcome, past_outcome, large_outcome}
use Rattle.tre_parse.proofs.Whole.{read_whole}
use Rattle.tre_parse.proofs.parser.judge.Goals as goal

none_left : (ts : List Token) → length ts ≤ 0 → ts ≡ []
none_left [] h = refl
none_left (t ∷ ts) h = absurd (omega arith)

pub returns-then-left-gt0-clause-fault : goal.returns-then-left-gt0-clause-fault
returns-then-left-gt0-clause-fault c = λ scale text read r.
    rest_outcome scale text read (text_tokens_in c.args.scan.now) r c.refused.result
    c.fault_of.result c.args.whole.now c.args.rest.now (c.requires.small scale text read r)
    c.requires.whole
    (λ q. let n = ap length q in omega (arith, n, c.left.ensures, c.if-left-gt0.true))
    c.refused.ensures c.fault_of.ensures

pub returns-in-Some-clause-fault : goal.returns-in-Some-clause-fault
returns-in-Some-clause-fault c = λ scale text read r.
    let below = c.requires.small scale text read r in
    let none = none_left c.args.rest.now (omega (arith, c.left.ensures, c.if-left-gt0.false)) in
    let words = text_tokens_in c.args.scan.now in
    let whole = c.args.whole.now in
    let P = λ (ts : List Token). ReadingGoes Represents whole (read_whole words.tokens)
    (λ e. got e ts) in
    let Q = λ (ts : List Token). FindsUpTo words.tokens ts whole.unkept in
    let reads = subst P none c.requires.whole in
    let finds = subst Q none c.requires.unkept in
    inr (empty_outcome scale text read words r whole (length words.tokens - c.in-Some.left)
    c.offset-at.result below
    (is_whole scale text read words r whole reads)
    (first_found scale text read words r whole c.in-Some.left below finds c.in-Some.is)
    (c.offset-at.ensures ∙ ap (offset_of words) c.place_of_left.ensures))

pub returns-in-Some-first_past-clause-fault : goal.returns-in-Some-first_past-clause-fault
returns-in-Some-first_past-clause-fault c = λ scale text read r.
    let below = c.requires.small scale text read r in
    let none = none_left c.args.rest.now (omega (arith, c.left.ensures, c.if-left-gt0.false)) in
    let words = text_tokens_in c.args.scan.now in
    let whole = c.args.whole.now in
    let P = λ (ts : List Token). ReadingGoes Represents whole (read_whole words.tokens)
    (λ e. got e ts) in
    let Q = λ (ts : List Token). FindsUpTo words.tokens ts whole.unkept in
    let reads = subst P none c.requires.whole in
    let finds = subst Q none c.requires.unkept in
    inr (past_outcome scale text read words r whole c.in-Some-first_past.place _ below
    (is_whole scale text read words r whole reads)
    (none_empty scale text read words r whole below finds c.in_default.is)
    (ap (λ ts. position is_past (tokens_in ts)) (sym c.deref.ensures.value)
    ∙ sym c.first_past.ensures ∙ c.in-Some-first_past.is)
    c.offset-at-in-Some-first_past.ensures)

pub returns-then-nodes-gt-NODES_MAX-clause-fault
    : goal.returns-then-nodes-gt-NODES_MAX-clause-fault
returns-then-nodes-gt-NODES_MAX-clause-fault c = λ scale text read r.
    let below = c.requires.small scale text read r in
    let none = none_left c.args.rest.now (omega (arith, c.left.ensures, c.if-left-gt0.false)) in
    let words = text_tokens_in c.args.scan.now in
    let whole = c.args.whole.now in
    let P = λ (ts : List Token). ReadingGoes Represents whole (read_whole words.tokens)
    (λ e. got e ts) in
    let Q = λ (ts : List Token). FindsUpTo words.tokens ts whole.unkept in
    let reads = subst P none c.requires.whole in
    let finds = subst Q none c.requires.unkept in
    inr (large_outcome scale text read words r whole _ below
    (is_whole scale text read words r whole reads)
    (none_empty scale text read words r whole below finds c.in_default.is)
    (ap (λ ts. position is_past (tokens_in ts)) (sym c.deref.ensures.value)
    ∙ sym c.first_past.ensures ∙ c.in_default-first_past.is) refl
    c.if-nodes-gt-NODES_MAX.true)

pub returns-clause-all : goal.returns-clause-all
returns-clause-all c = none_left _ (omega (arith, c.left.ensures, c.if-left-gt0.false))

pub returns-clause-judged : goal.returns-clause-judged
returns-clause-judged c = search (rules, is_past, tokens_in)
