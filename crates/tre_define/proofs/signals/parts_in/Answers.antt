use Rattle.std.proofs.Common.{◌≡◌, ◌<◌, Some, take, drop, sym, subst, ap, ◌∙◌, arith, rules}
use Rattle.std.proofs.lemmas.List.{take_rest}
use Rattle.std.proofs.lemmas.Option.{none-some}
use Rattle.tre_state.specs.Name.{continues_name, IsName}
use Rattle.tre_define.specs.Behind.{ReadBehind, read_behind}
use Rattle.tre_define.specs.Pieces.{behind_equals, behind_piece, past_spaces}
use Rattle.tre_define.specs.Signals.{Spells, signal_len}
use Rattle.tre_define.proofs.Cutting.{equals-is}
use Rattle.tre_define.proofs.SignalParts.{parts-are, signal-text}
use Rattle.tre_define.proofs.SomeSignals.{cut-spells, no-reads, no-signal, other-read}
use Rattle.tre_define.proofs.ReadsOf.{nothing-read, read-is}
use Rattle.tre_define.proofs.signals.parts_in.Goals as goal

pub returns-in_err-name-clause-none : goal.returns-in_err-name-clause-none
returns-in_err-name-clause-none c =
    rw c.from_residual.ensures (λ defined is.
    let parts = parts-are c.args.text.now defined is in
    c.in_err-name.ensures.none
    (subst IsName (sym (c.next_word.ensures.run ∙ parts.name)) is.name))

pub returns-in_err-behind_equals-clause-none : goal.returns-in_err-behind_equals-clause-none
returns-in_err-behind_equals-clause-none c =
    rw c.from_residual-in_err-behind_equals.ensures (λ defined is.
    let parts = parts-are c.args.text.now defined is in
    none-some parts.after
    (c.in_err-behind_equals.ensures ∙ ap behind_equals (c.next_word.ensures.rest ∙ parts.equals)))

pub returns-then-len-eq0-clause-none : goal.returns-then-len-eq0-clause-none
returns-then-len-eq0-clause-none c defined is =
    let text = c.args.text.now in
    let after = c.in_ok-behind_equals.field-0.now in
    let found : behind_equals (behind_piece continues_name text) ≡ Some after =
    ap behind_equals (sym c.next_word.ensures.rest) ∙ sym c.in_ok-behind_equals.ensures in
    let len : c.signal_len-len.result ≡ signal_len (past_spaces after) =
    c.signal_len-len.ensures.len ∙ ap signal_len c.skip_spaces-rest.ensures in
    no-signal text after defined is found
    (λ some. absurd (omega (arith, some, len, c.if-len-eq0.true)))

pub returns-in_default-clause-none : goal.returns-in_default-clause-none
returns-in_default-clause-none c defined is =
    search (rules, past_spaces, behind_equals, behind_piece, continues_name, signal-text, equals-is)

pub returns-in_err-behind-clause-none : goal.returns-in_err-behind-clause-none
returns-in_err-behind-clause-none c =
    rw c.from_residual-in_err-behind.ensures (λ defined is.
    let text = c.args.text.now in
    let after = c.in_ok-behind_equals.field-0.now in
    let rest = past_spaces after in
    let found : behind_equals (behind_piece continues_name text) ≡ Some after =
    ap behind_equals (sym c.next_word.ensures.rest) ∙ sym c.in_ok-behind_equals.ensures in
    let len : c.signal_len-len.result ≡ signal_len rest =
    c.signal_len-len.ensures.len ∙ ap signal_len c.skip_spaces-rest.ensures in
    let behind = take_rest c.skip_spaces-rest.result.now c.signal_len-len.result
    ∙ ap (λ n. drop n c.skip_spaces-rest.result.now) len
    ∙ ap (drop (signal_len rest)) c.skip_spaces-rest.ensures in
    nothing-read (drop (signal_len rest) rest)
    (ap read_behind (sym behind) ∙ sym c.in_err-behind.ensures) defined.reads defined.other
    (no-reads text after defined is found))

pub returns-in_default-from_utf8-clause-none : goal.returns-in_default-from_utf8-clause-none
returns-in_default-from_utf8-clause-none c defined is =
    let text = c.args.text.now in
    let after = c.in_ok-behind_equals.field-0.now in
    let rest = past_spaces after in
    let read : ReadBehind = record {
      reads = c.in_ok-behind.behind.reads;
      other = c.in_ok-behind.behind.other.now;
    } in
    let found : behind_equals (behind_piece continues_name text) ≡ Some after =
    ap behind_equals (sym c.next_word.ensures.rest) ∙ sym c.in_ok-behind_equals.ensures in
    let len : c.signal_len-len.result ≡ signal_len rest =
    c.signal_len-len.ensures.len ∙ ap signal_len c.skip_spaces-rest.ensures in
    let behind = take_rest c.skip_spaces-rest.result.now c.signal_len-len.result
    ∙ ap (λ n. drop n c.skip_spaces-rest.result.now) len
    ∙ ap (drop (signal_len rest)) c.skip_spaces-rest.ensures in
    absurd (c.in_default-from_utf8.ensures.cases.0
    (other-read text after read c.requires
    (subst IsName c.next_word.ensures.run c.in_ok-name.ensures.some.1) found
    (ap read_behind (sym behind) ∙ sym c.in_ok-behind.ensures)))

pub returns-clause-some : goal.returns-clause-some
returns-clause-some c =
    let text = c.args.text.now in
    let after = c.in_ok-behind_equals.field-0.now in
    let rest = past_spaces after in
    let read : ReadBehind = record {
      reads = c.in_ok-behind.behind.reads;
      other = c.in_ok-behind.behind.other.now;
    } in
    let found : behind_equals (behind_piece continues_name text) ≡ Some after =
    ap behind_equals (sym c.next_word.ensures.rest) ∙ sym c.in_ok-behind_equals.ensures in
    let len : c.signal_len-len.result ≡ signal_len rest =
    c.signal_len-len.ensures.len ∙ ap signal_len c.skip_spaces-rest.ensures in
    let cut = ap (λ n. take n c.skip_spaces-rest.result.now) len
    ∙ ap (take (signal_len rest)) c.skip_spaces-rest.ensures in
    let behind = take_rest c.skip_spaces-rest.result.now c.signal_len-len.result
    ∙ ap (λ n. drop n c.skip_spaces-rest.result.now) len
    ∙ ap (drop (signal_len rest)) c.skip_spaces-rest.ensures in
    let named = c.in_ok-name.ensures.some in
    let some : 0 < signal_len rest = omega (arith, len, c.if-len-eq0.false) in
    let is = read-is (drop (signal_len rest) rest) read
    (ap read_behind (sym behind) ∙ sym c.in_ok-behind.ensures) in
    let spelt = cut-spells text after read.reads read.other found some is
    (subst IsName c.next_word.ensures.run named.1) in
    let name_is = named.0 ∙ c.next_word.ensures.run in
    let signal_is = c.in-Ok.ensures.cases.0 ∙ cut in
    subst (λ other. Spells text (record {
      name = c.in_ok-name.name.now;
      signal = c.in-Ok.signal.now;
      reads = read.reads;
      other = other;
    })) (sym c.in-Ok-from_utf8.ensures.cases.0)
    (subst (λ signal. Spells text (record {
      name = c.in_ok-name.name.now;
      signal = signal;
      reads = read.reads;
      other = read.other;
    })) (sym signal_is)
    (subst (λ name. Spells text (record {
      name = name;
      signal = take (signal_len rest) rest;
      reads = read.reads;
      other = read.other;
    })) (sym name_is) spelt))
