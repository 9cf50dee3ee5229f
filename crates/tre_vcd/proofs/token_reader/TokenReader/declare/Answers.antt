use Rattle.std.proofs.Common.{◌≡◌, ℕ, List, Bool, length, true, false, refl, sym, ap, ◌∙◌, arith}
use Rattle.tre_vcd.specs.VcdReading.{path, scopes_at, is_signal, is_event}
use Rattle.tre_vcd.specs.Needs.{needs}
use Rattle.tre_vcd.proofs.Needing.{same-terms}
use Rattle.tre_vcd.proofs.Sectioning.{knows-neither}
use Rattle.tre_vcd.proofs.Tokens.{declares-kept, declares-longer, declares-none, kept-count, kept-tokens, none-within, signal-no_event, test-at, token-at}
use Rattle.tre_vcd.proofs.token_reader.TokenReader.declare.Goals as goal

pub returns-then-tokens-ne4-clause-knows : goal.returns-then-tokens-ne4-clause-knows
returns-then-tokens-ne4-clause-knows c = λ past word tokens holds.
    let count = kept-count _ _ tokens (kept-tokens _ tokens c.as_slice-tokens.ensures.value holds.tokens) in
    let none = λ (test : List ℕ → List ℕ → Bool).
    none-within c.args.self.now.longest test (scopes_at past) tokens
    (declares-none test (scopes_at past) tokens
    (λ four. absurd (c.if-tokens-ne4.true (count ∙ four)))) in
    knows-neither c.args.self.now past word tokens holds (none is_signal) (none is_event)

pub returns-then-is_path_longer-clause-knows : goal.returns-then-is_path_longer-clause-knows
returns-then-is_path_longer-clause-knows c = λ past word tokens holds.
    let kept = kept-tokens _ tokens c.as_slice-tokens.ensures.value holds.tokens in
    let four : length c.as_slice-tokens.result.now ≡ 4 = omega (arith, c.if-tokens-ne4.false) in
    let fourth = token-at _ _ _ 3 (omega arith) kept four c.index-tokens-3.is
    c.as_slice-reference.ensures.value in
    let longer = λ (test : List ℕ → List ℕ → Bool).
    declares-longer c.args.self.now.longest test (scopes_at past) tokens
    c.as_slice-reference.result.now (sym (kept-count _ _ tokens kept) ∙ four) fourth
    (c.is_path_longer.ensures (scopes_at past) holds.knows.past.scopes c.if-is_path_longer.true) in
    knows-neither c.args.self.now past word tokens holds (longer is_signal) (longer is_event)

pub returns-then-is_signal-clause-knows : goal.returns-then-is_signal-clause-knows
returns-then-is_signal-clause-knows c = λ past word tokens holds.
    let reader = c.args.self.now in
    let kept = kept-tokens _ tokens c.as_slice-tokens.ensures.value holds.tokens in
    let four : length c.as_slice-tokens.result.now ≡ 4 = omega (arith, c.if-tokens-ne4.false) in
    let signal = sym c.is_signal.ensures ∙ c.if-is_signal.true in
    let declares =
    declares-kept is_signal (scopes_at past) tokens c.as_slice-identifier.result.now
    c.as_slice-reference.result.now (path (scopes_at past) c.as_slice-reference.result.now)
    (token-at _ _ _ 2 (omega arith) kept four c.index-tokens-2.is
    c.as_slice-identifier.ensures.value)
    (token-at _ _ _ 3 (omega arith) kept four c.index-tokens-3.is
    c.as_slice-reference.ensures.value)
    refl (sym (kept-count _ _ tokens kept) ∙ four)
    (test-at _ _ _ is_signal true kept four c.index-tokens-0.is
    c.deref.ensures.value c.index-tokens-1.is c.deref-2.ensures.value
    signal) in
    let none =
    declares-none is_event (scopes_at past) tokens
    (λ _. (test-at _ _ _ is_event false kept four c.index-tokens-0.is
    c.deref.ensures.value c.index-tokens-1.is c.deref-2.ensures.value
    (signal-no_event c.deref.result.now c.deref-2.result.now signal))) in
    c.declare_proposition.ensures.knows reader.events past tokens holds.knows.past holds.suits
    holds.knows.needed declares none

pub returns-then-is_event-clause-knows : goal.returns-then-is_event-clause-knows
returns-then-is_event-clause-knows c = λ past word tokens holds.
    let reader = c.args.self.now in
    let kept = kept-tokens _ tokens c.as_slice-tokens.ensures.value holds.tokens in
    let four : length c.as_slice-tokens.result.now ≡ 4 = omega (arith, c.if-tokens-ne4.false) in
    let declares =
    declares-kept is_event (scopes_at past) tokens c.as_slice-identifier.result.now
    c.as_slice-reference.result.now (path (scopes_at past) c.as_slice-reference.result.now)
    (token-at _ _ _ 2 (omega arith) kept four c.index-tokens-2.is
    c.as_slice-identifier.ensures.value)
    (token-at _ _ _ 3 (omega arith) kept four c.index-tokens-3.is
    c.as_slice-reference.ensures.value)
    refl (sym (kept-count _ _ tokens kept) ∙ four)
    (test-at _ _ _ is_event true kept four c.index-tokens-0-else-is_signal.is
    c.deref-else-is_signal.ensures.value c.index-tokens-1.is c.deref-2.ensures.value
    (sym (c.is_event.ensures c.deref-2.result.now) ∙ c.if-is_event.true)) in
    let none = declares-none is_signal (scopes_at past) tokens
    (λ _. (test-at _ _ _ is_signal false kept four c.index-tokens-0.is
    c.deref.ensures.value c.index-tokens-1.is c.deref-2.ensures.value
    (sym c.is_signal.ensures ∙ c.if-is_signal.false))) in
    c.declare_event.ensures.knows reader.names past tokens holds.knows.past holds.suits
    holds.knows.needed declares none

pub returns-else-is_event-clause-knows : goal.returns-else-is_event-clause-knows
returns-else-is_event-clause-knows c = λ past word tokens holds.
    let kept = kept-tokens _ tokens c.as_slice-tokens.ensures.value holds.tokens in
    let four : length c.as_slice-tokens.result.now ≡ 4 = omega (arith, c.if-tokens-ne4.false) in
    let none = declares-none is_signal (scopes_at past) tokens
    (λ _. (test-at _ _ _ is_signal false kept four c.index-tokens-0.is
    c.deref.ensures.value c.index-tokens-1.is c.deref-2.ensures.value
    (sym c.is_signal.ensures ∙ c.if-is_signal.false))) in
    let silent = declares-none is_event (scopes_at past) tokens
    (λ _. (test-at _ _ _ is_event false kept four c.index-tokens-0-else-is_signal.is
    c.deref-else-is_signal.ensures.value c.index-tokens-1.is c.deref-2.ensures.value
    (sym (c.is_event.ensures c.deref-2.result.now) ∙ c.if-is_event.false))) in
    knows-neither c.args.self.now past word tokens holds
    (none-within c.args.self.now.longest is_signal (scopes_at past) tokens none)
    (none-within c.args.self.now.longest is_event (scopes_at past) tokens silent)

pub returns-then-is_signal-clause-same_terms : goal.returns-then-is_signal-clause-same_terms
returns-then-is_signal-clause-same_terms c = same-terms c.args.self.now.scale.exponent
    c.args.self.now.scale.unit
    (ap (λ needed. needs needed.value) c.declare_proposition.ensures.same_names) refl

pub returns-then-is_event-clause-same_terms : goal.returns-then-is_event-clause-same_terms
returns-then-is_event-clause-same_terms c = same-terms c.args.self.now.scale.exponent
    c.args.self.now.scale.unit
    (ap (λ needed. needs needed.value) c.declare_event.ensures.same_names) refl
