use Rattle.std.proofs.Common.{◌∷◌, [], refl, sym, ap, ◌∙◌, subst, rules}
use Rattle.tre_parts.specs.Walk.{TellsPart}
use Rattle.tre_vcd.specs.VcdReading.{Open, scalar, change, nothing, token_at}
use Rattle.tre_vcd.specs.Sections.{Holds, asked_of_reader, terms_kept}
use Rattle.tre_vcd.proofs.Bits.{bit-says, values-say, values-read, commands-read, commands-say}
use Rattle.tre_vcd.proofs.Changing.{past-changed}
use Rattle.tre_vcd.proofs.Reading.{says-empty, says-letter, is-nothing, is-section, is-comment, is-vector, is-number}
use Rattle.tre_vcd.proofs.Undefined.{signals-undefined}
use Rattle.tre_vcd.proofs.token_reader.TokenReaderPartReader.read.Goals as goal

pub returns-in_default-clause-tells : goal.returns-in_default-clause-tells
returns-in_default-clause-tells c = search (rules, says-empty, terms_kept, c.args.part.now)

pub returns-then-is_empty-clause-tells : goal.returns-then-is_empty-clause-tells
returns-then-is_empty-clause-tells c = λ state holds.
    let reader = c.args.self.now in
    let letter = c.in-Some.first.now in
    let rest = c.in-Some.rest.now in
    let reads = values-read reader state holds
    (sym c.reads_values.ensures ∙ c.if-reads_values.true) in
    record {
      state = record {
        past = change scalar rest (letter ∷ []) ∷ state.past;
        inside = nothing;
      };
      says = bit-says (terms_kept reader) state c.args.part.now letter rest
          c.in-Some.ensures.cases.0 (sym c.is_bit.ensures ∙ c.if-is_bit.true)
          (sym c.is_empty.ensures ∙ c.if-not-is_empty.true) reads.defined reads.open_none;
      is_held = record {
        knows = past-changed reader state.past scalar rest (letter ∷ []) c.change_scalar.new.self
            reader.signals
            (c.change_scalar.ensures.knows reader.names reader.events state.past holds.knows.past
            reads.defined (letter ∷ []) refl)
            (signals-undefined reader.names reader.events reader.signals state.past _
            (sym c.is_empty-then-not-is_empty.ensures ∙ c.if-is_empty.true)
            holds.knows.signals) refl holds.knows;
        inside = reads.stays;
        tokens = reads.tokens;
        suits = tt;
        letters = tt;
      };
    }

pub returns-then-reads_values-clause-tells : goal.returns-then-reads_values-clause-tells
returns-then-reads_values-clause-tells c = λ state holds.
    let terms = terms_kept c.args.self.now in
    let reads = values-read c.args.self.now state holds
    (sym c.reads_values.ensures ∙ c.if-reads_values.true) in
    subst (λ said. TellsPart (asked_of_reader c.args.self.now) said (Holds c.read_value.new.self)
    c.read_value.result)
    (sym (values-say terms state c.args.part.now c.in-Some.first.now c.in-Some.rest.now
    c.in-Some.ensures.cases.0 reads.defined reads.open_none))
    (c.read_value.ensures.tells state.past
    (subst (λ (o : Open). Holds c.args.self.now (record { past = state.past; inside = o }))
    reads.open_none holds) reads.defined)

pub returns-in-Nothing-clause-tells : goal.returns-in-Nothing-clause-tells
returns-in-Nothing-clause-tells c = λ state holds.
    let terms = terms_kept c.args.self.now in
    let part = c.args.part.now in
    let is = is-nothing state.inside (sym holds.inside ∙ c.in-Nothing.is) in
    let defined = commands-read c.args.self.now state holds
    (sym c.reads_values.ensures ∙ c.if-reads_values.false) c.in-Nothing.is in
    subst (λ said. TellsPart (asked_of_reader c.args.self.now) said (Holds c.read_command.new.self)
    c.read_command.result)
    (sym (says-letter terms state part c.in-Some.first.now c.in-Some.rest.now
    c.in-Some.ensures.cases.0
    ∙ (ap (λ (o : Open). token_at terms state.past o part) is
    ∙ commands-say terms state.past part defined)))
    (c.read_command.ensures.tells state.past
    (subst (λ (o : Open). Holds c.args.self.now (record { past = state.past; inside = o })) is
    holds) defined)

pub returns-in-Comment-clause-tells : goal.returns-in-Comment-clause-tells
returns-in-Comment-clause-tells c =
    search (rules, is-comment, says-letter, c.args.self.now, c.args.part.now, c.in-Some.first.now)

pub returns-in-Vector-clause-tells : goal.returns-in-Vector-clause-tells
returns-in-Vector-clause-tells c =
    search (rules, is-vector, says-letter, c.args.self.now, c.args.part.now, c.in-Vector.value)

pub returns-in-Number-clause-tells : goal.returns-in-Number-clause-tells
returns-in-Number-clause-tells c =
    search (rules, is-number, says-letter, c.args.self.now, c.args.part.now, c.in-Some.first.now)

pub returns-in-Section-clause-tells : goal.returns-in-Section-clause-tells
returns-in-Section-clause-tells c = λ state holds.
    let terms = terms_kept c.args.self.now in
    let part = c.args.part.now in
    let found = is-section state.inside c.in-Section.command
    (sym holds.inside ∙ c.in-Section.is) in
    subst (λ said. TellsPart (asked_of_reader c.args.self.now) said (Holds c.read_inside.new.self)
    c.read_inside.result)
    (sym (says-letter terms state part c.in-Some.first.now c.in-Some.rest.now
    c.in-Some.ensures.cases.0
    ∙ ap (λ (o : Open). token_at terms state.past o part) found.is))
    (c.read_inside.ensures.tells state.past found.word found.tokens
    (subst (λ (o : Open). Holds c.args.self.now (record { past = state.past; inside = o }))
    found.is holds) found.command_is)
