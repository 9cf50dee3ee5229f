use Rattle.std.proofs.Common.{◌≡◌, ℕ, List, ◌∷◌, Err, ap, subst, sym, ◌∙◌, rules}
use Rattle.tre_text.specs.TextReading.{fields_among, fields_say, past_at}
use Rattle.tre_trace.specs.Reading.{Vocabulary}
use Rattle.tre_text.proofs.Entries.{no_comment, says-nothing, says-comment, says-fields}
use Rattle.tre_text.proofs.Heads.{no_name-behind, events-behind, segment-behind}
use Rattle.tre_text.proofs.line.read_line.Goals as goal

abbrev asked_of : List (List ℕ) → List (List ℕ) → Vocabulary
asked_of names events = record { names = names; events = events }

pub returns-in_default : goal.returns-in_default
returns-in_default c = λ past end.
    says-nothing _ _ _ (ap fields_among (sym c.without_return.ensures) ∙ c.in_default.ensures.none)

pub returns-then-first-eq35 : goal.returns-then-first-eq35
returns-then-first-eq35 c =
    search (rules, says-comment, fields_among, c.in-Some.first.now, c.in-Some.ensures.some)

pub head_of-requires-clause-no_comment : goal.head_of-requires-clause-no_comment
head_of-requires-clause-no_comment c = no_comment _ c.in-Some.ensures.some c.if-first-eq35.false

pub returns-in-Err : goal.returns-in-Err
returns-in-Err c = λ past end. (
  says-fields _ _ _ _ (ap fields_among (sym c.without_return.ensures) ∙ c.in-Some.ensures.field)
      ∙ subst (λ at. fields_say c.args.scale (past_at at past.said)
      (c.in-Some.first.now ∷ fields_among c.in-Some.fields.now) ≡ Err c.in-Err.kind) (sym end)
      (c.in-Err.ensures.0 past.said
      (fields_among c.in-Some.fields.now)),
  c.in-Err.ensures.1,
)

pub returns-in_default-read_names : goal.returns-in_default-read_names
returns-in_default-read_names c = λ past end. (
  no_name-behind (asked_of c.args.names.now c.args.events.now) _ past c.args.known end _
      c.in-Some.first.now _ (ap fields_among (sym c.without_return.ensures)
      ∙ c.in-Some.ensures.field)
      (no_comment c.in-Some.first.now c.in-Some.ensures.some c.if-first-eq35.false)
      c.in-Ok.head c.in-Ok.ensures c.in_default-read_names.ensures.other,
  λ e. cc,
)

pub returns-in-Events : goal.returns-in-Events
returns-in-Events c = λ past end.
    events-behind (asked_of c.args.names.now c.args.events.now) _ past c.args.known end _
    c.in-Some.first.now _ (ap fields_among (sym c.without_return.ensures)
    ∙ c.in-Some.ensures.field)
    (no_comment c.in-Some.first.now c.in-Some.ensures.some c.if-first-eq35.false)
    c.in-Ok.head c.in-Ok.ensures _
    (rw (sym c.list_of.ensures, sym c.said_of.ensures) c.in-Some-read_names.ensures.value)
    c.in-Some-read_names.ensures.names c.in-Events.is

pub returns-in-Entry : goal.returns-in-Entry
returns-in-Entry c = λ past end.
    segment-behind (asked_of c.args.names.now c.args.events.now) _ past c.args.known end _
    c.in-Some.first.now _ (ap fields_among (sym c.without_return.ensures)
    ∙ c.in-Some.ensures.field)
    (no_comment c.in-Some.first.now c.in-Some.ensures.some c.if-first-eq35.false)
    c.in-Ok.head c.in-Ok.ensures _
    (rw (sym c.list_of.ensures, sym c.said_of.ensures) c.in-Some-read_names.ensures.value)
    c.in-Some-read_names.ensures.names c.in-Entry.len c.in-Entry.is
