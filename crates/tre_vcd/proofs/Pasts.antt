-- What is known of the past, one statement later.
use Rattle.std.proofs.Common.{◌≡◌, ◌≢◌, ℕ, ◌==◌, ◌≤◌, ◌&&◌, not, Bool, true, false, true≢false, None, Some, List, ◌∷◌, [], Option, length, get_or, refl, sym, ap, ◌∙◌, arith, if◌then◌else◌, rules}
use Rattle.std.specs.Int.{bit_at}
use Rattle.std.proofs.lemmas.Bool.Decides.{nat_tests}
use Rattle.std.specs.Option.{is_some, option_and_then, option_map, option_or, option_map_or}
use Rattle.std.specs.Prelude.{All}
use Rattle.tre_trace.specs.Reading.{Vocabulary}
use Rattle.tre_vcd.specs.VcdReading.{Form, Statement, var, time, change, scalar, is_defined, time_at, scopes_at, timescale, timescale_at, in_dump, letters_at, happened_at, happened_in, latest, is_signal, is_event, path}
use Rattle.tre_vcd.specs.Brief.{IsBriefOf}
use Rattle.tre_vcd.specs.declared.brief.Brief.{Brief}
use Rattle.tre_vcd.specs.Kept.{ends_true, identifier_at, identifier_of, value_at, KnowsOfPast, IsQuiet, AreScopes, AreKnown, KeepsNames, AreHaving, AreNoLonger, Declares, DeclaresNone, DeclaresNoneWithin, and_declared, valuation_behind, events_at}
use Rattle.tre_vcd.specs.Timescale.{tick_of}
use Rattle.tre_vcd.specs.declared.scopes.Scopes.{Scopes}
use Rattle.tre_vcd.specs.declared.timescale.Tick.{Tick}
use Rattle.tre_vcd.specs.declared.past.Past.{Past}
use Rattle.tre_vcd.specs.declared.variables.Variables.{Variables}
use Rattle.tre_vcd.proofs.Knowing.{keeps-among, keeps-same, option_or-none}
use Rattle.tre_vcd.proofs.Valuing.{mask-same, mask-quiet, mask-empty, mask-changed}

abbrev value_of : Option (List ℕ) → Bool
value_of letters = option_map_or ends_true letters false

-- Looking back from two pasts, the same is found.
pub record LooksSame (past now : List Statement) : Type 0 where
  pub identifiers : (test : List ℕ → List ℕ → Bool) (name : List ℕ) → identifier_of test now name
      ≡ identifier_of test past name
  pub values : (identifier : List ℕ) → letters_at now identifier ≡ letters_at past identifier
  pub events : (identifier : List ℕ) → happened_at now identifier ≡ happened_at past identifier

values-same : (past now : List Statement) (names : List (List ℕ)) → LooksSame past now
    → valuation_behind past names ≡ valuation_behind now names
values-same past now names same =
    mask-same (identifier_of is_signal past) (identifier_of is_signal now) (value_at past)
    (value_at now) 0 names (same.identifiers is_signal)
    (λ identifier. ap value_of (same.values identifier))

events-same : (past now : List Statement) (names : List (List ℕ)) → LooksSame past now
    → events_at past names ≡ events_at now names
events-same past now names same =
    mask-same (identifier_of is_event past) (identifier_of is_event now) (happened_at past)
    (happened_at now) 0 names (same.identifiers is_event) same.events

quiet-same : (past now : List Statement) → LooksSame past now → IsQuiet past → IsQuiet now
quiet-same past now same quiet = record {
  values = λ identifier. same.values identifier ∙ quiet.values identifier;
  events = λ identifier. same.events identifier ∙ quiet.events identifier;
}

-- where it is told anew which identifiers are short
pub knows-brief : (names event_names : List (List ℕ)) (kept : Past) (past : List Statement)
    (brief : Brief) → IsBriefOf (identifier_at kept.propositions.list.items) brief
    → KnowsOfPast names event_names kept past
    → KnowsOfPast names event_names (record kept { brief = brief }) past
knows-brief names event_names kept past brief told known = search rules

-- a statement that says nothing of names and times
pub knows-later : (names event_names : List (List ℕ)) (kept : Past) (past : List Statement)
    (statement : Statement)
    (defined dumps : Bool) (scopes : Scopes) (tick : Option (Option Tick))
    → defined ≡ is_defined (statement ∷ past)
    → dumps ≡ in_dump (statement ∷ past) → time_at (statement ∷ past) ≡ time_at past
    → LooksSame past (statement ∷ past)
    → (is_defined (statement ∷ past) ≡ false → is_defined past ≡ false)
    → (is_defined (statement ∷ past) ≡ true → IsBriefOf (identifier_at kept.propositions.list.items)
    kept.brief)
    → AreScopes (scopes_at (statement ∷ past)) scopes.prefix.items scopes.lens.items
    → tick ≡ option_map tick_of (timescale_at (statement ∷ past))
    → KnowsOfPast names event_names kept past
    → KnowsOfPast names event_names (record kept {
      is_defined = defined;
      in_dump = dumps;
      scopes = scopes;
      tick = tick;
    })
    (statement ∷ past)
knows-later names event_names kept past statement defined dumps scopes tick is_now dumps_now
    same_time same before told are ticks known = record {
      defined = is_now;
      dump = dumps_now;
      time = known.time ∙ sym same_time;
      scopes = are;
      tick = ticks;
      propositions =
          keeps-same (identifier_of is_signal past) (identifier_of is_signal (statement ∷ past))
          names kept.propositions (same.identifiers is_signal) known.propositions;
      events =
          keeps-same (identifier_of is_event past) (identifier_of is_event (statement ∷ past))
          event_names kept.events (same.identifiers is_event) known.events;
      values = known.values ∙ values-same past (statement ∷ past) names same;
      happened = known.happened ∙ events-same past (statement ∷ past) event_names same;
      quiet = λ e. quiet-same past (statement ∷ past) same (known.quiet (before e));
      brief = told;
    }

pub knows-begins : (names event_names : List (List ℕ)) (kept : Past) → kept.is_defined ≡ false
    → kept.in_dump ≡ false → kept.time ≡ 0
    → AreScopes [] kept.scopes.prefix.items kept.scopes.lens.items → kept.tick ≡ None
    → KeepsNames (λ name. None) names kept.propositions
    → KeepsNames (λ name. None) event_names kept.events → kept.values ≡ 0 → kept.happened ≡ 0
    → KnowsOfPast names event_names kept []
knows-begins names event_names kept defined dumps ticks scopes tick propositions events values
    happened =
    search (rules, time, keeps-same, identifier_of, is_signal, events, is_event, values, mask-quiet)

-- ---- times

-- what was said of an event, behind a time
abbrev pub timed : Bool → Option Bool → Bool
timed same said =
    option_map_or (λ happened. happened) (option_or (if same then None else Some false) said) false

timed-quiet : (same : Bool) (said : Option Bool)
    → option_map_or (λ happened. happened) said false ≡ false → timed same said ≡ false
timed-quiet true said quiet = quiet
timed-quiet false said quiet = refl

quiet-time : (past : List Statement) (ticks : ℕ) → IsQuiet past → IsQuiet (time ticks ∷ past)
quiet-time past ticks quiet = record {
  values = quiet.values;
  events = λ identifier. timed-quiet (ticks == time_at past)
      (latest (happened_in identifier) past) (quiet.events identifier);
}

pub other_time : (ticks before : ℕ) → ticks ≢ before → (ticks == before) ≡ false
other_time ticks before other = grind (arith, nat_tests)

pub same_time : (ticks before : ℕ) → ticks ≡ before → (ticks == before) ≡ true
same_time ticks before same = grind (arith, nat_tests)

-- another time
pub knows-time : (names event_names : List (List ℕ)) (kept : Past) (past : List Statement)
    (ticks : ℕ)
    → ticks ≢ kept.time → KnowsOfPast names event_names kept past
    → KnowsOfPast names event_names (record kept { time = ticks; happened = 0 }) (time ticks ∷ past)
knows-time names event_names kept past ticks other known =
    let later : (ticks == time_at past) ≡ false =
    other_time ticks (time_at past) (λ e. other (e ∙ sym known.time)) in
    record {
      defined = known.defined;
      dump = known.dump;
      time = refl;
      scopes = known.scopes;
      tick = known.tick;
      propositions =
          keeps-same (identifier_of is_signal past) (identifier_of is_signal (time ticks ∷ past))
          names kept.propositions (λ name. refl) known.propositions;
      events =
          keeps-same (identifier_of is_event past) (identifier_of is_event (time ticks ∷ past))
          event_names kept.events (λ name. refl) known.events;
      values =
          known.values
          ∙ mask-same (identifier_of is_signal past) (identifier_of is_signal (time ticks ∷ past))
          (value_at past) (value_at (time ticks ∷ past)) 0 names (λ name. refl)
          (λ identifier. refl);
      happened =
          sym (mask-quiet (identifier_of is_event (time ticks ∷ past))
          (happened_at (time ticks ∷ past)) 0 event_names
          (λ identifier. ap (λ same. timed same (latest (happened_in identifier) past)) later));
      quiet = λ e. quiet-time past ticks (known.quiet e);
      brief = known.brief;
    }

-- the same time again
pub knows-same_time : (names event_names : List (List ℕ)) (kept : Past) (past : List Statement)
    (ticks : ℕ)
    → ticks ≡ kept.time → KnowsOfPast names event_names kept past
    → KnowsOfPast names event_names kept (time ticks ∷ past)
knows-same_time names event_names kept past ticks is known =
    let again : (ticks == time_at past) ≡ true = same_time ticks (time_at past) (is ∙ known.time) in
    record {
      defined = known.defined;
      dump = known.dump;
      time = sym is;
      scopes = known.scopes;
      tick = known.tick;
      propositions =
          keeps-same (identifier_of is_signal past) (identifier_of is_signal (time ticks ∷ past))
          names kept.propositions (λ name. refl) known.propositions;
      events =
          keeps-same (identifier_of is_event past) (identifier_of is_event (time ticks ∷ past))
          event_names kept.events (λ name. refl) known.events;
      values =
          known.values
          ∙ mask-same (identifier_of is_signal past) (identifier_of is_signal (time ticks ∷ past))
          (value_at past) (value_at (time ticks ∷ past)) 0 names (λ name. refl)
          (λ identifier. refl);
      happened =
          known.happened
          ∙ mask-same (identifier_of is_event past) (identifier_of is_event (time ticks ∷ past))
          (happened_at past) (happened_at (time ticks ∷ past)) 0 event_names (λ name. refl)
          (λ identifier. ap (λ same. timed same (latest (happened_in identifier) past)) again);
      quiet = λ e. quiet-time past ticks (known.quiet e);
      brief = known.brief;
    }

-- ---- changes

value-own : (past : List Statement) (form : Form) (identifier letters : List ℕ)
    → value_at (change form identifier letters ∷ past) identifier ≡ ends_true letters
value-own past form identifier letters = search rules

value-others : (past : List Statement) (form : Form) (identifier letters other : List ℕ)
    → other ≢ identifier
    → value_at (change form identifier letters ∷ past) other ≡ value_at past other
value-others past form identifier letters other apart = search rules

-- what is known of a change but for the events
pub knows-change : (names event_names : List (List ℕ)) (kept : Past) (past : List Statement)
    (form : Form)
    (identifier letters : List ℕ) (value : Bool) (values happened bits : ℕ) → is_defined past ≡ true
    → value ≡ ends_true letters → AreHaving kept.propositions.list.items identifier bits
    → ((k : ℕ) → bit_at bits k ≡ 1 → bit_at values k ≡ (if value then 1 else 0))
    → ((k : ℕ) → bit_at bits k ≢ 1 → bit_at values k ≡ bit_at kept.values k)
    → happened ≡ events_at (change form identifier letters ∷ past) event_names
    → KnowsOfPast names event_names kept past
    → KnowsOfPast names event_names (record kept { values = values; happened = happened })
    (change form identifier letters ∷ past)
knows-change names event_names kept past form identifier letters value values
    happened bits defined value_is having changed
    stays events known =
    let now : List Statement = change form identifier letters ∷ past in
    record {
      defined = known.defined;
      dump = known.dump;
      time = known.time;
      scopes = known.scopes;
      tick = known.tick;
      propositions =
          keeps-same (identifier_of is_signal past) (identifier_of is_signal now) names
          kept.propositions (λ name. refl) known.propositions;
      events =
          keeps-same (identifier_of is_event past) (identifier_of is_event now) event_names
          kept.events (λ name. refl) known.events;
      values =
          mask-changed (identifier_of is_signal past) (value_at past) (value_at now) identifier
          value (value-own past form identifier letters ∙ sym value_is)
          (value-others past form identifier letters)
          names kept.propositions.list.items kept.values values bits
          known.propositions.known known.values having changed stays
          ∙ mask-same (identifier_of is_signal past) (identifier_of is_signal now) (value_at now)
          (value_at now) 0 names (λ name. refl) (λ other. refl);
      happened = events;
      quiet = λ e.
          let wrong : true ≡ false = sym defined ∙ e in
          absurd (cc (wrong));
      brief = known.brief;
    }

-- the events stay where a change says none
pub events-stay : (names event_names : List (List ℕ)) (kept : Past) (past : List Statement)
    (form : Form)
    (identifier letters : List ℕ)
    → ((other : List ℕ) → happened_at (change form identifier letters ∷ past) other
    ≡ happened_at past other)
    → KnowsOfPast names event_names kept past
    → kept.happened ≡ events_at (change form identifier letters ∷ past) event_names
events-stay names event_names kept past form identifier letters same known = search rules

said-own : (past : List Statement) (identifier letters : List ℕ) → in_dump past ≡ false
    → happened_at (change scalar identifier letters ∷ past) identifier ≡ true
said-own past identifier letters outside = search rules

said-others : (past : List Statement) (identifier letters : List ℕ)
    → in_dump past ≡ false → (other : List ℕ) → other ≢ identifier
    → happened_at (change scalar identifier letters ∷ past) other ≡ happened_at past other
said-others past identifier letters outside other apart = search rules

-- in a dump section
pub events-inside : (names event_names : List (List ℕ)) (kept : Past) (past : List Statement)
    (identifier letters : List ℕ) → in_dump past ≡ true → KnowsOfPast names event_names kept past
    → kept.happened ≡ events_at (change scalar identifier letters ∷ past) event_names
events-inside names event_names kept past identifier letters inside known = search rules

pub no_items : {X : Type 0} (items : List X) → (length items == 0) ≡ true → items ≡ []
no_items [] is = refl
no_items (item ∷ items) is = absurd (grind (arith, nat_tests))

-- where no event is declared
pub events-none : (names event_names : List (List ℕ)) (kept : Past) (past : List Statement)
    (identifier letters : List ℕ) → kept.events.list.items ≡ []
    → KnowsOfPast names event_names kept past
    → kept.happened ≡ events_at (change scalar identifier letters ∷ past) event_names
events-none names event_names kept past identifier letters empty known =
    let now : List Statement = change scalar identifier letters ∷ past in
    let none : AreKnown (identifier_of is_event past) event_names [] =
    rw (← empty) known.events.known in
    known.happened
    ∙ mask-empty (identifier_of is_event past) (happened_at past) 0 event_names none
    ∙ sym (mask-empty (identifier_of is_event past) (happened_at now) 0 event_names none)
    ∙ mask-same (identifier_of is_event past) (identifier_of is_event now) (happened_at now)
    (happened_at now) 0 event_names (λ name. refl) (λ other. refl)

-- where a scalar change says no event now
pub events-unread : (names event_names : List (List ℕ)) (kept : Past) (past : List Statement)
    (identifier letters : List ℕ) (inside none : Bool) → kept.in_dump ≡ inside
    → (length kept.events.list.items == 0) ≡ none → (not inside && not none) ≡ false
    → KnowsOfPast names event_names kept past
    → kept.happened ≡ events_at (change scalar identifier letters ∷ past) event_names
events-unread names event_names kept past identifier letters true none is e unread known =
    events-inside names event_names kept past identifier letters (sym known.dump ∙ is) known
events-unread names event_names kept past identifier letters false true is e unread known =
    events-none names event_names kept past identifier letters
    (no_items kept.events.list.items e) known
events-unread names event_names kept past identifier letters false false is e unread known =
    absurd (cc (unread))

outside-of : (inside none : Bool) → (not inside && not none) ≡ true → inside ≡ false
outside-of true none is = cc (is)
outside-of false none is = refl

pub outside-read : (kept : Past)
    → (not kept.in_dump && not (length kept.events.list.items == 0)) ≡ true
    → kept.in_dump ≡ false
outside-read kept is = outside-of kept.in_dump (length kept.events.list.items == 0) is

-- outside a dump section
pub events-said : (names event_names : List (List ℕ)) (kept : Past) (past : List Statement)
    (identifier letters : List ℕ) (happened bits : ℕ) → in_dump past ≡ false
    → AreHaving kept.events.list.items identifier bits
    → ((k : ℕ) → bit_at bits k ≡ 1 → bit_at happened k ≡ 1)
    → ((k : ℕ) → bit_at bits k ≢ 1 → bit_at happened k ≡ bit_at kept.happened k)
    → KnowsOfPast names event_names kept past
    → happened ≡ events_at (change scalar identifier letters ∷ past) event_names
events-said names event_names kept past identifier letters happened bits outside having changed stays
    known =
    let now : List Statement = change scalar identifier letters ∷ past in
    mask-changed (identifier_of is_event past) (happened_at past) (happened_at now) identifier true
    (said-own past identifier letters outside) (said-others past identifier letters outside)
    event_names kept.events.list.items kept.happened happened bits known.events.known
    known.happened having changed stays
    ∙ mask-same (identifier_of is_event past) (identifier_of is_event now) (happened_at now)
    (happened_at now) 0 event_names (λ name. refl) (λ other. refl)

-- ---- declarations

pub keeps-declared : (test : List ℕ → List ℕ → Bool) (past : List Statement)
    (tokens names : List (List ℕ)) (identifier path : List ℕ) (kept : Variables)
    → Declares test (scopes_at past) tokens identifier path
    → KeepsNames (and_declared (identifier_of test past) path identifier) names kept
    → KeepsNames (identifier_of test (var tokens ∷ past)) names kept
keeps-declared test past tokens names identifier path kept declares keeps =
    keeps-same (and_declared (identifier_of test past) path identifier)
    (identifier_of test (var tokens ∷ past)) names kept
    (λ name. ap (option_or (identifier_of test past name)) (declares.is name)) keeps

pub keeps-undeclared : (test : List ℕ → List ℕ → Bool) (past : List Statement)
    (tokens names : List (List ℕ)) (kept : Variables) → DeclaresNone test (scopes_at past) tokens
    → KeepsNames (identifier_of test past) names kept
    → KeepsNames (identifier_of test (var tokens ∷ past)) names kept
keeps-undeclared test past tokens names kept none keeps =
    keeps-same (identifier_of test past) (identifier_of test (var tokens ∷ past)) names kept
    (λ name. ap (option_or (identifier_of test past name)) (none.is name)
    ∙ option_or-none (identifier_of test past name)) keeps

-- a declaration changes no value
pub knows-declared : (names event_names : List (List ℕ)) (kept : Past) (past : List Statement)
    (tokens : List (List ℕ)) (propositions events : Variables) → is_defined past ≡ false
    → KeepsNames (identifier_of is_signal (var tokens ∷ past)) names propositions
    → KeepsNames (identifier_of is_event (var tokens ∷ past)) event_names events
    → KnowsOfPast names event_names kept past
    → KnowsOfPast names event_names (record kept { propositions = propositions; events = events })
    (var tokens ∷ past)
knows-declared names event_names kept past tokens propositions events before signals said known =
    let quiet = known.quiet before in
    let now : List Statement = var tokens ∷ past in
    record {
      defined = known.defined;
      dump = known.dump;
      time = known.time;
      scopes = known.scopes;
      tick = known.tick;
      propositions = signals;
      events = said;
      values = known.values
          ∙ mask-quiet (identifier_of is_signal past) (value_at past) 0 names
          (λ identifier. ap value_of (quiet.values identifier))
          ∙ sym (mask-quiet (identifier_of is_signal now) (value_at now) 0 names
          (λ identifier. ap value_of (quiet.values identifier)));
      happened = known.happened
          ∙ mask-quiet (identifier_of is_event past) (happened_at past) 0 event_names quiet.events
          ∙ sym (mask-quiet (identifier_of is_event now) (happened_at now) 0 event_names
          quiet.events);
      quiet = λ _. record { values = quiet.values; events = quiet.events };
      brief = λ e. absurd (true≢false (sym e ∙ before));
    }

keeps-within : (longest : ℕ) (test : List ℕ → List ℕ → Bool) (past : List Statement)
    (tokens names : List (List ℕ)) (kept : Variables)
    → DeclaresNoneWithin longest test (scopes_at past) tokens
    → All (λ name. length name ≤ longest) names
    → KeepsNames (identifier_of test past) names kept
    → KeepsNames (identifier_of test (var tokens ∷ past)) names kept
keeps-within longest test past tokens names kept none within keeps =
    keeps-among (identifier_of test past) (identifier_of test (var tokens ∷ past)) names kept
    (λ k d below.
    ap (option_or (identifier_of test past (get_or names k d)))
    (none.is (get_or names k d) (within k d below))
    ∙ option_or-none (identifier_of test past (get_or names k d))) keeps

-- a declaration of neither a proposition nor an event, but of one that is longer than each name
pub knows-within : (longest : ℕ) (asked : Vocabulary) (kept : Past) (past : List Statement)
    (tokens : List (List ℕ)) → is_defined past ≡ false
    → DeclaresNoneWithin longest is_signal (scopes_at past) tokens
    → DeclaresNoneWithin longest is_event (scopes_at past) tokens → AreNoLonger longest asked
    → KnowsOfPast asked.names asked.events kept past
    → KnowsOfPast asked.names asked.events kept (var tokens ∷ past)
knows-within longest asked kept past tokens before signals said within known =
    knows-declared asked.names asked.events kept past tokens kept.propositions kept.events before
    (keeps-within longest is_signal past tokens asked.names kept.propositions signals within.names
    known.propositions)
    (keeps-within longest is_event past tokens asked.events kept.events said within.events
    known.events) known

-- ---- ticks

-- a `$timescale`, which says how long a tick takes
pub knows-measured : (names event_names : List (List ℕ)) (kept : Past) (past : List Statement)
    (tokens : List (List ℕ)) (tick : Option (Option Tick))
    → tick ≡ option_map tick_of (timescale_at (timescale tokens ∷ past))
    → KnowsOfPast names event_names kept past
    → KnowsOfPast names event_names (record kept { tick = tick }) (timescale tokens ∷ past)
knows-measured names event_names kept past tokens tick is known =
    knows-later names event_names kept past (timescale tokens) kept.is_defined kept.in_dump
    kept.scopes tick known.defined known.dump refl (record {
      identifiers = λ test name. refl;
      values = λ identifier. refl;
      events = λ identifier. refl;
    }) (λ e. e) known.brief known.scopes is known

pub first-measured : (said : Option (List (List ℕ))) (tokens : List (List ℕ))
    → is_some (option_map tick_of said) ≡ false
    → option_map tick_of (option_or said (Some tokens)) ≡ Some (tick_of tokens)
first-measured None tokens none = refl
first-measured (Some first) tokens none = cc (none)

pub later-measured : (said : Option (List (List ℕ))) (tokens : List (List ℕ))
    → is_some (option_map tick_of said) ≡ true
    → option_map tick_of (option_or said (Some tokens)) ≡ option_map tick_of said
later-measured None tokens some = cc (some)
later-measured (Some first) tokens some = refl

-- the tick, where the first `$timescale` says one
pub tick-is : (kept : Option (Option Tick)) (said : Option (List (List ℕ)))
    → kept ≡ option_map tick_of said → option_and_then (λ tick. tick) kept
    ≡ option_and_then tick_of said
tick-is kept None is = rw is refl
tick-is kept (Some tokens) is = rw is refl
