-- Tokens among the values, that are read one after the other.
use Rattle.std.proofs.Common.{◌≡◌, ℕ, ◌+◌, ◌≤◌, ◌<◌, nat_lt, ◌==◌, true, false, List, [], ◌∷◌, append-nil, length, Result, refl, sym, ◌∙◌, subst, arith, if◌then◌else◌, rules}
use Rattle.std.proofs.lemmas.Bool.Decides.{nat_tests}
use Rattle.tre_parts.specs.Bytes.{between, IsNextAt}
use Rattle.tre_parts.specs.Format.{Step}
use Rattle.tre_parts.specs.Skims.{Skims}
use Rattle.tre_parts.specs.Walk.{AddsPart, PartGoesOn}
use Rattle.tre_parts.specs.declared.TheConstants.{PART_MAX}
use Rattle.tre_parts.specs.declared.skimmed.Skimmed.{Skimmed}
use Rattle.tre_parts.proofs.Skimming.{skims-next}
use Rattle.tre_trace.specs.Reading.{Vocabulary}
use Rattle.tre_trace.specs.declared.fault.TraceKind.{TraceKind}
use Rattle.tre_trace.specs.declared.segment.Segment.{Segment}
use Rattle.tre_vcd.specs.Kept.{KnowsOfPast}
use Rattle.tre_vcd.specs.Sections.{Holds, KnowsPast}
use Rattle.tre_vcd.specs.Defined.{KnowsSignals}
use Rattle.tre_vcd.specs.Signals.{KnowsChanges}
use Rattle.tre_vcd.specs.VcdReading.{Terms, Form, scalar, wide, Statement, change, time, Open, nothing, vector, Place, is_defined, is_white, of_changes, time_at, goes_to, scalar_says, value_says, vector_says, token_says, vcd_format}
use Rattle.tre_vcd.specs.Taken.{IsTaken}
use Rattle.tre_vcd.specs.declared.changes.Changes.{Changes}
use Rattle.tre_vcd.specs.declared.inside.Inside.TheVariants.{Nothing}
use Rattle.tre_vcd.specs.declared.past.Past.{Past}
use Rattle.tre_vcd.specs.declared.signals.Signals.{Signals}
use Rattle.tre_vcd.specs.declared.skim.Taken.TheVariants.{Not, Vector}
use Rattle.tre_vcd.specs.declared.token_reader.TokenReader.{TokenReader}
use Rattle.tre_vcd.proofs.Changing.{past-changed}
use Rattle.tre_vcd.proofs.Needing.{needed-same}
use Rattle.tre_vcd.proofs.Pairing.{pairs-timed}
use Rattle.tre_vcd.proofs.Standing.{reads-no_var, stays-time}
use Rattle.tre_vcd.proofs.Staying.{offers-stay, past-stays, tests-stay-time}

-- ---- what tokens say

token_value : (terms : Terms) (past : List Statement) (token : List ℕ) → is_defined past ≡ true
    → token_says terms (record { past = past; inside = nothing }) token
    ≡ value_says terms past token
unfolding token_says
token_value terms past [] defined = refl
token_value terms past (byte ∷ bytes) defined = rw defined refl

token_identifier : (terms : Terms) (past : List Statement) (letters token : List ℕ)
    → (length token == 0) ≡ false
    → token_says terms (record { past = past; inside = vector letters }) token
    ≡ goes_to (change wide token letters ∷ past) nothing
unfolding token_says
token_identifier terms past letters [] some = absurd (grind (arith, nat_tests))
token_identifier terms past letters (byte ∷ bytes) some = refl

-- ---- what is held

-- where nothing is open, and nothing was before
holds-on : (reader now : TokenReader) (past after : List Statement)
    → Holds reader (record { past = past; inside = nothing })
    → now.inside ≡ reader.inside → now.tokens ≡ reader.tokens → KnowsPast now after
    → Holds now (record { past = after; inside = nothing })
holds-on reader now past after holds shut same knows = search rules

-- behind a change
pub holds-changed : (reader : TokenReader) (past : List Statement) (form : Form)
    (identifier letters : List ℕ) (kept : Past) (signals : Signals)
    → KnowsOfPast reader.names reader.events kept (change form identifier letters ∷ past)
    → KnowsSignals reader.names reader.events signals (change form identifier letters ∷ past)
    → signals.definitions ≡ reader.signals.definitions
    → Holds reader (record { past = past; inside = nothing })
    → Holds (record reader { past = kept; signals = signals })
    (record { past = change form identifier letters ∷ past; inside = nothing })
holds-changed reader past form identifier letters kept signals known read same holds =
    holds-on reader (record reader { past = kept; signals = signals }) past
    (change form identifier letters ∷ past) holds refl refl
    (past-changed reader past form identifier letters kept signals known read same holds.knows)

-- behind the time that it was
pub holds-again : (reader : TokenReader) (past : List Statement) (ticks : ℕ) (kept : Past)
    → ticks ≡ time_at past → KnowsOfPast reader.names reader.events kept (time ticks ∷ past)
    → Holds reader (record { past = past; inside = nothing })
    → Holds (record reader { past = kept }) (record { past = time ticks ∷ past; inside = nothing })
holds-again reader past ticks kept same known holds =
    holds-on reader (record reader { past = kept }) past (time ticks ∷ past) holds refl refl
    (past-stays reader past (time ticks ∷ past) kept (λ test own. refl)
    (stays-time past ticks same) known holds.knows)

-- behind another time
pub holds-later : (reader : TokenReader) (past : List Statement) (ticks : ℕ) (kept : Past)
    (changes : Changes) → KnowsOfPast reader.names reader.events kept (time ticks ∷ past)
    → KnowsChanges (of_changes reader.signals.definitions.items) reader.events changes
    (time ticks ∷ past)
    → Holds reader (record { past = past; inside = nothing })
    → Holds (record reader {
      past = kept;
      signals = record (reader.signals) { changes = changes };
    }) (record { past = time ticks ∷ past; inside = nothing })
holds-later reader past ticks kept changes known changed holds =
    let knows = holds.knows in
    let now = record reader {
      past = kept;
      signals = record (reader.signals) { changes = changes };
    } in
    holds-on reader now past (time ticks ∷ past) holds refl refl (record {
      past = known;
      needed = needed-same past (time ticks ∷ past) reader.needed (λ test name. refl)
          knows.needed;
      signals = record {
        tests = tests-stay-time past ticks _ reader.names reader.signals.tests knows.signals.tests;
        pairs = pairs-timed past ticks _ reader.names _ reader.signals.pairs knows.signals.pairs;
        changes = changed;
      };
      offers = offers-stay _ past (time ticks ∷ past) reader.needed
          (reads-no_var (time ticks) past tt) knows.offers;
      within = knows.within;
      needed_within = knows.needed_within;
    })

-- where as much is known by definitions as before
pub holds-still : (reader : TokenReader) (past : List Statement) (signals : Signals)
    → KnowsSignals reader.names reader.events signals past
    → signals.definitions ≡ reader.signals.definitions
    → Holds reader (record { past = past; inside = nothing })
    → Holds (record reader { signals = signals }) (record { past = past; inside = nothing })
holds-still reader past signals read same holds = search rules

-- ---- what was read of a token

-- a change
pub change-told : {holds : Place → Type 0} (past : List Statement) (form : Form)
    (identifier letters : List ℕ)
    → holds (record { past = change form identifier letters ∷ past; inside = nothing })
    → PartGoesOn (goes_to (change form identifier letters ∷ past) nothing) [] holds
change-told past form identifier letters held = search rules

-- a scalar change, which adds no stretch
pub scalar-taken : {asked : Vocabulary} {holds : Place → Type 0} (past : List Statement)
    (letter : ℕ) (identifier : List ℕ) (segments : List Segment)
    → (length identifier == 0) ≡ false
    → holds (record { past = change scalar identifier (letter ∷ []) ∷ past; inside = nothing })
    → AddsPart asked (scalar_says past letter identifier) holds segments segments
scalar-taken past letter identifier segments some held = search rules

-- a vector, which is left where it is not empty
pub vector-taken : (asked : Vocabulary) (holds : Place → Type 0) (past : List Statement)
    (said : Result (Step Place) TraceKind) (rest letters : List ℕ) (segments : List Segment)
    → said ≡ vector_says past rest → letters ≡ rest
    → holds (record { past = past; inside = nothing })
    → IsTaken asked said holds past letters segments segments
    (if length rest == 0 then Not else Vector)
vector-taken asked holds past said [] letters segments is same held = (held, refl)
vector-taken asked holds past said (byte ∷ rest) letters segments is same held = search rules

below : (a b : ℕ) → a < b → nat_lt a b ≡ true
below a b lt = grind (arith, nat_tests)

-- ---- one token more

-- A reader that is among the values with nothing open holds no other place.
among : (reader : TokenReader) (place : Place)
    → (reader.past.is_defined ≡ true) × (reader.inside ≡ Nothing) → Holds reader place
    → (is_defined place.past ≡ true) × (place.inside ≡ nothing)
among reader place is holds = search rules

held-nothing : (holds : Place → Type 0) (place : Place) → place.inside ≡ nothing → holds place
    → holds (record { past = place.past; inside = nothing })
held-nothing holds place shut held = search rules

pub taken-next : {asked : Vocabulary} (terms : Terms) {reader : TokenReader}
    {after : Place → Type 0} {place : Place} {bytes : List ℕ} {old mid new : List Segment}
    {read : Skimmed} {end : ℕ}
    → Skims asked (vcd_format terms) (Holds reader) place bytes old mid read
    → IsNextAt is_white bytes read.bytes end → length bytes ≤ PART_MAX
    → (reader.past.is_defined ≡ true) × (reader.inside ≡ Nothing)
    → ((past : List Statement) → Holds reader (record { past = past; inside = nothing })
    → is_defined past ≡ true
    → AddsPart asked (value_says terms past (between bytes read.bytes end)) after mid new)
    → Skims asked (vcd_format terms) after place bytes old new
    (record { bytes = end + 1; parts = read.parts + 1 })
taken-next {asked = asked} terms {reader = reader} {after = after} {bytes = bytes}
    {mid = mid} {new = new} {read = read} {end = end} skims next short is adds =
    let now = skims.now in
    let token = between bytes read.bytes end in
    let at = among reader now is skims.is_held in
    skims-next skims next short
    (subst (λ (o : Open). AddsPart asked
    (token_says terms (record { past = now.past; inside = o }) token) after mid new) (sym at.1)
    (subst (λ said. AddsPart asked said after mid new) (sym (token_value terms now.past token at.0))
    (adds now.past (held-nothing (Holds reader) now at.1 skims.is_held) at.0)))

pub taken-none : {asked : Vocabulary} (terms : Terms) {reader : TokenReader}
    {after : Place → Type 0} {place : Place} {bytes : List ℕ} {old mid new : List Segment}
    {read : Skimmed}
    → Skims asked (vcd_format terms) (Holds reader) place bytes old mid read
    → (reader.past.is_defined ≡ true) × (reader.inside ≡ Nothing)
    → ((past : List Statement) → Holds reader (record { past = past; inside = nothing })
    → is_defined past ≡ true → after (record { past = past; inside = nothing }) × (new ≡ mid))
    → Skims asked (vcd_format terms) after place bytes old new read
taken-none terms {reader = reader} {after = after} skims is kept = search rules

-- the state is this one
abbrev Waits : List Statement → List ℕ → Place → Type 0
Waits past letters place = place ≡ record { past = past; inside = vector letters }

-- a vector, and the identifier behind it
pub vector-next : {asked : Vocabulary} (terms : Terms) {reader now : TokenReader}
    {place : Place} {bytes : List ℕ} {old mid new : List Segment} {read : Skimmed}
    {stop end : ℕ} {letters : List ℕ}
    → Skims asked (vcd_format terms) (Holds reader) place bytes old mid read
    → IsNextAt is_white bytes read.bytes stop → IsNextAt is_white bytes (stop + 1) end
    → length bytes ≤ PART_MAX
    → (reader.past.is_defined ≡ true) × (reader.inside ≡ Nothing)
    → (length (between bytes (stop + 1) end) == 0) ≡ false
    → ((past : List Statement) → Holds reader (record { past = past; inside = nothing })
    → is_defined past ≡ true
    → (value_says terms past (between bytes read.bytes stop) ≡ goes_to past (vector letters))
    × Holds now (record {
      past = change wide (between bytes (stop + 1) end) letters ∷ past;
      inside = nothing;
    })
    × (new ≡ mid))
    → Skims asked (vcd_format terms) (Holds now) place bytes old new
    (record { bytes = end + 1; parts = read.parts + 1 + 1 })
vector-next {asked = asked} terms {reader = reader} {now = now} {bytes = bytes}
    {mid = mid} {new = new} {read = read} {stop = stop} {end = end} {letters = letters} skims next
    last short is some goes =
    let state = skims.now in
    let at = among reader state is skims.is_held in
    let identifier = between bytes (stop + 1) end in
    let step = goes state.past (held-nothing (Holds reader) state at.1 skims.is_held) at.0 in
    let token = between bytes read.bytes stop in
    let first = skims-next {after = Waits state.past letters} skims next short
    (subst (λ (o : Open). AddsPart asked
    (token_says terms (record { past = state.past; inside = o }) token)
    (Waits state.past letters) mid mid) (sym at.1)
    (record {
      stretches = [];
      added = sym (append-nil mid);
      goes_on = record {
        state = record { past = state.past; inside = vector letters };
        says = token_value terms state.past token at.0 ∙ step.0;
        is_held = refl;
      };
    })) in
    skims-next first last short
    (subst (λ (p : Place). AddsPart asked (token_says terms p identifier) (Holds now) mid new)
    (sym first.is_held)
    (record {
      stretches = [];
      added = step.2 ∙ sym (append-nil mid);
      goes_on = record {
        state = record { past = change wide identifier letters ∷ state.past; inside = nothing };
        says = token_identifier terms state.past letters identifier some;
        is_held = step.1;
      };
    }))
