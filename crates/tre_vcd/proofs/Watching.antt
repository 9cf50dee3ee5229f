-- What names read by changes.
use Rattle.std.specs.Global.{Vec}
use Rattle.std.proofs.Common.{◌≡◌, ◌≢◌, ◌↔◌, ℕ, zero, suc, ◌+◌, ◌%◌, ◌<◌, ◌≤◌, min, max, ◌==◌, not, ◌||◌, bit_and, Bool, true, false, List, [], ◌∷◌, ◌++◌, length, map, get_or, set, Option, None, Some, refl, sym, ap, ◌∙◌, subst, arith, if◌then◌else◌, rules}
use Rattle.std.specs.Option.{is_some, option_and_then, option_map, option_map_or, option_or}
use Rattle.std.specs.Int.{bit_at}
use Rattle.std.specs.Int.Bits.{bit_or, bit_xor}
use Rattle.std.specs.Str.{bytes_eq}
use Rattle.std.proofs.lemmas.Bool.{false≢true}
use Rattle.std.proofs.lemmas.Bool.Decides.{nat_tests}
use Rattle.std.proofs.lemmas.List.{length-map, length-append, map-append}
use Rattle.std.proofs.lemmas.Nat.Bits.{bit_at_or, bit_at_and, bit_at_xor, bit_at-zero, same_from_bits}
use Rattle.std.proofs.lemmas.Slice.Eq.{bytes_eq-Decides}
use Rattle.tre_define.specs.Signals.{SignalDefined, signal_definition_of}
use Rattle.tre_define.specs.Values.{differ_from, letter_at}
use Rattle.tre_define.specs.declared.part.Part.{Part}
use Rattle.tre_state.specs.Sieve.{MayBe}
use Rattle.tre_trace.specs.Reading.{bits_of}
use Rattle.tre_vcd.specs.VcdReading.{Form, Statement, scope, upscope, var, timescale, definitions, time, change, dump, dump_end, is_defined, time_at, scopes_at, Offer, offer_in, Asked, Occasion, scalar_said, asking, asked_in, occasion_in, event_read_by, is_event, identifier_in, first_read, letters_at, before_now, happened_at, differs, is_come, of_changes, happens_at}
use Rattle.tre_vcd.specs.Kept.{IsQuiet, identifier_of, mask_from}
use Rattle.tre_vcd.specs.Signals.{AreDefined, SignalsAreWatched, KnowsAt, KnowsChanges, KnowsPart, KnowsWatched, SameAsked, bit_of, has_at, has_changed, has_part_at, letters_kept, occasion_of, part_at, part_kept, part_read, reads_part, watched_at}
use Rattle.tre_vcd.specs.declared.changes.Changes.{Changes}
use Rattle.tre_vcd.specs.declared.changes.Watched.{Watched}
use Rattle.tre_vcd.proofs.MaskBits.{passes_at, bit_in}
use Rattle.tre_vcd.proofs.Masks.{mask-bits}
use Rattle.tre_vcd.proofs.Pasts.{other_time}
use Rattle.tre_vcd.proofs.Staying.{watched-same}
use Rattle.tre_vcd.proofs.Testing.{bit-either, bits-push, defined-push, either}

-- ---- what a definition reads, one statement later

pub part-next : (past : List Statement) (tokens : List (List ℕ)) (one : SignalDefined)
    (offer : Offer) → offer_in (scopes_at past) tokens ≡ Some offer
    → part_read (var tokens ∷ past) (Some one)
    ≡ option_or (part_read past (Some one)) (asked_in (occasion_in one) offer)
part-next past tokens one offer is = search rules

read-changed : (past : List Statement) (form : Form) (identifier letters : List ℕ)
    (definition : Option SignalDefined)
    → part_read (change form identifier letters ∷ past) definition ≡ part_read past definition
read-changed past form identifier letters None = refl
read-changed past form identifier letters (Some one) = refl

read-timed : (past : List Statement) (ticks : ℕ) (definition : Option SignalDefined)
    → part_read (time ticks ∷ past) definition ≡ part_read past definition
read-timed past ticks None = refl
read-timed past ticks (Some one) = refl

read-defined : (past : List Statement) (definition : Option SignalDefined)
    → part_read (definitions ∷ past) definition ≡ part_read past definition
read-defined past None = refl
read-defined past (Some one) = refl

-- ---- a value that is the same

no-difference : (low width : ℕ) (letters : List ℕ) → differ_from low width letters letters ≡ false
no-difference low zero letters = refl
no-difference low (suc width) letters =
    let same : (letter_at letters low == letter_at letters low) ≡ true =
    grind (arith, nat_tests) in
    ap (λ (b : Bool). not b || differ_from (low + 1) width letters letters) same
    ∙ no-difference (low + 1) width letters

same-differs : (part : Part) (letters : Option (List ℕ)) → differs part letters letters ≡ false
same-differs part None = refl
same-differs part (Some letters) = no-difference part.low part.width letters

-- ---- what is kept of one name

timed-none : (past : List Statement) (ticks : ℕ) (asked : Option (Asked Part))
    → before_now (time ticks ∷ past) ≡ past
    → 0 ≡ bit_of (option_map_or (has_changed (time ticks ∷ past)) asked false)
timed-none past ticks None before = refl
timed-none past ticks (Some asked) before =
    search (rules, bit_of, differs, asked, letters_at, before, same-differs)

-- another time
pub watched-timed : (past : List Statement) (ticks : ℕ) (watched : Option Watched)
    (said happened : ℕ) → ticks ≢ time_at past → KnowsAt watched said happened past
    → KnowsAt watched 0 0 (time ticks ∷ past)
watched-timed past ticks None said happened other knows = (refl, refl)
watched-timed past ticks (Some watched) said happened other knows =
    let before : before_now (time ticks ∷ past) ≡ past =
    ap (λ (b : Bool). if b then before_now past else past)
    (other_time ticks (time_at past) other) in
    record {
      letters = λ asked is. record {
        now = (knows.letters asked is).now;
        before = λ one. absurd (omega (arith, one));
        quiet = λ none. ap (λ old. letters_at old asked.identifier) before;
      };
      silent = λ none. ((knows.silent none).0, refl);
      happened_is = timed-none past ticks (part_kept watched) before;
    }

letters-own : (past : List Statement) (form : Form) (identifier letters own : List ℕ)
    → bytes_eq own identifier ≡ true
    → letters_at (change form identifier letters ∷ past) own ≡ Some letters
letters-own past form identifier letters own same = search rules

-- a change of another identifier
changed-other : (past : List Statement) (form : Form) (identifier letters : List ℕ)
    (asked : Option (Asked Part)) → reads_part asked identifier ≡ false
    → option_map_or (has_changed past) asked false
    ≡ option_map_or (has_changed (change form identifier letters ∷ past)) asked false
changed-other past form identifier letters None other = refl
changed-other past form identifier letters (Some asked) other = search rules

pub watched-untold : (past : List Statement) (form : Form) (identifier letters : List ℕ)
    (watched : Option Watched) (said happened : ℕ)
    → reads_part (option_and_then part_kept watched) identifier ≡ false
    → KnowsAt watched said happened past
    → KnowsAt watched said happened (change form identifier letters ∷ past)
watched-untold past form identifier letters None said happened other knows = knows
watched-untold past form identifier letters (Some watched) said happened other knows = search rules

-- The letters of a name that were kept before this time, once new ones are said.
pub record IsTold (old new : Watched) (first : Bool) (letters : List ℕ) : Type 0 where
  pub now : letters_kept new.latest ≡ Some letters
  pub before : new.earlier ≡ (if first then old.latest else old.earlier)
  pub asked : part_kept new ≡ part_kept old

before-told : (old new : Watched) (first : Bool) (letters : List ℕ) (said : ℕ)
    (past : List Statement) (asked : Asked Part) → IsTold old new first letters
    → (first ≡ true → said ≢ 1) → (first ≡ false → said ≡ 1) → KnowsPart old said past asked
    → letters_kept new.earlier ≡ letters_at (before_now past) asked.identifier
before-told old new true letters said past asked told is later part = search rules
before-told old new false letters said past asked told is later part = search rules

told-happened : (past : List Statement) (form : Form) (identifier letters : List ℕ)
    (new : Watched) (asked : Option (Asked Part)) → part_kept new ≡ asked
    → ((own : Asked Part) → part_kept new ≡ Some own
    → (letters_kept new.earlier ≡ letters_at (before_now past) own.identifier)
    × (letters_kept new.latest ≡ letters_at (change form identifier letters ∷ past) own.identifier))
    → option_map_or (λ own. differs own.asks (letters_kept new.earlier) (letters_kept new.latest))
    asked false
    ≡ option_map_or (has_changed (change form identifier letters ∷ past)) asked false
told-happened past form identifier letters new None is knows = refl
told-happened past form identifier letters new (Some own) is knows = search rules

pub watched-told : (past : List Statement) (form : Form) (identifier letters : List ℕ)
    (old new : Watched) (first : Bool) (said happened now happens : ℕ)
    → reads_part (part_kept old) identifier ≡ true → IsTold old new first letters
    → (first ≡ true → said ≢ 1) → (first ≡ false → said ≡ 1) → now ≡ 1
    → happens ≡ bit_of (option_map_or
    (λ own. differs own.asks (letters_kept new.earlier) (letters_kept new.latest)) (part_kept new)
    false)
    → KnowsWatched old said happened past
    → KnowsWatched new now happens (change form identifier letters ∷ past)
watched-told past form identifier letters old new first said happened now happens own told is later
    one happens_is knows =
    let both : (asked : Asked Part) → part_kept new ≡ Some asked
    → (letters_kept new.earlier ≡ letters_at (before_now past) asked.identifier)
    × (letters_kept new.latest
    ≡ letters_at (change form identifier letters ∷ past) asked.identifier) =
    λ asked kept.
    let was : part_kept old ≡ Some asked = sym told.asked ∙ kept in
    let same : bytes_eq asked.identifier identifier ≡ true =
    sym (ap (λ o. reads_part o identifier) was) ∙ own in (
      before-told old new first letters said past asked told is later (knows.letters asked was),
      told.now ∙ sym (letters-own past form identifier letters asked.identifier same),
    ) in
    record {
      letters = λ asked kept. record {
        now = (both asked kept).1;
        before = λ _. (both asked kept).0;
        quiet = λ none. absurd (none one);
      };
      silent = λ none.
          let not_asked : reads_part (part_kept old) identifier ≡ false =
          ap (λ o. reads_part o identifier) (sym told.asked ∙ none) in
          absurd (false≢true (sym not_asked ∙ own));
      happened_is = happens_is
          ∙ ap bit_of (told-happened past form identifier letters new (part_kept new) refl both);
    }

-- ---- names without a definition

asking-or : {X : Type 0} (asks : X) (one other : Option (List ℕ))
    → option_or (asking asks one) (asking asks other) ≡ asking asks (option_or one other)
asking-or asks None other = refl
asking-or asks (Some own) other = refl

pub plain-event : (past : List Statement) (name : List ℕ)
    → first_read (event_read_by None name) past
    ≡ asking scalar_said (identifier_of is_event past name)
plain-event [] name = refl
plain-event (scope other ∷ past) name = plain-event past name
plain-event (upscope ∷ past) name = plain-event past name
plain-event (var tokens ∷ past) name =
    ap (λ (o : Option (Asked Occasion)). option_or o
    (asking scalar_said (identifier_in is_event (scopes_at past) name tokens)))
    (plain-event past name)
    ∙ asking-or scalar_said (identifier_of is_event past name)
    (identifier_in is_event (scopes_at past) name tokens)
plain-event (timescale tokens ∷ past) name = plain-event past name
plain-event (definitions ∷ past) name = plain-event past name
plain-event (time ticks ∷ past) name = plain-event past name
plain-event (change form other letters ∷ past) name = plain-event past name
plain-event (dump ∷ past) name = plain-event past name
plain-event (dump_end ∷ past) name = plain-event past name

plain-come : (past : List Statement) (identified : Option (List ℕ))
    → option_map_or (is_come past) (asking scalar_said identified) false
    ≡ option_map_or (happened_at past) identified false
plain-come past None = refl
plain-come past (Some identifier) = refl

plain-happens : (all : List SignalDefined) (past : List Statement) (name : List ℕ)
    → signal_definition_of (of_changes all) name ≡ None
    → option_map_or (happened_at past) (identifier_of is_event past name) false
    ≡ happens_at all past name
plain-happens all past name none =
    search (rules, plain-come, identifier_of, is_event, is_come, plain-event, first_read)

chosen-one : (all : List SignalDefined) (past : List Statement) (name : List ℕ)
    (watched : Watched) (definition : Option SignalDefined)
    → definition ≡ signal_definition_of (of_changes all) name
    → option_map occasion_of (part_kept watched) ≡ part_read past definition
    → either (is_some definition) (option_map_or (has_changed past) (part_kept watched) false)
    (option_map_or (happened_at past) (identifier_of is_event past name) false)
    ≡ happens_at all past name
chosen-one all past name watched None is kept = plain-happens all past name (sym is)
chosen-one all past name watched (Some one) is kept = search rules

chosen : (all : List SignalDefined) (past : List Statement) (names : List (List ℕ))
    (list : List Watched) (k : ℕ)
    → AreDefined (of_changes all) names (map (λ watched. watched.definition) list)
    → SignalsAreWatched past list
    → either (has_part_at list k) (option_map_or (has_changed past) (part_at list k) false)
    (passes_at (identifier_of is_event past) (happened_at past) names k)
    ≡ passes_at Some (happens_at all past) names k
chosen all past [] [] k defined are = refl
chosen all past [] (watched ∷ list) k defined are = absurd (cc (defined))
chosen all past (name ∷ names) [] zero defined are = plain-happens all past name defined.0
chosen all past (name ∷ names) [] (suc k) defined are =
    chosen all past names [] k defined.1 are
chosen all past (name ∷ names) (watched ∷ list) zero defined are =
    chosen-one all past name watched watched.definition defined.0 are.0
chosen all past (name ∷ names) (watched ∷ list) (suc k) defined are =
    chosen all past names list k defined.1 are.1

none-asked : (asked : Option (Asked Part)) → option_map occasion_of asked ≡ None → asked ≡ None
none-asked None is = refl
none-asked (Some asked) is = absurd (cc (is))

undefined-none : (past : List Statement) (watched : Watched) (definition : Option SignalDefined)
    → is_some definition ≡ false
    → option_map occasion_of (part_kept watched) ≡ part_read past definition
    → part_kept watched ≡ None
undefined-none past watched None none is = none-asked (part_kept watched) is
undefined-none past watched (Some one) none is = absurd (cc (none))

pub unasked : (past : List Statement) (list : List Watched) (k : ℕ) → SignalsAreWatched past list
    → has_part_at list k ≡ false → part_at list k ≡ None
unasked past [] k are none = refl
unasked past (watched ∷ list) zero are none = search rules
unasked past (watched ∷ list) (suc k) are none = unasked past list k are.1 none

none-changes : (past : List Statement) (asked : Option (Asked Part)) → asked ≡ None
    → option_map_or (has_changed past) asked false ≡ false
none-changes past asked none = search rules

happened-at : (watched : Option Watched) (said happened : ℕ) (past : List Statement)
    → KnowsAt watched said happened past
    → happened ≡ bit_of (option_map_or (has_changed past) (option_and_then part_kept watched)
    false)
happened-at None said happened past knows = knows.0
happened-at (Some watched) said happened past knows = knows.happened_is

pub events-are : (all : List SignalDefined) (past : List Statement) (names : List (List ℕ))
    (kept : Changes) (result plain : ℕ) → KnowsChanges (of_changes all) names kept past
    → result ≡ bit_or (bit_xor plain (bit_and plain kept.defined)) kept.happened
    → plain ≡ mask_from (identifier_of is_event past) (happened_at past) 0 names
    → result ≡ bits_of (happens_at all past) names
events-are all past names kept result plain knows is plain_is =
    let list = kept.list.items in
    same_from_bits result (mask_from Some (happens_at all past) 0 names) (λ k.
    let both : bit_at result k
    ≡ max ((bit_at plain k + min (bit_at plain k) (bit_at kept.defined k)) % 2)
    (bit_at kept.happened k) =
    ap (λ n. bit_at n k) is
    ∙ bit_at_or (bit_xor plain (bit_and plain kept.defined)) kept.happened k
    ∙ ap (λ n. max n (bit_at kept.happened k)) (bit_at_xor plain (bit_and plain kept.defined) k
    ∙ ap (λ n. (bit_at plain k + n) % 2) (bit_at_and plain kept.defined k)) in
    let plain_bit = ap (λ n. bit_at n k) plain_is
    ∙ bit_in (identifier_of is_event past) (happened_at past) names k in
    bit-either (has_part_at list k) (option_map_or (has_changed past) (part_at list k) false)
    (passes_at (identifier_of is_event past) (happened_at past) names k) (bit_at result k)
    (bit_at plain k) (bit_at kept.defined k) (bit_at kept.happened k) both plain_bit
    (knows.defined k)
    (happened-at (watched_at list k) (bit_at kept.said k) (bit_at kept.happened k) past
    (knows.each k))
    (λ none. none-changes past (part_at list k) (unasked past list k knows.parts none))
    ∙ ap bit_of (chosen all past names list k knows.definitions knows.parts)
    ∙ sym (bit_in Some (happens_at all past) names k))
    ∙ mask-bits Some (happens_at all past) names

-- ---- what is kept of changes, one statement later

pub changes-timed : (all : List SignalDefined) (names : List (List ℕ)) (kept : Changes)
    (past : List Statement) (ticks : ℕ) → ticks ≢ time_at past
    → KnowsChanges all names kept past
    → KnowsChanges all names (record kept { said = 0; happened = 0 }) (time ticks ∷ past)
changes-timed all names kept past ticks other knows =
    search (rules, definitions, watched-same, time, read-timed, bit_at-zero, watched-timed)

-- where nothing was moved at a place
pub at-moved : (old new : Option Watched) (said now happened happens : ℕ)
    (past : List Statement) → (new ≡ old) × (now ≡ said) × (happens ≡ happened)
    → KnowsAt old said happened past → KnowsAt new now happens past
at-moved old new said now happened happens past same knows = search rules

differs-none : (part : Part) (letters : Option (List ℕ)) → differs part letters None ≡ false
differs-none part None = refl
differs-none part (Some letters) = refl

quiet-change : (past : List Statement) → IsQuiet past → (asked : Option (Asked Part))
    → option_map_or (has_changed past) asked false ≡ false
quiet-change past quiet None = refl
quiet-change past quiet (Some asked) =
    ap (differs asked.asks (letters_at (before_now past) asked.identifier))
    (quiet.values asked.identifier)
    ∙ differs-none asked.asks (letters_at (before_now past) asked.identifier)

before-time : (past : List Statement) (identifier : List ℕ) (same : Bool)
    → letters_at past identifier ≡ None → letters_at (before_now past) identifier ≡ None
    → letters_at (if same then before_now past else past) identifier ≡ None
before-time past identifier true none before = before
before-time past identifier false none before = none

none-behind : (past : List Statement) (identifier letters : List ℕ) (same : Bool)
    → option_or (if same then Some letters else None) (letters_at past identifier) ≡ None
    → letters_at past identifier ≡ None
none-behind past identifier letters true none = absurd (cc (none))
none-behind past identifier letters false none = none

-- where the letters now are none, those before the last time are none
pub before-quiet : (past : List Statement) (identifier : List ℕ)
    → letters_at past identifier ≡ None → letters_at (before_now past) identifier ≡ None
before-quiet [] identifier none = refl
before-quiet (scope other ∷ past) identifier none = before-quiet past identifier none
before-quiet (upscope ∷ past) identifier none = before-quiet past identifier none
before-quiet (var tokens ∷ past) identifier none = before-quiet past identifier none
before-quiet (timescale tokens ∷ past) identifier none = before-quiet past identifier none
before-quiet (definitions ∷ past) identifier none = before-quiet past identifier none
before-quiet (time ticks ∷ past) identifier none =
    before-time past identifier (ticks == time_at past) none (before-quiet past identifier none)
before-quiet (change form other letters ∷ past) identifier none =
    before-quiet past identifier
    (none-behind past identifier letters (bytes_eq identifier other) none)
before-quiet (dump ∷ past) identifier none = before-quiet past identifier none
before-quiet (dump_end ∷ past) identifier none = before-quiet past identifier none

latest-none : (past : List Statement) (watched : Watched) (said happened : ℕ)
    (asked : Option (Asked Part)) → part_kept watched ≡ asked → IsQuiet past
    → KnowsWatched watched said happened past → letters_kept watched.latest ≡ None
latest-none past watched said happened None is quiet knows = (knows.silent is).0
latest-none past watched said happened (Some asked) is quiet knows =
    (knows.letters asked is).now ∙ quiet.values asked.identifier

earlier-none : (past : List Statement) (watched : Watched) (said happened : ℕ)
    (asked : Option (Asked Part)) → part_kept watched ≡ asked → IsQuiet past
    → KnowsWatched watched said happened past → said ≡ 1 → letters_kept watched.earlier ≡ None
earlier-none past watched said happened None is quiet knows one = search rules
earlier-none past watched said happened (Some asked) is quiet knows one =
    (knows.letters asked is).before one
    ∙ before-quiet past asked.identifier (quiet.values asked.identifier)

quiet-declared : (past : List Statement) (tokens : List (List ℕ)) → IsQuiet past
    → (asked : Option (Asked Part))
    → option_map_or (has_changed (var tokens ∷ past)) asked false ≡ false
quiet-declared past tokens quiet None = refl
quiet-declared past tokens quiet (Some asked) = quiet-change past quiet (Some asked)

watched-declared : (past : List Statement) (tokens : List (List ℕ)) (old new : Watched)
    (said happened : ℕ) → IsQuiet past → new.latest ≡ old.latest → new.earlier ≡ old.earlier
    → (part_kept new ≡ None → part_kept old ≡ None) → KnowsWatched old said happened past
    → KnowsWatched new said happened (var tokens ∷ past)
watched-declared past tokens old new said happened quiet latest earlier unasked_too knows =
    let none = latest-none past old said happened (part_kept old) refl quiet knows in
    record {
      letters = λ asked is.
          let now = quiet.values asked.identifier in
          let before = before-quiet past asked.identifier now in
          record {
            now = ap letters_kept latest ∙ none ∙ sym now;
            before = λ one. ap letters_kept earlier
                ∙ earlier-none past old said happened (part_kept old) refl quiet knows one
                ∙ sym before;
            quiet = λ _. before ∙ sym now;
          };
      silent = λ own. (
        ap letters_kept latest ∙ none,
        (knows.silent (unasked_too own)).1,
      );
      happened_is = knows.happened_is
          ∙ ap bit_of (quiet-change past quiet (part_kept old)
          ∙ sym (quiet-declared past tokens quiet (part_kept new)));
    }

-- what is asked once is asked later
still-asked : (past : List Statement) (tokens : List (List ℕ)) (old new : Option (Asked Part))
    (definition : Option SignalDefined)
    → option_map occasion_of old ≡ part_read past definition
    → option_map occasion_of new ≡ part_read (var tokens ∷ past) definition → new ≡ None
    → old ≡ None
still-asked past tokens old new None was is none = none-asked old was
still-asked past tokens old new (Some one) was is none = search rules

each-declared : (past : List Statement) (tokens : List (List ℕ)) (old new : List Watched)
    → IsQuiet past
    → map (λ watched. watched.latest) new ≡ map (λ watched. watched.latest) old
    → map (λ watched. watched.earlier) new ≡ map (λ watched. watched.earlier) old
    → map (λ watched. watched.definition) new ≡ map (λ watched. watched.definition) old
    → SignalsAreWatched past old → SignalsAreWatched (var tokens ∷ past) new → (k said happened : ℕ)
    → KnowsAt (watched_at old k) said happened past
    → KnowsAt (watched_at new k) said happened (var tokens ∷ past)
each-declared past tokens [] [] quiet latest earlier same was are k said happened knows = knows
each-declared past tokens [] (one ∷ new) quiet latest earlier same was are k said happened knows =
    absurd (cc (same))
each-declared past tokens (one ∷ old) [] quiet latest earlier same was are k said happened knows =
    absurd (cc (same))
each-declared past tokens (first ∷ old) (one ∷ new) quiet latest earlier same was are zero said
    happened knows =
    let own : one.definition ≡ first.definition = cc (same) in
    watched-declared past tokens first one said happened quiet (cc (latest)) (cc (earlier))
    (still-asked past tokens (part_kept first) (part_kept one) first.definition was.0
    (are.0 ∙ ap (part_read (var tokens ∷ past)) own)) knows
each-declared past tokens (first ∷ old) (one ∷ new) quiet latest earlier same was are (suc k) said
    happened knows =
    each-declared past tokens old new quiet (cc (latest)) (cc (earlier)) (cc (same)) was.1 are.1 k
    said happened knows

pub changes-declared : (all : List SignalDefined) (names : List (List ℕ)) (kept : Changes)
    (past : List Statement) (tokens : List (List ℕ)) (list : Vec Watched) → IsQuiet past
    → is_defined past ≡ false
    → map (λ watched. watched.latest) list.items
    ≡ map (λ watched. watched.latest) kept.list.items
    → map (λ watched. watched.earlier) list.items
    ≡ map (λ watched. watched.earlier) kept.list.items
    → map (λ watched. watched.definition) list.items
    ≡ map (λ watched. watched.definition) kept.list.items
    → SignalsAreWatched (var tokens ∷ past) list.items → KnowsChanges all names kept past
    → KnowsChanges all names (record kept { list = list }) (var tokens ∷ past)
changes-declared all names kept past tokens list quiet before latest earlier same are knows =
    record {
      few = omega (
        arith,
        knows.few,
        ap length same,
        length-map list.items (λ (watched : Watched). watched.definition),
        length-map kept.list.items (λ (watched : Watched). watched.definition),
      );
      definitions = subst (AreDefined all names) (sym same) knows.definitions;
      parts = are;
      sieve = λ e. absurd (false≢true (sym before ∙ e));
      defined = λ k. knows.defined k ∙ ap (λ own. bit_of (has_at own k)) (sym same);
      each = λ k. each-declared past tokens kept.list.items list.items quiet latest earlier same
          knows.parts are k (bit_at kept.said k) (bit_at kept.happened k) (knows.each k);
    }

pub part-below : (list : List Watched) (k : ℕ) (asked : Asked Part) → part_at list k ≡ Some asked
    → k < length list
part-below [] k asked is = absurd (cc (is))
part-below (watched ∷ list) zero asked is = omega arith
part-below (watched ∷ list) (suc k) asked is = omega (arith, part-below list k asked is)

at-defined : (past : List Statement) (watched : Option Watched) (said happened : ℕ)
    → KnowsAt watched said happened past → KnowsAt watched said happened (definitions ∷ past)
at-defined past None said happened knows = knows
at-defined past (Some watched) said happened knows = search rules

pub changes-sifted : (all : List SignalDefined) (names : List (List ℕ)) (kept : Changes)
    (past : List Statement) (sieve : List ℕ)
    → ((k : ℕ) (asked : Asked Part) → k < 64 → part_at kept.list.items k ≡ Some asked
    → MayBe sieve asked.identifier k)
    → KnowsChanges all names kept past
    → KnowsChanges all names (record kept { sieve = sieve }) (definitions ∷ past)
changes-sifted all names kept past sieve sifted knows = record {
  few = knows.few;
  definitions = knows.definitions;
  parts = watched-same past (definitions ∷ past) kept.list.items (read-defined past) knows.parts;
  sieve = λ e k asked is. sifted k asked
      (omega (arith, part-below kept.list.items k asked is, knows.few)) is;
  defined = knows.defined;
  each = λ k. at-defined past (watched_at kept.list.items k) (bit_at kept.said k)
      (bit_at kept.happened k) (knows.each k);
}

parts-same : (past : List Statement) (old new : List Watched) → SameAsked old new
    → SignalsAreWatched past old → SignalsAreWatched past new
parts-same past [] [] same are = tt
parts-same past [] (one ∷ new) same are = absurd (cc (same.0))
parts-same past (first ∷ old) [] same are = tt
parts-same past (first ∷ old) (one ∷ new) same are =
    let own : one.definition ≡ first.definition = cc (same.0) in
    let asked : part_kept one ≡ part_kept first = cc (same.1) in (
      ap (option_map occasion_of) asked ∙ are.0 ∙ ap (part_read past) (sym own),
      parts-same past old new (cc (same.0), cc (same.1)) are.1,
    )

parts-at : (old new : List Watched) → map part_kept new ≡ map part_kept old → (k : ℕ)
    → part_at new k ≡ part_at old k
parts-at [] [] same k = refl
parts-at [] (one ∷ new) same k = absurd (cc (same))
parts-at (first ∷ old) [] same k = absurd (cc (same))
parts-at (first ∷ old) (one ∷ new) same zero = cc (same)
parts-at (first ∷ old) (one ∷ new) same (suc k) = parts-at old new (cc (same)) k

pub changes-changed : (all : List SignalDefined) (names : List (List ℕ)) (kept : Changes)
    (past : List Statement) (form : Form) (identifier letters : List ℕ) (list : Vec Watched)
    (said happened : ℕ) → is_defined past ≡ true → SameAsked kept.list.items list.items
    → ((k : ℕ) → KnowsAt (watched_at list.items k) (bit_at said k) (bit_at happened k)
    (change form identifier letters ∷ past))
    → KnowsChanges all names kept past
    → KnowsChanges all names (record kept { list = list; said = said; happened = happened })
    (change form identifier letters ∷ past)
changes-changed all names kept past form identifier letters list said happened ended same each
    knows = record {
      few = omega (
        arith,
        knows.few,
        ap length same.0,
        length-map list.items (λ (watched : Watched). watched.definition),
        length-map kept.list.items (λ (watched : Watched). watched.definition),
      );
      definitions = subst (AreDefined all names) (sym same.0) knows.definitions;
      parts = watched-same past (change form identifier letters ∷ past) list.items
          (read-changed past form identifier letters)
          (parts-same past kept.list.items list.items same knows.parts);
      sieve = λ e k asked is. knows.sieve ended k asked
          (sym (parts-at kept.list.items list.items same.1 k) ∙ is);
      defined = λ k. knows.defined k ∙ ap (λ own. bit_of (has_at own k)) (sym same.0);
      each = each;
    }

-- those that aren't among the numbers of an identifier don't read it
unread-one : (asked : Option (Asked Part)) (identifier : List ℕ)
    → ((one : Asked Part) → asked ≡ Some one → bytes_eq one.identifier identifier ≡ true → ⊥)
    → reads_part asked identifier ≡ false
unread-one None identifier apart = refl
unread-one (Some asked) identifier apart = search rules

pub unread : (all : List SignalDefined) (names : List (List ℕ)) (kept : Changes)
    (past : List Statement) (identifier : List ℕ) (numbers : ℕ) → is_defined past ≡ true
    → ((k : ℕ) → MayBe kept.sieve identifier k → bit_at numbers k ≡ 1)
    → KnowsChanges all names kept past → (k : ℕ) → bit_at numbers k ≢ 1
    → reads_part (part_at kept.list.items k) identifier ≡ false
unread all names kept past identifier numbers ended asked knows k clear =
    search (rules, unread-one, part_at, bytes_eq-Decides, kept.list.items, kept.sieve, knows.sieve)

-- no event is the changes of an identifier that has no number
pub changes-unread : (all : List SignalDefined) (names : List (List ℕ)) (kept : Changes)
    (past : List Statement) (form : Form) (identifier letters : List ℕ) → is_defined past ≡ true
    → ((k : ℕ) → MayBe kept.sieve identifier k → ⊥) → KnowsChanges all names kept past
    → KnowsChanges all names kept (change form identifier letters ∷ past)
changes-unread all names kept past form identifier letters ended none knows =
    changes-changed all names kept past form identifier letters kept.list kept.said kept.happened
    ended (refl, refl)
    (λ k. watched-untold past form identifier letters (watched_at kept.list.items k)
    (bit_at kept.said k) (bit_at kept.happened k)
    (unread all names kept past identifier 0 ended (λ i may. absurd (none i may)) knows k
    (λ set. absurd (omega (arith, set, bit_at-zero k)))) (knows.each k)) knows

none-read : (definition : Option SignalDefined) → None ≡ part_read [] definition
none-read None = refl
none-read (Some one) = refl

watched-push : (list : List Watched) (watched : Watched) → watched.asked ≡ None
    → SignalsAreWatched [] list → SignalsAreWatched [] (list ++ watched ∷ [])
watched-push [] watched none are = search rules
watched-push (first ∷ list) watched none are = (are.0, watched-push list watched none are.1)

at-push : (list : List Watched) (watched : Watched) (k said happened : ℕ)
    → watched.asked ≡ None → letters_kept watched.latest ≡ None
    → KnowsAt (watched_at list k) said happened []
    → KnowsAt (watched_at (list ++ watched ∷ []) k) said happened []
at-push [] watched zero said happened none silent knows = search rules
at-push [] watched (suc k) said happened none silent knows = knows
at-push (one ∷ list) watched zero said happened none silent knows = knows
at-push (one ∷ list) watched (suc k) said happened none silent knows =
    at-push list watched k said happened none silent knows

pub changes-pushed : (all : List SignalDefined) (names : List (List ℕ)) (name : List ℕ)
    (kept : Changes) (list : Vec Watched) (watched : Watched) (defined number : ℕ)
    → list.items ≡ kept.list.items ++ watched ∷ [] → watched.asked ≡ None
    → letters_kept watched.latest ≡ None → length kept.list.items ≡ length names
    → length kept.list.items < 64 → number ≡ length kept.list.items
    → watched.definition ≡ signal_definition_of all name
    → bit_at defined number ≡ bit_of (is_some watched.definition)
    → ((k : ℕ) → k ≢ number → bit_at defined k ≡ bit_at kept.defined k)
    → KnowsChanges all names kept [] → KnowsChanges all (names ++ name ∷ [])
    (record kept { list = list; defined = defined }) []
changes-pushed all names name kept list watched defined number is none silent same few at own this
    others knows =
    let f = λ (one : Watched). one.definition in
    let kept_is : map f list.items ≡ map f kept.list.items ++ watched.definition ∷ [] =
    ap (map f) is ∙ map-append f kept.list.items (watched ∷ []) in
    let long = length-map kept.list.items f in
    record {
      few = omega (arith, few, ap length is, length-append kept.list.items (watched ∷ []));
      definitions = subst (AreDefined all (names ++ name ∷ [])) (sym kept_is)
          (defined-push all names name (map f kept.list.items) watched.definition (long ∙ same) own
          knows.definitions);
      parts = subst (SignalsAreWatched []) (sym is)
          (watched-push kept.list.items watched none knows.parts);
      sieve = λ e. absurd (false≢true e);
      defined = λ k.
          bits-push (map f kept.list.items) watched.definition kept.defined defined number
          (at ∙ sym long) this others knows.defined k
          ∙ ap (λ all_kept. bit_of (has_at all_kept k)) (sym kept_is);
      each = λ k.
          subst (λ own_list. KnowsAt (watched_at own_list k) (bit_at kept.said k)
          (bit_at kept.happened k) []) (sym is)
          (at-push kept.list.items watched k (bit_at kept.said k) (bit_at kept.happened k) none
          silent (knows.each k));
    }

-- ---- places

pub watched-past : (list : List Watched) (k : ℕ) → length list ≤ k → watched_at list k ≡ None
watched-past [] k past = refl
watched-past (watched ∷ list) zero past = absurd (omega (arith, past))
watched-past (watched ∷ list) (suc k) past = watched-past list k (omega (arith, past))

pub watched-within : (list : List Watched) (k : ℕ) (d : Watched) → k < length list
    → watched_at list k ≡ Some (get_or list k d)
watched-within [] k d within = absurd (omega (arith, within))
watched-within (watched ∷ list) zero d within = refl
watched-within (watched ∷ list) (suc k) d within = watched-within list k d (omega (arith, within))

pub watched-set : (list : List Watched) (k : ℕ) (new : Watched) → k < length list
    → watched_at (set list k new) k ≡ Some new
watched-set [] k new within = absurd (omega (arith, within))
watched-set (watched ∷ list) zero new within = refl
watched-set (watched ∷ list) (suc k) new within = watched-set list k new (omega (arith, within))

pub watched-set_other : (list : List Watched) (i k : ℕ) (new : Watched) → k ≢ i
    → watched_at (set list i new) k ≡ watched_at list k
watched-set_other [] i k new other = refl
watched-set_other (watched ∷ list) zero zero new other = absurd (other refl)
watched-set_other (watched ∷ list) zero (suc k) new other = refl
watched-set_other (watched ∷ list) (suc i) zero new other = refl
watched-set_other (watched ∷ list) (suc i) (suc k) new other =
    watched-set_other list i k new (λ same. other (ap suc same))

pub map-set : {X : Type 0} (f : Watched → X) (list : List Watched) (k : ℕ) (new d : Watched)
    → k < length list → f new ≡ f (get_or list k d) → map f (set list k new) ≡ map f list
map-set f [] k new d within same = absurd (omega (arith, within))
map-set f (watched ∷ list) zero new d within same = ap (λ x. x ∷ map f list) same
map-set f (watched ∷ list) (suc k) new d within same =
    ap (λ xs. f watched ∷ xs) (map-set f list k new d (omega (arith, within)) same)

-- whether a bit wasn't set
pub first-bit : (set_already : Bool) (said : ℕ) → (set_already ≡ true) ↔ (said ≡ 1)
    → (not set_already ≡ true → said ≢ 1) × (not set_already ≡ false → said ≡ 1)
first-bit true said is = (λ wrong. absurd (cc (wrong)), λ _. is.0 refl)
first-bit false said is = (λ _ one. absurd (false≢true (is.1 one)), λ wrong. absurd (cc (wrong)))

-- what stands at a place, whatever stands where there is none
pub defaults : (list : List Watched) (k : ℕ) (d e : Watched) → k < length list
    → get_or list k d ≡ get_or list k e
defaults [] k d e within = absurd (omega (arith, within))
defaults (watched ∷ list) zero d e within = refl
defaults (watched ∷ list) (suc k) d e within = defaults list k d e (omega (arith, within))
