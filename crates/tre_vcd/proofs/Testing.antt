-- What names read by tests.
use Rattle.std.specs.Global.{Vec}
use Rattle.std.proofs.Common.{◌≡◌, ◌≢◌, ℕ, zero, suc, ◌+◌, ◌%◌, ◌<◌, ◌≤◌, min, max, bit_and, Bool, true, false, List, [], ◌∷◌, ◌++◌, length, map, get_or, Option, None, Some, refl, sym, ap, ◌∙◌, subst, inl, inr, arith, rules}
use Rattle.std.specs.Option.{is_some, option_map_or, option_or}
use Rattle.std.specs.Int.{bit_at}
use Rattle.std.specs.Int.Bits.{bit_or, bit_xor}
use Rattle.std.specs.Str.{bytes_eq}
use Rattle.std.proofs.lemmas.Nat.Bits.{bit_at_or, bit_at_and, bit_at_xor, bit_at-zero, same_from_bits}
use Rattle.std.proofs.lemmas.Bool.{cases_eq, false≢true}
use Rattle.std.proofs.lemmas.List.{length-map, length-append, map-append}
use Rattle.std.proofs.lemmas.Slice.Eq.{bytes_eq-Decides}
use Rattle.tre_state.specs.Sieve.{MayBe}
use Rattle.tre_trace.specs.Reading.{bits_of}
use Rattle.tre_define.specs.Signals.{SignalDefined, signal_definition_of, test_in}
use Rattle.tre_define.specs.Values.{passes, plain_test}
use Rattle.tre_define.specs.declared.test.Test.{Test}
use Rattle.tre_vcd.specs.VcdReading.{Form, Statement, scope, upscope, var, timescale, definitions, time, change, dump, dump_end, is_defined, scopes_at, Offer, offer_in, Asked, asking, asked_in, signal_in, is_signal, identifier_in, first_read, letters_at, is_passed, tested_at}
use Rattle.tre_vcd.specs.Kept.{IsQuiet, ends_true, identifier_of, value_at, mask_from}
use Rattle.tre_vcd.specs.Signals.{AreDefined, AreTested, KnowsTests, bit_of, bit_told, has_at, has_test_at, test_at, test_kept, test_read, test_told}
use Rattle.tre_vcd.specs.declared.tests.Tested.{Tested}
use Rattle.tre_vcd.specs.declared.tests.Tests.{Tests}
use Rattle.tre_vcd.proofs.MaskBits.{passes_at, bit_in}
use Rattle.tre_vcd.proofs.Knowing.{false_of}
use Rattle.tre_vcd.proofs.Masks.{mask-bits}
use Rattle.tre_vcd.proofs.Plain.{plain-is}

-- ---- what a definition reads, one statement later

pub or-none : {X : Type 0} (o : Option X) → option_or o None ≡ o
or-none None = refl
or-none (Some x) = refl

pub test-next : (past : List Statement) (tokens : List (List ℕ)) (one : SignalDefined)
    (offer : Offer) → offer_in (scopes_at past) tokens ≡ Some offer
    → test_read (var tokens ∷ past) (Some one)
    ≡ option_or (test_read past (Some one)) (asked_in (test_in one) offer)
test-next past tokens one offer is = search rules

-- where each definition reads what it read
pub tested-same : (past now : List Statement) (list : List Tested)
    → ((definition : Option SignalDefined) → test_read now definition ≡ test_read past definition)
    → AreTested past list → AreTested now list
tested-same past now [] same are = tt
tested-same past now (tested ∷ list) same are =
    (are.0 ∙ sym (same tested.definition), tested-same past now list same are.1)

pub read-changed : (past : List Statement) (form : Form) (identifier letters : List ℕ)
    (definition : Option SignalDefined)
    → test_read (change form identifier letters ∷ past) definition ≡ test_read past definition
read-changed past form identifier letters None = refl
read-changed past form identifier letters (Some one) = refl

-- ---- values

pub value-told : (past : List Statement) (form : Form) (identifier letters : List ℕ)
    (asked : Option (Asked Test))
    → bit_told (test_told asked identifier letters)
    (bit_of (option_map_or (is_passed past) asked false))
    ≡ bit_of (option_map_or (is_passed (change form identifier letters ∷ past)) asked false)
value-told past form identifier letters None = refl
value-told past form identifier letters (Some asked) = search rules

pub untold : (identifier letters : List ℕ) (asked : Option (Asked Test))
    → ((one : Asked Test) → asked ≡ Some one → bytes_eq one.identifier identifier ≡ false)
    → test_told asked identifier letters ≡ None
untold identifier letters None other = refl
untold identifier letters (Some asked) other = search rules

-- ---- tests by their places

pub test-past : (list : List Tested) (k : ℕ) → length list ≤ k → test_at list k ≡ None
test-past [] k past = refl
test-past (tested ∷ list) zero past = absurd (omega (arith, past))
test-past (tested ∷ list) (suc k) past = test-past list k (omega (arith, past))

pub test-within : (list : List Tested) (k : ℕ) (d : Tested) → k < length list
    → test_at list k ≡ test_kept (get_or list k d)
test-within [] k d within = absurd (omega (arith, within))
test-within (tested ∷ list) zero d within = refl
test-within (tested ∷ list) (suc k) d within = test-within list k d (omega (arith, within))

-- ---- names without a definition

asking-or : {X : Type 0} (asks : X) (one other : Option (List ℕ))
    → option_or (asking asks one) (asking asks other) ≡ asking asks (option_or one other)
asking-or asks None other = refl
asking-or asks (Some own) other = refl

pub plain-read : (past : List Statement) (name : List ℕ)
    → first_read (signal_in None name) past
    ≡ asking plain_test (identifier_of is_signal past name)
plain-read [] name = refl
plain-read (scope other ∷ past) name = plain-read past name
plain-read (upscope ∷ past) name = plain-read past name
plain-read (var tokens ∷ past) name =
    ap (λ (o : Option (Asked Test)). option_or o
    (asking plain_test (identifier_in is_signal (scopes_at past) name tokens)))
    (plain-read past name)
    ∙ asking-or plain_test (identifier_of is_signal past name)
    (identifier_in is_signal (scopes_at past) name tokens)
plain-read (timescale tokens ∷ past) name = plain-read past name
plain-read (definitions ∷ past) name = plain-read past name
plain-read (time ticks ∷ past) name = plain-read past name
plain-read (change form other letters ∷ past) name = plain-read past name
plain-read (dump ∷ past) name = plain-read past name
plain-read (dump_end ∷ past) name = plain-read past name

plain-letters : (letters : Option (List ℕ))
    → option_map_or (passes plain_test) letters false ≡ option_map_or ends_true letters false
plain-letters None = refl
plain-letters (Some letters) = plain-is letters

plain-passed : (past : List Statement) (identified : Option (List ℕ))
    → option_map_or (is_passed past) (asking plain_test identified) false
    ≡ option_map_or (value_at past) identified false
plain-passed past None = refl
plain-passed past (Some identifier) = plain-letters (letters_at past identifier)

plain-true : (all : List SignalDefined) (past : List Statement) (name : List ℕ)
    → signal_definition_of all name ≡ None
    → option_map_or (value_at past) (identifier_of is_signal past name) false
    ≡ tested_at all past name
plain-true all past name none =
    search (rules, plain-passed, identifier_of, is_signal, is_passed, plain-read, first_read)

-- ---- all names by their numbers

pub none-passes : (past : List Statement) (asked : Option (Asked Test)) → asked ≡ None
    → option_map_or (is_passed past) asked false ≡ false
none-passes past asked none = search rules

abbrev pub either : Bool → Bool → Bool → Bool
either true own plain = own
either false own plain = plain

chosen-one : (all : List SignalDefined) (past : List Statement) (name : List ℕ)
    (tested : Tested) (definition : Option SignalDefined) → tested.definition ≡ definition
    → definition ≡ signal_definition_of all name → test_kept tested ≡ test_read past definition
    → either (is_some definition) (option_map_or (is_passed past) (test_kept tested) false)
    (option_map_or (value_at past) (identifier_of is_signal past name) false)
    ≡ tested_at all past name
chosen-one all past name tested None own is kept = plain-true all past name (sym is)
chosen-one all past name tested (Some one) own is kept = search rules

chosen : (all : List SignalDefined) (past : List Statement) (names : List (List ℕ))
    (list : List Tested) (k : ℕ)
    → AreDefined all names (map (λ tested. tested.definition) list) → AreTested past list
    → either (has_test_at list k) (option_map_or (is_passed past) (test_at list k) false)
    (passes_at (identifier_of is_signal past) (value_at past) names k)
    ≡ passes_at Some (tested_at all past) names k
chosen all past [] [] k defined are = refl
chosen all past [] (tested ∷ list) k defined are = cc (defined)
chosen all past (name ∷ names) [] zero defined are = plain-true all past name defined.0
chosen all past (name ∷ names) [] (suc k) defined are =
    chosen all past names [] k defined.1 are
chosen all past (name ∷ names) (tested ∷ list) zero defined are =
    chosen-one all past name tested tested.definition refl defined.0 are.0
chosen all past (name ∷ names) (tested ∷ list) (suc k) defined are =
    chosen all past names list k defined.1 are.1

-- a name without a definition asks no test
undefined-none : (past : List Statement) (tested : Tested) (definition : Option SignalDefined)
    → is_some definition ≡ false → test_kept tested ≡ test_read past definition
    → test_kept tested ≡ None
undefined-none past tested None none is = is
undefined-none past tested (Some one) none is = absurd (cc (none))

pub unasked : (past : List Statement) (list : List Tested) (k : ℕ) → AreTested past list
    → has_test_at list k ≡ false → test_at list k ≡ None
unasked past [] k are none = refl
unasked past (tested ∷ list) zero are none = search rules
unasked past (tested ∷ list) (suc k) are none = unasked past list k are.1 none

pub bit-either : (has own plain : Bool) (result plain_bit mask own_bit : ℕ)
    → result ≡ max ((plain_bit + min plain_bit mask) % 2) own_bit
    → plain_bit ≡ bit_of plain → mask ≡ bit_of has → own_bit ≡ bit_of own
    → (has ≡ false → own ≡ false) → result ≡ bit_of (either has own plain)
bit-either true own true result plain_bit mask own_bit is p m o only = search rules
bit-either true own false result plain_bit mask own_bit is p m o only = search rules
bit-either false own plain result plain_bit mask own_bit is p m o only = search rules

-- The number whose bits are those of the tests, where a name has one, and else those of the values.
pub valuation-is : (all : List SignalDefined) (past : List Statement) (names : List (List ℕ))
    (list : List Tested) (result plain mask values : ℕ)
    → AreDefined all names (map (λ tested. tested.definition) list) → AreTested past list
    → result ≡ bit_or (bit_xor plain (bit_and plain mask)) values
    → plain ≡ mask_from (identifier_of is_signal past) (value_at past) 0 names
    → ((k : ℕ) → bit_at mask k ≡ bit_of (has_test_at list k))
    → ((k : ℕ) → bit_at values k
    ≡ bit_of (option_map_or (is_passed past) (test_at list k) false))
    → result ≡ bits_of (tested_at all past) names
valuation-is all past names list result plain mask values defined are is plain_is masked own =
    same_from_bits result (mask_from Some (tested_at all past) 0 names) (λ k.
    let both : bit_at result k
    ≡ max ((bit_at plain k + min (bit_at plain k) (bit_at mask k)) % 2) (bit_at values k) =
    ap (λ n. bit_at n k) is
    ∙ bit_at_or (bit_xor plain (bit_and plain mask)) values k
    ∙ ap (λ n. max n (bit_at values k)) (bit_at_xor plain (bit_and plain mask) k
    ∙ ap (λ n. (bit_at plain k + n) % 2) (bit_at_and plain mask k)) in
    let plain_bit = ap (λ n. bit_at n k) plain_is
    ∙ bit_in (identifier_of is_signal past) (value_at past) names k in
    bit-either (has_test_at list k) (option_map_or (is_passed past) (test_at list k) false)
    (passes_at (identifier_of is_signal past) (value_at past) names k) (bit_at result k)
    (bit_at plain k) (bit_at mask k) (bit_at values k) both plain_bit (masked k) (own k)
    (λ none. none-passes past (test_at list k) (unasked past list k are none))
    ∙ ap bit_of (chosen all past names list k defined are)
    ∙ sym (bit_in Some (tested_at all past) names k))
    ∙ mask-bits Some (tested_at all past) names

-- ---- what is kept of tests, one statement later

pub quiet-passes : (past : List Statement) → IsQuiet past → (asked : Option (Asked Test))
    → option_map_or (is_passed past) asked false ≡ false
quiet-passes past quiet None = refl
quiet-passes past quiet (Some asked) =
    ap (λ letters. option_map_or (passes asked.asks) letters false)
    (quiet.values asked.identifier)

pub tests-declared : (all : List SignalDefined) (names : List (List ℕ)) (kept : Tests)
    (past : List Statement) (tokens : List (List ℕ)) (list : Vec Tested) → IsQuiet past
    → is_defined past ≡ false
    → map (λ tested. tested.definition) list.items
    ≡ map (λ tested. tested.definition) kept.list.items
    → AreTested (var tokens ∷ past) list.items → KnowsTests all names kept past
    → KnowsTests all names (record kept { list = list }) (var tokens ∷ past)
tests-declared all names kept past tokens list quiet before same are knows =
    search (rules, length-map, definitions, bit_of, has_at, quiet-passes)

read-defined : (past : List Statement) (definition : Option SignalDefined)
    → test_read (definitions ∷ past) definition ≡ test_read past definition
read-defined past None = refl
read-defined past (Some one) = refl

passed-defined : (past : List Statement) (asked : Option (Asked Test))
    → option_map_or (is_passed past) asked false
    ≡ option_map_or (is_passed (definitions ∷ past)) asked false
passed-defined past None = refl
passed-defined past (Some asked) = refl

pub at-below : (list : List Tested) (k : ℕ) (asked : Asked Test) → test_at list k ≡ Some asked
    → k < length list
at-below [] k asked is = absurd (cc (is))
at-below (tested ∷ list) zero asked is = omega arith
at-below (tested ∷ list) (suc k) asked is = omega (arith, at-below list k asked is)

pub tests-sifted : (all : List SignalDefined) (names : List (List ℕ)) (kept : Tests)
    (past : List Statement) (sieve : List ℕ)
    → ((k : ℕ) (asked : Asked Test) → k < 64 → test_at kept.list.items k ≡ Some asked
    → MayBe sieve asked.identifier k)
    → KnowsTests all names kept past
    → KnowsTests all names (record kept { sieve = sieve }) (definitions ∷ past)
tests-sifted all names kept past sieve sifted knows =
    search (rules, tested-same, read-defined, at-below, bit_of, passed-defined, kept.list.items)

-- where the sieve is told of more
pub tests-sieved : (all : List SignalDefined) (names : List (List ℕ)) (kept : Tests)
    (past : List Statement) (sieve : List ℕ)
    → ((identifier : List ℕ) (k : ℕ) → MayBe kept.sieve identifier k → MayBe sieve identifier k)
    → KnowsTests all names kept past → KnowsTests all names (record kept { sieve = sieve }) past
tests-sieved all names kept past sieve more knows = record {
  few = knows.few;
  definitions = knows.definitions;
  tests = knows.tests;
  sieve = λ e k asked is. more asked.identifier k (knows.sieve e k asked is);
  defined = knows.defined;
  values = knows.values;
}

-- a number that isn't told has another identifier
pub tests-changed : (all : List SignalDefined) (names : List (List ℕ)) (kept : Tests)
    (past : List Statement) (form : Form) (identifier letters : List ℕ) (numbers values : ℕ)
    → is_defined past ≡ true → ((k : ℕ) → MayBe kept.sieve identifier k → bit_at numbers k ≡ 1)
    → ((k : ℕ) → bit_at numbers k ≡ 1 → bit_at values k
    ≡ bit_told (test_told (test_at kept.list.items k) identifier letters) (bit_at kept.values k))
    → ((k : ℕ) → bit_at numbers k ≢ 1 → bit_at values k ≡ bit_at kept.values k)
    → KnowsTests all names kept past
    → KnowsTests all names (record kept { values = values })
    (change form identifier letters ∷ past)
tests-changed all names kept past form identifier letters numbers values ended asked told stays
    knows = record {
      few = knows.few;
      definitions = knows.definitions;
      tests = tested-same past (change form identifier letters ∷ past) kept.list.items
          (read-changed past form identifier letters) knows.tests;
      sieve = λ e. knows.sieve ended;
      defined = knows.defined;
      values = λ k.
          let list = kept.list.items in
          let now : bit_at values k
          ≡ bit_told (test_told (test_at list k) identifier letters) (bit_at kept.values k) =
          elim (cases_eq (bit_at numbers k) 1) [
            | inl set ↦ told k set
            | inr clear ↦
                stays k clear
                ∙ ap (λ (o : Option Bool). bit_told o (bit_at kept.values k))
                (sym (untold identifier letters (test_at list k) (λ one is.
                false_of (bytes_eq one.identifier identifier) (λ same.
                clear (asked k (subst (λ own. MayBe kept.sieve own k)
                ((bytes_eq-Decides one.identifier identifier).0 same)
                (knows.sieve ended k one is)))))))
          ] in
          now
          ∙ ap (bit_told (test_told (test_at list k) identifier letters)) (knows.values k)
          ∙ value-told past form identifier letters (test_at list k);
    }

-- no test reads an identifier that has no number
pub tests-unread : (all : List SignalDefined) (names : List (List ℕ)) (kept : Tests)
    (past : List Statement) (form : Form) (identifier letters : List ℕ) → is_defined past ≡ true
    → ((k : ℕ) → MayBe kept.sieve identifier k → ⊥) → KnowsTests all names kept past
    → KnowsTests all names kept (change form identifier letters ∷ past)
tests-unread all names kept past form identifier letters ended none knows =
    tests-changed all names kept past form identifier letters 0 kept.values ended
    (λ k may. absurd (none k may)) (λ k set. absurd (omega (arith, set, bit_at-zero k)))
    (λ k clear. refl) knows

-- ---- one name more

has-push : (kept : List (Option SignalDefined)) (own : Option SignalDefined) (k : ℕ)
    → k ≢ length kept → has_at (kept ++ own ∷ []) k ≡ has_at kept k
has-push [] own zero other = absurd (other refl)
has-push [] own (suc k) other = refl
has-push (first ∷ kept) own zero other = refl
has-push (first ∷ kept) own (suc k) other = has-push kept own k (λ e. other (ap suc e))

has-pushed : (kept : List (Option SignalDefined)) (own : Option SignalDefined)
    → has_at (kept ++ own ∷ []) (length kept) ≡ is_some own
has-pushed [] own = refl
has-pushed (first ∷ kept) own = has-pushed kept own

pub defined-push : (all : List SignalDefined) (names : List (List ℕ)) (name : List ℕ)
    (kept : List (Option SignalDefined)) (own : Option SignalDefined)
    → length kept ≡ length names → own ≡ signal_definition_of all name
    → AreDefined all names kept → AreDefined all (names ++ name ∷ []) (kept ++ own ∷ [])
defined-push all [] name kept own same is defined = search rules
defined-push all (first ∷ names) name [] own same is defined = absurd (omega (arith, same))
defined-push all (first ∷ names) name (one ∷ kept) own same is defined =
    (defined.0, defined-push all names name kept own (omega (arith, same)) is defined.1)

-- the bits that say so
pub bits-push : (kept : List (Option SignalDefined)) (own : Option SignalDefined)
    (old new number : ℕ) → number ≡ length kept → bit_at new number ≡ bit_of (is_some own)
    → ((k : ℕ) → k ≢ number → bit_at new k ≡ bit_at old k)
    → ((k : ℕ) → bit_at old k ≡ bit_of (has_at kept k)) → (k : ℕ)
    → bit_at new k ≡ bit_of (has_at (kept ++ own ∷ []) k)
bits-push kept own old new number is this others was k =
    search (rules, cases_eq, bit_of, has_at, has-pushed, has-push)

none-read : (definition : Option SignalDefined) → None ≡ test_read [] definition
none-read None = refl
none-read (Some one) = refl

none-quiet : IsQuiet []
none-quiet = record { values = λ identifier. refl; events = λ identifier. refl }

tested-push : (list : List Tested) (tested : Tested) → tested.asked ≡ None
    → AreTested [] list → AreTested [] (list ++ tested ∷ [])
tested-push [] tested none are = search rules
tested-push (first ∷ list) tested none are = (are.0, tested-push list tested none are.1)

pub tests-pushed : (all : List SignalDefined) (names : List (List ℕ)) (name : List ℕ)
    (kept : Tests) (list : Vec Tested) (tested : Tested) (defined number : ℕ)
    → list.items ≡ kept.list.items ++ tested ∷ [] → tested.asked ≡ None
    → length kept.list.items ≡ length names → length kept.list.items < 64
    → number ≡ length kept.list.items → tested.definition ≡ signal_definition_of all name
    → bit_at defined number ≡ bit_of (is_some tested.definition)
    → ((k : ℕ) → k ≢ number → bit_at defined k ≡ bit_at kept.defined k)
    → KnowsTests all names kept [] → KnowsTests all (names ++ name ∷ [])
    (record kept { list = list; defined = defined }) []
tests-pushed all names name kept list tested defined number is none same few at own this others
    knows =
    let f = λ (one : Tested). one.definition in
    let kept_is : map f list.items ≡ map f kept.list.items ++ tested.definition ∷ [] =
    ap (map f) is ∙ map-append f kept.list.items (tested ∷ []) in
    let long = length-map kept.list.items f in
    record {
      few = omega (arith, few, ap length is, length-append kept.list.items (tested ∷ []));
      definitions = subst (AreDefined all (names ++ name ∷ [])) (sym kept_is)
          (defined-push all names name (map f kept.list.items) tested.definition (long ∙ same) own
          knows.definitions);
      tests = subst (AreTested []) (sym is)
          (tested-push kept.list.items tested none knows.tests);
      sieve = λ e. absurd (false≢true e);
      defined = λ k.
          bits-push (map f kept.list.items) tested.definition kept.defined defined number
          (at ∙ sym long) this others knows.defined k
          ∙ ap (λ all_kept. bit_of (has_at all_kept k)) (sym kept_is);
      values = λ k.
          knows.values k
          ∙ ap bit_of (quiet-passes [] none-quiet (test_at kept.list.items k)
          ∙ sym (quiet-passes [] none-quiet (test_at list.items k)));
    }
