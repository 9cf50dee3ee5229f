-- What lines lead to.
use Rattle.std.proofs.Common.{◌≡◌, ◌≢◌, ℕ, ◌+◌, ◌<◌, ◌≤◌, ◌⊎◌, ◌↔◌, IsTrue, Bool, true, false, nat_le, nat_lt, MatchBool, is_some, List, [], ◌∷◌, ◌++◌, length, MatchResult, append_assoc, get_or, take, drop, Result, Ok, Err, refl, sym, ap, subst, ◌∙◌, inl, inr, ⊎_elim, arith}
use Rattle.std.proofs.lemmas.Bool.{cases_lt}
use Rattle.std.proofs.lemmas.Bool.Decides.{nat_tests}
use Rattle.std.proofs.lemmas.List.{length_push, length-append, map-append}
use Rattle.std.proofs.lemmas.List.Elements.{All-from_get_or}
use Rattle.std.proofs.lemmas.List.Splits.{slice_split_none, slice_split_first}
use Rattle.std.proofs.lemmas.List.Sums.{position_or_len_is}
use Rattle.std.proofs.lemmas.Slice.Zip.{AllZip-long}
use Rattle.std.specs.Char.{is_newline}
use Rattle.std.specs.List.{AllZip, slice_split, position_or_len}
use Rattle.memchr.specs.Find.{is_byte, Passes, Nowhere, NoneBefore}
use Rattle.tre_state.specs.Names.{place_of}
use Rattle.tre_state.specs.declared.names.TheConstants.{NAMES_MAX}
use Rattle.tre_parse.specs.declared.fault.ParseFault.{ParseFault}
use Rattle.tre_parse.specs.declared.fault.ParseFault.TheVariants.{Memory as ParseMemory}
use Rattle.tre_syntax.specs.declared.pattern.Pattern.{Pattern}
use Rattle.tre_define.specs.Signals.{name_of_signal, Spells as SpellsSignal}
use Rattle.tre_define.specs.Texts.{PartHasFault}
use Rattle.tre_define.specs.declared.let_fault.LetFault.{LetFault}
use Rattle.tre_num.specs.Defined.{name_of_let}
use Rattle.tre_num.specs.Definitions.{Spells as SpellsColumn}
use Rattle.tre_define.specs.declared.let_fault.LetFault.TheVariants.{BadLet, Twice as DefinedTwice, Memory as LetMemory}
use Rattle.tre_watch.specs.declared.checks.Checks.{Checks}
use Rattle.tre_watch.specs.declared.fault.WatchFault.{WatchFault}
use Rattle.tre_watch.specs.declared.fault.WatchFault.TheVariants.{TooLarge, BadLine, TooMany, Twice, Pattern as PatternFault, Empty, Memory}
use Rattle.tre_watch.specs.declared.form.Form.{Form}
use Rattle.tre_watch.specs.declared.form.Form.TheVariants.{Plain, Never, Found, Same, Follows}
use Rattle.tre_watch.specs.declared.reader.TheConstants.{FILE_MAX}
use Rattle.tre_watch.specs.Forms.{patterns_in, patterns_of}
use Rattle.tre_watch.specs.Lines.{AreTexts, IsCheck, Says, check, content_of, definition, is_silent, mistake, silence}
use Rattle.tre_watch.specs.Outcome.{ComesTo, Defines, HasFirstFault, HasLetFault, IsOutcomeFrom, Known, Outcome, SpeltChecks, SpeltPattern, SpellsPattern, columns, ended, faulty, is_enough, let_fault, may_stand, no_checks, nothing, planned, signals, with_check, with_known}
use Rattle.tre_watch.specs.Steps.{AddsDefinition, AddsPatterns, AnswersChecks, FitTogether, IsNoWantOfMemory, LineLeads, LineStops, known_in, spelt_checks, spelt_in, spelt_of}
use Rattle.tre_watch.proofs.Outcomes.{comes_once}

-- ---- one line

at_true : (test : Bool) (Then Else : Type 0) → test ≡ true → Then → MatchBool test Then Else
at_true true Then Else e is = is
at_true false Then Else e is = absurd (cc)

at_false : (test : Bool) (Then Else : Type 0) → test ≡ false → Else → MatchBool test Then Else
at_false true Then Else e is = absurd (cc)
at_false false Then Else e is = is

is_full : (names : List (List ℕ)) → NAMES_MAX ≤ length names
    → nat_le NAMES_MAX (length names) ≡ true
is_full names many = grind (arith, nat_tests)

has_room : (names : List (List ℕ)) → length names < NAMES_MAX
    → nat_le NAMES_MAX (length names) ≡ false
has_room names few = grind (arith, nat_tests)

patterns_in-push : (forms : List Form) (form : Form)
    → patterns_in (forms ++ form ∷ []) ≡ patterns_in forms + patterns_of form
patterns_in-push [] form = omega arith
patterns_in-push (first ∷ forms) form = omega (arith, patterns_in-push forms form)

let_fault_by : {D : Type 0} (Spells : List ℕ → D → Type 0) (name_of : D → List ℕ) (list : List D)
    (text : List ℕ) (at number : ℕ) (why : LetFault) (fault : WatchFault)
    → PartHasFault Spells name_of list at text why → fault ≡ let_fault number why
    → IsNoWantOfMemory fault
let_fault_by Spells name_of list text at number (BadLet n) fault bad e = rw e (λ e. cc, tt)
let_fault_by Spells name_of list text at number (DefinedTwice n) fault bad e =
    rw e (λ e. cc, tt)
let_fault_by Spells name_of list text at number LetMemory fault bad e = absurd bad

-- No fault of a definition is want of memory, or has one inside.
pub let_fault_told : (number : ℕ) (text : List ℕ) (known : Known) (fault : WatchFault)
    → HasLetFault number text known fault → IsNoWantOfMemory fault
let_fault_told number text nothing fault is = rw is (λ e. cc, tt)
let_fault_told number text (signals list) fault is =
    let_fault_by SpellsSignal name_of_signal list text (length list + 1) number is.0 fault is.1 is.2
let_fault_told number text (columns list) fault is =
    let_fault_by SpellsColumn name_of_let list text (length list + 1) number is.0 fault is.1 is.2

texts_count : (form : Form) (text : List ℕ) (texts : List (List ℕ)) → AreTexts form text texts
    → length texts ≡ patterns_of form
texts_count Plain text texts are = ap length are
texts_count Never text texts are = ap length are
texts_count Found text texts are = ap length are
texts_count Same text texts are = ap length are.2
texts_count Follows text texts are = ap length are.2

check_by : (silent : Bool) (content : List ℕ) (form : Form) (name : List ℕ)
    (texts : List (List ℕ))
    → MatchBool silent (check form name texts ≡ silence) (IsCheck content form name texts)
    → IsCheck content form name texts
check_by true content form name texts is = absurd (cc)
check_by false content form name texts is = is

-- the check that stands on a line
pub says_check : (line : List ℕ) (form : Form) (name : List ℕ) (texts : List (List ℕ))
    → Says line (check form name texts) → IsCheck (content_of line) form name texts
says_check line form name texts is =
    check_by (is_silent (content_of line)) (content_of line) form name texts is

module _ (verdicts : Bool) (scale number : ℕ) (line : List ℕ) (checks : SpeltChecks) where
  pub leads_silence : Says line silence → LineLeads verdicts scale number line checks checks
  unfolding IsOutcomeFrom
  leads_silence says = record {
    on = λ lines outcome rest. (silence, says, rest);
    fit = λ e. e;
  }

  pub stops_mistake : Says line mistake
      → LineStops verdicts scale number line checks (BadLine number)
  unfolding IsOutcomeFrom
  stops_mistake says = record {
    why = inr (λ lines. (mistake, says, refl));
    never_memory = tt;
  }

  pub stops_memory : (fault : WatchFault) → fault ≡ Memory
      → LineStops verdicts scale number line checks fault
  stops_memory fault e = record { why = inl e; never_memory = rw e tt }

  -- ---- a definition

  module _ (text : List ℕ) (says : Says line (definition text)) where
    pub leads_let : (known : Known) → Defines text checks.known known
        → LineLeads verdicts scale number line checks (with_known checks known)
    unfolding IsOutcomeFrom
    leads_let known defines = record {
      on = λ lines outcome rest. (definition text, says, inl (known, defines, rest));
      fit = λ fit. record { forms = fit.forms; patterns = fit.patterns };
    }

    pub stops_let : (fault : WatchFault)
        → (fault ≡ Memory) ⊎ HasLetFault number text checks.known fault
        → LineStops verdicts scale number line checks fault
    unfolding IsOutcomeFrom
    stops_let fault (inl e) = stops_memory fault e
    stops_let fault (inr has) = record {
      why = inr (λ lines. (definition text, says, inr (fault, has, refl)));
      never_memory = (let_fault_told number text checks.known fault has).1;
    }

  -- ---- a check

  module _ (form : Form) (name : List ℕ) (texts : List (List ℕ))
      (says : Says line (check form name texts)) where
    pub stops_form : may_stand verdicts form ≡ false
        → LineStops verdicts scale number line checks (BadLine number)
    unfolding IsOutcomeFrom
    stops_form never = record {
      why = inr (λ lines. (
        check form name texts,
        says,
        at_false (may_stand verdicts form) _ _ never refl,
      ));
      never_memory = tt;
    }

    module _ (may : may_stand verdicts form ≡ true) where
      pub stops_many : NAMES_MAX ≤ length checks.names
          → LineStops verdicts scale number line checks (TooMany number)
      unfolding IsOutcomeFrom
      stops_many many = record {
        why = inr (λ lines. (
          check form name texts,
          says,
          at_true (may_stand verdicts form) _ _ may
              (at_true (nat_le NAMES_MAX (length checks.names)) _ _ (is_full checks.names many) refl),
        ));
        never_memory = tt;
      }

      module _ (few : length checks.names < NAMES_MAX) where
        pub stops_twice : is_some (place_of checks.names name) ≡ true
            → LineStops verdicts scale number line checks (Twice number)
        unfolding IsOutcomeFrom
        stops_twice there = record {
          why = inr (λ lines. (
            check form name texts,
            says,
            at_true (may_stand verdicts form) _ _ may
                (at_false (nat_le NAMES_MAX (length checks.names)) _ _ (has_room checks.names few)
                (at_true (is_some (place_of checks.names name)) _ _ there refl)),
          ));
          never_memory = tt;
        }

        module _ (none : is_some (place_of checks.names name) ≡ false) where
          pub stops_texts : (fault : WatchFault)
              → (fault ≡ Memory)
              ⊎ ((parsed : ParseFault) × HasFirstFault scale texts parsed × (parsed ≢ ParseMemory)
              × (fault ≡ PatternFault number parsed))
              → LineStops verdicts scale number line checks fault
          unfolding IsOutcomeFrom
          stops_texts fault (inl e) = stops_memory fault e
          stops_texts fault (inr h) = record {
            why = inr (λ lines. (
              check form name texts,
              says,
              at_true (may_stand verdicts form) _ _ may
                  (at_false (nat_le NAMES_MAX (length checks.names)) _ _ (has_room checks.names few)
                  (at_false (is_some (place_of checks.names name)) _ _ none
                  (inr (h.0, h.1, ap faulty h.3)))),
            ));
            never_memory = rw h.3 h.2;
          }

          pub leads_check : (patterns : List SpeltPattern)
              → AllZip (SpellsPattern scale) texts patterns
              → LineLeads verdicts scale number line checks (with_check checks form name patterns)
          unfolding IsOutcomeFrom
          leads_check patterns spell =
              let is = says_check line form name texts says in
              record {
                on = λ lines outcome rest. (
                  check form name texts,
                  says,
                  at_true (may_stand verdicts form) _ _ may
                      (at_false (nat_le NAMES_MAX (length checks.names)) _ _ (has_room checks.names few)
                      (at_false (is_some (place_of checks.names name)) _ _ none
                      (inl (patterns, spell, rest)))),
                );
                fit = λ fit. record {
                  forms = omega (
                    arith,
                    length_push checks.names name,
                    length_push checks.forms form,
                    fit.forms,
                  );
                  patterns = omega (
                    arith,
                    length-append checks.patterns patterns,
                    patterns_in-push checks.forms form,
                    AllZip-long (SpellsPattern scale) texts patterns spell,
                    texts_count form is.text texts is.are,
                    fit.patterns,
                  );
                };
              }

-- ---- what was added

same_checks : (one other : SpeltChecks) → one.names ≡ other.names → one.forms ≡ other.forms
    → one.patterns ≡ other.patterns → one.known ≡ other.known → one ≡ other
same_checks one other names forms patterns known =
    ap (λ x. record { names = x; forms = one.forms; patterns = one.patterns; known = one.known })
    names
    ∙ (ap (λ x. record {
      names = other.names;
      forms = x;
      patterns = one.patterns;
      known = one.known;
    }) forms
    ∙ (ap (λ x. record {
      names = other.names;
      forms = other.forms;
      patterns = x;
      known = one.known;
    }) patterns
    ∙ ap (λ x. record {
      names = other.names;
      forms = other.forms;
      patterns = other.patterns;
      known = x;
    }) known))

-- The checks with one more, whose patterns were added.
pub checks_with : (old new : Checks) (form : Form) (name : List ℕ) (added : List Pattern)
    → new.names ≡ old.names ++ name ∷ [] → new.forms.items ≡ old.forms.items ++ form ∷ []
    → new.patterns.items ≡ old.patterns.items ++ added → new.meanings ≡ old.meanings
    → with_check (spelt_checks old) form name (spelt_in added) ≡ spelt_checks new
checks_with old new form name added names forms patterns meanings =
    same_checks (with_check (spelt_checks old) form name (spelt_in added)) (spelt_checks new)
    (sym names) (sym forms)
    (sym (ap spelt_in patterns ∙ map-append spelt_of old.patterns.items added))
    (ap known_in (sym meanings))

-- The patterns of two texts were added, one behind the other.
pub adds_both : (scale number : ℕ) (first second : List ℕ) (old middle new : List Pattern)
    (added : List Pattern) → middle ≡ old ++ added
    → AllZip (SpellsPattern scale) (first ∷ []) (spelt_in added)
    → (result : Result (Unit {0}) WatchFault)
    → AddsPatterns scale (second ∷ []) number middle new result
    → AddsPatterns scale (first ∷ second ∷ []) number old new result
adds_both scale number first second old middle new [] is spell result adds = absurd spell
adds_both scale number first second old middle new (one ∷ []) is spell (Ok _) adds = (
  one ∷ adds.0,
  adds.1 ∙ (ap (λ (list : List Pattern). list ++ adds.0) is
      ∙ append_assoc old (one ∷ []) adds.0),
  (spell.0, adds.2),
)
adds_both scale number first second old middle new (one ∷ []) is spell (Err fault) (inl memory) =
    inl memory
adds_both scale number first second old middle new (one ∷ []) is spell (Err fault) (inr has) =
    inr (has.0, inr (spelt_of one, spell.0, has.1), has.2, has.3)
adds_both scale number first second old middle new (one ∷ other ∷ more) is spell result adds =
    absurd spell.1

-- A definition was added.
pub let_adds : (verdicts : Bool) (scale number : ℕ) (line : List ℕ) (checks : SpeltChecks)
    (text : List ℕ) (known : Known) → Says line (definition text)
    → (result : Result (Unit {0}) WatchFault)
    → AddsDefinition text number checks.known known result
    → MatchResult result
    (λ _. LineLeads verdicts scale number line checks (with_known checks known))
    (λ fault. LineStops verdicts scale number line checks fault)
let_adds verdicts scale number line checks text known says (Ok _) adds =
    leads_let verdicts scale number line checks text says known adds
let_adds verdicts scale number line checks text known says (Err fault) adds =
    stops_let verdicts scale number line checks text says fault adds

-- ---- all lines

not_true : (t : Bool) → (t ≡ true → ⊥) → t ≡ false
not_true true never = absurd (never refl)
not_true false never = refl

lines_next : (rest : List ℕ) (end : ℕ)
    → NoneBefore (Passes (is_byte 10) rest) 0 (length rest) end → Passes (is_byte 10) rest end
    → slice_split is_newline rest
    ≡ take end rest ∷ slice_split is_newline (drop (end + 1) rest)
lines_next rest end before at =
    let high = before.high in
    let place : position_or_len is_newline rest ≡ end =
    position_or_len_is is_newline rest end 0 (omega arith)
    (λ k below. not_true (is_newline (get_or rest k 0)) (before.before k (omega arith) below))
    (λ _. at) in
    let split = slice_split_first is_newline rest 0 (omega arith) in
    rw place at split

lines_last : (rest : List ℕ) → Nowhere (Passes (is_byte 10) rest) 0 (length rest)
    → slice_split is_newline rest ≡ rest ∷ []
lines_last rest none =
    slice_split_none is_newline rest
    (All-from_get_or (λ byte. is_newline byte ≡ false) rest 0
    (λ k below. not_true (is_newline (get_or rest k 0)) (none k (omega arith) below)))

-- What becomes of the rest of the file behind these checks becomes of the file.
pub record Reaches (verdicts : Bool) (scale : ℕ) (bytes : List ℕ) (start checks : SpeltChecks)
    (number : ℕ) (rest : List ℕ) : Type 0 where
  pub on : (outcome : Outcome)
      → IsOutcomeFrom verdicts scale checks number (slice_split is_newline rest) outcome
      → IsOutcomeFrom verdicts scale start 1 (slice_split is_newline bytes) outcome
  pub fit : FitTogether checks

pub Reaches-start : (verdicts : Bool) (scale : ℕ) (bytes : List ℕ) (start : SpeltChecks)
    → FitTogether start → Reaches verdicts scale bytes start start 1 bytes
Reaches-start verdicts scale bytes start fit = record { on = λ outcome h. h; fit = fit }

module _ (verdicts : Bool) (scale : ℕ) (bytes : List ℕ) (start checks : SpeltChecks) (number : ℕ)
    (rest : List ℕ) (reaches : Reaches verdicts scale bytes start checks number rest) where
  pub Reaches-next : (end : ℕ) → NoneBefore (Passes (is_byte 10) rest) 0 (length rest) end
      → Passes (is_byte 10) rest end → (new : SpeltChecks)
      → LineLeads verdicts scale number (take end rest) checks new
      → Reaches verdicts scale bytes start new (number + 1) (drop (end + 1) rest)
  Reaches-next end before at new leads = record {
    on = λ outcome h. reaches.on outcome
        (subst (λ (lines : List (List ℕ)).
        IsOutcomeFrom verdicts scale checks number lines outcome)
        (sym (lines_next rest end before at))
        (leads.on (slice_split is_newline (drop (end + 1) rest)) outcome h));
    fit = leads.fit reaches.fit;
  }

  pub Reaches-stop : (end : ℕ) → NoneBefore (Passes (is_byte 10) rest) 0 (length rest) end
      → Passes (is_byte 10) rest end → (fault : WatchFault)
      → LineStops verdicts scale number (take end rest) checks fault
      → (fault ≡ Memory)
      ⊎ IsOutcomeFrom verdicts scale start 1 (slice_split is_newline bytes) (faulty fault)
  Reaches-stop end before at fault stops =
      ⊎_elim (λ e. inl e)
      (λ why. inr (reaches.on (faulty fault)
      (subst (λ (lines : List (List ℕ)). IsOutcomeFrom verdicts scale checks number lines
      (faulty fault))
      (sym (lines_next rest end before at))
      (why (slice_split is_newline (drop (end + 1) rest))))))
      stops.why

  module _ (none : Nowhere (Passes (is_byte 10) rest) 0 (length rest)) where
    pub Reaches-last_stop : (fault : WatchFault)
        → LineStops verdicts scale number rest checks fault
        → (fault ≡ Memory)
        ⊎ IsOutcomeFrom verdicts scale start 1 (slice_split is_newline bytes) (faulty fault)
    Reaches-last_stop fault stops =
        ⊎_elim (λ e. inl e)
        (λ why. inr (reaches.on (faulty fault)
        (subst (λ (lines : List (List ℕ)). IsOutcomeFrom verdicts scale checks number lines
        (faulty fault))
        (sym (lines_last rest none)) (why []))))
        stops.why

    pub Reaches-end : (new : SpeltChecks) → LineLeads verdicts scale number rest checks new
        → (outcome : Outcome) → outcome ≡ ended verdicts new
        → IsOutcomeFrom verdicts scale start 1 (slice_split is_newline bytes) outcome
    unfolding IsOutcomeFrom
    Reaches-end new leads outcome ends =
        reaches.on outcome
        (subst (λ (lines : List (List ℕ)).
        IsOutcomeFrom verdicts scale checks number lines outcome)
        (sym (lines_last rest none)) (leads.on [] outcome ends))

pub ended_empty : (verdicts : Bool) (checks : SpeltChecks) → is_enough verdicts checks.forms ≡ false
    → faulty Empty ≡ ended verdicts checks
ended_empty verdicts checks few = rw few refl

pub ended_some : (verdicts : Bool) (checks : SpeltChecks) → is_enough verdicts checks.forms ≡ true
    → planned checks ≡ ended verdicts checks
ended_some verdicts checks some = rw some refl

some_form : (verdicts : Bool) (forms : List Form) → is_enough verdicts forms ≡ true
    → 0 < length forms
some_form verdicts [] some = absurd (cc)
some_form verdicts (form ∷ forms) some = omega arith

pub some_name : (verdicts : Bool) (checks : SpeltChecks) → FitTogether checks
    → is_enough verdicts checks.forms ≡ true → 0 < length checks.names
some_name verdicts checks fit some = omega (arith, fit.forms, some_form verdicts checks.forms some)

-- ---- the answer

small_file : (verdicts : Bool) (known : Known) (scale : ℕ) (large : Bool) (bytes : List ℕ)
    (outcome : Outcome) → large ≡ false
    → IsOutcomeFrom verdicts scale (no_checks known) 1 (slice_split is_newline bytes) outcome
    → MatchBool large (outcome ≡ faulty TooLarge)
    (IsOutcomeFrom verdicts scale (no_checks known) 1 (slice_split is_newline bytes) outcome)
small_file verdicts known scale true bytes outcome e is = absurd (cc)
small_file verdicts known scale false bytes outcome e is = is

not_large : (bytes : List ℕ) → length bytes ≤ FILE_MAX
    → nat_lt FILE_MAX (length bytes) ≡ false
not_large bytes small = grind (arith, nat_tests)

comes_small : (verdicts : Bool) (known : Known) (scale : ℕ) (bytes : List ℕ)
    (outcome : Outcome) → length bytes ≤ FILE_MAX
    → IsOutcomeFrom verdicts scale (no_checks known) 1 (slice_split is_newline bytes) outcome
    → ComesTo verdicts known scale bytes outcome
comes_small verdicts known scale bytes outcome small is =
    small_file verdicts known scale (nat_lt FILE_MAX (length bytes)) bytes outcome
    (not_large bytes small) is

pub answers_small : (verdicts : Bool) (known : Known) (scale : ℕ) (bytes : List ℕ)
    → length bytes ≤ FILE_MAX → (answer : Result Checks WatchFault)
    → AnswersChecks
    (IsOutcomeFrom verdicts scale (no_checks known) 1 (slice_split is_newline bytes)) answer
    → AnswersChecks (ComesTo verdicts known scale bytes) answer
answers_small verdicts known scale bytes small (Ok checks) is =
    comes_small verdicts known scale bytes _ small is
answers_small verdicts known scale bytes small (Err fault) is =
    ⊎_elim (λ e. inl e) (λ h. inr (comes_small verdicts known scale bytes (faulty fault) small h))
    is

-- A test for more that says no.
pub at_most : (t : Bool) (most count : ℕ) → t ≡ false → IsTrue t ↔ (most < count) → count ≤ most
at_most t most count e is =
    ⊎_elim (λ lt. let told = is.1 lt in absurd (cc)) (λ le. le) (cases_lt most count)

pub answers_only : (verdicts : Bool) (known : Known) (scale : ℕ) (bytes : List ℕ)
    (answer : Result Checks WatchFault) → AnswersChecks (ComesTo verdicts known scale bytes) answer
    → (outcome : Outcome) → ComesTo verdicts known scale bytes outcome
    → AnswersChecks (λ other. outcome ≡ other) answer
answers_only verdicts known scale bytes (Ok checks) is outcome other =
    comes_once verdicts known scale bytes outcome _ other is
answers_only verdicts known scale bytes (Err fault) is outcome other =
    ⊎_elim (λ e. inl e)
    (λ h. inr (comes_once verdicts known scale bytes outcome (faulty fault) other h)) is
