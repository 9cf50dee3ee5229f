-- Every file has an outcome.
use Rattle.std.proofs.Common.{◌≡◌, ℕ, zero, suc, ◌+◌, ◌<◌, ◌≤◌, ◌⊎◌, Bool, true, false, nat_le, nat_lt, MatchBool, is_some, Option, None, Some, List, [], ◌∷◌, ◌++◌, length, codes, get_or, drop, refl, sym, ap, subst, ◌∙◌, inl, inr, ⊎_elim, arith}
use Rattle.std.proofs.lemmas.Bool.{cases_Bool, cases_eq, cases_lt}
use Rattle.std.proofs.lemmas.Bool.Decides.{nat_tests}
use Rattle.std.proofs.lemmas.List.{length-append}
use Rattle.std.proofs.lemmas.List.Splits.{slice_split_none}
use Rattle.std.proofs.lemmas.List.Sums.{AllPass-from_list_all}
use Rattle.std.proofs.lemmas.Option.{none-some}
use Rattle.std.proofs.lemmas.Slice.Eq.{bytes_eq-Decides}
use Rattle.std.proofs.lemmas.Str.Ascii.{IsAscii-nil, IsAscii-cons}
use Rattle.std.proofs.Math.Seq.{drop-nil}
use Rattle.std.specs.Char.{is_newline}
use Rattle.std.specs.List.{All, AllZip, list_all, slice_split}
use Rattle.std.specs.Str.{IsAscii, bytes_eq}
use Rattle.tre_define.specs.Signals.{AreRefused, DefineSignals, SignalDefined, name_of_signal, Spells as SpellsSignal}
use Rattle.tre_define.specs.Texts.{Define, PartHasFault, PartsAreRefused, is_semicolon, is_space, named, parts_of}
use Rattle.tre_define.specs.declared.let_fault.LetFault.{LetFault}
use Rattle.tre_define.specs.declared.let_fault.LetFault.TheVariants.{BadLet, Twice as DefinedTwice, Memory as LetMemory}
use Rattle.tre_define.proofs.SomeReading.{IsOrNot}
use Rattle.tre_num.specs.Defined.{name_of_let}
use Rattle.tre_num.specs.Definitions.{Spells as SpellsColumn}
use Rattle.tre_num.proofs.SomeReading.{is_or_not as column_or_not}
use Rattle.tre_state.proofs.Deciding.{Decided, name_or}
use Rattle.tre_state.specs.Name.{IsName, starts_name}
use Rattle.tre_state.specs.Names.{place_of}
use Rattle.tre_state.specs.declared.names.TheConstants.{NAMES_MAX}
use Rattle.tre_parse.specs.Outcome.{Outcome as Parsed, spelt, refused, IsOutcome as ParsesTo}
use Rattle.tre_parse.specs.declared.fault.ParseFault.{ParseFault}
use Rattle.tre_parse.proofs.Existence.{outcome_is as text_outcome}
use Rattle.tre_watch.specs.declared.fault.WatchFault.{WatchFault}
use Rattle.tre_watch.specs.declared.fault.WatchFault.TheVariants.{TooLarge, BadLine, TooMany, Twice, Pattern}
use Rattle.tre_watch.specs.declared.form.Form.{Form}
use Rattle.tre_watch.specs.declared.form.Form.TheVariants.{Plain, Never, Found}
use Rattle.tre_watch.specs.declared.reader.TheConstants.{FILE_MAX}
use Rattle.tre_watch.specs.Forms.{has_verdict, word_of}
use Rattle.tre_watch.specs.Lines.{AreTexts, IsDefinition, IsFirstArrow, IsNamed, Said, Says, Stands, begins_word, behind_word, is_of_definition, check, content_of, definition, form_at, is_silent, mistake, silence, word_in}
use Rattle.tre_watch.specs.Outcome.{AfterLet, AfterTexts, Defines, Follows as GoesOn, GoesBehind, HasFirstFault, HasLetFault, IsOutcome, IsOutcomeFrom, Kind, Known, Outcome, SpeltChecks, SpeltPattern, SpellsPattern, columns, ended, faulty, judged, let_fault, may_stand, no_checks, nothing, signals, watched, with_check, with_known}
use Rattle.tre_watch.specs.Steps.{IsWorded, may_define}
use Rattle.tre_watch.proofs.Saying.{named_once}
use Rattle.tre_watch.proofs.Standing.{each_has_arrow, has_arrow-at, has_verdict-arrow, let_stands, no_arrow, none_stands, not_ascii, other_words, paired_texts, plain_stands, word_of-arrow, worded_check}

-- ---- what stands on a line

ascii_with : (byte : ℕ) (bytes : List ℕ) → (byte < 128) ⊎ (128 ≤ byte) → Decided (IsAscii bytes)
    → Decided (IsAscii (byte ∷ bytes))
ascii_with byte bytes (inl small) (inl rest) = inl (IsAscii-cons byte bytes small rest)
ascii_with byte bytes (inl small) (inr never) = inr (λ h. never (λ place. h (suc place)))
ascii_with byte bytes (inr large) _ = inr (λ h. let small = h 0 in absurd (omega arith))

ascii_or : (bytes : List ℕ) → Decided (IsAscii bytes)
ascii_or [] = inl IsAscii-nil
ascii_or (byte ∷ bytes) = ascii_with byte bytes (cases_lt byte 128) (ascii_or bytes)

-- Some name and text stand there.
record HasName (bytes : List ℕ) : Type 0 where
  name : List ℕ
  text : List ℕ
  is : IsNamed bytes name text

-- The bytes begin with `=`.
sign_or : (bytes : List ℕ) → ((text : List ℕ) × (bytes ≡ 61 ∷ text))
    ⊎ ((text : List ℕ) → bytes ≡ 61 ∷ text → ⊥)
sign_or [] = inr (λ text e. cc)
sign_or (byte ∷ bytes) =
    ⊎_elim
    (λ is. inl (bytes, ap (λ b. b ∷ bytes) is))
    (λ other. inr (λ text e. other (ap (λ bs. get_or bs 0 0) e)))
    (cases_eq byte 61)

named_or : (bytes : List ℕ) → Decided (HasName bytes)
named_or bytes = judge (name_or (word_in bytes)) (sign_or (behind_word bytes))
  where
    judge : Decided (IsName (word_in bytes))
        → ((text : List ℕ) × (behind_word bytes ≡ 61 ∷ text))
        ⊎ ((text : List ℕ) → behind_word bytes ≡ 61 ∷ text → ⊥) → Decided (HasName bytes)
    judge (inl name) (inl sign) = inl (record {
      name = word_in bytes;
      text = sign.0;
      is = record { is_name = name; word = refl; behind = sign.1 };
    })
    judge (inl name) (inr never) = inr (λ has. never has.text has.is.behind)
    judge (inr never) _ = inr (λ has. never (subst IsName (sym has.is.word) has.is.is_name))

-- A text has a first arrow.
record HasArrow (text : List ℕ) : Type 0 where
  form : Form
  place : ℕ
  is : IsFirstArrow form text place

arrow_or : (text : List ℕ)
    → HasArrow text ⊎ ((place : ℕ) → form_at (drop place text) ≡ None)
arrow_or [] = inr (λ place. ap form_at (drop-nil place) ∙ refl)
arrow_or (byte ∷ bytes) = here (form_at (byte ∷ bytes)) refl (arrow_or bytes)
  where
    here : (found : Option Form) → form_at (byte ∷ bytes) ≡ found
        → HasArrow bytes ⊎ ((place : ℕ) → form_at (drop place bytes) ≡ None)
        → HasArrow (byte ∷ bytes) ⊎ ((place : ℕ) → form_at (drop place (byte ∷ bytes)) ≡ None)
    here (Some form) e later = inl (record {
      form = form;
      place = 0;
      is = record { here = e; none = λ before lt. absurd (omega arith) };
    })
    here None e (inl later) = inl (record {
      form = later.form;
      place = suc later.place;
      is = record { here = later.is.here; none = front e later };
    })
      where
        front : form_at (byte ∷ bytes) ≡ None → (later : HasArrow bytes) → (before : ℕ)
            → before < suc later.place → form_at (drop before (byte ∷ bytes)) ≡ None
        front e later zero lt = e
        front e later (suc before) lt = later.is.none before (omega arith)
    here None e (inr none) = inr (front e none)
      where
        front : form_at (byte ∷ bytes) ≡ None
            → ((place : ℕ) → form_at (drop place bytes) ≡ None)
            → (place : ℕ) → form_at (drop place (byte ∷ bytes)) ≡ None
        front e none zero = e
        front e none (suc place) = none place

-- A check stands behind a word.
record HasWorded (word rest : List ℕ) : Type 0 where
  form : Form
  name : List ℕ
  texts : List (List ℕ)
  is : IsWorded word rest form name texts

same_or : (xs ys : List ℕ) → (xs ≡ ys) ⊎ (xs ≡ ys → ⊥)
same_or xs ys =
    ⊎_elim
    (λ e. inl ((bytes_eq-Decides xs ys).0 e))
    (λ e. inr (λ same. let told = (bytes_eq-Decides xs ys).1 same in cc))
    (cases_Bool (bytes_eq xs ys))

module _ (word rest : List ℕ) where
  worded_as : (form : Form) (texts : List (List ℕ)) (named : HasName rest)
      → has_verdict form ≡ true → word ≡ word_of form → AreTexts form named.text texts
      → HasWorded word rest
  worded_as form texts named verdict is_word are = record {
    form = form;
    name = named.name;
    texts = texts;
    is = record {
      verdict = verdict;
      is_word = is_word;
      text = named.text;
      named = named.is;
      are = are;
    };
  }

  each_or : (named : HasName rest) → word ≡ codes "each"
      → HasArrow named.text ⊎ ((place : ℕ) → form_at (drop place named.text) ≡ None)
      → Decided (HasWorded word rest)
  each_or named each (inl arrow) =
      let has = has_arrow-at (drop arrow.place named.text) arrow.form arrow.is.here in
      inl (worded_as arrow.form _ named (has_verdict-arrow arrow.form has)
      (each ∙ word_of-arrow arrow.form has)
      (paired_texts arrow.form named.text arrow.place has arrow.is))
  each_or named each (inr none) = inr (λ has.
      let same = named_once rest named.name named.text has.name has.is.text named.is has.is.named in
      no_arrow has.form named.text has.texts
      (each_has_arrow has.form has.is.verdict (sym each ∙ has.is.is_word)) none
      (subst (λ text. AreTexts has.form text has.texts) (sym same.1) has.is.are))

  worded_by : Decided (HasName rest) → (word ≡ codes "never") ⊎ (word ≡ codes "never" → ⊥)
      → (word ≡ codes "some") ⊎ (word ≡ codes "some" → ⊥)
      → (word ≡ codes "each") ⊎ (word ≡ codes "each" → ⊥) → Decided (HasWorded word rest)
  worded_by (inr unnamed) _ _ _ = inr (λ has.
      unnamed (record { name = has.name; text = has.is.text; is = has.is.named }))
  worded_by (inl named) (inl is) _ _ =
      inl (worded_as Never (named.text ∷ []) named refl is refl)
  worded_by (inl named) (inr never) (inl is) _ =
      inl (worded_as Found (named.text ∷ []) named refl is refl)
  worded_by (inl named) (inr never) (inr some) (inl is) =
      each_or named is (arrow_or named.text)
  worded_by (inl named) (inr never) (inr some) (inr each) = inr (λ has.
      other_words has.form word never some each has.is.verdict has.is.is_word)

  worded_or : Decided (HasWorded word rest)
  worded_or = worded_by (named_or rest) (same_or word (codes "never"))
      (same_or word (codes "some")) (same_or word (codes "each"))

let_some : (rest : List ℕ) (t : Bool)
    → (said : Said) × MatchBool t (said ≡ definition rest) (said ≡ mistake)
let_some rest true = (definition rest, refl)
let_some rest false = (mistake, refl)

stands_by : (content : List ℕ) → Decided (IsAscii content) → Decided (HasName content)
    → (word_in content ≡ codes "let") ⊎ (word_in content ≡ codes "let" → ⊥)
    → Decided (HasWorded (word_in content) (behind_word content))
    → (said : Said) × Stands content said
stands_by content (inr never) _ _ _ = (mistake, not_ascii content never)
stands_by content (inl ascii) (inl named) _ _ = (
  check Plain named.name (named.text ∷ []),
  plain_stands content named.name named.text ascii named.is,
)
stands_by content (inl ascii) (inr unnamed) (inl word) _ =
    let told = let_some (behind_word content) (may_define (behind_word content)) in (
      told.0,
      let_stands content told.0 ascii
          (λ name text is. unnamed (record { name = name; text = text; is = is })) word told.1,
    )
stands_by content (inl ascii) (inr unnamed) (inr other) (inl has) = (
  check has.form has.name has.texts,
  worded_check content has.form has.name has.texts ascii has.is,
)
stands_by content (inl ascii) (inr unnamed) (inr other) (inr none) = (
  mistake,
  none_stands content
      (λ name text is. unnamed (record { name = name; text = text; is = is })) other
      (λ form name texts is.
      none (record { form = form; name = name; texts = texts; is = is })),
)

silent_or : (silent : Bool) (content : List ℕ)
    → (said : Said) × MatchBool silent (said ≡ silence) (Stands content said)
silent_or true content = (silence, refl)
silent_or false content =
    stands_by content (ascii_or content) (named_or content)
    (same_or (word_in content) (codes "let"))
    (worded_or (word_in content) (behind_word content))

-- Every line says something.
says_some : (line : List ℕ) → (said : Said) × Says line said
says_some line = silent_or (is_silent (content_of line)) (content_of line)

-- ---- definitions

-- The text of a line's definition is one part.
begins_not_space : (byte : ℕ) → starts_name byte ≡ true → is_space byte ≡ false
begins_not_space byte h = grind (arith, nat_tests)

of_definition_not_semicolon : (byte : ℕ) → is_of_definition byte ≡ true
    → is_semicolon byte ≡ false
of_definition_not_semicolon byte h = grind (arith, nat_tests)

no_semicolon : (text : List ℕ) → list_all is_of_definition text ≡ true
    → All (λ byte. is_semicolon byte ≡ false) text
no_semicolon text one = λ k d below.
    of_definition_not_semicolon (get_or text k d)
    (AllPass-from_list_all is_of_definition text one k d below)

one_part : (text : List ℕ) → begins_word text ≡ true → list_all is_of_definition text ≡ true
    → parts_of text ≡ text ∷ []
one_part [] begins one = absurd (cc)
one_part (byte ∷ bytes) begins one =
    let other = begins_not_space byte begins in
    rw other (slice_split_none is_semicolon (byte ∷ bytes) (no_semicolon (byte ∷ bytes) one))

module _ {D : Type 0} (Spells : List ℕ → D → Type 0) (name_of : D → List ℕ) where
  spelt_alone : (text : List ℕ) (definitions : List D) → AllZip Spells (text ∷ []) definitions
      → IsOrNot Spells text
  spelt_alone text [] good = absurd good
  spelt_alone text (defined ∷ definitions) good = inl (defined, good.0)

  refused_by : (text : List ℕ) (definitions : List D) (at : ℕ) (fault : LetFault)
      → AllZip Spells [] definitions → PartHasFault Spells name_of definitions at text fault
      → IsOrNot Spells text
  refused_by text definitions at (BadLet n) good bad = inr bad.1
  refused_by text [] at (DefinedTwice n) good bad = absurd (bad.1.2 refl)
  refused_by text (defined ∷ definitions) at (DefinedTwice n) good bad = absurd good
  refused_by text definitions at LetMemory good bad = absurd bad

  refused_alone : (text : List ℕ) (front : List (List ℕ)) (part : List ℕ) (back : List (List ℕ))
      (definitions : List D) (at : ℕ) (fault : LetFault) → text ∷ [] ≡ front ++ part ∷ back
      → AllZip Spells front definitions
      → PartHasFault Spells name_of definitions at part fault → IsOrNot Spells text
  refused_alone text [] part back definitions at fault e good bad =
      let same : part ≡ text = cc in
      subst (λ bytes. IsOrNot Spells bytes) same
      (refused_by part definitions at fault good bad)
  refused_alone text (first ∷ front) part back definitions at fault e good bad =
      let long = ap length e in
      absurd (omega (arith, long, length-append front (part ∷ back)))

  -- A text of one part is a definition or not, where each text is definitions or refused.
  part_or_not : (text : List ℕ) → parts_of text ≡ text ∷ []
      → ((definitions : List D) × Define Spells name_of (parts_of text) definitions)
      ⊎ ((fault : LetFault) × PartsAreRefused Spells name_of (parts_of text) fault)
      → IsOrNot Spells text
  part_or_not text alone (inl good) =
      spelt_alone text good.0
      (subst (λ parts. AllZip Spells parts good.0) alone good.1.spelt)
  part_or_not text alone (inr bad) =
      refused_alone text bad.1.front bad.1.part bad.1.back bad.1.definitions _ bad.0
      (sym alone ∙ bad.1.split) bad.1.good.spelt bad.1.bad

  module _ (text : List ℕ) (old : List D) where
    -- It goes behind the others, or has a fault.
    behind_or : IsOrNot Spells text → ((new : List D) × GoesBehind Spells name_of text old new)
        ⊎ ((why : LetFault) × PartHasFault Spells name_of old (length old + 1) text why)
    behind_or (inl is) = by (named name_of old (name_of is.0)) refl
      where
        by : (found : Option D) → named name_of old (name_of is.0) ≡ found
            → ((new : List D) × GoesBehind Spells name_of text old new)
            ⊎ ((why : LetFault) × PartHasFault Spells name_of old (length old + 1) text why)
        by None e = inl (old ++ is.0 ∷ [], (is.0, is.1, e, refl))
        by (Some found) e = inr (
          DefinedTwice (length old + 1),
          (refl, (is.0, is.1, λ none. none-some found (sym none ∙ e))),
        )
    behind_or (inr never) = inr (BadLet (length old + 1), (refl, never))

-- What signals' texts say, as the law of tre_define has it.
abbrev pub SignalsAreRead : Type 0
SignalsAreRead = (text : List ℕ)
    → ((definitions : List SignalDefined) × DefineSignals (parts_of text) definitions)
    ⊎ ((fault : LetFault) × AreRefused (parts_of text) fault)

known_or : SignalsAreRead → (text : List ℕ) (number : ℕ) (known : Known)
    → begins_word text ≡ true → list_all is_of_definition text ≡ true
    → ((new : Known) × Defines text known new)
    ⊎ ((fault : WatchFault) × HasLetFault number text known fault)
known_or read text number nothing begins one = inr (BadLine number, refl)
known_or read text number (signals old) begins one =
    ⊎_elim
    (λ is. inl (signals is.0, is.1))
    (λ bad. inr (let_fault number bad.0, (bad.0, bad.1, refl)))
    (behind_or SpellsSignal name_of_signal text old
    (part_or_not SpellsSignal name_of_signal text (one_part text begins one) (read text)))
known_or read text number (columns old) begins one =
    ⊎_elim
    (λ is. inl (columns is.0, is.1))
    (λ bad. inr (let_fault number bad.0, (bad.0, bad.1, refl)))
    (behind_or SpellsColumn name_of_let text old (column_or_not text))

-- ---- what becomes of the lines

texts_by : (scale : ℕ) (text : List ℕ) (texts : List (List ℕ)) (parsed : Parsed)
    → ParsesTo scale text parsed
    → ((patterns : List SpeltPattern) × AllZip (SpellsPattern scale) texts patterns)
    ⊎ ((fault : ParseFault) × HasFirstFault scale texts fault)
    → ((patterns : List SpeltPattern) × AllZip (SpellsPattern scale) (text ∷ texts) patterns)
    ⊎ ((fault : ParseFault) × HasFirstFault scale (text ∷ texts) fault)
texts_by scale text texts (refused fault) told later = inr (fault, inl told)
texts_by scale text texts (spelt tree names) told (inl later) =
    inl (record { tree = tree; names = names } ∷ later.0, (told, later.1))
texts_by scale text texts (spelt tree names) told (inr later) =
    inr (later.0, inr (record { tree = tree; names = names }, told, later.1))

texts_some : (scale : ℕ) (texts : List (List ℕ))
    → ((patterns : List SpeltPattern) × AllZip (SpellsPattern scale) texts patterns)
    ⊎ ((fault : ParseFault) × HasFirstFault scale texts fault)
texts_some scale [] = inl ([], tt)
texts_some scale (text ∷ texts) =
    let made = text_outcome scale text in
    texts_by scale text texts made.0 made.1 (texts_some scale texts)

module _ (scale number : ℕ) where
  check_some : (may full there : Bool) (texts : List (List ℕ))
      (On : Outcome → List SpeltPattern → Type 0)
      → ((patterns : List SpeltPattern) → (outcome : Outcome) × On outcome patterns)
      → (outcome : Outcome) × MatchBool may (MatchBool full (outcome ≡ faulty (TooMany number))
      (MatchBool there (outcome ≡ faulty (Twice number))
      (AfterTexts scale texts number outcome (On outcome))))
      (outcome ≡ faulty (BadLine number))
  check_some false full there texts On on = (faulty (BadLine number), refl)
  check_some true true there texts On on = (faulty (TooMany number), refl)
  check_some true false true texts On on = (faulty (Twice number), refl)
  check_some true false false texts On on =
      ⊎_elim
      (λ good. let next = on good.0 in (next.0, inl (good.0, good.1, next.1)))
      (λ bad. (faulty (Pattern number bad.0), inr (bad.0, bad.1, refl)))
      (texts_some scale texts)

  let_goes_on : (text : List ℕ) (known : Known) (On : Outcome → Known → Type 0)
      → ((known : Known) → (outcome : Outcome) × On outcome known)
      → ((new : Known) × Defines text known new)
      ⊎ ((fault : WatchFault) × HasLetFault number text known fault)
      → (outcome : Outcome) × AfterLet known text number outcome (On outcome)
  let_goes_on text known On on (inl is) =
      let next = on is.0 in
      (next.0, inl (is.0, is.1, next.1))
  let_goes_on text known On on (inr bad) = (faulty bad.0, inr (bad.0, bad.1, refl))

is_definition : (silent : Bool) (content text : List ℕ)
    → MatchBool silent (definition text ≡ silence) (IsDefinition content text)
    → IsDefinition content text
is_definition true content text is = absurd (cc)
is_definition false content text is = is

follows_some : SignalsAreRead → (verdicts : Bool) (scale : ℕ) (line : List ℕ) (said : Said)
    (checks : SpeltChecks) (number : ℕ) (On : Outcome → SpeltChecks → Type 0)
    → ((checks : SpeltChecks) → (outcome : Outcome) × On outcome checks) → Says line said
    → (outcome : Outcome) × GoesOn verdicts scale said checks number outcome (On outcome)
follows_some read verdicts scale line silence checks number On on says = on checks
follows_some read verdicts scale line mistake checks number On on says =
    (faulty (BadLine number), refl)
follows_some read verdicts scale line (check form name texts) checks number On on says =
    check_some scale number (may_stand verdicts form) (nat_le NAMES_MAX (length checks.names))
    (is_some (place_of checks.names name)) texts
    (λ outcome patterns. On outcome (with_check checks form name patterns))
    (λ patterns. on (with_check checks form name patterns))
follows_some read verdicts scale line (definition text) checks number On on says =
    let is = is_definition (is_silent (content_of line)) (content_of line) text says in
    let_goes_on scale number text checks.known
    (λ outcome known. On outcome (with_known checks known))
    (λ known. on (with_known checks known))
    (known_or read text number checks.known is.begins is.one)

lines_some : SignalsAreRead → (verdicts : Bool) (scale : ℕ) (lines : List (List ℕ))
    (checks : SpeltChecks) (number : ℕ)
    → (outcome : Outcome) × IsOutcomeFrom verdicts scale checks number lines outcome
unfolding IsOutcomeFrom
lines_some read verdicts scale [] checks number = (ended verdicts checks, refl)
lines_some read verdicts scale (line ∷ lines) checks number =
    let says = says_some line in
    let next = follows_some read verdicts scale line says.0 checks number
    (λ outcome checks. IsOutcomeFrom verdicts scale checks (number + 1) lines outcome)
    (λ checks. lines_some read verdicts scale lines checks (number + 1)) says.1 in
    (next.0, (says.0, says.1, next.1))

file_some : SignalsAreRead → (verdicts : Bool) (known : Known) (scale : ℕ) (large : Bool)
    (bytes : List ℕ) → (outcome : Outcome) × MatchBool large (outcome ≡ faulty TooLarge)
    (IsOutcomeFrom verdicts scale (no_checks known) 1 (slice_split is_newline bytes) outcome)
file_some read verdicts known scale true bytes = (faulty TooLarge, refl)
file_some read verdicts known scale false bytes =
    lines_some read verdicts scale (slice_split is_newline bytes) (no_checks known) 1

pub outcome_is : SignalsAreRead → (kind : Kind) (scale : ℕ) (bytes : List ℕ)
    → (outcome : Outcome) × IsOutcome kind scale bytes outcome
outcome_is read watched scale bytes =
    file_some read false nothing scale (nat_lt FILE_MAX (length bytes)) bytes
outcome_is read (judged known) scale bytes =
    file_some read true known scale (nat_lt FILE_MAX (length bytes)) bytes
