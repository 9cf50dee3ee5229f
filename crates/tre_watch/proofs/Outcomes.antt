-- What becomes of a file: it is one thing.
use Rattle.std.proofs.Common.{◌≡◌, ℕ, ◌+◌, Bool, true, false, nat_le, nat_lt, MatchBool, is_some, List, [], ◌∷◌, ◌++◌, length, refl, sym, ap, subst, ◌∙◌, inl, inr, ⊎_elim}
use Rattle.std.specs.Char.{is_newline}
use Rattle.std.specs.List.{AllZip, slice_split}
use Rattle.tre_define.specs.Signals.{SignalDefined, name_of_signal, Spells as SpellsSignal}
use Rattle.tre_define.specs.Texts.{PartHasFault, named}
use Rattle.tre_define.specs.declared.let_fault.LetFault.{LetFault}
use Rattle.tre_define.specs.declared.let_fault.LetFault.TheVariants.{BadLet, Twice as DefinedTwice, Memory as LetMemory}
use Rattle.tre_define.proofs.OneSignals.{same-definitions as same-signals}
use Rattle.tre_num.specs.Defined.{name_of_let}
use Rattle.tre_num.specs.Definitions.{Spells as SpellsColumn}
use Rattle.tre_num.proofs.OneReading.{same-definition as same-column}
use Rattle.tre_state.specs.Names.{place_of}
use Rattle.tre_state.specs.declared.names.TheConstants.{NAMES_MAX}
use Rattle.tre_parse.specs.Outcome.{spelt, refused, IsOutcome as ParsesTo}
use Rattle.tre_parse.specs.declared.fault.ParseFault.{ParseFault}
use Rattle.tre_parse.proofs.Outcomes.{outcome_once}
use Rattle.tre_watch.specs.declared.fault.WatchFault.{WatchFault}
use Rattle.tre_watch.specs.declared.fault.WatchFault.TheVariants.{TooLarge, BadLine, TooMany, Twice, Pattern}
use Rattle.tre_watch.specs.declared.reader.TheConstants.{FILE_MAX}
use Rattle.tre_watch.specs.Lines.{Said, check, definition, mistake, silence}
use Rattle.tre_watch.specs.Outcome.{AfterLet, AfterTexts, ComesTo, Defines, Follows, GoesBehind, HasFirstFault, HasLetFault, IsOutcome, IsOutcomeFrom, Kind, Known, Outcome, SpeltChecks, SpeltPattern, SpellsPattern, columns, faulty, judged, let_fault, may_stand, no_checks, nothing, signals, watched, with_check, with_known}
use Rattle.tre_watch.proofs.Saying.{says_once}

-- ---- texts

pattern_once : (scale : ℕ) (text : List ℕ) (one other : SpeltPattern) → SpellsPattern scale text one
    → SpellsPattern scale text other → one ≡ other
pattern_once scale text one other first second =
    let same = outcome_once scale text (spelt one.tree one.names) (spelt other.tree other.names)
    first second in
    let tree : one.tree ≡ other.tree = cc in
    let names : one.names ≡ other.names = cc in
    ap (λ t. record { tree = t; names = one.names }) tree
    ∙ ap (λ n. record { tree = other.tree; names = n }) names

patterns_once : (scale : ℕ) (texts : List (List ℕ)) (one other : List SpeltPattern)
    → AllZip (SpellsPattern scale) texts one → AllZip (SpellsPattern scale) texts other
    → one ≡ other
patterns_once scale [] [] [] first second = refl
patterns_once scale [] [] (pattern ∷ other) first second = absurd second
patterns_once scale [] (pattern ∷ one) other first second = absurd first
patterns_once scale (text ∷ texts) [] other first second = absurd first
patterns_once scale (text ∷ texts) (pattern ∷ one) [] first second = absurd second
patterns_once scale (text ∷ texts) (pattern ∷ one) (pattern' ∷ other) first second =
    ap (λ p. p ∷ one) (pattern_once scale text pattern pattern' first.0 second.0)
    ∙ ap (λ ps. pattern' ∷ ps) (patterns_once scale texts one other first.1 second.1)

spelt_or_refused : (scale : ℕ) (text : List ℕ) (pattern : SpeltPattern) (fault : ParseFault)
    → SpellsPattern scale text pattern → ParsesTo scale text (refused fault) → ⊥
spelt_or_refused scale text pattern fault spells refuses =
    let same = outcome_once scale text (spelt pattern.tree pattern.names) (refused fault) spells
    refuses in
    absurd (cc)

patterns_or_fault : (scale : ℕ) (texts : List (List ℕ)) (patterns : List SpeltPattern)
    (fault : ParseFault) → AllZip (SpellsPattern scale) texts patterns
    → HasFirstFault scale texts fault → ⊥
patterns_or_fault scale [] patterns fault spell has = has
patterns_or_fault scale (text ∷ texts) [] fault spell has = spell
patterns_or_fault scale (text ∷ texts) (pattern ∷ patterns) fault spell has =
    ⊎_elim
    (λ refuses. spelt_or_refused scale text pattern fault spell.0 refuses)
    (λ later. patterns_or_fault scale texts patterns fault spell.1 later.2)
    has

fault_once : (scale : ℕ) (texts : List (List ℕ)) (one other : ParseFault)
    → HasFirstFault scale texts one → HasFirstFault scale texts other → one ≡ other
fault_once scale [] one other first second = absurd first
fault_once scale (text ∷ texts) one other (inl here) (inl there) =
    let same = outcome_once scale text (refused one) (refused other) here there in
    cc
fault_once scale (text ∷ texts) one other (inl here) (inr there) =
    absurd (spelt_or_refused scale text there.0 one there.1 here)
fault_once scale (text ∷ texts) one other (inr here) (inl there) =
    absurd (spelt_or_refused scale text here.0 other here.1 there)
fault_once scale (text ∷ texts) one other (inr here) (inr there) =
    fault_once scale texts one other here.2 there.2

-- ---- definitions

signal_once : (text : List ℕ) (one other : SignalDefined) → SpellsSignal text one
    → SpellsSignal text other → one ≡ other
signal_once text one other first second =
    let same = same-signals (text ∷ []) (one ∷ []) (other ∷ []) (first, tt) (second, tt) in
    cc

module _ {D : Type 0} (Spells : List ℕ → D → Type 0) (name_of : D → List ℕ)
    (once : (text : List ℕ) (one other : D) → Spells text one → Spells text other → one ≡ other)
    (text : List ℕ) (old : List D) where
  behind_once : (new others : List D) → GoesBehind Spells name_of text old new
      → GoesBehind Spells name_of text old others → new ≡ others
  behind_once new others one two =
      one.3 ∙ (ap (λ (d : D). old ++ d ∷ []) (once text one.0 two.0 one.1 two.1) ∙ sym two.3)

  behind_or_fault : (new : List D) (why : LetFault) (at : ℕ)
      → GoesBehind Spells name_of text old new → PartHasFault Spells name_of old at text why → ⊥
  behind_or_fault new (BadLet n) at one bad = bad.1 one.0 one.1
  behind_or_fault new (DefinedTwice n) at one bad =
      bad.1.2 (ap (λ (d : D). named name_of old (name_of d)) (once text bad.1.0 one.0 bad.1.1 one.1)
      ∙ one.2)
  behind_or_fault new LetMemory at one bad = bad

  let_fault_once : (one other : LetFault) (at number : ℕ) → PartHasFault Spells name_of old at text one
      → PartHasFault Spells name_of old at text other
      → let_fault number one ≡ let_fault number other
  let_fault_once (BadLet n) (BadLet m) at number one two = refl
  let_fault_once (DefinedTwice n) (DefinedTwice m) at number one two = refl
  let_fault_once (BadLet n) (DefinedTwice m) at number one two = absurd (one.1 two.1.0 two.1.1)
  let_fault_once (DefinedTwice n) (BadLet m) at number one two = absurd (two.1 one.1.0 one.1.1)
  let_fault_once LetMemory other at number one two = absurd one
  let_fault_once other LetMemory at number one two = absurd two

defines_once : (text : List ℕ) (old new other : Known) → Defines text old new
    → Defines text old other → new ≡ other
defines_once text (signals old) (signals new) (signals other) one two =
    ap signals (behind_once SpellsSignal name_of_signal signal_once text old new other one two)
defines_once text (columns old) (columns new) (columns other) one two =
    ap columns (behind_once SpellsColumn name_of_let same-column text old new other one two)
defines_once text nothing new other one two = absurd one
defines_once text (signals old) (signals new) nothing one two = absurd two
defines_once text (signals old) (signals new) (columns other) one two = absurd two
defines_once text (signals old) nothing other one two = absurd one
defines_once text (signals old) (columns new) other one two = absurd one
defines_once text (columns old) (columns new) nothing one two = absurd two
defines_once text (columns old) (columns new) (signals other) one two = absurd two
defines_once text (columns old) nothing other one two = absurd one
defines_once text (columns old) (signals new) other one two = absurd one

defines_or_fault : (text : List ℕ) (number : ℕ) (old new : Known) (fault : WatchFault)
    → Defines text old new → HasLetFault number text old fault → ⊥
defines_or_fault text number (signals old) (signals new) fault one bad =
    behind_or_fault SpellsSignal name_of_signal signal_once text old new bad.0 (length old + 1) one
    bad.1
defines_or_fault text number (columns old) (columns new) fault one bad =
    behind_or_fault SpellsColumn name_of_let same-column text old new bad.0 (length old + 1) one
    bad.1
defines_or_fault text number nothing new fault one bad = one
defines_or_fault text number (signals old) nothing fault one bad = one
defines_or_fault text number (signals old) (columns new) fault one bad = one
defines_or_fault text number (columns old) nothing fault one bad = one
defines_or_fault text number (columns old) (signals new) fault one bad = one

let_once : (text : List ℕ) (number : ℕ) (old : Known) (one other : WatchFault)
    → HasLetFault number text old one → HasLetFault number text old other → one ≡ other
let_once text number nothing one other first second = first ∙ sym second
let_once text number (signals old) one other first second =
    first.2 ∙ (let_fault_once SpellsSignal name_of_signal signal_once text old first.0 second.0
    (length old + 1) number first.1 second.1 ∙ sym second.2)
let_once text number (columns old) one other first second =
    first.2 ∙ (let_fault_once SpellsColumn name_of_let same-column text old first.0 second.0
    (length old + 1) number first.1 second.1 ∙ sym second.2)

-- ---- lines

module _ (verdicts : Bool) (scale number : ℕ) (one other : Outcome) where
  after_once : (texts : List (List ℕ)) (On On' : List SpeltPattern → Type 0)
      → ((patterns : List SpeltPattern) → On patterns → On' patterns → one ≡ other)
      → AfterTexts scale texts number one On → AfterTexts scale texts number other On'
      → one ≡ other
  after_once texts On On' once (inl first) (inl second) =
      once second.0
      (subst On (patterns_once scale texts first.0 second.0 first.1 second.1) first.2) second.2
  after_once texts On On' once (inl first) (inr second) =
      absurd (patterns_or_fault scale texts first.0 second.0 first.1 second.1)
  after_once texts On On' once (inr first) (inl second) =
      absurd (patterns_or_fault scale texts second.0 first.0 second.1 first.1)
  after_once texts On On' once (inr first) (inr second) =
      first.2 ∙ (ap (λ fault. faulty (Pattern number fault))
      (fault_once scale texts first.0 second.0 first.1 second.1) ∙ sym second.2)

  known_once : (known : Known) (text : List ℕ) (On On' : Known → Type 0)
      → ((known : Known) → On known → On' known → one ≡ other)
      → AfterLet known text number one On → AfterLet known text number other On' → one ≡ other
  known_once known text On On' once (inl first) (inl second) =
      once second.0
      (subst On (defines_once text known first.0 second.0 first.1 second.1) first.2) second.2
  known_once known text On On' once (inl first) (inr second) =
      absurd (defines_or_fault text number known first.0 second.0 first.1 second.1)
  known_once known text On On' once (inr first) (inl second) =
      absurd (defines_or_fault text number known second.0 first.0 second.1 first.1)
  known_once known text On On' once (inr first) (inr second) =
      first.2 ∙ (ap faulty (let_once text number known first.0 second.0 first.1 second.1)
      ∙ sym second.2)

  check_once : (may full there : Bool) (texts : List (List ℕ)) (On On' : List SpeltPattern → Type 0)
      → ((patterns : List SpeltPattern) → On patterns → On' patterns → one ≡ other)
      → MatchBool may (MatchBool full (one ≡ faulty (TooMany number))
      (MatchBool there (one ≡ faulty (Twice number)) (AfterTexts scale texts number one On)))
      (one ≡ faulty (BadLine number))
      → MatchBool may (MatchBool full (other ≡ faulty (TooMany number))
      (MatchBool there (other ≡ faulty (Twice number)) (AfterTexts scale texts number other On')))
      (other ≡ faulty (BadLine number))
      → one ≡ other
  check_once false full there texts On On' once first second = first ∙ sym second
  check_once true true there texts On On' once first second = first ∙ sym second
  check_once true false true texts On On' once first second = first ∙ sym second
  check_once true false false texts On On' once first second =
      after_once texts On On' once first second

  follows_once : (said : Said) (checks : SpeltChecks) (On On' : SpeltChecks → Type 0)
      → ((checks : SpeltChecks) → On checks → On' checks → one ≡ other)
      → Follows verdicts scale said checks number one On
      → Follows verdicts scale said checks number other On' → one ≡ other
  follows_once silence checks On On' once first second = once checks first second
  follows_once mistake checks On On' once first second = first ∙ sym second
  follows_once (check form name texts) checks On On' once first second =
      check_once (may_stand verdicts form) (nat_le NAMES_MAX (length checks.names))
      (is_some (place_of checks.names name)) texts
      (λ patterns. On (with_check checks form name patterns))
      (λ patterns. On' (with_check checks form name patterns))
      (λ patterns. once (with_check checks form name patterns)) first second
  follows_once (definition text) checks On On' once first second =
      known_once checks.known text (λ known. On (with_known checks known))
      (λ known. On' (with_known checks known)) (λ known. once (with_known checks known)) first
      second

lines_once : (verdicts : Bool) (scale : ℕ) (lines : List (List ℕ)) (checks : SpeltChecks)
    (number : ℕ) (one other : Outcome) → IsOutcomeFrom verdicts scale checks number lines one
    → IsOutcomeFrom verdicts scale checks number lines other → one ≡ other
unfolding IsOutcomeFrom
lines_once verdicts scale [] checks number one other first second = first ∙ sym second
lines_once verdicts scale (line ∷ lines) checks number one other first second =
    let same = says_once line first.0 second.0 first.1 second.1 in
    follows_once verdicts scale number one other first.0 checks
    (λ checks. IsOutcomeFrom verdicts scale checks (number + 1) lines one)
    (λ checks. IsOutcomeFrom verdicts scale checks (number + 1) lines other)
    (λ checks. lines_once verdicts scale lines checks (number + 1) one other)
    first.2
    (subst (λ (said : Said). Follows verdicts scale said checks number other
    (λ checks. IsOutcomeFrom verdicts scale checks (number + 1) lines other)) (sym same)
    second.2)

file_once : (verdicts : Bool) (known : Known) (scale : ℕ) (large : Bool) (bytes : List ℕ)
    (one other : Outcome)
    → MatchBool large (one ≡ faulty TooLarge)
    (IsOutcomeFrom verdicts scale (no_checks known) 1 (slice_split is_newline bytes) one)
    → MatchBool large (other ≡ faulty TooLarge)
    (IsOutcomeFrom verdicts scale (no_checks known) 1 (slice_split is_newline bytes) other)
    → one ≡ other
file_once verdicts known scale true bytes one other first second = first ∙ sym second
file_once verdicts known scale false bytes one other first second =
    lines_once verdicts scale (slice_split is_newline bytes) (no_checks known) 1 one other first
    second

pub comes_once : (verdicts : Bool) (known : Known) (scale : ℕ) (bytes : List ℕ)
    (one other : Outcome) → ComesTo verdicts known scale bytes one
    → ComesTo verdicts known scale bytes other → one ≡ other
comes_once verdicts known scale bytes one other first second =
    file_once verdicts known scale (nat_lt FILE_MAX (length bytes)) bytes one other first second

pub one_outcome : (kind : Kind) (scale : ℕ) (bytes : List ℕ) (one other : Outcome)
    → IsOutcome kind scale bytes one → IsOutcome kind scale bytes other → one ≡ other
one_outcome watched scale bytes one other first second =
    comes_once false nothing scale bytes one other first second
one_outcome (judged known) scale bytes one other first second =
    comes_once true known scale bytes one other first second
