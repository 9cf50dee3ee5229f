-- What is refused is never refused for want of memory.
use Rattle.std.proofs.Common.{◌≡◌, ◌≢◌, ℕ, ◌+◌, nat_le, nat_lt, Bool, true, false, MatchBool, is_some, List, [], ◌∷◌, length, if◌then◌else◌, subst, inl, inr}
use Rattle.std.specs.Char.{is_newline}
use Rattle.std.specs.List.{slice_split}
use Rattle.tre_parse.specs.Outcome.{HasCause, refused, IsOutcome as ParsesTo}
use Rattle.tre_parse.specs.declared.fault.ParseFault.{ParseFault}
use Rattle.tre_parse.specs.declared.fault.ParseFault.TheVariants.{Memory as ParseMemory}
use Rattle.tre_state.specs.Names.{place_of}
use Rattle.tre_state.specs.declared.names.TheConstants.{NAMES_MAX}
use Rattle.tre_watch.specs.Lines.{Said, silence, mistake, check, definition}
use Rattle.tre_watch.specs.Outcome.{AfterLet, AfterTexts, Follows, HasFirstFault, IsOutcome, IsOutcomeFrom, Kind, Known, SpeltChecks, SpeltPattern, faulty, is_enough, judged, may_stand, no_checks, nothing, planned, watched, with_check, with_known}
use Rattle.tre_watch.specs.Steps.{IsNoWantOfMemory}
use Rattle.tre_watch.specs.declared.fault.WatchFault.{WatchFault}
use Rattle.tre_watch.specs.declared.fault.WatchFault.TheVariants.{TooLarge, BadLine, TooMany, Twice, Pattern as PatternFault, Empty}
use Rattle.tre_watch.specs.declared.reader.TheConstants.{FILE_MAX}
use Rattle.tre_watch.proofs.Lines.{let_fault_told}

-- ---- texts

-- Want of memory has no cause in a text.
pub text_told : (scale : ℕ) (text : List ℕ) (fault : ParseFault)
    → ParsesTo scale text (refused fault) → fault ≢ ParseMemory
text_told scale text fault told =
    λ memory. subst (λ one. HasCause told.0 one) memory told.1.0

texts_told : (scale : ℕ) (texts : List (List ℕ)) (fault : ParseFault)
    → HasFirstFault scale texts fault → fault ≢ ParseMemory
texts_told scale [] fault has = absurd has
texts_told scale (text ∷ texts) fault (inl here) = text_told scale text fault here
texts_told scale (text ∷ texts) fault (inr later) = texts_told scale texts fault later.2

-- ---- files

module _ (verdicts : Bool) (scale number : ℕ) (fault : WatchFault) where
  told_by : (said : WatchFault) → faulty fault ≡ faulty said → IsNoWantOfMemory said
      → IsNoWantOfMemory fault
  told_by said is told = let same : said ≡ fault = cc in subst IsNoWantOfMemory same told

  in_texts : (texts : List (List ℕ)) (On : List SpeltPattern → Type 0)
      → ((patterns : List SpeltPattern) → On patterns → IsNoWantOfMemory fault)
      → AfterTexts scale texts number (faulty fault) On → IsNoWantOfMemory fault
  in_texts texts On on (inl good) = on good.0 good.2
  in_texts texts On on (inr bad) =
      told_by (PatternFault number bad.0) bad.2 (λ e. cc, texts_told scale texts bad.0 bad.1)

  in_let : (known : Known) (text : List ℕ) (On : Known → Type 0)
      → ((known : Known) → On known → IsNoWantOfMemory fault)
      → AfterLet known text number (faulty fault) On → IsNoWantOfMemory fault
  in_let known text On on (inl good) = on good.0 good.2
  in_let known text On on (inr bad) =
      told_by bad.0 bad.2 (let_fault_told number text known bad.0 bad.1)

  in_check : (may full there : Bool) (texts : List (List ℕ)) (On : List SpeltPattern → Type 0)
      → ((patterns : List SpeltPattern) → On patterns → IsNoWantOfMemory fault)
      → MatchBool may (MatchBool full (faulty fault ≡ faulty (TooMany number))
      (MatchBool there (faulty fault ≡ faulty (Twice number))
      (AfterTexts scale texts number (faulty fault) On)))
      (faulty fault ≡ faulty (BadLine number))
      → IsNoWantOfMemory fault
  in_check false full there texts On on is = told_by (BadLine number) is (λ e. cc, tt)
  in_check true true there texts On on is = told_by (TooMany number) is (λ e. cc, tt)
  in_check true false true texts On on is = told_by (Twice number) is (λ e. cc, tt)
  in_check true false false texts On on is = in_texts texts On on is

  in_line : (said : Said) (checks : SpeltChecks) (On : SpeltChecks → Type 0)
      → ((checks : SpeltChecks) → On checks → IsNoWantOfMemory fault)
      → Follows verdicts scale said checks number (faulty fault) On → IsNoWantOfMemory fault
  in_line silence checks On on is = on checks is
  in_line mistake checks On on is = told_by (BadLine number) is (λ e. cc, tt)
  in_line (check form name texts) checks On on is =
      in_check (may_stand verdicts form) (nat_le NAMES_MAX (length checks.names))
      (is_some (place_of checks.names name)) texts
      (λ patterns. On (with_check checks form name patterns))
      (λ patterns. on (with_check checks form name patterns)) is
  in_line (definition text) checks On on is =
      in_let checks.known text (λ known. On (with_known checks known))
      (λ known. on (with_known checks known)) is

in_end : (enough : Bool) (checks : SpeltChecks) (fault : WatchFault)
    → faulty fault ≡ (if enough then planned checks else faulty Empty) → IsNoWantOfMemory fault
in_end true checks fault is = absurd (cc)
in_end false checks fault is = told_by true 0 0 fault Empty is (λ e. cc, tt)

in_lines : (verdicts : Bool) (scale : ℕ) (lines : List (List ℕ)) (checks : SpeltChecks)
    (number : ℕ) (fault : WatchFault)
    → IsOutcomeFrom verdicts scale checks number lines (faulty fault) → IsNoWantOfMemory fault
unfolding IsOutcomeFrom
in_lines verdicts scale [] checks number fault is =
    in_end (is_enough verdicts checks.forms) checks fault is
in_lines verdicts scale (line ∷ lines) checks number fault is =
    in_line verdicts scale number fault is.0 checks
    (λ checks. IsOutcomeFrom verdicts scale checks (number + 1) lines (faulty fault))
    (λ checks. in_lines verdicts scale lines checks (number + 1) fault) is.2

in_file : (verdicts : Bool) (scale : ℕ) (known : Known) (large : Bool) (lines : List (List ℕ))
    (fault : WatchFault) → MatchBool large (faulty fault ≡ faulty TooLarge)
    (IsOutcomeFrom verdicts scale (no_checks known) 1 lines (faulty fault))
    → IsNoWantOfMemory fault
in_file verdicts scale known true lines fault is =
    told_by verdicts scale 1 fault TooLarge is (λ e. cc, tt)
in_file verdicts scale known false lines fault is =
    in_lines verdicts scale lines (no_checks known) 1 fault is

pub file_told : (kind : Kind) (scale : ℕ) (bytes : List ℕ) (fault : WatchFault)
    → IsOutcome kind scale bytes (faulty fault) → IsNoWantOfMemory fault
file_told watched scale bytes fault =
    in_file false scale nothing (nat_lt FILE_MAX (length bytes)) (slice_split is_newline bytes)
    fault
file_told (judged known) scale bytes fault =
    in_file true scale known (nat_lt FILE_MAX (length bytes)) (slice_split is_newline bytes) fault
