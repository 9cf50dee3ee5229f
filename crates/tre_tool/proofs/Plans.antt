-- What a file of checks comes to, from what was read of it, and the labels of its patterns.
use Rattle.std.proofs.Common.{◌≡◌, ◌≢◌, ◌⊎◌, ℕ, zero, suc, ◌+◌, ◌<◌, ◌≤◌, nat_lt, Bool, true, false, MatchBool, Option, None, Some, IfSome, List, [], ◌∷◌, ◌++◌, append_assoc, length, take, map, slice_get, string_bytes, String, Global, if◌then◌else◌, refl, sym, ◌∙◌, ap, subst, inl, inr, ⊎_elim, append-nil, length-append, arith}
use Rattle.std.proofs.lemmas.Bool.{cases_lt}
use Rattle.std.proofs.lemmas.Bool.Decides.{nat_tests}
use Rattle.std.proofs.lemmas.List.{length-map, map-append}
use Rattle.std.specs.Global.{Vec}
use Rattle.std.specs.Io.KnownBytes.{Consumes, IsAtEnd}
use Rattle.std.specs.Char.{is_newline}
use Rattle.std.specs.List.{slice_split}
use Rattle.tre_feed.specs.Front.{IsFrontRead, StopsFront}
use Rattle.tre_feed.specs.Input.{InputTold, AllReadsGood}
use Rattle.tre_feed.specs.declared.fault.Fault.{Fault}
use Rattle.tre_feed.specs.declared.fault.Fault.TheVariants.{Trace as FaultTrace, TooLong as FaultTooLong, TooManyZones as FaultTooMany, Read as FaultRead, Write as FaultWrite, Memory as FaultMemory}
use Rattle.tre_syntax.specs.declared.pattern.Pattern.{Pattern}
use Rattle.tre_tell.specs.Sought.{sought_by}
use Rattle.tre_watch.specs.Forms.{has_arrow, patterns_in, patterns_of}
use Rattle.tre_watch.specs.Outcome.{Kind, Known, Outcome, ComesTo, IsOutcome, IsOutcomeFrom, faulty, judged, no_checks, nothing, watched}
use Rattle.tre_watch.specs.Steps.{FitTogether, spelt_checks, spelt_in, spelt_of}
use Rattle.tre_watch.specs.declared.checks.Checks.{Checks}
use Rattle.tre_watch.specs.declared.fault.WatchFault.{WatchFault}
use Rattle.tre_watch.specs.declared.fault.WatchFault.TheVariants.{TooLarge, BadLine, TooMany, Twice, Pattern as PatternFault, Empty, Memory as WatchMemory}
use Rattle.tre_watch.specs.declared.form.Form.{Form}
use Rattle.tre_watch.specs.declared.form.Form.TheVariants.{Plain, Never, Found, Same, Follows}
use Rattle.tre_watch.specs.declared.reader.TheConstants.{FILE_MAX}
use Rattle.tre_tool.specs.Checks.{ChecksWereRead, labelled, names_each}
use Rattle.tre_tool.specs.Status.{fault_status, watch_status}
use Rattle.tre_tool.specs.Parts.{IsRefusalOfFile, StopsChecks}
use Rattle.tre_tool.specs.declared.status.Status.TheVariants.{Watch, ReadFault, Memory}

-- ---- the front of a file

of_true : (t : Bool) (A B : Type 0) → t ≡ true → MatchBool t A B → A
of_true true A B e is = is
of_true false A B e is = absurd (cc)

to_true : (t : Bool) (A B : Type 0) → t ≡ true → A → MatchBool t A B
to_true true A B e is = is
to_true false A B e is = absurd (cc)

is_more : (most count : ℕ) → most < count → nat_lt most count ≡ true
is_more most count more = grind (arith, nat_tests)

-- more bytes behind too many make no other answer
still_large : (verdicts : Bool) (known : Known) (scale : ℕ) (bytes rest : List ℕ)
    (outcome : Outcome) → FILE_MAX < length bytes → ComesTo verdicts known scale bytes outcome
    → ComesTo verdicts known scale (bytes ++ rest) outcome
still_large verdicts known scale bytes rest outcome large comes =
    to_true (nat_lt FILE_MAX (length (bytes ++ rest))) (outcome ≡ faulty TooLarge)
    (IsOutcomeFrom verdicts scale (no_checks known) 1 (slice_split is_newline (bytes ++ rest))
    outcome)
    (is_more FILE_MAX (length (bytes ++ rest)) (omega (arith, length-append bytes rest)))
    (of_true (nat_lt FILE_MAX (length bytes)) (outcome ≡ faulty TooLarge)
    (IsOutcomeFrom verdicts scale (no_checks known) 1 (slice_split is_newline bytes) outcome)
    (is_more FILE_MAX (length bytes) large) comes)

large_outcome : (kind : Kind) (scale : ℕ) (bytes rest : List ℕ) (outcome : Outcome)
    → FILE_MAX < length bytes → IsOutcome kind scale bytes outcome
    → IsOutcome kind scale (bytes ++ rest) outcome
large_outcome watched scale bytes rest outcome large comes =
    still_large false nothing scale bytes rest outcome large comes
large_outcome (judged known) scale bytes rest outcome large comes =
    still_large true known scale bytes rest outcome large comes

-- all bytes come to what the front of them does
whole_as_front : (kind : Kind) (scale : ℕ) (bytes : List ℕ) (file left : Option (List ℕ))
    (outcome : Outcome) → Consumes file left bytes
    → (length bytes < FILE_MAX + 1 → IsAtEnd left) → IsOutcome kind scale bytes outcome
    → IfSome file (λ all. IsOutcome kind scale all outcome)
whole_as_front kind scale bytes None left outcome front all comes = tt
whole_as_front kind scale bytes (Some told) None outcome front all comes = absurd front
whole_as_front kind scale bytes (Some told) (Some rest) outcome front all comes =
    subst (λ told. IsOutcome kind scale told outcome) (sym front)
    (⊎_elim
    (λ short. subst (λ rest. IsOutcome kind scale (bytes ++ rest) outcome) (sym (all short))
    (subst (λ told. IsOutcome kind scale told outcome) (sym (append-nil bytes)) comes))
    (λ long. large_outcome kind scale bytes rest outcome (omega arith) comes)
    (cases_lt (length bytes) (FILE_MAX + 1)))

below_next : (n : ℕ) → n ≤ FILE_MAX → n < FILE_MAX + 1
below_next n few = omega (arith, few)

pub ChecksWereRead-of : (checks : InputTold) (kind : Kind) (scale : ℕ) (bytes : List ℕ)
    (outcome : Outcome) → IsFrontRead (FILE_MAX + 1) checks bytes
    → IsOutcome kind scale bytes outcome
    → ChecksWereRead checks (λ bytes. IsOutcome kind scale bytes outcome)
ChecksWereRead-of checks kind scale bytes outcome front comes = record {
  comes = record {
    opened = front.opened;
    reads = front.reads;
    bytes = bytes;
    front = front.front;
    is_so = comes;
    whole = whole_as_front kind scale bytes checks.before.file checks.now.left outcome front.front
        front.all comes;
  };
  few = front.few;
  all = λ few. front.all (below_next (length bytes) few);
}

-- ---- labels

-- the patterns behind their labels
labelled_by : (labels : List (List ℕ)) (patterns : List Pattern)
    → sought_by labels patterns ≡ labelled labels (spelt_in patterns)
labelled_by [] patterns = refl
labelled_by (label ∷ labels) [] = refl
labelled_by (label ∷ labels) (pattern ∷ patterns) =
    let rest = labelled_by labels patterns in
    cc

pub labelled_as : (labels wanted : List (List ℕ)) (patterns : List Pattern) → labels ≡ wanted
    → sought_by labels patterns ≡ labelled wanted (spelt_in patterns)
labelled_as labels wanted patterns same =
    ap (λ l. sought_by l patterns) same ∙ labelled_by wanted patterns

-- names with nothing behind them
pub names_alone : (names : List (List ℕ)) → map (λ name. name ++ []) names ≡ names
names_alone [] = refl
names_alone (name ∷ names) =
    let first = append-nil name in
    let rest = names_alone names in
    cc

-- the names up to the next check
names_more : (names : List (List ℕ)) (forms : List Form) (k : ℕ) (name : List ℕ) (form : Form)
    → slice_get names k ≡ Some name → slice_get forms k ≡ Some form
    → names_each (take (suc k) names) (take (suc k) forms)
    ≡ names_each (take k names) (take k forms) ++ names_each (name ∷ []) (form ∷ [])
names_more (first ∷ names) (one ∷ forms) zero name form named formed =
    let same_name : first ≡ name = cc in
    let same_form : one ≡ form = cc in
    cc
names_more (first ∷ names) (one ∷ forms) (suc k) name form named formed =
    let rest = names_more names forms k name form named formed in
    let before = if has_arrow one then first ∷ first ∷ [] else first ∷ [] in
    ap (λ l. before ++ l) rest
    ∙ sym (append_assoc before (names_each (take k names) (take k forms))
    (names_each (name ∷ []) (form ∷ [])))
names_more [] forms zero name form named formed = cc
names_more [] forms (suc k) name form named formed = cc
names_more (first ∷ names) [] zero name form named formed = cc
names_more (first ∷ names) [] (suc k) name form named formed = cc

-- the labels of one more check
pub labels-push : (labels more : List (List ℕ)) (behind : List ℕ) (names : List (List ℕ))
    (forms : List Form) (k : ℕ) (name : List ℕ) (form : Form)
    → labels ≡ map (λ name. name ++ behind) (names_each (take k names) (take k forms))
    → slice_get names k ≡ Some name → slice_get forms k ≡ Some form
    → more ≡ labels ++ map (λ name. name ++ behind) (names_each (name ∷ []) (form ∷ []))
    → more ≡ map (λ name. name ++ behind) (names_each (take (k + 1) names) (take (k + 1) forms))
labels-push labels more behind names forms k name form before named formed is =
    is
    ∙ (ap (λ l. l ++ map (λ name. name ++ behind) (names_each (name ∷ []) (form ∷ []))) before
    ∙ (sym (map-append (λ name. name ++ behind) (names_each (take k names) (take k forms))
    (names_each (name ∷ []) (form ∷ [])))
    ∙ ap (map (λ name. name ++ behind))
    (sym (names_more names forms k name form named formed)
    ∙ ap (λ n. names_each (take n names) (take n forms)) (next k))))
  where
    next : (k : ℕ) → suc k ≡ k + 1
    next k = omega arith

-- there is one for each pattern
names_count : (names : List (List ℕ)) (forms : List Form) → length forms ≡ length names
    → length (names_each names forms) ≡ patterns_in forms
names_count [] [] same = refl
names_count (name ∷ names) (form ∷ forms) same =
    let rest : length (names_each names forms) ≡ patterns_in forms =
    names_count names forms (omega (arith, same)) in
    counted form name (names_each names forms) (patterns_in forms) rest
  where
    counted : (form : Form) (name : List ℕ) (behind : List (List ℕ)) (count : ℕ)
        → length behind ≡ count
        → length ((if has_arrow form then name ∷ name ∷ [] else name ∷ []) ++ behind)
        ≡ patterns_of form + count
    counted Plain name behind count same = omega (arith, same)
    counted Never name behind count same = omega (arith, same)
    counted Found name behind count same = omega (arith, same)
    counted Same name behind count same = omega (arith, same)
    counted Follows name behind count same = omega (arith, same)
names_count [] (form ∷ forms) same = cc
names_count (name ∷ names) [] same = cc

pub labels-count : (labels : List (String Global)) (behind : List ℕ) (names : List (List ℕ))
    (forms : List Form) → length forms ≡ length names
    → map string_bytes labels ≡ map (λ name. name ++ behind) (names_each names forms)
    → length labels ≡ patterns_in forms
labels-count labels behind names forms paired same =
    sym (length-map labels string_bytes)
    ∙ (ap length same
    ∙ (length-map (names_each names forms) (λ name. name ++ behind)
    ∙ names_count names forms paired))

-- the patterns that were read, taken over as they are
pub patterns_count : (checks : Checks) (patterns : Vec Pattern) → patterns ≡ checks.patterns
    → FitTogether (spelt_checks checks) → length patterns.items ≡ patterns_in checks.forms.items
patterns_count checks patterns same fit =
    ap (λ (p : Vec Pattern). length p.items) same
    ∙ (sym (length-map checks.patterns.items spelt_of) ∙ fit.patterns)

some_in : (forms : List Form) → 0 < length forms → 0 < patterns_in forms
some_in [] some = absurd (omega (arith, some))
some_in (form ∷ forms) some = first form (patterns_in forms)
  where
    first : (form : Form) (count : ℕ) → 0 < patterns_of form + count
    first Plain count = omega arith
    first Never count = omega arith
    first Found count = omega arith
    first Same count = omega arith
    first Follows count = omega arith

-- a file of checks has one at least
pub some_patterns : (checks : Checks) (patterns : Vec Pattern) → patterns ≡ checks.patterns
    → FitTogether (spelt_checks checks) → 0 < length checks.names → 0 < length patterns.items
some_patterns checks patterns same fit some =
    let count = patterns_count checks patterns same fit in
    let several = some_in checks.forms.items (omega (arith, fit.forms, some)) in
    omega (arith, count, several)

-- ---- why there is none

-- memory was wanting, or the fault of the file is told
watch_faults : (fault : WatchFault)
    → (fault ≡ WatchMemory) ⊎ ((fault ≢ WatchMemory) × (watch_status fault ≡ Watch fault))
watch_faults WatchMemory = inl refl
watch_faults TooLarge = inr (λ e. cc, refl)
watch_faults (BadLine line) = inr (λ e. cc, refl)
watch_faults (TooMany line) = inr (λ e. cc, refl)
watch_faults (Twice line) = inr (λ e. cc, refl)
watch_faults (PatternFault line fault) = inr (λ e. cc, refl)
watch_faults Empty = inr (λ e. cc, refl)

-- the refusal of the file, from what is answered to its front
pub IsRefusalOfFile-read : (checks : InputTold) (kind : Kind) (scale : ℕ) (bytes : List ℕ)
    (fault : WatchFault) → IsFrontRead (FILE_MAX + 1) checks bytes
    → (fault ≡ WatchMemory) ⊎ IsOutcome kind scale bytes (faulty fault)
    → watch_status fault ≢ Memory → IsRefusalOfFile (ChecksWereRead checks) kind scale
    (watch_status fault)
IsRefusalOfFile-read checks kind scale bytes fault front either never =
    elim (watch_faults fault) [
      | inl memory ↦ absurd (never (rw memory refl))
      | inr other ↦ rw other.1 (ChecksWereRead-of checks kind scale bytes (faulty fault) front
          (⊎_elim (λ memory. absurd (other.0 memory)) (λ told. told) either))
    ]

-- it isn't that it couldn't be read
pub read_though : (fault : WatchFault) → watch_status fault ≡ ReadFault → ⊥
read_though WatchMemory is = cc
read_though TooLarge is = cc
read_though (BadLine line) is = cc
read_though (TooMany line) is = cc
read_though (Twice line) is = cc
read_though (PatternFault line fault) is = cc
read_though Empty is = cc

module _ (file : List ℕ) (kind : Kind) (scale : ℕ) (checks : InputTold) where
  -- where memory was wanting no read failed
  pub StopsChecks-memory : AllReadsGood checks → StopsChecks file kind scale checks Memory
  StopsChecks-memory good = record {
    wanting = λ other. good;
    refuses = λ never unread. absurd (never refl);
    unread = λ is. absurd cc;
  }

  -- why the file wasn't read
  pub StopsChecks-unread : (fault : Fault) → StopsFront file checks fault
      → StopsChecks file kind scale checks (fault_status fault)
  StopsChecks-unread FaultRead stops = record {
    wanting = λ other. absurd (other refl);
    refuses = λ never unread. absurd (unread refl);
    unread = λ is. stops;
  }
  StopsChecks-unread FaultMemory stops = StopsChecks-memory stops
  StopsChecks-unread (FaultTrace fault) stops = absurd stops
  StopsChecks-unread FaultTooLong stops = absurd stops
  StopsChecks-unread (FaultTooMany zones) stops = absurd stops
  StopsChecks-unread FaultWrite stops = absurd stops
