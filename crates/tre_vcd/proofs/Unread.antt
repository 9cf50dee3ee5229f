-- A declaration of which no definition reads anything.
use Rattle.std.proofs.Common.{◌≡◌, ℕ, zero, suc, ◌==◌, ◌&&◌, ◌||◌, not, Bool, true, false, List, [], ◌∷◌, map, get_or, Option, None, Some, refl, sym, ap, ap₂, subst, ◌∙◌, if◌then◌else◌}
use Rattle.std.specs.Prelude.{All, cond}
use Rattle.std.specs.List.{find, slice_get}
use Rattle.std.specs.Option.{is_some, option_and_then, option_map, option_or}
use Rattle.std.specs.Int.{bit_at}
use Rattle.std.specs.Str.{bytes_eq}
use Rattle.std.proofs.lemmas.List.Elements.{All-filter, All-head, All-tail}
use Rattle.tre_define.specs.Named.{IsFront, base_of, part_named}
use Rattle.tre_define.specs.Signals.{SignalDefined, changing, part_of_text, signal_definition_of, test_in}
use Rattle.tre_define.specs.declared.comparison.Comparison.{Comparison}
use Rattle.tre_define.specs.declared.part.Part.{Part}
use Rattle.tre_define.specs.declared.reads.Reads.{Reads}
use Rattle.tre_define.specs.declared.reads.Reads.TheVariants.{Beside, Bit, Changes, Compared, Has}
use Rattle.tre_vcd.specs.VcdReading.{Statement, var, scopes_at, Offer, offer_in, asked_in, first_read, occasion_in, part_in, is_changes, of_changes}
use Rattle.tre_vcd.specs.Bases.{HasFront, HasSignal, HasSignals}
use Rattle.tre_vcd.specs.Offers.{KnowsOffers, has_first, has_other, is_compared}
use Rattle.tre_vcd.specs.Pairs.{KnowsPairAt, KnowsPaired, KnowsPairs, KnowsSide, comparison_of, one_text, other_text, side_read, text_of}
use Rattle.tre_vcd.specs.Defined.{KnowsSignals}
use Rattle.tre_vcd.specs.Signals.{AreDefined, AreTested, SignalsAreWatched, KnowsChanges, KnowsTests, bit_of, part_read, test_at, test_read, watched_at}
use Rattle.tre_vcd.specs.Unread.{AreUnread, IsUnread}
use Rattle.tre_vcd.specs.declared.bases.Bases.{Bases}
use Rattle.tre_vcd.specs.declared.changes.Changes.{Changes as KeptChanges}
use Rattle.tre_vcd.specs.declared.changes.Watched.{Watched}
use Rattle.tre_vcd.specs.declared.found.Found.{Found}
use Rattle.tre_vcd.specs.declared.pairs.Paired.{Paired}
use Rattle.tre_vcd.specs.declared.pairs.Pairs.{Pairs}
use Rattle.tre_vcd.specs.declared.signals.Signals.{Signals}
use Rattle.tre_vcd.specs.declared.tests.Tested.{Tested}
use Rattle.tre_vcd.specs.declared.tests.Tests.{Tests}
use Rattle.tre_vcd.proofs.Pairing.{side-alike, side-none}
use Rattle.tre_vcd.proofs.Staying.{SaysSame, at-same, passed-same}
use Rattle.tre_vcd.proofs.Testing.{or-none, test-next}
use Rattle.tre_vcd.proofs.Watching.{part-next}

map-alike : {X Y : Type 0} (f g : X → Y) (xs : List X) → All (λ x. f x ≡ g x) xs
    → map f xs ≡ map g xs
map-alike f g [] same = refl
map-alike f g (x ∷ xs) same =
    ap₂ (λ y ys. y ∷ ys) (All-head (λ x. f x ≡ g x) x xs same)
    (map-alike f g xs (All-tail (λ x. f x ≡ g x) x xs same))

-- the first that passes a test is one of them
module _ {X : Type 0} (P : X → Type 0) where
  found-step : (here : Bool) (first : X) (later : Option X) (x : X) → P first
      → (later ≡ Some x → P x) → cond here (Some first) later ≡ Some x → P x
  found-step true first later x own more is =
      let same : first ≡ x = cc (is) in subst P same own
  found-step false first later x own more is = more is

  found-holds : (xs : List X) (test : X → Bool) (x : X) → All P xs → find test xs ≡ Some x → P x
  found-holds [] test x all is = absurd (cc (is))
  found-holds (first ∷ xs) test x all is =
      found-step (test first) first (find test xs) x (All-head P first xs all)
      (found-holds xs test x (All-tail P first xs all)) is

-- ---- bases

-- a text that isn't kept names no part
pub are-unread : (bases : Bases) (all : List SignalDefined) (full_name : List ℕ)
    → HasSignals bases all → (HasFront bases (base_of full_name) → ⊥)
    → ((text : List ℕ) (size : ℕ) (part : Part) → part_named text full_name size ≡ Some part
    → IsFront (base_of full_name) text) → AreUnread all full_name
are-unread bases all full_name has none front = λ k d below. record {
  signal = λ size. unread (get_or all k d).signal size (size == 0) _ refl
      (has.each k d below).signal;
  other = λ size. unread (get_or all k d).other size (size == 0) _ refl (has.each k d below).other;
}
  where
    unread : (text : List ℕ) (size : ℕ) (empty : Bool) (found : Option Part)
        → part_named text full_name size ≡ found → HasSignal bases text
        → (if empty then None else part_named text full_name size) ≡ None
    unread text size true found is own = refl
    unread text size false None is own = is
    unread text size false (Some part) is own =
        absurd (none (own.fronts (base_of full_name) (front text size part is)))

-- ---- what a definition reads

unread-test : (offer : Offer) (one : SignalDefined) → IsUnread offer.full_name one
    → asked_in (test_in one) offer ≡ None
unread-test offer one unread = rw (unread.signal offer.size) refl

unread-changes : (reads : Reads) (part : Option Part) → part ≡ None → changing reads part ≡ None
unread-changes Bit part none = refl
unread-changes (Compared comparison number) part none = refl
unread-changes Changes part none = none
unread-changes (Has letter) part none = refl
unread-changes (Beside comparison) part none = refl

unread-part : (offer : Offer) (one : SignalDefined) → IsUnread offer.full_name one
    → asked_in (occasion_in one) offer ≡ None
unread-part offer one unread =
    rw (unread-changes one.reads _ (unread.signal offer.size)) refl

module _ (past : List Statement) (tokens : List (List ℕ)) (offer : Offer)
    (offered : offer_in (scopes_at past) tokens ≡ Some offer) where
  test-same : (one : SignalDefined) → IsUnread offer.full_name one
      → test_read (var tokens ∷ past) (Some one) ≡ test_read past (Some one)
  test-same one unread =
      test-next past tokens one offer offered
      ∙ ap (option_or (test_read past (Some one))) (unread-test offer one unread)
      ∙ or-none (test_read past (Some one))

  part-same : (one : SignalDefined) → IsUnread offer.full_name one
      → part_read (var tokens ∷ past) (Some one) ≡ part_read past (Some one)
  part-same one unread =
      part-next past tokens one offer offered
      ∙ ap (option_or (part_read past (Some one))) (unread-part offer one unread)
      ∙ or-none (part_read past (Some one))

  text-same : (text : List ℕ) → part_of_text text offer.full_name offer.size ≡ None
      → first_read (part_in text) (var tokens ∷ past) ≡ first_read (part_in text) past
  text-same text none =
      ap (λ found. option_or (first_read (part_in text) past)
      (option_and_then (asked_in (part_of_text text)) found)) offered
      ∙ ap (λ (it : Option Part). option_or (first_read (part_in text) past)
      (option_map (λ asks. record { identifier = offer.identifier; asks = asks }) it)) none
      ∙ or-none (first_read (part_in text) past)

  side-same : (comparison : Option Comparison) (text : List ℕ)
      → part_of_text text offer.full_name offer.size ≡ None
      → side_read (var tokens ∷ past) (text_of comparison text)
      ≡ side_read past (text_of comparison text)
  side-same None text none = refl
  side-same (Some comparison) text none = text-same text none

  own-holds : (all : List SignalDefined) (name : List ℕ) (own : Option SignalDefined)
      → AreUnread all offer.full_name → own ≡ signal_definition_of all name
      → (one : SignalDefined) → own ≡ Some one → IsUnread offer.full_name one
  own-holds all name own unread is one some =
      found-holds (IsUnread offer.full_name) all (λ it. bytes_eq it.name name) one unread
      (sym is ∙ some)

  test-kept : (all : List SignalDefined) (name : List ℕ) (own : Option SignalDefined)
      → AreUnread all offer.full_name → own ≡ signal_definition_of all name
      → test_read (var tokens ∷ past) own ≡ test_read past own
  test-kept all name None unread is = refl
  test-kept all name (Some one) unread is =
      test-same one (own-holds all name (Some one) unread is one refl)

  part-kept : (all : List SignalDefined) (name : List ℕ) (own : Option SignalDefined)
      → AreUnread all offer.full_name → own ≡ signal_definition_of all name
      → part_read (var tokens ∷ past) own ≡ part_read past own
  part-kept all name None unread is = refl
  part-kept all name (Some one) unread is =
      part-same one (own-holds all name (Some one) unread is one refl)

  tested : (all : List SignalDefined) (names : List (List ℕ)) (list : List Tested)
      → AreUnread all offer.full_name → AreDefined all names (map (λ it. it.definition) list)
      → AreTested past list → AreTested (var tokens ∷ past) list
  tested all names [] unread defined are = tt
  tested all [] (one ∷ list) unread defined are = absurd (cc (defined))
  tested all (name ∷ names) (one ∷ list) unread defined are = (
    are.0 ∙ sym (test-kept all name one.definition unread defined.0),
    tested all names list unread defined.1 are.1,
  )

  watched : (all : List SignalDefined) (names : List (List ℕ)) (list : List Watched)
      → AreUnread all offer.full_name → AreDefined all names (map (λ it. it.definition) list)
      → SignalsAreWatched past list → SignalsAreWatched (var tokens ∷ past) list
  watched all names [] unread defined are = tt
  watched all [] (one ∷ list) unread defined are = absurd (cc (defined))
  watched all (name ∷ names) (one ∷ list) unread defined are = (
    are.0 ∙ sym (part-kept all name one.definition unread defined.0),
    watched all names list unread defined.1 are.1,
  )

  paired-same : (paired : Paired) (definition : Option SignalDefined)
      → paired.definition ≡ definition
      → ((one : SignalDefined) → definition ≡ Some one → IsUnread offer.full_name one)
      → KnowsPaired past paired → KnowsPaired (var tokens ∷ past) paired
  paired-same paired None is unread knows = record {
    one = subst (λ text. KnowsSide (var tokens ∷ past) text paired.one) (sym (ap one_text is))
        (side-none past (var tokens ∷ past) paired.one
        (subst (λ text. KnowsSide past text paired.one) (ap one_text is) knows.one));
    other = subst (λ text. KnowsSide (var tokens ∷ past) text paired.other)
        (sym (ap other_text is)) (side-none past (var tokens ∷ past) paired.other
        (subst (λ text. KnowsSide past text paired.other) (ap other_text is) knows.other));
  }
  paired-same paired (Some one) is unread knows =
      let own = unread one refl in
      record {
        one = subst (λ text. KnowsSide (var tokens ∷ past) text paired.one) (sym (ap one_text is))
            (side-alike past (var tokens ∷ past) _ paired.one
            (side-same (comparison_of one.reads) one.signal (own.signal offer.size))
            (λ identifier. refl)
            (subst (λ text. KnowsSide past text paired.one) (ap one_text is) knows.one));
        other = subst (λ text. KnowsSide (var tokens ∷ past) text paired.other)
            (sym (ap other_text is)) (side-alike past (var tokens ∷ past) _ paired.other
            (side-same (comparison_of one.reads) one.other (own.other offer.size))
            (λ identifier. refl)
            (subst (λ text. KnowsSide past text paired.other) (ap other_text is) knows.other));
      }

  paired-kept : (all : List SignalDefined) (names : List (List ℕ)) (list : List Paired)
      → AreUnread all offer.full_name → AreDefined all names (map (λ it. it.definition) list)
      → (k value : ℕ) → KnowsPairAt past (slice_get list k) value
      → KnowsPairAt (var tokens ∷ past) (slice_get list k) value
  paired-kept all names [] unread defined k value knows = knows
  paired-kept all [] (one ∷ list) unread defined k value knows = absurd (cc (defined))
  paired-kept all (name ∷ names) (one ∷ list) unread defined zero value knows = (
    paired-same one one.definition refl
        (own-holds all name one.definition unread defined.0) knows.0,
    knows.1,
  )
  paired-kept all (name ∷ names) (one ∷ list) unread defined (suc k) value knows =
      paired-kept all names list unread defined.1 k value knows

  pairs-unoffered : (all : List SignalDefined) (names : List (List ℕ)) (sieve : List ℕ)
      (kept : Pairs) → AreUnread all offer.full_name → KnowsPairs all names sieve kept past
      → KnowsPairs all names sieve kept (var tokens ∷ past)
  pairs-unoffered all names sieve kept unread knows = record {
    few = knows.few;
    definitions = knows.definitions;
    each = λ k. paired-kept all names kept.list.items unread knows.definitions k _ (knows.each k);
    sifted = knows.sifted;
    compared = knows.compared;
  }

  says-same : SaysSame past (var tokens ∷ past)
  says-same = record { letters = λ identifier. refl; before = λ identifier. refl }

  tests-unread : (all : List SignalDefined) (names : List (List ℕ)) (kept : Tests)
      → AreUnread all offer.full_name → KnowsTests all names kept past
      → KnowsTests all names kept (var tokens ∷ past)
  tests-unread all names kept unread knows = record {
    few = knows.few;
    definitions = knows.definitions;
    tests = tested all names kept.list.items unread knows.definitions knows.tests;
    sieve = knows.sieve;
    defined = knows.defined;
    values = λ k. knows.values k
        ∙ ap bit_of (passed-same past (var tokens ∷ past) says-same (test_at kept.list.items k));
  }

  changes-unread : (all : List SignalDefined) (names : List (List ℕ)) (kept : KeptChanges)
      → AreUnread all offer.full_name → KnowsChanges all names kept past
      → KnowsChanges all names kept (var tokens ∷ past)
  changes-unread all names kept unread knows = record {
    few = knows.few;
    definitions = knows.definitions;
    parts = watched all names kept.list.items unread knows.definitions knows.parts;
    sieve = knows.sieve;
    defined = knows.defined;
    each = λ k. at-same past (var tokens ∷ past) (watched_at kept.list.items k)
        (bit_at kept.said k) (bit_at kept.happened k) says-same (knows.each k);
  }

  pub signals-unread : (names events : List (List ℕ)) (kept : Signals)
      → AreUnread kept.definitions.items offer.full_name → KnowsSignals names events kept past
      → KnowsSignals names events kept (var tokens ∷ past)
  signals-unread names events kept unread knows = record {
    tests = tests-unread kept.definitions.items names kept.tests unread knows.tests;
    pairs = pairs-unoffered kept.definitions.items names kept.tests.sieve kept.pairs unread
        knows.pairs;
    changes = changes-unread (of_changes kept.definitions.items) events kept.changes
        (All-filter (λ one. is_changes one.reads) (IsUnread offer.full_name)
        kept.definitions.items unread) knows.changes;
  }

  first-same : (one : SignalDefined) → IsUnread offer.full_name one
      → has_first past one ≡ has_first (var tokens ∷ past) one
  first-same one unread =
      ap₂ (λ a b. if is_compared one then a else b)
      (ap is_some (sym (text-same one.signal (unread.signal offer.size))))
      (ap is_some (sym (test-same one unread)))

  other-same : (one : SignalDefined) → IsUnread offer.full_name one
      → has_other past one ≡ has_other (var tokens ∷ past) one
  other-same one unread =
      ap (λ b. not (is_compared one) || (is_compared one && is_some b))
      (sym (text-same one.other (unread.other offer.size)))

  pub offers-unread : (all : List SignalDefined) (found : Found)
      → AreUnread all offer.full_name → KnowsOffers all past found
      → KnowsOffers all (var tokens ∷ past) found
  offers-unread all found unread knows = record {
    same = knows.same;
    tests = knows.tests ∙ map-alike _ _ found.needed.value.tests.items
        (λ k d below. first-same (get_or _ k d) (own-holds all _ _ unread
        (sym (knows.names.defined k d below)) (get_or _ k d) refl));
    others = knows.others ∙ map-alike _ _ found.needed.value.tests.items
        (λ k d below. other-same (get_or _ k d) (own-holds all _ _ unread
        (sym (knows.names.defined k d below)) (get_or _ k d) refl));
    changes = knows.changes ∙ map-alike _ _ found.needed.value.changes.items
        (λ k d below. ap is_some (sym (part-kept (of_changes all) _ (Some (get_or _ k d))
        (All-filter (λ one. is_changes one.reads) (IsUnread offer.full_name) all unread)
        (sym (knows.events.defined k d below)))));
    names = knows.names;
    events = knows.events;
  }
