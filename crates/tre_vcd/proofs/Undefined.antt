-- Where there is no definition, nothing hangs on what was read.
use Rattle.std.proofs.Common.{arith, ◌≡◌, ℕ, zero, suc, ◌==◌, Bool, true, false, List, [], ◌∷◌, length, map, Option, None, Some, refl, sym, ap, ◌∙◌, subst, rules}
use Rattle.std.specs.Prelude.{All}
use Rattle.std.proofs.lemmas.Bool.Decides.{nat_tests}
use Rattle.std.specs.Option.{is_some, option_and_then}
use Rattle.std.specs.Int.{bit_at}
use Rattle.std.specs.List.{slice_get}
use Rattle.std.proofs.lemmas.Bool.{false≢true}
use Rattle.std.proofs.lemmas.List.Elements.{All-head}
use Rattle.tre_define.specs.Signals.{SignalDefined, signal_definition_of}
use Rattle.tre_vcd.specs.VcdReading.{Statement, of_changes}
use Rattle.tre_vcd.specs.Offers.{KnowsOffers}
use Rattle.tre_vcd.specs.Pairs.{KnowsPairAt, KnowsPaired, KnowsPairs, KnowsSide, one_text, other_text, reads_at, side_read}
use Rattle.tre_vcd.specs.Defined.{KnowsSignals}
use Rattle.tre_vcd.specs.Signals.{AreDefined, AreTested, SignalsAreWatched, KnowsAt, KnowsChanges, KnowsTests, bit_of, has_at, part_at, part_kept, part_read, test_at, test_read, watched_at}
use Rattle.tre_vcd.specs.declared.changes.Changes.{Changes}
use Rattle.tre_vcd.specs.declared.changes.Watched.{Watched}
use Rattle.tre_vcd.specs.declared.found.Found.{Found}
use Rattle.tre_vcd.specs.declared.pairs.Paired.{Paired}
use Rattle.tre_vcd.specs.declared.pairs.Pairs.{Pairs}
use Rattle.tre_vcd.specs.declared.signals.Signals.{Signals}
use Rattle.tre_vcd.specs.declared.tests.Tested.{Tested}
use Rattle.tre_vcd.specs.declared.tests.Tests.{Tests}
use Rattle.tre_vcd.proofs.Pairing.{side-none}
use Rattle.tre_vcd.proofs.Testing.{none-passes, unasked}
use Rattle.tre_vcd.proofs.Watching as watching

pub no-definition : (all : List SignalDefined) → (length all == 0) ≡ true → all ≡ []
no-definition [] is = refl
no-definition (one ∷ all) is = absurd (grind (arith, nat_tests))

has-none : (names : List (List ℕ)) (kept : List (Option SignalDefined)) (k : ℕ)
    → AreDefined [] names kept → has_at kept k ≡ false
has-none [] kept k defined = ap (λ own. has_at own k) defined
has-none (name ∷ names) [] k defined = refl
has-none (name ∷ names) (own ∷ kept) zero defined = ap is_some defined.0
has-none (name ∷ names) (own ∷ kept) (suc k) defined = has-none names kept k defined.1

tested-none : (past now : List Statement) (names : List (List ℕ)) (list : List Tested)
    → AreDefined [] names (map (λ tested. tested.definition) list) → AreTested past list
    → AreTested now list
tested-none past now names [] defined are = tt
tested-none past now [] (tested ∷ list) defined are = absurd (cc (defined))
tested-none past now (name ∷ names) (tested ∷ list) defined are = (
  are.0 ∙ ap (test_read past) defined.0 ∙ sym (ap (test_read now) defined.0),
  tested-none past now names list defined.1 are.1,
)

tests-undefined : (past now : List Statement) (names : List (List ℕ)) (kept : Tests)
    → KnowsTests [] names kept past → KnowsTests [] names kept now
tests-undefined past now names kept knows =
    search (rules, test_at, unasked, has-none, tested-none, bit_of, none-passes, kept.list.items)

watched-none : (past now : List Statement) (names : List (List ℕ)) (list : List Watched)
    → AreDefined [] names (map (λ watched. watched.definition) list) → SignalsAreWatched past list
    → SignalsAreWatched now list
watched-none past now names [] defined are = tt
watched-none past now [] (watched ∷ list) defined are = absurd (cc (defined))
watched-none past now (name ∷ names) (watched ∷ list) defined are = (
  are.0 ∙ ap (part_read past) defined.0 ∙ sym (ap (part_read now) defined.0),
  watched-none past now names list defined.1 are.1,
)

at-undefined : (past now : List Statement) (watched : Option Watched) (said happened : ℕ)
    → option_and_then part_kept watched ≡ None → KnowsAt watched said happened past
    → KnowsAt watched said happened now
at-undefined past now None said happened none knows = knows
at-undefined past now (Some watched) said happened none knows = search rules

changes-undefined : (past now : List Statement) (names : List (List ℕ)) (kept : Changes)
    → KnowsChanges [] names kept past → KnowsChanges [] names kept now
changes-undefined past now names kept knows =
    let none : (k : ℕ) → part_at kept.list.items k ≡ None =
    λ k. watching.unasked past kept.list.items k knows.parts
    (has-none names _ k knows.definitions) in
    record {
      few = knows.few;
      definitions = knows.definitions;
      parts = watched-none past now names kept.list.items knows.definitions knows.parts;
      sieve = λ e k asked is. absurd (cc (none k, is));
      defined = knows.defined;
      each = λ k. at-undefined past now (watched_at kept.list.items k) (bit_at kept.said k)
          (bit_at kept.happened k) (none k) (knows.each k);
    }

paired-undefined : (past now : List Statement) (paired : Paired) → paired.definition ≡ None
    → KnowsPaired past paired → KnowsPaired now paired
paired-undefined past now paired is knows = record {
  one = subst (λ text. KnowsSide now text paired.one) (sym (ap one_text is))
      (side-none past now paired.one
      (subst (λ text. KnowsSide past text paired.one) (ap one_text is) knows.one));
  other = subst (λ text. KnowsSide now text paired.other) (sym (ap other_text is))
      (side-none past now paired.other
      (subst (λ text. KnowsSide past text paired.other) (ap other_text is) knows.other));
}

paired-none : (past now : List Statement) (names : List (List ℕ)) (list : List Paired)
    → AreDefined [] names (map (λ paired. paired.definition) list) → (k value : ℕ)
    → KnowsPairAt past (slice_get list k) value → KnowsPairAt now (slice_get list k) value
paired-none past now names [] defined k value knows = knows
paired-none past now [] (paired ∷ list) defined k value knows = absurd (cc (defined))
paired-none past now (name ∷ names) (paired ∷ list) defined zero value knows =
    (paired-undefined past now paired defined.0 knows.0, knows.1)
paired-none past now (name ∷ names) (paired ∷ list) defined (suc k) value knows =
    paired-none past now names list defined.1 k value knows

unread-none : (past : List Statement) (names : List (List ℕ)) (list : List Paired)
    → AreDefined [] names (map (λ paired. paired.definition) list)
    → ((k : ℕ) → (value : ℕ) × KnowsPairAt past (slice_get list k) value) → (k : ℕ)
    (identifier : List ℕ) → reads_at (slice_get list k) identifier ≡ false
unread-none past names [] defined each k identifier = refl
unread-none past [] (paired ∷ list) defined each k identifier = absurd (cc (defined))
unread-none past (name ∷ names) (paired ∷ list) defined each zero identifier =
    let knows = (each 0).1.0 in
    rw (
      knows.one.asked ∙ ap (side_read past) (ap one_text defined.0),
      knows.other.asked ∙ ap (side_read past) (ap other_text defined.0),
    ) refl
unread-none past (name ∷ names) (paired ∷ list) defined each (suc k) identifier =
    unread-none past names list defined.1 (λ i. each (suc i)) k identifier

pairs-undefined : (past now : List Statement) (names : List (List ℕ)) (sieve : List ℕ)
    (kept : Pairs) → KnowsPairs [] names sieve kept past → KnowsPairs [] names sieve kept now
pairs-undefined past now names sieve kept knows = record {
  few = knows.few;
  definitions = knows.definitions;
  each = λ k. paired-none past now names kept.list.items knows.definitions k _ (knows.each k);
  sifted = λ e k identifier reads. absurd (false≢true (sym (unread-none past names kept.list.items
      knows.definitions (λ i. (_, knows.each i)) k identifier) ∙ reads));
  compared = knows.compared;
}

pub signals-undefined : (names events : List (List ℕ)) (kept : Signals)
    (past now : List Statement) → (length kept.definitions.items == 0) ≡ true
    → KnowsSignals names events kept past → KnowsSignals names events kept now
signals-undefined names events kept past now empty knows =
    let none = no-definition kept.definitions.items empty in
    record {
      tests =
          subst (λ all. KnowsTests all names kept.tests now) (sym none)
          (tests-undefined past now names kept.tests
          (subst (λ all. KnowsTests all names kept.tests past) none knows.tests));
      pairs =
          subst (λ all. KnowsPairs all names kept.tests.sieve kept.pairs now) (sym none)
          (pairs-undefined past now names kept.tests.sieve kept.pairs
          (subst (λ all. KnowsPairs all names kept.tests.sieve kept.pairs past) none knows.pairs));
      changes =
          subst (λ all. KnowsChanges (of_changes all) events kept.changes now) (sym none)
          (changes-undefined past now events kept.changes
          (subst (λ all. KnowsChanges (of_changes all) events kept.changes past) none
          knows.changes));
    }

own-none : (own : List SignalDefined)
    → All (λ one. signal_definition_of [] one.name ≡ Some one) own → own ≡ []
own-none [] all = refl
own-none (one ∷ own) all =
    absurd (cc (All-head (λ it. signal_definition_of [] it.name ≡ Some it) one own all))

flags-none : (f g : SignalDefined → Bool) (own : List SignalDefined) (flags : List Bool)
    → own ≡ [] → flags ≡ map f own → flags ≡ map g own
flags-none f g own flags none is = search rules

offers-undefined : (past now : List Statement) (found : Found)
    → KnowsOffers [] past found → KnowsOffers [] now found
offers-undefined past now found knows = record {
  same = knows.same;
  tests = flags-none _ _ found.needed.value.tests.items found.tests.items
      (own-none found.needed.value.tests.items knows.names.defined) knows.tests;
  others = flags-none _ _ found.needed.value.tests.items found.others.items
      (own-none found.needed.value.tests.items knows.names.defined) knows.others;
  changes = flags-none _ _ found.needed.value.changes.items found.changes.items
      (own-none found.needed.value.changes.items knows.events.defined) knows.changes;
  names = knows.names;
  events = knows.events;
}

pub offers-empty : (all : List SignalDefined) (past now : List Statement) (found : Found)
    → (length all == 0) ≡ true → KnowsOffers all past found → KnowsOffers all now found
offers-empty all past now found empty knows =
    let none = no-definition all empty in
    subst (λ own. KnowsOffers own now found) (sym none)
    (offers-undefined past now found (subst (λ own. KnowsOffers own past found) none knows))
