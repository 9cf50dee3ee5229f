-- What is known by definitions, behind a statement that says nothing of them.
use Rattle.std.specs.Global.{Vec}
use Rattle.std.proofs.Common.{◌≡◌, ℕ, Bool, true, false, List, [], ◌∷◌, map, Option, None, Some, refl, sym, ap, ap₂, ◌∙◌, not, ◌&&◌, ◌||◌, if◌then◌else◌, rules}
use Rattle.std.proofs.Math.Path.{fun_ext}
use Rattle.std.specs.Option.{is_some, option_map_or}
use Rattle.std.specs.Int.{bit_at}
use Rattle.tre_define.specs.Signals.{SignalDefined}
use Rattle.tre_define.specs.declared.part.Part.{Part}
use Rattle.tre_define.specs.declared.test.Test.{Test}
use Rattle.tre_vcd.specs.VcdReading.{Statement, time, is_defined, letters_at, before_now, Asked, first_read, part_in, differs, is_passed}
use Rattle.tre_vcd.specs.Kept.{KnowsOfPast, identifier_of}
use Rattle.tre_vcd.specs.Offers.{KnowsOffers, is_compared}
use Rattle.tre_vcd.specs.Pairs.{side_read}
use Rattle.tre_vcd.specs.Sections.{KnowsPast}
use Rattle.tre_vcd.specs.Defined.{KnowsSignals}
use Rattle.tre_vcd.specs.Signals.{SignalsAreWatched, KnowsAt, KnowsChanges, KnowsTests, bit_of, has_changed, part_kept, part_read, test_at, test_read, watched_at}
use Rattle.tre_vcd.specs.declared.changes.Changes.{Changes}
use Rattle.tre_vcd.specs.declared.changes.Watched.{Watched}
use Rattle.tre_vcd.specs.declared.found.Found.{Found}
use Rattle.tre_vcd.specs.declared.inside.Inside.{Inside}
use Rattle.tre_vcd.specs.declared.past.Past.{Past}
use Rattle.tre_vcd.specs.declared.signals.Signals.{Signals}
use Rattle.tre_vcd.specs.declared.tests.Tests.{Tests}
use Rattle.tre_vcd.specs.declared.token_reader.TokenReader.{TokenReader}
use Rattle.tre_vcd.proofs.Needing.{needed-same}
use Rattle.tre_vcd.proofs.Pairing.{pairs-alike}
use Rattle.tre_vcd.proofs.Testing.{tested-same}

-- Looking back from two pasts, definitions read the same.
pub record ReadsSame (past now : List Statement) : Type 0 where
  pub tests : (definition : Option SignalDefined) → test_read now definition
      ≡ test_read past definition
  pub parts : (definition : Option SignalDefined) → part_read now definition
      ≡ part_read past definition
  pub texts : (text : List ℕ) → first_read (part_in text) now ≡ first_read (part_in text) past

-- So are the letters, now and before.
pub record SaysSame (past now : List Statement) : Type 0 where
  pub letters : (identifier : List ℕ) → letters_at now identifier ≡ letters_at past identifier
  pub before : (identifier : List ℕ) → letters_at (before_now now) identifier
      ≡ letters_at (before_now past) identifier

-- Both are, and no declarations end.
pub record StaysSame (past now : List Statement) : Type 0 where
  pub reads : ReadsSame past now
  pub says : SaysSame past now
  pub defined : is_defined now ≡ true → is_defined past ≡ true

pub passed-same : (past now : List Statement) → SaysSame past now → (asked : Option (Asked Test))
    → option_map_or (is_passed past) asked false ≡ option_map_or (is_passed now) asked false
passed-same past now same None = refl
passed-same past now same (Some asked) = rw (same.letters asked.identifier) refl

read-timed : (past : List Statement) (ticks : ℕ) (definition : Option SignalDefined)
    → test_read (time ticks ∷ past) definition ≡ test_read past definition
read-timed past ticks None = refl
read-timed past ticks (Some one) = refl

pub tests-stay : (past now : List Statement) (all : List SignalDefined) (names : List (List ℕ))
    (kept : Tests) → StaysSame past now → KnowsTests all names kept past
    → KnowsTests all names kept now
tests-stay past now all names kept same knows = record {
  few = knows.few;
  definitions = knows.definitions;
  tests = tested-same past now kept.list.items same.reads.tests knows.tests;
  sieve = λ e. knows.sieve (same.defined e);
  defined = knows.defined;
  values = λ k. knows.values k
      ∙ ap bit_of (passed-same past now same.says (test_at kept.list.items k));
}

-- a time changes no value
pub tests-stay-time : (past : List Statement) (ticks : ℕ) (all : List SignalDefined)
    (names : List (List ℕ)) (kept : Tests) → KnowsTests all names kept past
    → KnowsTests all names kept (time ticks ∷ past)
tests-stay-time past ticks all names kept knows = search rules

pub watched-same : (past now : List Statement) (list : List Watched)
    → ((definition : Option SignalDefined) → part_read now definition ≡ part_read past definition)
    → SignalsAreWatched past list → SignalsAreWatched now list
watched-same past now [] same are = tt
watched-same past now (watched ∷ list) same are =
    (are.0 ∙ sym (same watched.definition), watched-same past now list same are.1)

changed-same : (past now : List Statement) → SaysSame past now → (asked : Option (Asked Part))
    → option_map_or (has_changed past) asked false ≡ option_map_or (has_changed now) asked false
changed-same past now same None = refl
changed-same past now same (Some asked) =
    ap₂ (differs asked.asks) (sym (same.before asked.identifier))
    (sym (same.letters asked.identifier))

pub at-same : (past now : List Statement) (watched : Option Watched) (said happened : ℕ)
    → SaysSame past now → KnowsAt watched said happened past → KnowsAt watched said happened now
at-same past now None said happened same knows = knows
at-same past now (Some watched) said happened same knows = record {
  letters = λ asked is.
      let part = knows.letters asked is in
      let letters = same.letters asked.identifier in
      let before = same.before asked.identifier in
      record {
        now = part.now ∙ sym letters;
        before = λ one. part.before one ∙ sym before;
        quiet = λ none. before ∙ part.quiet none ∙ sym letters;
      };
  silent = knows.silent;
  happened_is = knows.happened_is
      ∙ ap bit_of (changed-same past now same (part_kept watched));
}

pub changes-stay : (past now : List Statement) (all : List SignalDefined) (names : List (List ℕ))
    (kept : Changes) → StaysSame past now → KnowsChanges all names kept past
    → KnowsChanges all names kept now
changes-stay past now all names kept same knows = record {
  few = knows.few;
  definitions = knows.definitions;
  parts = watched-same past now kept.list.items same.reads.parts knows.parts;
  sieve = λ e. knows.sieve (same.defined e);
  defined = knows.defined;
  each = λ k. at-same past now (watched_at kept.list.items k) (bit_at kept.said k)
      (bit_at kept.happened k) same.says (knows.each k);
}

sides-same : (past now : List Statement) → ReadsSame past now → (text : Option (List ℕ))
    → side_read now text ≡ side_read past text
sides-same past now same None = refl
sides-same past now same (Some text) = same.texts text

pub signals-stay : (past now : List Statement) (names events : List (List ℕ)) (kept : Signals)
    → StaysSame past now → KnowsSignals names events kept past
    → KnowsSignals names events kept now
signals-stay past now names events kept same knows = record {
  tests = tests-stay past now _ names kept.tests same knows.tests;
  pairs = pairs-alike past now _ names kept.tests.sieve kept.pairs
      (sides-same past now same.reads) same.says.letters same.defined knows.pairs;
  changes = changes-stay past now _ events kept.changes same knows.changes;
}

pub offers-stay : (all : List SignalDefined) (past now : List Statement) (found : Found)
    → ReadsSame past now → KnowsOffers all past found → KnowsOffers all now found
offers-stay all past now found same knows = record {
  same = knows.same;
  tests = knows.tests ∙ ap (λ (f : SignalDefined → Bool). map f found.needed.value.tests.items)
      (fun_ext (λ one. ap₂ (λ a b. if is_compared one then is_some a else is_some b)
      (sym (same.texts one.signal)) (sym (same.tests (Some one)))));
  others = knows.others ∙ ap (λ (f : SignalDefined → Bool). map f found.needed.value.tests.items)
      (fun_ext (λ one. ap (λ b. not (is_compared one) || (is_compared one && is_some b))
      (sym (same.texts one.other))));
  changes = knows.changes
      ∙ ap (λ (f : SignalDefined → Bool). map f found.needed.value.changes.items)
      (fun_ext (λ one. ap is_some (sym (same.parts (Some one)))));
  names = knows.names;
  events = knows.events;
}

-- all of it, where the reader has this past
pub past-stays : (reader : TokenReader) (past now : List Statement) (kept : Past)
    → ((test : List ℕ → List ℕ → Bool) (name : List ℕ) → identifier_of test now name
    ≡ identifier_of test past name)
    → StaysSame past now → KnowsOfPast reader.names reader.events kept now → KnowsPast reader past
    → KnowsPast (record reader { past = kept }) now
past-stays reader past now kept identifiers same known knows = record {
  past = known;
  needed = needed-same past now reader.needed identifiers knows.needed;
  signals = signals-stay past now _ _ reader.signals same knows.signals;
  offers = offers-stay _ past now reader.needed same.reads knows.offers;
  within = knows.within;
  needed_within = knows.needed_within;
}

-- whatever is open
pub knows-kept : (reader : TokenReader) (inside : Inside) (tokens : Vec (Vec ℕ)) (letters : Vec ℕ)
    (past : List Statement) → KnowsPast reader past
    → KnowsPast (record reader { inside = inside; tokens = tokens; letters = letters }) past
knows-kept reader inside tokens letters past knows = search rules
