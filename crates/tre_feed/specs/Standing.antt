-- How an input stands: what it is asked, what its bytes say, and what of it waits.
use Rattle.std.specs.Prelude.{◌≡◌, ℕ, ◌<◌, Bool, false, List, [], length, take}
use Rattle.std.specs.List.{AllZip}
use Rattle.tre_feed.specs.Shares.{IsViewOf}
use Rattle.tre_feed.specs.declared.view.View.{View}
use Rattle.tre_trace.specs.Reading.{Recording, Stretch, Vocabulary}
use Rattle.tre_feed.specs.Each.{AllEnded, AllWait, AllWereFed, groups_in, recording_by}
use Rattle.tre_feed.specs.declared.input.Input.{Input}

-- Each of these lists of names is seen by its view, out of one of the groups.
abbrev pub AreFor : List Vocabulary → List Vocabulary → List View → Type 0
AreFor asked groups views = AllZip (IsViewOf groups) asked views

-- The input is read for these lists of names, in this order.
pub record Asks {R : Type 0} (names : R → Vocabulary) (input : Input R) (asked : List Vocabulary)
    : Type 0 where
  pub views : AreFor asked (groups_in names input.each.items) input.views.items

-- What its bytes say, closed or not yet, whoever asks.
abbrev pub recording_of : {R Terms : Type 0} → (Terms → Bool → List ℕ → Recording) →
    (R → Terms) → Input R → Bool → List ℕ → Recording
recording_of recording terms input = recording_by recording terms input.each.items

-- How many of its bytes count.
abbrev pub limit_of : {R : Type 0} → Input R → ℕ
limit_of input = input.limit

-- How many of its bytes were read.
abbrev pub taken_of : {R : Type 0} → Input R → ℕ
taken_of input = input.taken

-- Its readers were fed these bytes, and found no fault in them.
abbrev pub WereFed : {R Terms : Type 0} → (R → Terms) → (R → List ℕ → Type 0) → Input R →
    List ℕ → Type 0
WereFed terms represents input = AllWereFed terms represents input.each.items

-- These stretches wait: they were read, and nobody has taken them.
abbrev pub Wait : {R : Type 0} → (R → Vocabulary) → Input R → List Stretch → Type 0
Wait names input = AllWait names input.each.items

-- It was told the end, where these events happen.
abbrev pub HasEnded : {R : Type 0} → (R → Vocabulary) → Input R → (List ℕ → Bool) → Type 0
HasEnded names input = AllEnded names input.each.items

-- Nothing of it was read.
pub record IsNew {R Terms : Type 0} (terms : R → Terms) (represents : R → List ℕ → Type 0)
    (names : R → Vocabulary) (input : Input R) : Type 0 where
  pub fed : WereFed terms represents input []
  pub none : Wait names input []
  pub taken : taken_of input ≡ 0

-- It may be read on: its readers were fed what was read of it, as far as the limit, and found no
-- fault.
pub record CanReadOn {R Terms : Type 0} (terms : R → Terms) (represents : R → List ℕ → Type 0)
    (input : Input R) : Type 0 where
  pub bytes : List ℕ
  pub size : length bytes ≡ taken_of input
  pub fed : WereFed terms represents input (take (limit_of input) bytes)

-- It asks as it did, and its bytes say what they did.
pub record IsAsked {R Terms : Type 0} (names : R → Vocabulary) (terms : R → Terms)
    (recording : Terms → Bool → List ℕ → Recording) (old new : Input R) : Type 0 where
  pub asks : (asked : List Vocabulary) → Asks names old asked → Asks names new asked
  pub said : recording_of recording terms new ≡ recording_of recording terms old
  pub limit : limit_of new ≡ limit_of old

-- A stretch waits at this place.
pub record HasPlace {R : Type 0} (names : R → Vocabulary) (input : Input R) (place : ℕ)
    : Type 0 where
  pub stretches : List Stretch
  pub wait : Wait names input stretches
  pub below : place < length stretches

-- the stretch behind the last
abbrev pub stretch_behind : Stretch
stretch_behind = record { len = 0; is_true = λ name. false; happens = λ name. false }
