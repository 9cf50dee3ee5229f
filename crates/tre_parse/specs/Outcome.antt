-- What becomes of a text: the pattern that it spells, or the refusal that comes first.
use Rattle.std.specs.Prelude.{◌≡◌, ℕ, ◌+◌, ◌-◌, ◌<◌, ◌≤◌, ◌⊎◌, Bool, ◌&&◌, nat_lt, if◌then◌else◌, min, Option, Some, None, List, [], ◌∷◌, ◌++◌, length, take, map, slice_index_or, position, codes}
use Rattle.std.specs.List.{list_any, fold}
use Rattle.std.specs.Str.{bytes_eq}
use Rattle.tre_state.specs.declared.names.TheConstants.{NAMES_MAX}
use Rattle.tre_trace.specs.Reading.{Vocabulary}
use Rattle.tre_zone.specs.Interval.{IntervalEnds, HasNoDuration}
use Rattle.tre_syntax.specs.PatternTree.{PatternTree, node_count}
use Rattle.tre_pairs.specs.declared.TheConstants.{TIME_MAX}
use Rattle.tre_syntax.specs.declared.pattern.TheConstants.{NODES_MAX}
use Rattle.tre_parse.specs.declared.limits.TheConstants.{TEXT_MAX, DEPTH_MAX, COUNT_MAX}
use Rattle.tre_parse.specs.declared.fault.ParseFault.{ParseFault}
use Rattle.tre_parse.specs.declared.fault.ParseFault.TheVariants.{TooLong, BadByte, Number as TooBig, TooDeep, Syntax, EmptyInterval, TooManyNames, TooLarge, Memory}
use Rattle.tre_parse.specs.Words.{Words, AreWords, is_number, units_within, names_among}
use Rattle.tre_parse.specs.Grammar.{expr, Spells, SpellsInterval}

pub data Outcome : Type 0 where
  spelt : PatternTree → Vocabulary → Outcome
  refused : ParseFault → Outcome

-- A text as it is read: its words with their offsets, and the first byte at which none begins.
pub record Read (scale : ℕ) (text : List ℕ) : Type 0 where
  pub placed : List (ℕ × List ℕ)
  pub bad : Option ℕ
  pub are : AreWords 0 text placed bad

-- A number that is no number of units, or one above the latest time.
abbrev pub is_big : ℕ → List ℕ → Bool
is_big scale word = is_number word && nat_lt TIME_MAX (units_within scale word)

-- Brackets that close take one away, but never below zero.
abbrev pub open_after : ℕ → List ℕ → ℕ
open_after depth word =
    if list_any (λ byte. bytes_eq word (byte ∷ [])) (codes "([{") then depth + 1
    else (if list_any (λ byte. bytes_eq word (byte ∷ [])) (codes ")]}") then depth - 1 else depth)

-- There are more than NAMES_MAX names of a kind.
abbrev pub HasPast : Words → Type 0
HasPast words = (NAMES_MAX < length (names_among words).names)
    ⊎ (NAMES_MAX < length (names_among words).events)

abbrev pub IsFirst : (ℕ → Type 0) → ℕ → Type 0
IsFirst Is place = Is place × ((n : ℕ) → n < place → Is n → ⊥)

module _ (scale : ℕ) (known : Vocabulary) where
  -- Some more words behind these make an expression.
  abbrev pub BeginsExpression : Words → Type 0
  BeginsExpression words =
      (more : Words) × (tree : PatternTree) × Spells scale known expr (words ++ more) tree

  -- An interval that no duration is in stands at a place of the words, right after a `%`.
  pub record HasEmptyAt (words : Words) (place : ℕ) : Type 0 where
    pub front : Words
    pub body : Words
    pub rest : Words
    pub ends : IntervalEnds
    pub split : words ≡ front ++ codes "%" ∷ (body ++ rest)
    pub here : place ≡ length front + 1
    pub spelt : SpellsInterval scale known body ends
    pub empty : HasNoDuration ends

-- The order in which refusals come.
abbrev pub rank : ParseFault → ℕ
rank TooLong = 0
rank (BadByte at) = 1
rank (TooBig at) = 2
rank (TooDeep at) = 3
rank (Syntax at) = 4
rank (EmptyInterval at) = 5
rank (TooManyNames at) = 6
rank _ = 7

module _ {scale : ℕ} {text : List ℕ} (read : Read scale text) where
  abbrev pub words : Words
  words = map (λ one. one.1) read.placed

  abbrev pub SpellsAll : PatternTree → Type 0
  SpellsAll tree = Spells scale (names_among words) expr words tree

  -- At the offset is the first place that is so; past the last word stands the end of the text.
  abbrev pub FirstAt : (ℕ → Type 0) → ℕ → Type 0
  FirstAt Is at = (place : ℕ) × IsFirst Is place
      × (at ≡ slice_index_or (map (λ one. one.0) read.placed) place (length text))

  -- Words that are no expression go wrong at the first with which they begin none, or at the end.
  abbrev pub HasCause : ParseFault → Type 0
  HasCause TooLong = TEXT_MAX < length text
  HasCause (BadByte at) = read.bad ≡ Some at
  HasCause (TooBig at) = FirstAt (λ place. position (is_big scale) words ≡ Some place) at
  HasCause (TooDeep at) =
      FirstAt (λ place. DEPTH_MAX < fold open_after 0 (take (place + 1) words)) at
  HasCause (Syntax at) = ((tree : PatternTree) → SpellsAll tree → ⊥)
      × FirstAt (λ place. BeginsExpression scale (names_among words) (take (place + 1) words)
      → place ≡ length words) at
  HasCause (EmptyInterval at) = FirstAt (HasEmptyAt scale (names_among words) words) at
  HasCause (TooManyNames at) = FirstAt (λ place. HasPast (take (place + 1) words)) at
  HasCause (TooLarge nodes) = (tree : PatternTree) × SpellsAll tree
      × (NODES_MAX < node_count tree) × (nodes ≡ min (node_count tree) COUNT_MAX)
  HasCause Memory = ⊥

  -- The first refusal that has a cause, or where none has, what the words spell.
  abbrev pub ComesFirst : Outcome → Type 0
  ComesFirst (spelt tree names) = (names ≡ names_among words) × SpellsAll tree
      × ((fault : ParseFault) → HasCause fault → ⊥)
  ComesFirst (refused fault) = HasCause fault
      × ((other : ParseFault) → HasCause other → rank fault ≤ rank other)

-- The text has this outcome at the scale. It has exactly one, and want of memory aside it is what
-- `parse` answers.
abbrev pub IsOutcome : ℕ → List ℕ → Outcome → Type 0
IsOutcome scale text outcome = (read : Read scale text) × ComesFirst read outcome

pub record IsSpelling (scale : ℕ) (text : List ℕ) (tree : PatternTree) (names : Vocabulary)
    : Type 0 where
  pub read : Read scale text
  pub good : read.bad ≡ None
  pub spells : SpellsAll read tree
  pub numbered : names ≡ names_among (words read)
