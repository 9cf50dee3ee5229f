-- The first interval that can't be kept, as it is found while tokens are read.
use Rattle.std.specs.Prelude.{◌≡◌, ℕ, ◌+◌, ◌<◌, ◌⊎◌, Option, Some, None, List, [], ◌∷◌, ◌++◌, length, codes}
use Rattle.std.specs.Option.{option_or}
use Rattle.tre_trace.specs.Reading.{Vocabulary}
use Rattle.tre_zone.specs.Interval.{IntervalEnds}
use Rattle.tre_parse.specs.declared.token.Token.{Token}
use Rattle.tre_parse.specs.declared.token.Token.TheVariants.{Percent}
use Rattle.tre_parse.specs.Words.{Words}
use Rattle.tre_parse.specs.Grammar.{SpellsInterval}
use Rattle.tre_parse.specs.Parts.{IsFineInterval}
use Rattle.tre_parse.specs.Outcome.{HasEmptyAt}
use Rattle.tre_parse.specs.Reader.{Reading, got, stop, of_interval, read}

module _ (scale : ℕ) (known : Vocabulary) (words : Words) where
  -- An interval with these ends stands at a place of the words, right after a `%`.
  pub record IsIntervalAt (place : ℕ) (ends : IntervalEnds) : Type 0 where
    pub front : Words
    pub body : Words
    pub rest : Words
    pub split : words ≡ front ++ codes "%" ∷ (body ++ rest)
    pub spelt : SpellsInterval scale known body ends
    pub here : place ≡ length front + 1

  -- No interval that stands before the place is empty.
  abbrev pub NoneEmptyBefore : ℕ → Type 0
  NoneEmptyBefore place = (n : ℕ) → n < place → HasEmptyAt scale known words n → ⊥

  abbrev pub NoneEmpty : Type 0
  NoneEmpty = (place : ℕ) → HasEmptyAt scale known words place → ⊥

-- The interval that the tokens begin with.
abbrev pub interval_of : Reading IntervalEnds → Option IntervalEnds
interval_of (got ends rest) = Some ends
interval_of (stop rest) = None

abbrev pub interval_from : List Token → Option IntervalEnds
interval_from tokens = interval_of (read of_interval tokens)

-- The tokens begin with an interval that can't be kept.
pub record BeginsUnkept (tokens : List Token) : Type 0 where
  pub ends : IntervalEnds
  pub reads : interval_from tokens ≡ Some ends
  pub unkept : IsFineInterval ends → ⊥

-- So many tokens are left at the first of them behind a `%`, None where there is none.
abbrev pub Finds : List Token → Option ℕ → Type 0
Finds [] found = found ≡ None
Finds (Percent ∷ rest) found =
    (BeginsUnkept rest × (found ≡ Some (length rest)))
    ⊎ ((BeginsUnkept rest → ⊥) × Finds rest found)
Finds (_ ∷ rest) found = Finds rest found

-- This is found up to some tokens, or else what is found in those.
abbrev pub FindsUpTo : List Token → List Token → Option ℕ → Type 0
FindsUpTo old new found = (later : Option ℕ) → Finds new later → Finds old (option_or found later)

abbrev pub unkept_at : Option IntervalEnds → ℕ → Option ℕ
unkept_at (Some interval) at = None
unkept_at None at = Some at
