-- What the reader keeps of what is open.
use Rattle.std.specs.Prelude.{◌≡◌, ℕ, Bool, true, false, List, [], ◌∷◌, ◌==◌, codes, length, map, take, Result, Err, if◌then◌else◌}
use Rattle.std.specs.Str.{bytes_eq}
use Rattle.tre_parts.specs.Format.{Step}
use Rattle.tre_trace.specs.Reading.{Vocabulary}
use Rattle.tre_trace.specs.declared.fault.TraceKind.{TraceKind}
use Rattle.tre_trace.specs.declared.fault.TraceKind.TheVariants.{BadToken}
use Rattle.tre_vcd.specs.VcdReading.{Terms, Statement, dump, dump_end, Open, nothing, section, comment, vector, number, Place, is_defined, in_dump, goes_to}
use Rattle.tre_vcd.specs.Kept.{KnowsOfPast, KnowsNeeded, AreNoLonger, ends_true, plain_of, vocabulary_of}
use Rattle.tre_vcd.specs.Offers.{KnowsOffers}
use Rattle.tre_vcd.specs.Defined.{KnowsSignals}
use Rattle.tre_vcd.specs.declared.command.Command.{Command}
use Rattle.tre_vcd.specs.declared.command.Command.TheVariants.{Scope, Upscope, Var, Timescale, EndDefinitions, Other}
use Rattle.tre_vcd.specs.declared.inside.Inside.{Inside}
use Rattle.tre_vcd.specs.declared.inside.Inside.TheVariants.{Nothing, Section, Comment, Vector, Number}
use Rattle.tre_vcd.specs.declared.declaring.TheConstants.{KEPT_MAX}
use Rattle.tre_vcd.specs.declared.token_reader.TokenReader.{TokenReader}

abbrev pub command_of : List ℕ → Command
command_of token =
    if bytes_eq token (codes "$scope") then Scope
    else (if bytes_eq token (codes "$upscope") then Upscope
    else (if bytes_eq token (codes "$var") then Var
    else (if bytes_eq token (codes "$timescale") then Timescale
    else (if bytes_eq token (codes "$enddefinitions") then EndDefinitions else Other))))

-- a dump section opens or closes
abbrev pub dump_says : List Statement → Result (Step Place) TraceKind
dump_says past = if in_dump past then Err BadToken else goes_to (dump ∷ past) nothing

abbrev pub dump_end_says : List Statement → Result (Step Place) TraceKind
dump_end_says past = if in_dump past then goes_to (dump_end ∷ past) nothing else Err BadToken

abbrev pub inside_of : Open → Inside
inside_of nothing = Nothing
inside_of (section command tokens) = Section (command_of command)
inside_of comment = Comment
inside_of (vector letters) = Vector (ends_true letters)
inside_of number = Number

abbrev pub is_nothing : Inside → Bool
is_nothing Nothing = true
is_nothing (Section command) = false
is_nothing Comment = false
is_nothing (Vector value) = false
is_nothing Number = false

-- the tokens of the open section
abbrev pub tokens_of_open : Open → List (List ℕ)
tokens_of_open (section command tokens) = tokens
tokens_of_open _ = []

-- Sections are open before the declarations end, and all else behind them.
abbrev pub Suits : Open → Bool → Type 0
Suits nothing defined = Unit {0}
Suits (section command tokens) defined = defined ≡ false
Suits comment defined = defined ≡ true
Suits (vector letters) defined = defined ≡ true
Suits number defined = defined ≡ true

-- what is asked of the reader
abbrev pub asked_of_reader : TokenReader → Vocabulary
asked_of_reader reader = record { names = reader.names; events = reader.events }

abbrev pub terms_kept : TokenReader → Terms
terms_kept reader = record {
  declared = vocabulary_of reader.needed ∷ [];
  scale = reader.scale.exponent;
  unit = reader.scale.unit;
  definitions = reader.signals.definitions.items;
}

-- Where there are definitions, the letters of a vector are kept.
abbrev pub KeepsLetters : TokenReader → Open → Type 0
KeepsLetters reader (vector letters) =
    ((length reader.signals.definitions.items == 0) ≡ false) → reader.letters.items ≡ letters
KeepsLetters reader _ = Unit {0}

-- The reader knows the past: for its names, for those that must be declared, and by definitions.
pub record KnowsPast (reader : TokenReader) (read : List Statement) : Type 0 where
  pub past : KnowsOfPast reader.names reader.events reader.past read
  pub needed : KnowsNeeded read reader.needed
  pub signals : KnowsSignals reader.names reader.events reader.signals read
  pub offers : KnowsOffers reader.signals.definitions.items read reader.needed
  pub within : AreNoLonger reader.longest (asked_of_reader reader)
  pub needed_within : AreNoLonger reader.longest (plain_of reader.needed)

-- The reader is at this place: it knows the past, and of what is open it keeps what counts. Of a
-- section the first `KEPT_MAX` tokens do.
pub record Holds (reader : TokenReader) (place : Place) : Type 0 where
  pub knows : KnowsPast reader place.past
  pub inside : reader.inside ≡ inside_of place.inside
  pub tokens : map (λ token. token.items) reader.tokens.items
      ≡ take KEPT_MAX (tokens_of_open place.inside)
  pub suits : Suits place.inside (is_defined place.past)
  pub letters : KeepsLetters reader place.inside
