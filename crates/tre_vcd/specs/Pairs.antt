-- What the reader keeps of names that compare two signals.
use Rattle.std.specs.Prelude.{◌≡◌, ℕ, zero, suc, ◌≤◌, Bool, true, false, ◌||◌, List, [], ◌∷◌, length, map, Option, None, Some, if◌then◌else◌}
use Rattle.std.specs.List.{slice_get}
use Rattle.std.specs.Option.{is_some, option_and_then, option_map}
use Rattle.std.specs.Int.{bit_at}
use Rattle.tre_define.specs.Signals.{SignalDefined}
use Rattle.tre_define.specs.Values.{compares_known, number_of_part}
use Rattle.tre_define.specs.declared.comparison.Comparison.{Comparison}
use Rattle.tre_define.specs.declared.part.Part.{Part}
use Rattle.tre_define.specs.declared.reads.Reads.{Reads}
use Rattle.tre_define.specs.declared.reads.Reads.TheVariants.{Beside}
use Rattle.tre_state.specs.Sieve.{MayBe}
use Rattle.tre_vcd.specs.VcdReading.{Statement, is_defined, Asked, part_in, first_read, letters_at}
use Rattle.tre_vcd.specs.Signals.{AreDefined, asked_of_part, bit_of, has_at, letters_kept, reads_part}
use Rattle.tre_vcd.specs.declared.pairs.Paired.{Paired}
use Rattle.tre_vcd.specs.declared.pairs.Pairs.{Pairs}
use Rattle.tre_vcd.specs.declared.side.Side.{Side}

-- ---- one of two signals

-- how two signals are compared, if they are
abbrev pub comparison_of : Reads → Option Comparison
comparison_of (Beside comparison) = Some comparison
comparison_of _ = None

-- the text of a signal, where it is compared with another
abbrev pub text_of : Option Comparison → List ℕ → Option (List ℕ)
text_of comparison text = option_map (λ _. text) comparison

abbrev pub one_text : Option SignalDefined → Option (List ℕ)
one_text None = None
one_text (Some defined) = text_of (comparison_of defined.reads) defined.signal

abbrev pub other_text : Option SignalDefined → Option (List ℕ)
other_text None = None
other_text (Some defined) = text_of (comparison_of defined.reads) defined.other

-- what is read of a text, if there is one
abbrev pub side_read : List Statement → Option (List ℕ) → Option (Asked Part)
side_read past None = None
side_read past (Some text) = first_read (part_in text) past

abbrev pub side_asked : Side → Option (Asked Part)
side_asked side = option_map asked_of_part side.asked

abbrev pub letters_of : List Statement → Option (Asked Part) → Option (List ℕ)
letters_of past asked = option_and_then (λ own. letters_at past own.identifier) asked

-- The part that is read of the text is known, and its last letters.
pub record KnowsSide (past : List Statement) (text : Option (List ℕ)) (side : Side) : Type 0 where
  pub asked : side_asked side ≡ side_read past text
  pub letters : letters_kept side.latest ≡ letters_of past (side_asked side)

abbrev pub number_of : Option (Asked Part) → Option (List ℕ) → Option ℕ
number_of (Some asked) (Some letters) = number_of_part asked.asks letters
number_of _ _ = None

abbrev pub number_kept : Side → Option ℕ
number_kept side = number_of (side_asked side) (letters_kept side.latest)

-- ---- both

pub record KnowsPaired (past : List Statement) (paired : Paired) : Type 0 where
  pub one : KnowsSide past (one_text paired.definition) paired.one
  pub other : KnowsSide past (other_text paired.definition) paired.other

abbrev pub compared_by : Option SignalDefined → Option Comparison
compared_by definition = option_and_then (λ own. comparison_of own.reads) definition

abbrev pub only_compared : Option SignalDefined → Option SignalDefined
only_compared definition = if is_some (compared_by definition) then definition else None

abbrev pub compares_by : Option Comparison → Option ℕ → Option ℕ → Bool
compares_by None one other = false
compares_by (Some comparison) one other = compares_known comparison one other

abbrev pub holds : Paired → Bool
holds paired =
    compares_by (compared_by paired.definition) (number_kept paired.one) (number_kept paired.other)

-- whether values of this identifier are read
abbrev pub reads_pair : Paired → List ℕ → Bool
reads_pair paired identifier =
    reads_part (side_asked paired.one) identifier || reads_part (side_asked paired.other) identifier

abbrev pub reads_at : Option Paired → List ℕ → Bool
reads_at None identifier = false
reads_at (Some paired) identifier = reads_pair paired identifier

-- what is known of the name at a place, and its value
abbrev pub KnowsPairAt : List Statement → Option Paired → ℕ → Type 0
KnowsPairAt past None value = value ≡ 0
KnowsPairAt past (Some paired) value = KnowsPaired past paired × (value ≡ bit_of (holds paired))

-- The same is read in the same places, by the same definitions.
pub record SamePaired (old new : List Paired) : Type 0 where
  pub definitions : map (λ paired. paired.definition) new ≡ map (λ paired. paired.definition) old
  pub reads : (k : ℕ) (identifier : List ℕ)
      → reads_at (slice_get new k) identifier ≡ reads_at (slice_get old k) identifier

-- What is kept of the comparisons that these names are. The sieve was told of their identifiers.
pub record KnowsPairs (all : List SignalDefined) (names : List (List ℕ)) (sieve : List ℕ)
    (kept : Pairs) (past : List Statement) : Type 0 where
  pub few : length kept.list.items ≤ 64
  pub definitions : AreDefined all names (map (λ paired. paired.definition) kept.list.items)
  pub each : (k : ℕ) → KnowsPairAt past (slice_get kept.list.items k) (bit_at kept.values k)
  pub sifted : is_defined past ≡ true → (k : ℕ) (identifier : List ℕ)
      → reads_at (slice_get kept.list.items k) identifier ≡ true → MayBe sieve identifier k
  pub compared : (k : ℕ) → bit_at kept.compared k
      ≡ bit_of (has_at (map (λ paired. only_compared paired.definition) kept.list.items) k)
