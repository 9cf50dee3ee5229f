-- The names of all who read a table.
use Rattle.std.specs.Prelude.{ℕ, List, [], ◌∷◌}
use Rattle.tre_trace.specs.Reading.{Vocabulary}
use Rattle.tre_num.specs.Defined.{Defined}
use Rattle.tre_num.specs.Rows.{ColumnTerms}
use Rattle.tre_num.specs.declared.needed.Needed.{Needed}

abbrev pub definitions_of : Needed → List Defined
definitions_of needed = needed.definitions.items

abbrev pub declared_of : Needed → List Vocabulary
declared_of needed = needed.declared.items

-- how a table is read by all of them
abbrev pub terms_of : Needed → ℕ → ColumnTerms
terms_of needed scale = record {
  definitions = definitions_of needed;
  declared = declared_of needed;
  scale = scale;
}

-- how it is read by one alone, for these names
abbrev pub terms_alone : List Defined → List (List ℕ) → List (List ℕ) → ℕ → ColumnTerms
terms_alone definitions names events scale = record {
  definitions = definitions;
  declared = record { names = names; events = events } ∷ [];
  scale = scale;
}
