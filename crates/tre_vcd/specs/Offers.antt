-- What is kept of the names that must be declared and are defined.
use Rattle.std.specs.Prelude.{◌≡◌, ℕ, Bool, not, ◌&&◌, ◌||◌, List, map, Some, if◌then◌else◌}
use Rattle.std.specs.Option.{is_some}
use Rattle.tre_define.specs.Signals.{SignalDefined, part_of_text, test_in}
use Rattle.tre_vcd.specs.VcdReading.{Statement, first_read, of_changes, part_in}
use Rattle.tre_vcd.specs.Needs.{definitions_of}
use Rattle.tre_vcd.specs.Pairs.{comparison_of}
use Rattle.tre_vcd.specs.Signals.{test_read, part_read}
use Rattle.tre_vcd.specs.Sorted.{AreSorted}
use Rattle.tre_vcd.specs.declared.found.Found.{Found}

abbrev pub is_compared : SignalDefined → Bool
is_compared one = is_some (comparison_of one.reads)

-- what is offered is the signal that a definition reads, or the first of two that it compares
abbrev pub reads_first : SignalDefined → List ℕ → ℕ → Bool
reads_first one full_name size =
    if is_compared one then is_some (part_of_text one.signal full_name size)
    else is_some (test_in one full_name size)

-- or the second
abbrev pub reads_other : SignalDefined → List ℕ → ℕ → Bool
reads_other one full_name size =
    is_compared one && is_some (part_of_text one.other full_name size)

-- the signal is declared that a definition reads, or the first of two
abbrev pub has_first : List Statement → SignalDefined → Bool
has_first past one =
    if is_compared one then is_some (first_read (part_in one.signal) past)
    else is_some (test_read past (Some one))

-- and the second, where there are two
abbrev pub has_other : List Statement → SignalDefined → Bool
has_other past one =
    not (is_compared one) || (is_compared one && is_some (first_read (part_in one.other) past))

-- It is kept which of them something is declared for. The definitions are these.
pub record KnowsOffers (definitions : List SignalDefined) (past : List Statement) (found : Found) :
    Type 0 where
  pub same : definitions_of found.needed.value ≡ definitions
  pub tests : found.tests.items ≡ map (has_first past) found.needed.value.tests.items
  pub others : found.others.items ≡ map (has_other past) found.needed.value.tests.items
  pub changes : found.changes.items
      ≡ map (λ one. is_some (part_read past (Some one))) found.needed.value.changes.items
  pub names : AreSorted definitions (map (λ name. name.items) found.needed.value.names.keys)
      found.needed.value.tests.items
  pub events : AreSorted (of_changes definitions)
      (map (λ name. name.items) found.needed.value.events.keys) found.needed.value.changes.items
