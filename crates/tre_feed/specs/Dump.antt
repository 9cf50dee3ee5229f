-- How a dump is read.
use Rattle.std.specs.Prelude.{◌≡◌, ℕ, List, Option}
use Rattle.std.specs.List.{list_all}
use Rattle.tre_define.specs.Signals.{SignalDefined}
use Rattle.tre_trace.specs.Reading.{Vocabulary}
use Rattle.tre_unit.specs.declared.unit.TimeUnit.{TimeUnit}
use Rattle.tre_vcd.specs.VcdReading.{Statement, Terms, are_declared}

-- how a dump is read that must declare what these names read by the definitions
abbrev pub dump_terms : List Vocabulary → ℕ → Option TimeUnit → List SignalDefined → Terms
dump_terms declared scale unit definitions =
    record { declared = declared; scale = scale; unit = unit; definitions = definitions }

-- By any definitions, what the names of the set read is declared exactly where what those of all
-- these lists read is.
pub record NeedsAll (set : Vocabulary) (all : List Vocabulary) : Type 0 where
  pub declared : (definitions : List SignalDefined) (past : List Statement) →
      are_declared definitions past set ≡ list_all (are_declared definitions past) all
