-- The names that a dump must declare.
use Rattle.std.specs.Prelude.{List, map}
use Rattle.tre_define.specs.Signals.{SignalDefined}
use Rattle.tre_trace.specs.Reading.{Vocabulary}
use Rattle.tre_vcd.specs.Sorted.{wanted}
use Rattle.tre_vcd.specs.declared.needed.Needed.{Needed}

abbrev pub needs : Needed → Vocabulary
needs needed = record {
  names = wanted (map (λ name. name.items) needed.names.keys) needed.tests.items;
  events = wanted (map (λ name. name.items) needed.events.keys) needed.changes.items;
}

abbrev pub definitions_of : Needed → List SignalDefined
definitions_of needed = needed.definitions.items
