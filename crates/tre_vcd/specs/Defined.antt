-- All that the reader keeps of what names read by their definitions.
use Rattle.std.specs.Prelude.{ℕ, List}
use Rattle.tre_vcd.specs.VcdReading.{Statement, of_changes}
use Rattle.tre_vcd.specs.Pairs.{KnowsPairs}
use Rattle.tre_vcd.specs.Signals.{KnowsChanges, KnowsTests}
use Rattle.tre_vcd.specs.declared.signals.Signals.{Signals}

pub record KnowsSignals (names events : List (List ℕ)) (kept : Signals)
    (past : List Statement) : Type 0 where
  pub tests : KnowsTests kept.definitions.items names kept.tests past
  pub pairs : KnowsPairs kept.definitions.items names kept.tests.sieve kept.pairs past
  pub changes : KnowsChanges (of_changes kept.definitions.items) events kept.changes past
