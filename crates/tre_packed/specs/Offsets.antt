-- Offsets, however many bytes each takes.
use Rattle.std.specs.Prelude.{ℕ, List}
use Rattle.tre_packed.specs.declared.offsets.Offsets.{Offsets}
use Rattle.tre_packed.specs.declared.offsets.Offsets.TheVariants.{Near, Far}

abbrev pub items_in : Offsets → List ℕ
items_in (Near offsets) = offsets.items
items_in (Far offsets) = offsets.items
