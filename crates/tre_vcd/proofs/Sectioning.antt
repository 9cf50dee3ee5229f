-- What is known behind a declaration of none of the names that a reader keeps.
use Rattle.std.proofs.Common.{ℕ, List, ◌∷◌}
use Rattle.tre_vcd.specs.VcdReading.{Statement, var, section, scopes_at, is_signal, is_event}
use Rattle.tre_vcd.specs.Kept.{KnowsNeeded, KnowsOfPast, DeclaresNoneWithin}
use Rattle.tre_vcd.specs.Sections.{Holds, asked_of_reader}
use Rattle.tre_vcd.specs.declared.token_reader.TokenReader.{TokenReader}
use Rattle.tre_vcd.proofs.Needing.{needed-within}
use Rattle.tre_vcd.proofs.Pasts.{knows-within}

pub knows-neither : (reader : TokenReader) (past : List Statement) (word : List ℕ)
    (tokens : List (List ℕ)) → Holds reader (record { past = past; inside = section word tokens })
    → DeclaresNoneWithin reader.longest is_signal (scopes_at past) tokens
    → DeclaresNoneWithin reader.longest is_event (scopes_at past) tokens
    → KnowsOfPast reader.names reader.events reader.past (var tokens ∷ past)
    × KnowsNeeded (var tokens ∷ past) reader.needed
knows-neither reader past word tokens holds signals said = (
  knows-within reader.longest (asked_of_reader reader) reader.past past tokens holds.suits signals
      said holds.knows.within holds.knows.past,
  needed-within past reader.longest tokens reader.needed signals said holds.knows.needed_within
      holds.knows.needed,
)
