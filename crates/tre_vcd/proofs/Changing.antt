-- What is known behind a change.
use Rattle.std.proofs.Common.{◌≡◌, ℕ, List, ◌∷◌, refl, sym, ap, subst}
use Rattle.tre_vcd.specs.VcdReading.{Form, Statement, change}
use Rattle.tre_vcd.specs.Kept.{KnowsOfPast}
use Rattle.tre_vcd.specs.Offers.{KnowsOffers}
use Rattle.tre_vcd.specs.Sections.{KnowsPast}
use Rattle.tre_vcd.specs.Defined.{KnowsSignals}
use Rattle.tre_vcd.specs.declared.past.Past.{Past}
use Rattle.tre_vcd.specs.declared.signals.Signals.{Signals}
use Rattle.tre_vcd.specs.declared.token_reader.TokenReader.{TokenReader}
use Rattle.tre_vcd.proofs.Needing.{needed-same}
use Rattle.tre_vcd.proofs.Standing.{reads-no_var}
use Rattle.tre_vcd.proofs.Staying.{offers-stay}

pub past-changed : (reader : TokenReader) (past : List Statement) (form : Form)
    (identifier letters : List ℕ) (kept : Past) (signals : Signals)
    → KnowsOfPast reader.names reader.events kept (change form identifier letters ∷ past)
    → KnowsSignals reader.names reader.events signals (change form identifier letters ∷ past)
    → signals.definitions ≡ reader.signals.definitions → KnowsPast reader past
    → KnowsPast (record reader { past = kept; signals = signals })
    (change form identifier letters ∷ past)
past-changed reader past form identifier letters kept signals known read same knows = record {
  past = known;
  needed = needed-same past (change form identifier letters ∷ past) reader.needed
      (λ test name. refl) knows.needed;
  signals = read;
  offers =
      subst (λ all. KnowsOffers all (change form identifier letters ∷ past) reader.needed)
      (ap (λ all. all.items) (sym same))
      (offers-stay reader.signals.definitions.items past (change form identifier letters ∷ past)
      reader.needed (reads-no_var (change form identifier letters) past tt) knows.offers);
  within = knows.within;
  needed_within = knows.needed_within;
}
