-- What is known of the names that must be declared.
use Rattle.std.proofs.Common.{◌≡◌, ◌≤◌, ℕ, Bool, List, [], ◌∷◌, length, Option, ap₂, rules}
use Rattle.std.specs.Global.{Vec}
use Rattle.std.specs.Prelude.{All}
use Rattle.tre_trace.specs.Reading.{Vocabulary}
use Rattle.tre_vcd.specs.VcdReading.{Statement, Terms, var, scopes_at, is_signal, is_event}
use Rattle.tre_vcd.specs.Kept.{identifier_of, KnowsNeeded, AreNoLonger, DeclaresNoneWithin, plain_of}
use Rattle.tre_define.specs.Signals.{SignalDefined}
use Rattle.tre_unit.specs.declared.unit.TimeUnit.{TimeUnit}
use Rattle.tre_vcd.specs.Offers.{KnowsOffers}
use Rattle.tre_vcd.specs.declared.found.Found.{Found}
use Rattle.tre_vcd.proofs.Flagging.{flags-same, flags-within}

-- where a look back finds the same declarations
pub needed-same : (past now : List Statement) (found : Found)
    → ((test : List ℕ → List ℕ → Bool) (name : List ℕ)
    → identifier_of test now name ≡ identifier_of test past name)
    → KnowsNeeded past found → KnowsNeeded now found
needed-same past now found same knows = record {
  names = flags-same is_signal past now (plain_of found).names found.names.items (same is_signal)
      knows.names;
  events = flags-same is_event past now (plain_of found).events found.events.items (same is_event)
      knows.events;
}

-- behind a declaration of neither a proposition nor an event, but of one that is longer
pub needed-within : (past : List Statement) (longest : ℕ) (tokens : List (List ℕ)) (found : Found)
    → DeclaresNoneWithin longest is_signal (scopes_at past) tokens
    → DeclaresNoneWithin longest is_event (scopes_at past) tokens
    → AreNoLonger longest (plain_of found) → KnowsNeeded past found
    → KnowsNeeded (var tokens ∷ past) found
needed-within past longest tokens found signals said within knows = record {
  names = flags-within is_signal past longest tokens (plain_of found).names found.names.items signals
      within.names knows.names;
  events = flags-within is_event past longest tokens (plain_of found).events found.events.items said
      within.events knows.events;
}

-- whichever names are found
pub offers-found : (all : List SignalDefined) (past : List Statement) (found : Found)
    (names events : Vec Bool) → KnowsOffers all past found
    → KnowsOffers all past (record found { names = names; events = events })
offers-found all past found names events knows = search rules

-- what is asked of the reader, by what changes of it
abbrev pub terms_of : ℕ → Option TimeUnit → Vocabulary → List SignalDefined → Terms
terms_of scale unit declared definitions = record {
  declared = declared ∷ [];
  scale = scale;
  unit = unit;
  definitions = definitions;
}

pub same-terms : {now declared : Vocabulary} {own definitions : List SignalDefined} (scale : ℕ)
    (unit : Option TimeUnit) → now ≡ declared → own ≡ definitions
    → terms_of scale unit now own ≡ terms_of scale unit declared definitions
same-terms scale unit named defined = ap₂ (terms_of scale unit) named defined

-- ---- names that are longer

pub within-more : (a b : ℕ) (asked : Vocabulary) → a ≤ b → AreNoLonger a asked → AreNoLonger b asked
within-more a b asked more is = search rules

pub within-same : (longest now : ℕ) (asked own : Vocabulary) → now ≡ longest → own ≡ asked
    → AreNoLonger longest asked → AreNoLonger now own
within-same longest now asked own same names is = search rules

-- the longer of two is the longest of all
pub within-both : (names events : List (List ℕ)) (a b n : ℕ) → a ≤ n → b ≤ n
    → All (λ name. length name ≤ a) names → All (λ name. length name ≤ b) events
    → AreNoLonger n (record { names = names; events = events })
within-both names events a b n one two first second = search rules
