-- A text of definitions by signals says one thing.
use Rattle.std.proofs.Common.{◌≡◌, ℕ, List, ◌∷◌, sym, ap, subst, ◌∙◌, rules}
use Rattle.std.specs.List.{AllZip}
use Rattle.tre_define.specs.declared.let_fault.LetFault.{LetFault}
use Rattle.tre_define.specs.Pieces.{past_spaces}
use Rattle.tre_define.specs.Signals.{AreRefused, DefineSignals, IsReadBehind, SignalDefined, Spells, name_of_signal}
use Rattle.tre_define.proofs.OneReading as texts
use Rattle.tre_define.proofs.ReadsOf.{same-reads}
use Rattle.tre_define.proofs.SignalParts.{AreParts, cut-at, parts-are}

same-fields : (one other : SignalDefined) → one.name ≡ other.name → one.signal ≡ other.signal
    → one.reads ≡ other.reads → one.other ≡ other.other → one ≡ other
same-fields one other name signal reads others = search rules

same-parts : (text : List ℕ) (one other : SignalDefined) → AreParts text one
    → AreParts text other → one ≡ other
same-parts text one other is also =
    let told : 61 ∷ is.after ≡ 61 ∷ also.after = sym is.equals ∙ also.equals in
    let after : is.after ≡ also.after = cc in
    let rest = past_spaces is.after in
    let cut = cut-at rest one.signal is.behind is.rest is.signal in
    let cut' = cut-at rest other.signal also.behind (ap past_spaces after ∙ also.rest) also.signal
    in
    let behind : is.behind ≡ also.behind = sym cut.back ∙ cut'.back in
    let reads = same-reads also.behind one.reads other.reads one.other other.other
    (subst (λ xs. IsReadBehind one.reads one.other xs) behind is.read) also.read in
    same-fields one other (sym is.name ∙ also.name) (sym cut.front ∙ cut'.front) reads.0 reads.1

same-definition : (part : List ℕ) (one other : SignalDefined) → Spells part one
    → Spells part other → one ≡ other
same-definition part one other is also = same-parts _ _ _ (parts-are _ _ is) (parts-are _ _ also)

pub same-definitions : (parts : List (List ℕ)) (one other : List SignalDefined)
    → AllZip Spells parts one → AllZip Spells parts other → one ≡ other
same-definitions = texts.same-definitions Spells name_of_signal same-definition

pub refused-or : (parts : List (List ℕ)) (definitions : List SignalDefined) (fault : LetFault)
    → DefineSignals parts definitions → AreRefused parts fault → ⊥
refused-or = texts.refused-or Spells name_of_signal same-definition

pub one-fault : (parts : List (List ℕ)) (one other : LetFault) → AreRefused parts one
    → AreRefused parts other → one ≡ other
one-fault = texts.one-fault Spells name_of_signal same-definition
