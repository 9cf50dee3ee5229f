-- What readers of parts are, by what their reader of one part promises.
use Rattle.std.proofs.Common.{ℕ, Bool, List}
use Rattle.tre_parts.specs.Format.{Format, recording_of}
use Rattle.tre_parts.specs.Parts.{IsFedWith}
use Rattle.tre_parts.specs.declared.parts.Parts.{Parts}
use Rattle.tre_trace.specs.Reading.{Recording, Vocabulary}

abbrev pub parts_terms : {R Terms : Type 0} → (R → Terms) → Parts R → Terms
parts_terms terms parts = terms parts.walk.reader

abbrev pub parts_names : {R : Type 0} → (R → Vocabulary) → Parts R → Vocabulary
parts_names names parts = names parts.walk.reader

abbrev pub parts_recording : {Terms State : Type 0} → (Terms → Format State) → Terms → Bool →
    List ℕ → Recording
parts_recording format terms closed bytes = recording_of (format terms) closed bytes

abbrev pub parts_represent : {R Terms State : Type 0} → (R → Terms) → (Terms → Format State) →
    (R → State → Type 0) → Parts R → List ℕ → Type 0
parts_represent terms format holds parts bytes = IsFedWith terms format holds parts.walk.reader
    parts.walk.part.items parts.walk.spot parts.fed parts.is_spent bytes
