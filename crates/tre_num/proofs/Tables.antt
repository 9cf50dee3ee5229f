-- What a table says, by its header.
use Rattle.std.proofs.Common.{◌≡◌, ◌≢◌, ℕ, ◌+◌, Option, None, Some, List, [], ◌∷◌, ◌++◌, Bool, true, false, Result, Ok, Err, refl, sym, ap, ◌∙◌, inl, inr, ◌⊎◌}
use Rattle.csv.specs.declared.reader.Reader.{Reader}
use Rattle.tre_num.specs.Left.{IsNextRecord}
use Rattle.tre_num.specs.declared.column.Column.{Column}
use Rattle.tre_num.specs.Records.{records_of}
use Rattle.tre_num.specs.Rows.{ColumnTerms, compared, row_says, rows_from, rows_recording, says_on, table_says, under_header}
use Rattle.tre_parts.specs.Format.{faulty, nothing}
use Rattle.tre_trace.specs.Reading.{Adds, IsPlaced, IsRefused, Reading, Recording, Stretch, Vocabulary, events_for, segments_for}
use Rattle.tre_trace.specs.declared.fault.TraceFault.{TraceFault}
use Rattle.tre_trace.specs.declared.fault.TraceKind.{TraceKind}
use Rattle.tre_trace.specs.declared.fault.TraceKind.TheVariants.{Memory, Spent, UnknownName}
use Rattle.tre_trace.specs.declared.segment.Segment.{Segment}
use Rattle.tre_trace.proofs.Readings.{Adds-none, IsRefused-memory, IsRefused-told, is_memory}
use Rattle.tre_num.proofs.Telling.{no-bits}

-- ---- faults

pub unknown_placed : IsPlaced (record { place = 1; kind = UnknownName })
unknown_placed = record { memory = λ (e : UnknownName ≡ Memory). cc }

pub unknown_unspent : UnknownName ≢ Spent
unknown_unspent = λ (e : UnknownName ≡ Spent). cc

pub memory_placed : (fault : TraceFault) → fault ≡ record { place = 0; kind = Memory }
    → IsPlaced fault
memory_placed fault is = record { memory = λ _. ap (λ (f : TraceFault). f.place) is }

pub memory_unspent : (fault : TraceFault) → fault ≡ record { place = 0; kind = Memory }
    → fault.kind ≢ Spent
memory_unspent fault is = λ spent.
    let e : Memory ≡ Spent = sym (ap (λ (f : TraceFault). f.kind) is) ∙ spent in cc

-- ---- what stands under a header

module _ (terms : ColumnTerms) (asked : Vocabulary) (all : List (List (List ℕ))) where
  -- What the rows say under this header.
  pub record Heads (header : List (List ℕ)) : Type 0 where
    pub rest : List (List (List ℕ))
    pub is : table_says terms all ≡ under_header terms header (compared terms header) rest

  -- the first record is the header; without one there is a header of no fields
  pub heads : {R : Type 0} (known : R → Option (List ℕ)) (found : Bool) (header : List (List ℕ))
      (rows : Reader R) → IsNextRecord known found header rows all → (found ≡ false → header ≡ [])
      → Heads header
  heads known true header rows next none =
      record { rest = next.others; is = ap (table_says terms) next.first }
  heads known false header rows next none = record {
    rest = [];
    is = ap (table_says terms) next
        ∙ ap (λ fields. under_header terms fields (compared terms fields) []) (sym (none refl));
  }

  -- without a record there is nothing
  pub no_rows : (header : List (List ℕ)) (columns : List Column) → all ≡ [] → header ≡ []
      → compared terms header ≡ Some columns → table_says terms all ≡ nothing
  no_rows header columns none empty is =
      ap (table_says terms) none
      ∙ ap (λ found. under_header terms [] found []) (ap (compared terms) (sym empty) ∙ is)

  -- behind the header stand the rows
  pub under : (header : List (List ℕ)) (rows : List (List (List ℕ))) (columns : List Column)
      → all ≡ header ∷ rows → compared terms header ≡ Some columns
      → table_says terms all ≡ rows_from terms header columns 2 rows 0
  under header rows columns first is =
      ap (table_says terms) first ∙ ap (λ found. under_header terms header found rows) is

  module _ (before : List Segment) (fault : TraceFault) where
    abbrev now : Recording
    now = table_says terms all

    -- no memory was found
    pub stopped : fault.kind ≡ Memory → IsRefused asked before before nothing now fault
    stopped memory =
        IsRefused-memory asked before nothing now fault
        (record { added = now.stretches; stretches = refl; fault = λ f is. cc }) memory

    -- a name has no column under the header
    pub refused : (header : List (List ℕ)) → Heads header
        → (fault.kind ≢ Memory → (compared terms header ≡ None)
        × (fault ≡ record { place = 1; kind = UnknownName }))
        → fault.kind ≢ Spent → IsRefused asked before before nothing now fault
    refused header heads told never_spent = by (is_memory fault.kind) where
      by : (fault.kind ≡ Memory) ⊎ (fault.kind ≢ Memory)
          → IsRefused asked before before nothing now fault
      by (inl memory) = stopped memory
      by (inr other) =
          let did = told other in
          let is : now ≡ faulty 1 UnknownName = heads.is
          ∙ ap (λ columns. under_header terms header columns heads.rest) did.0 in
          IsRefused-told asked before before nothing now fault
          (Adds-none asked before nothing now (ap (λ (r : Recording). r.stretches) is))
          (ap (λ (r : Recording). r.fault) is ∙ ap Some (sym did.1)) never_spent

-- ---- no event happens at the end

says-quiet : (number end : ℕ) (said : Result Stretch TraceKind) (more : ℕ → Recording)
    → ((now : ℕ) → (more now).last ≡ (λ name. false))
    → (says_on number end said more).last ≡ (λ name. false)
says-quiet number end (Err kind) more later = refl
says-quiet number end (Ok stretch) more later = later (end + stretch.len)

rows-quiet : (terms : ColumnTerms) (header : List (List ℕ)) (columns : List Column) (number : ℕ)
    (rows : List (List (List ℕ))) (end : ℕ)
    → (rows_from terms header columns number rows end).last ≡ (λ name. false)
rows-quiet terms header columns number [] end = refl
rows-quiet terms header columns number (row ∷ rows) end =
    says-quiet number end (row_says terms header columns end row)
    (rows_from terms header columns (number + 1) rows)
    (rows-quiet terms header columns (number + 1) rows)

under-quiet : (terms : ColumnTerms) (header : List (List ℕ)) (columns : Option (List Column))
    (rows : List (List (List ℕ))) → (under_header terms header columns rows).last ≡ (λ name. false)
under-quiet terms header None rows = refl
under-quiet terms header (Some columns) rows = rows-quiet terms header columns 2 rows 0

table-quiet : (terms : ColumnTerms) (rows : List (List (List ℕ)))
    → (table_says terms rows).last ≡ (λ name. false)
table-quiet terms [] = under-quiet terms [] (compared terms []) []
table-quiet terms (header ∷ rows) = under-quiet terms header (compared terms header) rows

-- so none of these events does
pub ends-quiet : (terms : ColumnTerms) (asked : Vocabulary) (bytes : List ℕ)
    → events_for asked (rows_recording terms true bytes).last ≡ 0
ends-quiet terms asked bytes =
    ap (events_for asked) (table-quiet terms (records_of bytes))
    ∙ no-bits asked.events

-- ---- a list that had no segments

pub all-added : (asked : Vocabulary) (old new : List Segment) (read : Recording) → old ≡ []
    → Adds asked old new nothing read → new ≡ segments_for asked read.stretches
all-added asked old new read none adds =
    adds.new_is ∙ ap (λ front. front ++ segments_for asked adds.added) none
    ∙ ap (segments_for asked) (sym adds.beyond)

pub whole-is : (segments : List Segment) (now : Reading) → segments ≡ now.segments
    → now.last ≡ 0 → now.fault ≡ None
    → now ≡ record { segments = segments; last = 0; fault = None }
whole-is segments now all quiet whole =
    ap (λ last. record { segments = now.segments; last = last; fault = now.fault }) quiet
    ∙ ap (λ fault. record { segments = now.segments; last = 0; fault = fault }) whole
    ∙ ap (λ (s : List Segment). record { segments = s; last = 0; fault = None }) (sym all)
