-- What rows say, one after the other.
use Rattle.std.proofs.Common.{◌≡◌, ◌≢◌, ℕ, ◌+◌, Option, Some, None, List, [], ◌∷◌, ◌++◌, length, Err, append_assoc, refl, sym, ap, subst, ◌∙◌, arith}
use Rattle.std.proofs.lemmas.List.{append-nil, length_push, map-append}
use Rattle.csv.specs.declared.reader.Reader.{Reader}
use Rattle.tre_num.specs.declared.column.Layout.{Layout}
use Rattle.tre_num.specs.Left.{IsLeft, TakesRecord}
use Rattle.tre_num.specs.Rows.{row_says, says_on, rows_from}
use Rattle.tre_num.specs.Told.{TableTerms, rows_under}
use Rattle.tre_parts.specs.Format.{behind, nothing}
use Rattle.tre_trace.specs.Reading.{Adds, IsRefused, Recording, Stretch, segment_for, segments_for}
use Rattle.tre_trace.specs.declared.fault.TraceFault.{TraceFault}
use Rattle.tre_trace.specs.declared.fault.TraceKind.{TraceKind}
use Rattle.tre_trace.specs.declared.fault.TraceKind.TheVariants.{Memory, Spent}
use Rattle.tre_trace.specs.declared.segment.Segment.{Segment}
use Rattle.tre_trace.proofs.Readings.{IsRefused-told}
use Rattle.tre_num.proofs.Telling.{Says}

-- Of all rows, those that a reader has left stand behind the segments that were read. They were put
-- behind other segments.
pub record HasRead {R : Type 0} (known : R → Option (List ℕ)) (by : TableTerms)
    (header : List (List ℕ)) (layout : Layout) (all : List (List (List ℕ))) (rows : Reader R)
    (before segments : List Segment) (end : ℕ) : Type 0 where
  pub read : List Stretch
  pub put : segments ≡ before ++ segments_for by.names read
  pub rest : List (List (List ℕ))
  pub left : IsLeft known rows rest
  pub is : rows_under by header layout all
      ≡ behind read (rows_from by.terms header layout.all.items (length read + 2) rest end)

module _ {R : Type 0} (known : R → Option (List ℕ)) (by : TableTerms) (header : List (List ℕ))
    (layout : Layout) (all : List (List (List ℕ))) (before : List Segment) where
  abbrev whole : Recording
  whole = rows_under by header layout all

  -- nothing was read
  pub read-none : (rows : Reader R) → IsLeft known rows all
      → HasRead known by header layout all rows before before 0
  read-none rows left = record {
    read = [];
    put = sym (append-nil before);
    rest = all;
    left = left;
    is = refl;
  }

  -- one more row with a segment
  pub read-one : (segments : List Segment) (end : ℕ) (old new : Reader R)
      (fields : List (List ℕ)) (segment : Segment)
      → (so_far : HasRead known by header layout all old before segments end)
      → TakesRecord known fields new so_far.rest
      → Says by.names (row_says by.terms header layout.all.items end fields) segment
      → HasRead known by header layout all new before (segments ++ segment ∷ [])
      (end + segment.len)
  read-one segments end old new fields segment so_far takes said =
      let read = so_far.read in
      let stretch = said.stretch in
      let asked = by.names in
      let more = rows_from by.terms header layout.all.items (length read + 2 + 1) takes.others in
      let number : length read + 2 + 1 ≡ length (read ++ stretch ∷ []) + 2 =
      omega (arith, length_push read stretch) in
      let after = more (end + stretch.len) in
      subst (λ (segment : Segment). HasRead known by header layout all new before
      (segments ++ segment ∷ []) (end + segment.len)) said.is (record {
        read = read ++ stretch ∷ [];
        put = ap (λ front. front ++ segment_for asked stretch ∷ []) so_far.put
            ∙ append_assoc before (segments_for asked read) (segment_for asked stretch ∷ [])
            ∙ ap (λ rest. before ++ rest)
            (sym (map-append (segment_for asked) read (stretch ∷ [])));
        rest = takes.others;
        left = takes.rest;
        is = so_far.is
            ∙ ap (λ rows. behind read (rows_from by.terms header layout.all.items (length read + 2) rows end))
            takes.first
            ∙ ap (λ r. behind read (says_on (length read + 2) end r more)) said.says
            ∙ ap (λ (all : List Stretch). record {
              stretches = all;
              last = after.last;
              fault = after.fault;
            })
            (sym (append_assoc read (stretch ∷ []) after.stretches))
            ∙ ap (λ n. behind (read ++ stretch ∷ [])
            (rows_from by.terms header layout.all.items n takes.others (end + stretch.len))) number;
      })

  -- the first row with a fault
  pub read-fault : (segments : List Segment) (end : ℕ)
      (old new : Reader R) (fields : List (List ℕ)) (kind : TraceKind) (count : ℕ)
      → (so_far : HasRead known by header layout all old before segments end)
      → TakesRecord known fields new so_far.rest
      → row_says by.terms header layout.all.items end fields ≡ Err kind → kind ≢ Spent
      → count ≡ length so_far.read
      → IsRefused by.names before segments nothing whole
      (record { place = count + 2; kind = kind })
  read-fault segments end old new fields kind count so_far takes says never_spent counts =
      let read = so_far.read in
      let more = rows_from by.terms header layout.all.items (length read + 2 + 1) takes.others in
      let is = so_far.is
      ∙ ap (λ rows. behind read (rows_from by.terms header layout.all.items (length read + 2) rows end))
      takes.first
      ∙ ap (λ r. behind read (says_on (length read + 2) end r more)) says in
      IsRefused-told by.names before segments nothing whole
      (record { place = count + 2; kind = kind })
      (record {
        added = read;
        new_is = so_far.put;
        beyond = ap (λ (r : Recording). r.stretches) is ∙ append-nil read;
      })
      (ap (λ (r : Recording). r.fault) is
      ∙ ap (λ n. Some (record { place = n + 2; kind = kind })) (sym counts))
      never_spent

  -- no memory was found for the rows that are left
  pub read-stopped : (segments : List Segment) (end : ℕ)
      (rows : Reader R) (fault : TraceFault)
      → HasRead known by header layout all rows before segments end → fault.kind ≡ Memory
      → IsRefused by.names before segments nothing whole fault
  read-stopped segments end rows fault so_far memory = record {
    adds_some = record {
      added = so_far.read;
      left = (rows_from by.terms header layout.all.items (length so_far.read + 2) so_far.rest end).stretches;
      new_is = so_far.put;
      beyond = ap (λ (r : Recording). r.stretches) so_far.is;
    };
    never_spent = λ spent. let e : Memory ≡ Spent = sym memory ∙ spent in cc;
    told = λ other. absurd (other memory);
    adds = λ other. absurd (other memory);
  }

  -- what all rows say, where none is left
  all-is : (segments : List Segment) (end : ℕ) (rows : Reader R)
      → (so_far : HasRead known by header layout all rows before segments end)
      → so_far.rest ≡ [] → whole ≡ behind so_far.read nothing
  all-is segments end rows so_far none = so_far.is
      ∙ ap (λ rows. behind so_far.read
      (rows_from by.terms header layout.all.items (length so_far.read + 2) rows end)) none

  pub read-all : (segments : List Segment) (end : ℕ) (rows : Reader R)
      → (so_far : HasRead known by header layout all rows before segments end)
      → so_far.rest ≡ [] → Adds by.names before segments nothing whole
  read-all segments end rows so_far none = record {
    added = so_far.read;
    new_is = so_far.put;
    beyond = ap (λ (r : Recording). r.stretches) (all-is segments end rows so_far none)
        ∙ append-nil so_far.read;
  }

  pub read-faultless : (segments : List Segment) (end : ℕ) (rows : Reader R)
      → (so_far : HasRead known by header layout all rows before segments end)
      → so_far.rest ≡ [] → whole.fault ≡ None
  read-faultless segments end rows so_far none =
      ap (λ (r : Recording). r.fault) (all-is segments end rows so_far none)
