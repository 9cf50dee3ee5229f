-- How recordings grow, and what calls one after the other add.
use Rattle.std.proofs.Common.{◌≡◌, ◌≢◌, List, [], ◌++◌, append_assoc, append-nil, Some, refl, sym, ap, ◌∙◌, ◌⊎◌, inl, inr, rules}
use Rattle.std.proofs.lemmas.List.{map-append}
use Rattle.tre_trace.specs.Reading.{Vocabulary, Recording, segment_for, segments_for, Grows, Adds, IsRefused}
use Rattle.tre_trace.specs.declared.segment.Segment.{Segment}
use Rattle.tre_trace.specs.declared.fault.TraceFault.{TraceFault}
use Rattle.tre_trace.specs.declared.fault.TraceKind.{TraceKind}
use Rattle.tre_trace.specs.declared.fault.TraceKind.TheVariants.{LineTooLong, BadNumber, Zero, TooLate, BadName, BadToken, BadScale, UnknownName, TooFine, TimeBack, CutShort, Spent, Memory}

module _ (asked : Vocabulary) where
  -- no segment is added where none came
  pub Adds-none : (old : List Segment) (before now : Recording) → now.stretches ≡ before.stretches
      → Adds asked old old before now
  Adds-none old before now same = search rules

  pub Adds-trans : (a b c : List Segment) (r s t : Recording) → Adds asked a b r s
      → Adds asked b c s t → Adds asked a c r t
  Adds-trans a b c r s t first second = record {
    added = first.added ++ second.added;
    new_is = second.new_is
        ∙ ap (λ front. front ++ segments_for asked second.added) first.new_is
        ∙ append_assoc a (segments_for asked first.added) (segments_for asked second.added)
        ∙ ap (λ rest. a ++ rest) (sym (map-append (segment_for asked) first.added second.added));
    beyond = second.beyond ∙ ap (λ front. front ++ second.added) first.beyond ∙ append_assoc
        r.stretches first.added second.added;
  }

  -- a fault that was told behind all segments before it
  pub IsRefused-told : (old new : List Segment) (before now : Recording) (fault : TraceFault)
      → Adds asked old new before now → now.fault ≡ Some fault → fault.kind ≢ Spent
      → IsRefused asked old new before now fault
  IsRefused-told old new before now fault adds told never_spent = search rules

  -- no memory was found, and nothing added
  pub IsRefused-memory : (old : List Segment) (before now : Recording) (fault : TraceFault)
      → Grows before now → fault.kind ≡ Memory → IsRefused asked old old before now fault
  IsRefused-memory old before now fault grows memory = record {
    adds_some = record {
      added = [];
      left = grows.added;
      new_is = sym (append-nil old);
      beyond = grows.stretches;
    };
    never_spent = λ spent. let e : Memory ≡ Spent = sym memory ∙ spent in cc;
    told = λ other. absurd (other memory);
    adds = λ other. absurd (other memory);
  }

  -- a refusal behind a call that added
  pub IsRefused-after : (a b c : List Segment) (r s t : Recording) (fault : TraceFault)
      → Adds asked a b r s → IsRefused asked b c s t fault → IsRefused asked a c r t fault
  IsRefused-after a b c r s t fault first refused =
      let some = refused.adds_some in
      record {
        adds_some = record {
          added = first.added ++ some.added;
          left = some.left;
          new_is = some.new_is
              ∙ ap (λ front. front ++ segments_for asked some.added) first.new_is
              ∙ append_assoc a (segments_for asked first.added) (segments_for asked some.added)
              ∙ ap (λ rest. a ++ rest) (sym (map-append (segment_for asked) first.added
              some.added));
          beyond = some.beyond ∙ ap (λ front. front ++ (some.added ++ some.left)) first.beyond
              ∙ append_assoc r.stretches first.added (some.added ++ some.left)
              ∙ ap (λ rest. r.stretches ++ rest)
              (sym (append_assoc first.added some.added some.left));
        };
        never_spent = refused.never_spent;
        told = refused.told;
        adds = λ other. Adds-trans a b c r s t first (refused.adds other);
      }

  -- a refusal stays one when more bytes come
  pub IsRefused-grows : (old new : List Segment) (before now later : Recording)
      (fault : TraceFault) → IsRefused asked old new before now fault → Grows now later
      → IsRefused asked old new before later fault
  IsRefused-grows old new before now later fault refused grows =
      let some = refused.adds_some in
      record {
        adds_some = record {
          added = some.added;
          left = some.left ++ grows.added;
          new_is = some.new_is;
          beyond = grows.stretches ∙ ap (λ front. front ++ grows.added) some.beyond
              ∙ append_assoc before.stretches (some.added ++ some.left) grows.added
              ∙ ap (λ rest. before.stretches ++ rest)
              (append_assoc some.added some.left grows.added);
        };
        never_spent = refused.never_spent;
        told = λ other. ap (λ (r : Recording). r.fault) (grows.fault fault (refused.told other))
            ∙ refused.told other;
        adds = λ other. let adds = refused.adds other in record {
          added = adds.added;
          new_is = adds.new_is;
          beyond = ap (λ (r : Recording). r.stretches) (grows.fault fault (refused.told other))
              ∙ adds.beyond;
        };
      }

pub is_memory : (kind : TraceKind) → (kind ≡ Memory) ⊎ (kind ≢ Memory)
is_memory LineTooLong = inr (λ e. cc (e))
is_memory BadNumber = inr (λ e. cc (e))
is_memory Zero = inr (λ e. cc (e))
is_memory TooLate = inr (λ e. cc (e))
is_memory BadName = inr (λ e. cc (e))
is_memory BadToken = inr (λ e. cc (e))
is_memory BadScale = inr (λ e. cc (e))
is_memory UnknownName = inr (λ e. cc (e))
is_memory TooFine = inr (λ e. cc (e))
is_memory TimeBack = inr (λ e. cc (e))
is_memory CutShort = inr (λ e. cc (e))
is_memory Spent = inr (λ e. cc (e))
is_memory Memory = inl refl
