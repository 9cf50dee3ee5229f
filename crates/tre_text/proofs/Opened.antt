-- What a line says that was read word by word, when it ends.
use Rattle.std.proofs.Common.{◌≡◌, ◌≢◌, ℕ, ◌+◌, ◌≤◌, AllPairs, List, [], ◌∷◌, ◌++◌, Ok, inl, inr, refl, sym, ap, ◌∙◌, append-nil, arith}
use Rattle.tre_pairs.specs.declared.TheConstants.{TIME_MAX}
use Rattle.tre_parts.specs.Walk.{AddsPart}
use Rattle.tre_text.specs.Lines.{Knows}
use Rattle.tre_text.specs.Plain.{asked_of, FieldsAreEntered, IsOpened}
use Rattle.tre_text.specs.TextReading.{Past, entry_says, fields_say, one_stretch, past_at, stretch_with}
use Rattle.tre_text.specs.declared.known.Known.{Known}
use Rattle.tre_text.specs.declared.open_line.OpenLine.{OpenLine}
use Rattle.tre_text.proofs.Entries.{differs, within}
use Rattle.tre_text.proofs.Naming.{bits-none, bits-on, segment-with}
use Rattle.tre_trace.specs.Segments.{segment_with}
use Rattle.tre_trace.specs.declared.segment.Segment.{Segment}

module _ (names events : List (List ℕ)) (scale : ℕ) (past : Past) (line : OpenLine) (known : Known)
    (fields : List (List ℕ)) (knows : Knows events known past) where
  -- a line without fields says nothing
  pub blank-adds : line.len ≡ 0 → IsOpened names scale known.end fields line
      → (segments : List Segment)
      → AddsPart (asked_of names events) (fields_say scale past fields) (Knows events known)
      segments segments
  blank-adds none (inl blank) segments = record {
    stretches = [];
    goes_on = record { state = past; says = ap (fields_say scale past) blank.none; is_held = knows };
    added = sym (append-nil segments);
  }
  blank-adds none (inr entered) segments = absurd (entered.length.some none)

  entered-says : (entered : FieldsAreEntered names scale known.end fields line)
      → fields_say scale past fields ≡ Ok (one_stretch past line.len entered.others)
  entered-says entered =
      let len = entered.length in
      let fits : past.end + line.len ≤ TIME_MAX = omega (arith, len.fits, knows.end) in
      ap (fields_say scale past) entered.is
      ∙ rw (entered.no_comment, len.no_events)
      (ap (λ units. entry_says past units entered.others) len.is
      ∙ rw (differs line.len 0 len.some, within (past.end + line.len) TIME_MAX fits, entered.words)
      refl)

  -- a line with a duration says a stretch
  pub entered-adds : line.len ≢ 0 → IsOpened names scale known.end fields line
      → AllPairs (λ name other. name ≢ other) names → (now : Known)
      → now.end ≡ known.end + line.len → now.pending ≡ 0 → (segments : List Segment)
      → AddsPart (asked_of names events) (fields_say scale past fields) (Knows events now)
      segments (segments ++ segment_with line.len line.val known.pending ∷ [])
  entered-adds some (inl blank) distinct now end pending segments = absurd (some blank.len)
  entered-adds some (inr entered) distinct now end pending segments = record {
    stretches = stretch_with line.len entered.others past.said ∷ [];
    goes_on = record {
      state = past_at (past.end + line.len) [];
      says = entered-says entered;
      is_held = record {
        end = end ∙ ap (λ before. before + line.len) knows.end;
        pending = pending ∙ sym (bits-none events);
      };
    };
    added = ap (λ segment. segments ++ segment ∷ []) (segment-with line.len _ _ _ _
        (entered.val ∙ bits-on entered.others names distinct) knows.pending);
  }

  -- its end is within the limit
  pub entered-fits : line.len ≢ 0 → IsOpened names scale known.end fields line
      → known.end + line.len ≤ TIME_MAX
  entered-fits some (inl blank) = absurd (some blank.len)
  entered-fits some (inr entered) = entered.length.fits
