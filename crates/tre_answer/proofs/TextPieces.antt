-- A text that is written by pieces, one behind the other.
use Rattle.std.proofs.Common.{◌≡◌, ◌∙◌, ℕ, ◌+◌, ◌≤◌, List, [], ◌++◌, length, take, drop, codes, Option, None, Some, Result, Ok, Err, OnOk, OnErr, IfErr, refl, sym, ap, subst, arith, append_assoc, append-nil, length-append}
use Rattle.std.specs.Io.KnownBytes.{Appends}
use Rattle.std.specs.List.{slice_range}
use Rattle.std.proofs.KnownBytes.{Appends-trans}
use Rattle.std.proofs.Math.Seq.{take-append-add}
use Rattle.std.proofs.lemmas.Grind.{flat_map-append}
use Rattle.std.proofs.lemmas.List.{take-append-drop, take-append-le}
use Rattle.tre_decimal.specs.Decimal.{number_text}
use Rattle.tre_feed.specs.declared.fault.Fault.{Fault}
use Rattle.tre_feed.specs.declared.fault.Fault.TheVariants.{Trace, TooLong, TooManyZones, Read, Write, Memory}
use Rattle.tre_io.specs.Faults.{count_after}
use Rattle.tre_io.specs.Told.{SinkTold}
use Rattle.tre_io.specs.Written.{AppendsPart}
use Rattle.tre_show.specs.Line.{line_of, lines_of, offline_text}
use Rattle.tre_tell.specs.Outputs.{OutputTold, AllWritesGood, output_told}
use Rattle.tre_zone.specs.declared.zone_bounds.ZoneBounds.{ZoneBounds}
use Rattle.tre_zoneset.proofs.Stretches.{take_to}
use Rattle.tre_answer.specs.Printing.{EndsPutting}
use Rattle.tre_tell.specs.Streams.{WroteText}

-- a text that was written by one call
pub EndsPutting-given : (output : OutputTold) (text given : List ℕ) → given ≡ text
    → (result : Result (Unit {0}) Fault)
    → OnOk result (Appends output.before.written output.now.written given)
    → OnOk result (AllWritesGood output)
    → OnErr result (AppendsPart output.before.written output.now.written given)
    → OnErr result (output.now.faults ≡ count_after output.before.faults)
    → IfErr result (λ fault. fault ≡ Write) → EndsPutting text output result
EndsPutting-given output text given same (Ok value) all good part cause is = record {
  writes = good;
  written = subst (Appends output.before.written output.now.written) same all;
}
EndsPutting-given output text given same (Err fault) all good part cause is =
    subst (λ f. EndsPutting {T = Unit {0}} text output (Err f)) (sym is) (record {
      cause = cause;
      part = subst (AppendsPart output.before.written output.now.written) same part;
    })

-- nothing was written yet
pub WroteText-none : (told : SinkTold) → WroteText (output_told told told) []
WroteText-none told = record { writes = refl; written = none told.written }
  where
    none : (written : Option (List ℕ)) → Appends written written []
    none None = tt
    none (Some bytes) = sym (append-nil bytes)

-- a part of a text is one of a longer one
part_of_more : (old new : Option (List ℕ)) (text more : List ℕ) → AppendsPart old new text
    → AppendsPart old new (text ++ more)
part_of_more old new text more part = record {
  count = part.count;
  short = omega (arith, part.short, length-append text more);
  appends = subst (Appends old new)
      (sym (take-append-le part.count text more (omega (arith, part.short)))) part.appends;
}

-- a part of what stands behind a text is one of both
part_behind : (a b c : Option (List ℕ)) (front rest : List ℕ) → Appends a b front
    → AppendsPart b c rest → AppendsPart a c (front ++ rest)
part_behind a b c front rest first part = record {
  count = length front + part.count;
  short = omega (arith, part.short, length-append front rest);
  appends = rw (take-append-add front rest part.count)
      (Appends-trans a b c front _ first part.appends);
}

module _ (before mid now : SinkTold) (text front : List ℕ)
    (first : WroteText (output_told before mid) front) where
  -- a piece was written behind another
  pub WroteText-more : (piece : List ℕ) → text ≡ front ++ piece
      → WroteText (output_told mid now) piece → WroteText (output_told before now) text
  WroteText-more piece split second = record {
    writes = second.writes ∙ first.writes;
    written = subst (Appends before.written now.written) (sym split)
        (Appends-trans before.written mid.written now.written front piece first.written
        second.written);
  }

  -- a write failed in a piece behind others
  pub EndsPutting-cut : (piece more : List ℕ) → text ≡ front ++ (piece ++ more)
      → (fault : Fault) → EndsPutting {T = Unit {0}} piece (output_told mid now) (Err fault)
      → EndsPutting {T = Unit {0}} text (output_told before now) (Err fault)
  EndsPutting-cut piece more split (Trace fault) ends = absurd ends
  EndsPutting-cut piece more split TooLong ends = absurd ends
  EndsPutting-cut piece more split (TooManyZones zones) ends = absurd ends
  EndsPutting-cut piece more split Read ends = absurd ends
  EndsPutting-cut piece more split Write ends = record {
    cause = ends.cause ∙ ap count_after first.writes;
    part = subst (AppendsPart before.written now.written) (sym split)
        (part_behind before.written mid.written now.written front (piece ++ more) first.written
        (part_of_more mid.written now.written piece more ends.part));
  }
  EndsPutting-cut piece more split Memory ends = absurd ends

  -- the last piece was written, or not
  pub EndsPutting-last : (piece : List ℕ) → text ≡ front ++ piece
      → (result : Result (Unit {0}) Fault) → EndsPutting piece (output_told mid now) result
      → EndsPutting text (output_told before now) result
  EndsPutting-last piece split (Ok value) ends = WroteText-more piece split ends
  EndsPutting-last piece split (Err fault) ends =
      EndsPutting-cut piece [] (split ∙ ap (λ rest. front ++ rest) (sym (append-nil piece))) fault
      ends

-- the lines of some first zones, of those behind them, and of all
pub lines_to : (scale : ℕ) (zones : List ZoneBounds) (from to : ℕ) → from ≤ to
    → lines_of scale (take to zones)
    ≡ lines_of scale (take from zones) ++ lines_of scale (slice_range zones from to)
unfolding lines_of
lines_to scale zones from to rises =
    ap (lines_of scale) (sym (take_to zones from to rises))
    ∙ flat_map-append (line_of scale) (take from zones) (slice_range zones from to)

-- the lines of all zones, and that of the end
pub text_of : (scale : ℕ) (zones : List ZoneBounds) (end : ℕ)
    → lines_of scale zones ++ (codes "end " ++ number_text scale end ++ codes "\n")
    ≡ offline_text scale zones end
unfolding offline_text
text_of scale zones end = simp append_assoc

-- the text of all zones, behind the lines of some
pub text_behind : (scale : ℕ) (zones : List ZoneBounds) (from end : ℕ)
    → offline_text scale zones end
    ≡ lines_of scale (take from zones) ++ offline_text scale (drop from zones) end
unfolding offline_text lines_of
text_behind scale zones from end =
    ap (λ all. offline_text scale all end) (sym (take-append-drop from zones))
    ∙ rw (flat_map-append (line_of scale) (take from zones) (drop from zones)) (simp append_assoc)

-- the text of all zones, behind the lines of some and those of a few more
pub text_around : (scale : ℕ) (zones : List ZoneBounds) (from to end : ℕ) → from ≤ to
    → offline_text scale zones end
    ≡ lines_of scale (take from zones) ++ (lines_of scale (slice_range zones from to)
    ++ offline_text scale (drop to zones) end)
text_around scale zones from to end rises =
    text_behind scale zones to end
    ∙ ap (λ lines. lines ++ offline_text scale (drop to zones) end)
    (lines_to scale zones from to rises)
    ∙ append_assoc (lines_of scale (take from zones)) (lines_of scale (slice_range zones from to))
    (offline_text scale (drop to zones) end)
