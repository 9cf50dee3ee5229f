-- The lines of sets, put one before the other.
use Rattle.std.proofs.Common.{◌≡◌, ◌∙◌, ◌≤◌, ◌<◌, ℕ, ◌+◌, ◌-◌, Some, drop, get_or, map, slice_get, subst, List, [], ◌∷◌, ◌++◌, length, refl, sym, ap, arith, append_assoc, append-nil}
use Rattle.std.specs.List.{slice_range}
use Rattle.std.specs.Option.{option_map}
use Rattle.std.proofs.lemmas.List.{drop_all, drop_more}
use Rattle.std.proofs.lemmas.List.Folds.{drop_split}
use Rattle.std.proofs.lemmas.Option.{get_or_from_slice_get, slice_get-map, slice_get_read, slice_get_within}
use Rattle.std.proofs.lemmas.List.Sorted.{IsPermutation-refl}
use Rattle.tre_show.specs.Line.{line_of}
use Rattle.tre_show.specs.Order.{IsRising}
use Rattle.tre_zone.specs.ZoneList.{AreTight}
use Rattle.tre_zoneset.specs.ZoneSet.{IsZoneSet}
use Rattle.tre_zone.specs.declared.zone_bounds.ZoneBounds.{ZoneBounds}
use Rattle.tre_tell.specs.Blocks.{lines_with}
use Rattle.tre_tell.specs.Printed.{IsPrinted, IsSetPut, IsTextOf}

-- the bytes of a room from a place on
pub from_place : (bytes room : List ℕ) (place : ℕ) → bytes ≡ room → place ≤ length room
    → slice_range bytes place (length bytes) ≡ drop place room
from_place bytes room place same within =
    rw same (sym (drop_split room place (length room) within
    ∙ (ap (λ rest. slice_range room place (length room) ++ rest)
    (drop_all (length room) room (omega arith))
    ∙ append-nil (slice_range room place (length room)))))

module _ (scale : ℕ) where
  -- ---- the lines of one set

  pub lines_none : (label text : List ℕ) (zones : List ZoneBounds) (place : ℕ)
      → length zones ≤ place → text ≡ lines_with scale label (drop place zones) ++ text
  lines_none label text zones place past = rw (drop_all place zones past) refl

  -- one line more, before the others
  pub lines_before : (label text now new : List ℕ) (zones : List ZoneBounds) (place : ℕ)
      (zone : ZoneBounds) → slice_get zones place ≡ Some zone
      → now ≡ lines_with scale label (drop (place + 1) zones) ++ text
      → new ≡ (label ++ line_of scale zone) ++ now
      → new ≡ lines_with scale label (drop place zones) ++ text
  lines_before label text now new zones place zone at so_far line =
      let first : drop place zones ≡ zone ∷ drop (place + 1) zones =
      drop_more zones place zone (slice_get_within zones place zone at)
      ∙ ap (λ x. x ∷ drop (place + 1) zones) (get_or_from_slice_get zones place zone zone at) in
      rw first (line ∙ (ap (λ bytes. (label ++ line_of scale zone) ++ bytes) so_far
      ∙ sym (append_assoc (label ++ line_of scale zone)
      (lines_with scale label (drop (place + 1) zones)) text)))

  -- ---- the lines of sets

  pub sets_none : (labels : List (List ℕ)) (sets : List (List ZoneBounds)) (text : List ℕ)
      (place : ℕ) → length labels ≤ place → length sets ≡ length labels
      → IsTextOf scale (drop place labels) (drop place sets) text text
  sets_none labels sets text place past same =
      rw (drop_all place labels past, drop_all place sets (omega (arith, same, past)))
      (record { printed = []; are = tt; is_text = refl })

  -- one set more, before the others
  pub sets_before : (labels : List (List ℕ)) (sets : List (List ZoneBounds)) (place : ℕ)
      (label : List ℕ) (set : List ZoneBounds) (text now new : List ℕ)
      → slice_get labels place ≡ Some label → slice_get sets place ≡ Some set
      → IsTextOf scale (drop (place + 1) labels) (drop (place + 1) sets) text now
      → IsSetPut scale label set now new
      → IsTextOf scale (drop place labels) (drop place sets) text new
  sets_before labels sets place label set text now new at set_at so_far put =
      let first : drop place labels ≡ label ∷ drop (place + 1) labels =
      drop_more labels place label (slice_get_within labels place label at)
      ∙ ap (λ x. x ∷ drop (place + 1) labels) (get_or_from_slice_get labels place label label at) in
      let second : drop place sets ≡ set ∷ drop (place + 1) sets =
      drop_more sets place set (slice_get_within sets place set set_at)
      ∙ ap (λ x. x ∷ drop (place + 1) sets) (get_or_from_slice_get sets place set set set_at) in
      rw (first, second) (record {
        printed = put.zones ∷ so_far.printed;
        are = (put.printed, so_far.are);
        is_text = put.is_text
            ∙ (ap (λ bytes. lines_with scale label put.zones ++ bytes) so_far.is_text
            ∙ sym (append_assoc (lines_with scale label put.zones) _ text));
      })

  -- the same of labels as they are kept, from a place on that is not the first
  pub set_put : {X : Type 0} (bytes_of : X → List ℕ) (labels : List X)
      (sets : List (List ZoneBounds)) (set : List ZoneBounds) (label : X) (left : ℕ)
      (text now new : List ℕ) → 0 < left → left ≤ length labels
      → label ≡ get_or labels (left - 1) label → slice_get sets (left - 1) ≡ Some set
      → IsTextOf scale (drop left (map bytes_of labels)) (drop left sets) text now
      → IsSetPut scale (bytes_of label) set now new
      → IsTextOf scale (drop (left - 1) (map bytes_of labels)) (drop (left - 1) sets) text new
  set_put bytes_of labels sets set label left text now new some within is set_at so_far put =
      let next : left - 1 + 1 ≡ left = omega (arith, some) in
      sets_before (map bytes_of labels) sets (left - 1) (bytes_of label) set text now new
      (slice_get-map bytes_of labels (left - 1)
      ∙ ap (option_map bytes_of) (slice_get_read labels (length labels) (left - 1) label refl
      (omega (arith, some, within)) is))
      set_at
      (subst (λ k. IsTextOf scale (drop k (map bytes_of labels)) (drop k sets) text now) (sym next)
      so_far) put

pub printed_rising : (zones : List ZoneBounds) → IsRising zones → IsZoneSet zones → AreTight zones
    → IsPrinted zones zones
printed_rising zones rising set tight = record {
  same = IsPermutation-refl zones;
  held = λ a b n. ((λ h. h), (λ h. h));
  apart = set.apart;
  tight = tight;
  rising = rising;
}
