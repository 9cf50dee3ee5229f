-- Blocks stand for just the segments that were packed.
use Rattle.std.proofs.Common.{◌≡◌, ℕ, zero, suc, ◌+◌, ◌-◌, ◌/◌, nat_lt, ◌≤◌, ◌<◌, Bool, true, false, inl, inr, List, [], ◌∷◌, ◌++◌, length, take, get_or, refl, sym, ap, subst, ◌∙◌, arith, if◌then◌else◌}
use Rattle.std.proofs.lemmas.Bool.{cases_lt}
use Rattle.std.proofs.lemmas.Bool.Decides.{nat_tests}
use Rattle.std.proofs.lemmas.List.{get_or-map, take_all, take_more}
use Rattle.std.proofs.lemmas.List.Elements.{All-get_or}
use Rattle.std.specs.Int.{bit_at}
use Rattle.tre_packed.proofs.Numbers.{number_is}
use Rattle.tre_packed.proofs.Sayings.{said_is}
use Rattle.tre_packed.specs.Events.{events_at}
use Rattle.tre_packed.specs.Offsets.{items_in}
use Rattle.tre_packed.specs.Pack.{IsPack}
use Rattle.tre_packed.specs.Said.{said_bit, HasBits}
use Rattle.tre_packed.specs.Unpacked.{number_of, time_in, segment_in, segments_in, unpacked}
use Rattle.tre_packed.specs.declared.blocks.Blocks.{Blocks}
use Rattle.tre_trace.proofs.Segments.{end_of-append}
use Rattle.tre_trace.specs.Planes.{bit_in}
use Rattle.tre_trace.specs.Segments.{plain_segment}
use Rattle.tre_trace.specs.Trace.{end_of}
use Rattle.tre_trace.specs.Words.{words_at}
use Rattle.tre_trace.specs.declared.segment.Segment.{Segment}

less_test : (m n : ℕ) → m < n → nat_lt m n ≡ true
less_test m n less = grind (arith, nat_tests)

more_test : (m n : ℕ) → n ≤ m → nat_lt m n ≡ false
more_test m n more = grind (arith, nat_tests)

module _ (segments : List Segment) (blocks : Blocks) (pack : IsPack segments blocks) where
  abbrev offsets : List ℕ
  offsets = items_in blocks.offsets

  abbrev starts : List ℕ
  starts = blocks.planes.starts.items

  -- when a segment begins
  pub time_read : (place : ℕ) → place < length segments
      → get_or blocks.planes.starts.items (place / 64) 0
      + get_or (items_in blocks.offsets) place 0
      ≡ end_of 0 (take place segments)
  time_read place within =
      let begun =
      pack.planes.starts.times (place / 64) (omega (arith, within, pack.planes.starts.enough)) in
      omega (arith, begun, pack.offsets.times place within)

  time_is : (place : ℕ) → place ≤ length segments
      → time_in blocks place ≡ end_of 0 (take place segments)
  time_is place below =
      elim (cases_lt place (length segments)) [
        | inl within ↦
            choose (less_test place (length offsets) (omega (arith, within, pack.offsets.size)))
            ∙ time_read place within
        | inr past ↦
            choose (more_test place (length offsets) (omega (arith, past, pack.offsets.size)))
            ∙ pack.end ∙ ap (end_of 0) (sym (take_all place segments past))
      ] where
        choose : {test : Bool} → nat_lt place (length offsets) ≡ test
            → time_in blocks place
            ≡ (if test then get_or starts (place / 64) 0 + get_or offsets place 0 else blocks.end)
        choose is =
            ap (λ test. if test then get_or starts (place / 64) 0 + get_or offsets place 0
            else blocks.end) is

  abbrev none : Segment
  none = plain_segment 0 0

  module _ (place : ℕ) (within : place < length segments) where
    abbrev here : Segment
    here = get_or segments place none

    bits_are : HasBits here
    bits_are = All-get_or HasBits segments place none within pack.bits

    length_is : time_in blocks (place + 1) - time_in blocks place ≡ here.len
    length_is =
        let next =
        ap (end_of 0) (take_more segments place none within)
        ∙ end_of-append 0 (take place segments) (here ∷ []) in
        omega (
          arith,
          time_is (place + 1) (omega (arith, within)),
          time_is place (omega (arith, within)),
          next,
        )

    value_is : number_of 64 (λ number. bit_in (words_at blocks.planes.own.items number) place)
        ≡ here.val
    value_is =
        number_is 64 (λ number. bit_in (words_at blocks.planes.own.items number) place) here.val
        bits_are.0
        (λ number below. (pack.planes.own number below).bits place
        ∙ ap (λ valuation. bit_at valuation number)
        (get_or-map (λ segment. segment.val) segments place none 0 within))

    events_are : number_of 64 (λ number. said_bit blocks.said.items place number) ≡ here.ev
    events_are =
        number_is 64 (λ number. said_bit blocks.said.items place number) here.ev
        bits_are.1
        (λ number below. ap (λ said. said_bit said place number) pack.said
        ∙ said_is number 0 segments place (omega arith)
        ∙ ap (λ k. bit_at (events_at segments k) number) from_none
        ∙ ap (λ events. bit_at events number)
        (get_or-map (λ segment. segment.ev) segments place none 0 within)) where
          from_none : place - 0 ≡ place
          from_none = omega arith

    segment_is : segment_in blocks place ≡ here
    unfolding segment_in
    segment_is =
        rw (length_is, value_is, events_are) refl

  segments_are : (count : ℕ) → count ≤ length segments
      → segments_in blocks count ≡ take count segments
  unfolding segments_in
  segments_are zero below = refl
  segments_are (suc count) below =
      let within : count < length segments = omega (arith, below) in
      let next : count + 1 ≡ suc count = omega arith in
      ap (λ l. l ++ segment_in blocks count ∷ []) (segments_are count (omega (arith, below)))
      ∙ ap (λ segment. take count segments ++ segment ∷ []) (segment_is count within)
      ∙ sym (subst (λ (n : ℕ). take n segments
      ≡ take count segments ++ get_or segments count none ∷ []) next
      (take_more segments count none within))

  pub unpacked_is : unpacked blocks ≡ segments
  unfolding unpacked
  unpacked_is =
      ap (segments_in blocks) pack.offsets.size
      ∙ segments_are (length segments) (omega arith)
      ∙ take_all (length segments) segments (omega arith)

  pub pack_of : IsPack (unpacked blocks) blocks
  pack_of = rw unpacked_is pack
