use Rattle.std.proofs.Common.{◌≡◌, ◌∙◌, ap, replicate, sym, take, slice_index_or, arith}
use Rattle.std.proofs.lemmas.List.{length-take-le, take_all, take_more}
use Rattle.std.proofs.lemmas.Nat.Bits.{bit_at-zero}
use Rattle.tre_packed.specs.Events.{events_at}
use Rattle.std.specs.Int.{bit_at}
use Rattle.tre_trace.specs.Segments.{plain_segment}
use Rattle.tre_packed.proofs.Sayings.{event_more, no_bits}
use Rattle.tre_packed.proofs.happening.event_plane.Goals as goal

pub write_bit-requires-clause-within : goal.write_bit-requires-clause-within
write_bit-requires-clause-within c =
    omega (arith, c.loop-place.invariant.size, c.loop-place-test.true)

pub loop-place-preserved : goal.loop-place-preserved
loop-place-preserved c =
    let segments = c.args.segments.now in
    let place = c.loop-place.place in
    let within = c.loop-place-test.true in record {
      size = c.write_bit.ensures.same_length ∙ c.loop-place.invariant.size;
      bits =
          rw (take_more segments place (plain_segment 0 0) within)
          (event_more c.args.number (take place segments)
          (slice_index_or segments place (plain_segment 0 0)) place _ _ _
          (length-take-le place segments (omega (arith, within))) c.loop-place.invariant.bits
          c.event_bit.ensures c.write_bit.ensures);
    }

pub loop-place-init : goal.loop-place-init
loop-place-init c =
    let zeros : c.in_ok-words.words.items ≡ replicate c.div_ceil.result 0 =
    c.in_ok-words.ensures.items_if_clones_equal (λ y same. same) in record {
      size = omega (arith, c.in_ok-words.ensures.len, c.div_ceil.ensures);
      bits = λ place. rw zeros (no_bits c.div_ceil.result place ∙ sym (bit_at-zero c.args.number));
    }

pub returns : goal.returns
returns c =
    let segments = c.args.segments.now in
    let words = c.loop-place.words.items in
    let all : take c.loop-place.place segments ≡ segments =
    take_all c.loop-place.place segments c.loop-place-test.false in record {
      size = c.loop-place.invariant.size;
      bits = λ place.
          c.loop-place.invariant.bits place
          ∙ ap (λ some. bit_at (events_at some place) c.args.number) all;
    }
