use Rattle.std.proofs.Common.{◌≡◌, ◌∙◌, ◌<◌, List, replicate, subst, take, slice_index_or, arith}
use Rattle.std.proofs.lemmas.List.{take_all, take_more}
use Rattle.std.proofs.lemmas.List.Elements.{All-get_or}
use Rattle.tre_packed.specs.Said.{IsToldPlane}
use Rattle.tre_packed.specs.declared.said.Said.{Said}
use Rattle.tre_packed.proofs.Sayings.{no_bits, told_more}
use Rattle.tre_packed.proofs.happening.said_plane.Goals as goal

abbrev nothing : Said
nothing = record { place = 0; events = 0 }

pub write_bit-requires-clause-within : goal.write_bit-requires-clause-within
write_bit-requires-clause-within c =
    omega (
      arith,
      c.loop-one.invariant.size,
      All-get_or (λ one. one.place < c.args.count) c.args.said.now c.loop-one.one-index nothing
          c.loop-one-test.true c.requires.within,
    )

pub loop-one-preserved : goal.loop-one-preserved
loop-one-preserved c =
    let said = c.args.said.now in
    let index = c.loop-one.one-index in record {
      size = c.write_bit.ensures.same_length ∙ c.loop-one.invariant.size;
      bits =
          rw (take_more said index nothing c.loop-one-test.true)
          (told_more c.args.number (take index said) (slice_index_or said index nothing) _ _ _
          c.loop-one.invariant.bits c.event_bit.ensures c.write_bit.ensures);
    }

pub loop-one-init : goal.loop-one-init
loop-one-init c =
    let zeros : c.in_ok-words.words.items ≡ replicate c.div_ceil.result 0 =
    c.in_ok-words.ensures.items_if_clones_equal (λ y same. same) in record {
      size = omega (arith, c.in_ok-words.ensures.len, c.div_ceil.ensures);
      bits = λ place. rw zeros (no_bits c.div_ceil.result place);
    }

pub returns : goal.returns
returns c =
    let said = c.args.said.now in
    let all : take c.loop-one.one-index said ≡ said =
    take_all c.loop-one.one-index said c.loop-one-test.false in
    subst (λ (some : List Said). IsToldPlane c.args.number some c.args.count c.loop-one.words.items)
    all (record { size = c.loop-one.invariant.size; bits = c.loop-one.invariant.bits })
