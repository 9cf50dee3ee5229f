use Rattle.std.proofs.Common.{◌≡◌, ◌<◌, ℕ, drop, ap, ◌∙◌, arith}
use Rattle.std.proofs.lemmas.Nat.Bits.{bit_at-lt}
use Rattle.std.specs.Int.{bit_at}
use Rattle.tre_feed.specs.Taking.{bits_at}
use Rattle.tre_feed.proofs.Among.{seen-room}
use Rattle.tre_feed.proofs.places.taken.Goals as goal

bit-below : (n bits place : ℕ) → n ≡ bit_at bits place → n < 2
bit-below n bits place is = omega (arith, is, bit_at-lt bits place)

pub overflow_mul-seen : goal.overflow_mul-seen
overflow_mul-seen c =
    omega (
      arith,
      c.loop-left.invariant.seen,
      seen-room c.args.places.now c.loop-left.left c.args.bits c.requires.few
          c.loop-left-test.true c.loop-left.invariant.within,
    )

pub overflow_add-seen : goal.overflow_add-seen
overflow_add-seen c =
    omega (
      arith,
      c.loop-left.invariant.seen,
      bit-below _ _ _ c.bit_of.ensures,
      seen-room c.args.places.now c.loop-left.left c.args.bits c.requires.few
          c.loop-left-test.true c.loop-left.invariant.within,
    )

pub returns : goal.returns
returns c =
    let none : c.loop-left.left ≡ 0 = omega (arith, c.loop-left-test.false) in
    c.loop-left.invariant.seen ∙ ap (λ left. bits_at (drop left c.args.places.now) c.args.bits) none
