use Rattle.std.proofs.Common.{arith, w64}
use Rattle.std.proofs.lemmas.Nat.Bits.{bit_at_not, bit_at-lt}
use Rattle.tre_edges.proofs.next_place.saying.Goals as goal

pub returns-else-truth : goal.returns-else-truth
returns-else-truth c i small =
    let turned = bit_at_not w64 c.args.word i c.ranges.word.fits small in
    rw c.if-truth.false (
      (λ one. omega (arith, turned, one, bit_at-lt c.args.word i)),
      (λ none. omega (arith, turned, none)),
    )
