use Rattle.std.proofs.Common.{◌≡◌, ℕ, sym, ap, ◌∙◌}
use Rattle.std.specs.Ordering.{nat_cmp}
use Rattle.std.specs.declared.cmp.Ordering.{Ordering}
use Rattle.tre_define.proofs.Bits.{by-length, by-none, by-place}
use Rattle.tre_define.proofs.test.compare_bits.Goals as goal

-- an order of two numbers is that of two others that they are
of-same : (order : Ordering) (one other one' other' : ℕ) → order ≡ nat_cmp one other
    → one ≡ one' → other ≡ other' → order ≡ nat_cmp one' other'
of-same order one other one' other' is same alike =
    is ∙ ap (λ n. nat_cmp n other) same ∙ ap (nat_cmp one') alike

pub returns-then-bits-others : goal.returns-then-bits-others
returns-then-bits-others c =
    let bits = c.without_zeros-bits in
    let others = c.without_zeros-others in
    of-same _ _ _ _ _ (c.cmp.ensures
    ∙ by-length bits.result.now others.result.now bits.ensures.bits others.ensures.bits
    bits.ensures.first others.ensures.first c.if-bits-others.true)
    bits.ensures.value others.ensures.value

pub returns-then-bits-place : goal.returns-then-bits-place
returns-then-bits-place c =
    let bits = c.without_zeros-bits in
    let others = c.without_zeros-others in
    of-same _ _ _ _ _ (c.cmp-then-bits-place.ensures
    ∙ by-place bits.result.now others.result.now c.loop-place.place bits.ensures.bits
    others.ensures.bits c.if-bits-others.false c.loop-place-test.true c.loop-place.invariant
    c.if-bits-place.true) bits.ensures.value others.ensures.value

pub returns : goal.returns
returns c =
    let bits = c.without_zeros-bits in
    let others = c.without_zeros-others in
    of-same _ _ _ _ _ (by-none bits.result.now others.result.now c.loop-place.place
    c.if-bits-others.false c.loop-place-test.false c.loop-place.invariant)
    bits.ensures.value others.ensures.value
