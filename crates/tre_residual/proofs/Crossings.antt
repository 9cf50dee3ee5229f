-- Each pair of a residual that is well begins up to the time, and ends then or later, within the
-- rest.
use Rattle.std.proofs.Common.{ℕ, ◌*◌, ◌<◌, ◌≤◌, ⊎_elim, arith}
use Rattle.std.proofs.Math.Nat.{mul-pos, mul-le-mul_right}
use Rattle.tre_pairs.proofs.Ticks.{le_down, ge_down}
use Rattle.tre_trace.specs.Trace.{end_of}
use Rattle.tre_syntax.specs.Rest.{Rest}
use Rattle.tre_syntax.proofs.Atoms.{end_of-le}
use Rattle.tre_syntax.proofs.CutMeaning.{IsOrdered-rest, IsBounded-rest}
use Rattle.tre_mark.proofs.Growth.{mark_ends}
use Rattle.tre_mark.proofs.Meanings.{around_present}
use Rattle.tre_node.specs.NodeTree.{mark_of_node, tree_of_node}
use Rattle.tre_residual.specs.Residual.{ResidualTree, nothing, here, joined, preceded, followed, either, both, lasting, marked, Means, IsWell}

pub ends_around : (rest : Rest) (residual : ResidualTree) → IsWell rest.start residual
    → (a b n : ℕ) → 0 < n → Means residual rest a b n
    → (a ≤ rest.start * n) × (rest.start * n ≤ b)
ends_around rest nothing well a b n some h = absurd h
ends_around rest (here zones) well a b n some h =
    let ends = well.ends a b n some h in
    let le = h.rising in
    (omega (arith, ends, le), omega (arith, ends))
ends_around rest (joined zones tree) well a b n some h =
    (h.left.rising, (IsOrdered-rest tree rest).le (rest.start * n) b n h.right)
ends_around rest (preceded zones residual) well a b n some h =
    let k = h.factor in
    let inner = ends_around rest residual well h.midpoint (k * b) (k * n)
    (mul-pos h.positive some) h.right in
    let before = h.left.rising in
    let begin = inner.0 in (
      ge_down k rest.start a n h.positive (omega (arith, before, begin)),
      le_down k rest.start b n h.positive inner.1,
    )
ends_around rest (followed residual tree) well a b n some h =
    let k = h.factor in
    let inner = ends_around rest residual well.0 (k * a) h.midpoint (k * n)
    (mul-pos h.positive some) h.left in
    let behind = (IsOrdered-rest tree rest).le h.midpoint (k * b) (k * n) h.right in
    let end = inner.1 in (
      ge_down k rest.start a n h.positive inner.0,
      le_down k rest.start b n h.positive (omega (arith, behind, end)),
    )
ends_around rest (either one other) well a b n some h =
    ⊎_elim (λ x. ends_around rest one well.0 a b n some x)
    (λ x. ends_around rest other well.1 a b n some x) h
ends_around rest (both one other) well a b n some h =
    ends_around rest one well.0 a b n some h.left
ends_around rest (lasting residual ends) well a b n some h =
    ends_around rest residual well a b n some h.related
ends_around rest (marked node) well a b n some h =
    around_present rest (mark_of_node rest.start node) (tree_of_node node) a b n h

pub ends_within : (rest : Rest) (residual : ResidualTree) → IsWell rest.start residual
    → (a b n : ℕ) → 0 < n → Means residual rest a b n → b ≤ end_of rest.start rest.segments * n
ends_within rest nothing well a b n some h = absurd h
ends_within rest (here zones) well a b n some h =
    let ends = well.ends a b n some h in
    let rising = mul-le-mul_right n (end_of-le rest.start rest.segments) in
    omega (arith, ends, rising)
ends_within rest (joined zones tree) well a b n some h =
    (IsBounded-rest tree rest).end (rest.start * n) b n h.right
ends_within rest (preceded zones residual) well a b n some h =
    ge_down h.factor (end_of rest.start rest.segments) b n h.positive
    (ends_within rest residual well h.midpoint (h.factor * b) (h.factor * n)
    (mul-pos h.positive some) h.right)
ends_within rest (followed residual tree) well a b n some h =
    ge_down h.factor (end_of rest.start rest.segments) b n h.positive
    ((IsBounded-rest tree rest).end h.midpoint (h.factor * b) (h.factor * n) h.right)
ends_within rest (either one other) well a b n some h =
    ⊎_elim (λ x. ends_within rest one well.0 a b n some x)
    (λ x. ends_within rest other well.1 a b n some x) h
ends_within rest (both one other) well a b n some h =
    ends_within rest one well.0 a b n some h.left
ends_within rest (lasting residual ends) well a b n some h =
    ends_within rest residual well a b n some h.related
ends_within rest (marked node) well a b n some h =
    mark_ends rest (end_of-le rest.start rest.segments) (mark_of_node rest.start node)
    (tree_of_node node) a b n h
