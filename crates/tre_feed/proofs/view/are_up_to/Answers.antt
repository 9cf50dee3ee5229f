use Rattle.std.proofs.Common.{ℕ, ◌≤◌, bit_or, slice_index_or, arith, rules}
use Rattle.std.proofs.lemmas.List.{take_all, take_more}
use Rattle.std.proofs.lemmas.List.Elements.{All-nil, All-push, All-weaker}
use Rattle.std.proofs.lemmas.Bool.{leb-true}
use Rattle.std.proofs.lemmas.Nat.{and_le_l, and_le_r}
use Rattle.std.specs.Int.Bits.{or_add_and}
use Rattle.tre_trace.specs.Segments.{plain_segment}
use Rattle.tre_trace.specs.declared.segment.Segment.{Segment}
use Rattle.tre_feed.proofs.view.are_up_to.Goals as goal

abbrev UpTo : ℕ → ℕ → Segment → Type 0
UpTo values happen segment = (segment.val ≤ values) × (segment.ev ≤ happen)

-- a number is at most what it is put together with
or_left : (a b : ℕ) → a ≤ bit_or a b
or_left a b = omega (arith, or_add_and a b, and_le_r a b)

or_right : (a b : ℕ) → b ≤ bit_or a b
or_right a b = omega (arith, or_add_and a b, and_le_l a b)

wider : (values happen more later : ℕ) → values ≤ more → happen ≤ later → (segment : Segment)
    → UpTo values happen segment → UpTo more later segment
wider values happen more later one other segment is =
    (omega (arith, is.0, one), omega (arith, is.1, other))

pub loop-segment-init : goal.loop-segment-init
loop-segment-init c = All-nil (UpTo 0 0)

pub loop-segment-preserved : goal.loop-segment-preserved
loop-segment-preserved c =
    let values = c.loop-segment.values in
    let happen = c.loop-segment.happen in
    let place = c.loop-segment.segment-index in
    let segment = slice_index_or c.args.row.now place (plain_segment 0 0) in
    let more = bit_or values segment.val in
    let later = bit_or happen segment.ev in
    rw (take_more c.args.row.now place (plain_segment 0 0) c.loop-segment-test.true)
    (All-push (UpTo more later) _ segment
    (All-weaker (UpTo values happen) (UpTo more later)
    (wider values happen more later (or_left values segment.val) (or_left happen segment.ev))
    _ c.loop-segment.invariant)
    (or_right values segment.val, or_right happen segment.ev))

pub returns-then-values-names : goal.returns-then-values-names
returns-then-values-names c is =
    search (rules, take_all, All-weaker, wider, leb-true, c.args.names, c.args.events)
