use Rattle.std.proofs.Common.{pos, neg_ℤ, ◌≤ℤ◌, ◌-ℤ◌, ◌^◌, arith, rules}
use Rattle.std.proofs.lemmas.Int.{ints}
use Rattle.tre_strips.proofs.Trimming.{begun-values, late_given, value_min, value_of_key}
use Rattle.tre_strips.proofs.trim.late.Goals as goal

pub new-requires : goal.new-requires
new-requires c =
    let keys = rw (← c.bounds-bounds.ensures.same) at c.bounds-bounds.ensures.keys in
    let high = c.requires.high in
    let low : neg_ℤ (pos (2 ^ 42)) ≤ℤ (pos 1 -ℤ c.args.last.now) = omega (arith, ints) in
    begun-values _ _ _ keys
    (value_min _ _ _ (rw c.behind.ensures at c.tighter.ensures) keys.begin_low low)
    (value_of_key _ keys.begin_high)

pub returns : goal.returns
returns c =
    search (rules, late_given, c.bounds-bounds.ensures.same, c.new.result, c.bounds-bounds.result)
