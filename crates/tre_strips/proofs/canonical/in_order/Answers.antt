use Rattle.std.proofs.Common.{rules}
use Rattle.std.proofs.lemmas.Fn.{dedup_same}
use Rattle.std.proofs.lemmas.List.Sorted.{answers_always}
use Rattle.tre_strips.specs.Listed.{line_key}
use Rattle.tre_strips.proofs.Listing.{in_order, same_members, same_line}
use Rattle.tre_strips.proofs.canonical.in_order.Goals as goal

pub returns-clause-order : goal.returns-clause-order
returns-clause-order c =
    in_order c.sort_unstable_by_key.new.self.items c.dedup_by_key.new.self.items
    (c.sort_unstable_by_key.ensures.sorted line_key
    (answers_always _ _ _ (λ f a r g h. search rules)))
    (dedup_same _ same_line _ (λ x y b f' x' y' k. search rules) _ _
    c.dedup_by_key.ensures.filtered)

pub returns-clause-same : goal.returns-clause-same
returns-clause-same c =
    same_members c.args.found.items c.sort_unstable_by_key.new.self.items
    c.dedup_by_key.new.self.items c.sort_unstable_by_key.ensures.permutation
    (dedup_same _ same_line _ (λ x y b f' x' y' k. search rules) _ _
    c.dedup_by_key.ensures.filtered)
