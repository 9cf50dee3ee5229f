use Rattle.std.proofs.Common.{List, ℕ, get_or, sym, subst, ◌≡◌, arith}
use Rattle.std.specs.Int.{bit_at}
use Rattle.tre_state.proofs.Sieving.{slot-added, slot-kept}
use Rattle.tre_state.proofs.sieve.Sieve.add_at.Goals as goal

pub returns-clause-added : goal.returns-clause-added
returns-clause-added c =
    slot-added c.self.inside.masks c.args.slot c.args.number
    (omega (arith, c.requires.within, c.self.told)) c.requires.small

pub returns-clause-kept : goal.returns-clause-kept
returns-clause-kept c = λ other k may.
    slot-kept c.self.inside.masks c.args.slot _ (omega (arith, c.requires.within, c.self.told))
    other k (subst (λ (masks : List ℕ). bit_at (get_or masks other 0) k ≡ 1) (sym c.self.view_is)
    may)
