use Rattle.std.proofs.Common.{◌≡◌, ◌+◌, get_or, subst}
use Rattle.std.specs.Int.{bit_at}
use Rattle.tre_state.proofs.sieve.Sieve.add.Goals as goal

pub returns-clause-added : goal.returns-clause-added
returns-clause-added c =
    let new = c.add_at-2.new.self in
    let number = c.args.number in (
      subst (λ slot. bit_at (get_or new slot 0) number ≡ 1) c.slot_of.ensures.slot
          (c.add_at-2.ensures.kept c.slot_of.result number c.add_at.ensures.added),
      subst (λ last. bit_at (get_or new (64 + last) 0) number ≡ 1) c.last_of.ensures.last
          c.add_at-2.ensures.added,
    )

pub returns-clause-kept : goal.returns-clause-kept
returns-clause-kept c = λ other k may. (
  c.add_at-2.ensures.kept _ k (c.add_at.ensures.kept _ k may.0),
  c.add_at-2.ensures.kept _ k (c.add_at.ensures.kept _ k may.1),
)
