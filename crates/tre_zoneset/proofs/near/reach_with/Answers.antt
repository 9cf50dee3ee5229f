use Rattle.std.proofs.Common.{◌≡◌, ◌-◌, length, get_or, ℕ, sym, subst, arith}
use Rattle.tre_zoneset.specs.Near.{IsWithin}
use Rattle.tre_zoneset.specs.declared.near.Reach.{Reach}
use Rattle.tre_zoneset.proofs.near.reach_with.Goals as goal

pub returns-clause-before : goal.returns-clause-before
returns-clause-before c = λ k r other is h.
    let last : k ≡ length c.args.reaches.now - 1 = omega (arith, is) in
    c.wider.ensures.first other
    (subst (λ (reach : Reach). IsWithin reach other) (sym (c.reach_at.ensures r))
    (subst (λ (j : ℕ). IsWithin (get_or c.args.reaches.now j r) other) last h))

pub returns-then-count-eq0-clause-before : goal.returns-then-count-eq0-clause-before
returns-then-count-eq0-clause-before c = λ k r other is h.
    absurd (omega (arith, is, c.if-count-eq0.true))
