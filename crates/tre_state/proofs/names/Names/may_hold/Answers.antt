use Rattle.std.proofs.Common.{List, ℕ, subst, sym}
use Rattle.tre_state.specs.Sieve.{AreSifted}
use Rattle.tre_state.proofs.Places.{place-none}
use Rattle.tre_state.proofs.Sieving.{sifted-held}
use Rattle.tre_state.proofs.names.Names.may_hold.Goals as goal

pub returns : goal.returns
returns c = λ no.
    sym (place-none c.args.self.now c.args.bytes.now (λ k held.
    c.may_be.ensures no k
    (sifted-held c.args.self.now c.self.inside.sieve c.args.bytes.now k
    (subst (λ (names : List (List ℕ)). AreSifted names c.self.inside.sieve) c.self.view_is
    c.self.invariant.1) held)))
