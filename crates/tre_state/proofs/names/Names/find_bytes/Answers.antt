use Rattle.std.proofs.Common.{◌≡◌, ℕ, List, subst, ap, ◌∙◌, arith}
use Rattle.std.specs.Int.{bit_at}
use Rattle.std.proofs.lemmas.Nat.Bits.{bit_at-zero}
use Rattle.tre_state.specs.Sieve.{AreSifted}
use Rattle.tre_state.proofs.Places.{place-none}
use Rattle.tre_state.proofs.Sieving.{sifted-held}
use Rattle.tre_state.proofs.names.Names.find_bytes.Goals as goal

pub returns-then-numbers-eq0-clause-place : goal.returns-then-numbers-eq0-clause-place
returns-then-numbers-eq0-clause-place c =
    place-none c.args.self.now c.args.bytes.now (λ k held.
    let one : bit_at c.numbers-numbers.result k ≡ 1 =
    c.numbers-numbers.ensures k
    (sifted-held c.args.self.now c.self.inside.sieve c.args.bytes.now k
    (subst (λ (names : List (List ℕ)). AreSifted names c.self.inside.sieve) c.self.view_is
    c.self.invariant.1) held) in
    let none : bit_at c.numbers-numbers.result k ≡ 0 =
    ap (λ bits. bit_at bits k) c.if-numbers-eq0.true ∙ bit_at-zero k in
    absurd (omega (arith, one, none)))

pub find_among-requires-clause-among : goal.find_among-requires-clause-among
find_among-requires-clause-among c = λ k held.
    c.numbers-numbers.ensures k
    (sifted-held c.args.self.now c.self.inside.sieve c.args.bytes.now k
    (subst (λ (names : List (List ℕ)). AreSifted names c.self.inside.sieve) c.self.view_is
    c.self.invariant.1) held)
