use Rattle.std.proofs.Common.{◌≡◌, ◌≢◌, Some, true, subst, ap, ◌∙◌, arith}
use Rattle.std.specs.Prelude.{slice_get}
use Rattle.std.specs.Int.{bit_at}
use Rattle.std.proofs.lemmas.Nat.Bits.{bit_at-zero}
use Rattle.tre_state.proofs.Places.{place-held, place-none}
use Rattle.tre_state.proofs.names.Names.find_among.Goals as goal

pub loop-left-preserved : goal.loop-left-preserved
loop-left-preserved c = λ k held.
    let number = c.lowest-number.result in
    let other : k ≢ number = λ same.
    let yes : c.has_bytes.result ≡ true =
    c.has_bytes.ensures.1
    (subst (λ n. slice_get c.args.self.now n ≡ Some c.args.bytes.now) same held) in
    let isnt = c.if-has_bytes.false in
    cc in
    c.without-left.ensures.kept k other (c.loop-left.invariant k held)

pub returns-then-has_bytes : goal.returns-then-has_bytes
returns-then-has_bytes c =
    place-held c.args.self.now c.args.bytes.now c.lowest-number.result c.requires.list.distinct
    (c.has_bytes.ensures.0 c.if-has_bytes.true)

pub returns : goal.returns
returns c =
    place-none c.args.self.now c.args.bytes.now (λ k held.
    let one : bit_at c.loop-left.left k ≡ 1 = c.loop-left.invariant k held in
    let none : bit_at c.loop-left.left k ≡ 0 =
    ap (λ bits. bit_at bits k) c.loop-left-test.false ∙ bit_at-zero k in
    absurd (omega (arith, one, none)))
