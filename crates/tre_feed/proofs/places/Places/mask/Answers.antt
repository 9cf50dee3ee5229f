use Rattle.std.proofs.Common.{◌≡◌, ◌-◌, ◌^◌, ◌<◌, length, sym, ap, ◌∙◌, arith, bit_and}
use Rattle.std.proofs.Math.Nat.{mod-eq_of_lt}
use Rattle.std.proofs.lemmas.Nat.{and_mask, pow_pos}
use Rattle.tre_feed.proofs.Among.{bits_at-order}
use Rattle.tre_feed.proofs.places.Places.mask.Goals as goal

pub returns-clause-bits : goal.returns-clause-bits
returns-clause-bits c = λ bits.
    let places = c.args.self.now.places in
    let count : c.len.result ≡ length places.items = omega (arith, c.len.ensures, places.ok.0) in
    ap (bit_and bits) (c.all_below.ensures ∙ ap (λ place. 2 ^ place - 1) count)
    ∙ (and_mask bits (length places.items)
    ∙ sym (bits_at-order places.items bits (c.args.self.now.order.0 c.if-not-self.false)))

pub returns-clause-all : goal.returns-clause-all
returns-clause-all c = λ bits small.
    let places = c.args.self.now.places in
    let count : c.len.result ≡ length places.items = omega (arith, c.len.ensures, places.ok.0) in
    let mask = c.all_below.ensures ∙ ap (λ place. 2 ^ place - 1) count in
    let below : bits < 2 ^ length places.items =
    omega (arith, small, mask, pow_pos (length places.items)) in
    bits_at-order places.items bits (c.args.self.now.order.0 c.if-not-self.false)
    ∙ mod-eq_of_lt below
