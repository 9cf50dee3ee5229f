use Rattle.std.proofs.Common.{◌≡◌, ◌%◌, ◌^◌, length, sym, ap, ◌∙◌, arith}
use Rattle.tre_feed.specs.Taking.{bits_at}
use Rattle.tre_feed.proofs.Among.{seen-places, bits_at-order}
use Rattle.tre_feed.proofs.places.Places.seen.Goals as goal

pub returns-clause-at : goal.returns-clause-at
returns-clause-at c = rw c.deref.ensures.value at c.taken.ensures

pub returns-clause-seen : goal.returns-clause-seen
returns-clause-seen c asked all test are is =
    let places = c.args.self.now.places.items in
    (rw c.deref.ensures.value at c.taken.ensures)
    ∙ ap (bits_at places) is ∙ seen-places asked all places test are

pub returns-then-self-clause-at : goal.returns-then-self-clause-at
returns-then-self-clause-at c =
    let places = c.args.self.now.places in
    let count : c.len.result ≡ length places.items = omega (arith, c.len.ensures, places.ok.0) in
    c.bits_below.ensures
    ∙ ap (λ place. c.args.bits % 2 ^ place) count
    ∙ sym (bits_at-order places.items c.args.bits (c.args.self.now.order.0 c.if-self.true))

pub returns-then-self-clause-seen : goal.returns-then-self-clause-seen
returns-then-self-clause-seen c asked all test are is =
    let places = c.args.self.now.places in
    let count : c.len.result ≡ length places.items = omega (arith, c.len.ensures, places.ok.0) in
    c.bits_below.ensures
    ∙ ap (λ place. c.args.bits % 2 ^ place) count
    ∙ sym (bits_at-order places.items c.args.bits (c.args.self.now.order.0 c.if-self.true))
    ∙ ap (bits_at places.items) is ∙ seen-places asked all places.items test are
