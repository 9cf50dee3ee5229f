use Rattle.std.proofs.Common.{◌≡◌, ℕ, ◌-◌, ◌∙◌, ap, arith}
use Rattle.std.proofs.lemmas.Result.{IfOk-weaker}
use Rattle.std.specs.Int.{bit_at}
use Rattle.tre_packed.specs.Events.{events_at}
use Rattle.tre_packed.specs.Said.{said_bit}
use Rattle.tre_packed.specs.Unpacked.{unpacked}
use Rattle.tre_trace.specs.Planes.{words_for}
use Rattle.tre_packed.proofs.Sayings.{said_is, said_within}
use Rattle.tre_packed.proofs.blocks.Blocks.event_plane.Goals as goal

pub said_plane-requires-clause-within : goal.said_plane-requires-clause-within
said_plane-requires-clause-within c =
    let pack = c.requires.pack in
    rw (c.deref.ensures.value, pack.said)
    (said_within 0 (unpacked c.args.self.now) c.len.result
    (omega (arith, c.len.ensures, pack.offsets.size)))

pub returns : goal.returns
returns c =
    let pack = c.requires.pack in
    let segments = unpacked c.args.self.now in
    let number = c.args.number in
    IfOk-weaker c.said_plane.result _ _
    (λ words told. record {
      size = told.size ∙ ap words_for (c.len.ensures ∙ pack.offsets.size);
      bits = λ place.
          told.bits place
          ∙ ap (λ said. said_bit said place number) (c.deref.ensures.value ∙ pack.said)
          ∙ said_is number 0 segments place (omega arith)
          ∙ ap (λ k. bit_at (events_at segments k) number) (from_none place);
    })
    c.said_plane.ensures where
      from_none : (place : ℕ) → place - 0 ≡ place
      from_none place = omega arith
