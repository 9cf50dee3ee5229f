use Rattle.std.proofs.Common.{◌≡◌, ◌∷◌, [], length, arith}
use Rattle.std.proofs.lemmas.List.{length-append, with_items_is}
use Rattle.tre_trace.proofs.Starts.{AreStarts-push}
use Rattle.tre_trace.proofs.Words.{AreWordsOf-written}
use Rattle.tre_trace.proofs.Beside.{written_all}
use Rattle.tre_trace.proofs.planes.Planes.write.Goals as goal

pub returns : goal.returns
returns c segments segment same_place same_valuation beside =
    let own = c.args.self.now.own in
    let new = c.write.new.own in
    let room = rw (← same_place, ← same_valuation) at c.requires.room in
    let written =
    rw (← same_place, ← same_valuation, c.deref_mut.ensures.value) at c.write.ensures in
    let same : length new ≡ own.len = omega (arith, c.write.auto.own, c.deref_mut.ensures.len) in
    let same_items : length new ≡ length own.items =
    rw c.deref_mut.ensures.value at c.write.auto.own in
    record {
      starts = AreStarts-push segments segment _ beside.starts room.starts;
      blank_enough = omega (arith, room.blank, length-append segments (segment ∷ []));
      blank_bits = beside.blank_bits;
      few = rw (with_items_is own new same) (omega (arith, beside.few, same_items));
      own = λ number below.
          rw (with_items_is own new same)
          (AreWordsOf-written number segments segment _ _ (beside.own number below)
          (room.own number below)
          (written_all own.items new (length segments) segment.val same_items written room.own
          number below));
    }
