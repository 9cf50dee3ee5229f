use Rattle.std.proofs.Common.{◌≡◌, length, arith}
use Rattle.std.proofs.lemmas.List.{with_items_is}
use Rattle.tre_trace.proofs.Beside.{IsStretched-refl, beside_longer, room_all}
use Rattle.tre_trace.proofs.planes.Planes.make_room.Goals as goal

pub returns-in_err-begin_block-clause-beside : goal.returns-in_err-begin_block-clause-beside
returns-in_err-begin_block-clause-beside c = λ segments count end beside.
    beside_longer segments c.args.self.now _ beside
    (c.begin_block.ensures.starts segments count end beside.starts) (IsStretched-refl _ _)
    beside.few (λ number. IsStretched-refl _ _)

pub returns-in_err-stretch-clause-beside : goal.returns-in_err-stretch-clause-beside
returns-in_err-stretch-clause-beside c = λ segments count end beside.
    beside_longer segments c.args.self.now _ beside
    (c.begin_block.ensures.starts segments count end beside.starts)
    (rw count at c.stretch.ensures.stretched) beside.few (λ number. IsStretched-refl _ _)

pub returns-in_err-widen-clause-beside : goal.returns-in_err-widen-clause-beside
returns-in_err-widen-clause-beside c = λ segments count end beside.
    beside_longer segments c.args.self.now _ beside
    (c.begin_block.ensures.starts segments count end beside.starts)
    (rw count at c.stretch.ensures.stretched) c.widen.ensures.few
    (λ number. rw (c.widen.ensures.same number) (IsStretched-refl _ _))

pub returns-in_err-make_room-clause-beside : goal.returns-in_err-make_room-clause-beside
returns-in_err-make_room-clause-beside c = λ segments count end beside.
    let own = c.widen.new.own in
    let new = c.make_room.new.own in
    let same : length new ≡ own.len =
    omega (arith, c.make_room.auto.own, c.deref_mut.ensures.len) in
    let same_items : length new ≡ length own.items =
    rw c.deref_mut.ensures.value at c.make_room.auto.own in
    beside_longer segments c.args.self.now _ beside
    (c.begin_block.ensures.starts segments count end beside.starts)
    (rw count at c.stretch.ensures.stretched)
    (rw (with_items_is own new same) (omega (arith, c.widen.ensures.few, same_items)))
    (λ number. rw (with_items_is own new same)
    (rw (count, c.deref_mut.ensures.value, c.widen.ensures.same number) at
    (c.make_room.ensures.stretched number)))

pub returns-clause-beside : goal.returns-clause-beside
returns-clause-beside c = λ segments count end beside.
    let own = c.widen.new.own in
    let new = c.make_room.new.own in
    let same : length new ≡ own.len =
    omega (arith, c.make_room.auto.own, c.deref_mut.ensures.len) in
    let same_items : length new ≡ length own.items =
    rw c.deref_mut.ensures.value at c.make_room.auto.own in
    beside_longer segments c.args.self.now _ beside
    (c.begin_block.ensures.starts segments count end beside.starts)
    (rw count at c.stretch.ensures.stretched)
    (rw (with_items_is own new same) (omega (arith, c.widen.ensures.few, same_items)))
    (λ number. rw (with_items_is own new same)
    (rw (count, c.deref_mut.ensures.value, c.widen.ensures.same number) at
    (c.make_room.ensures.stretched number)))

pub returns-clause-room : goal.returns-clause-room
returns-clause-room c =
    let own = c.widen.new.own in
    let new = c.make_room.new.own in
    let same : length new ≡ own.len =
    omega (arith, c.make_room.auto.own, c.deref_mut.ensures.len) in
    let same_items : length new ≡ length own.items =
    rw c.deref_mut.ensures.value at c.make_room.auto.own in
    record {
      starts = c.in_ok-begin_block.ensures.room;
      blank = omega (arith, c.in_ok-stretch.ensures.ok);
      own =
          rw (with_items_is own new same)
          (room_all new c.args.count c.args.valuation
          (rw (← same_items) at c.in_ok-widen.ensures.all) c.in_ok-make_room.ensures.ok);
    }
