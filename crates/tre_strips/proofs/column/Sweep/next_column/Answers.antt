use Rattle.std.proofs.Common.{refl, arith}
use Rattle.tre_strips.proofs.Sweeping.{IsSwept-more, IsSwept-behind, IsProfile-there, IsProfile-behind}
use Rattle.tre_strips.proofs.column.Sweep.next_column.Goals as goal

pub returns-clause-column : goal.returns-clause-column
returns-clause-column c =
    let swept = IsSwept-more c.args.zones.now c.args.self.now.open_zones.items
    c.add_all.new.all.items c.args.self.now.waiting c.first_waiting-next.result
    c.args.self.now.time c.first_waiting-next.ensures.rising c.first_waiting-next.ensures.count
    c.in_ok-add_all.ensures c.requires.swept in
    let one = c.in_ok-profile.ensures.narrowed in
    let many = c.in_ok-profile-2.ensures.narrowed in
    let later = c.next_begin.ensures.later in
    let rising = many.many later in
    let from = many.from in
    record {
      rising = omega arith;
      there = IsProfile-there c.args.zones.now c.add_all.new.all.items _
          c.first_waiting-next.result c.args.self.now.time c.next_begin.result
          c.profile.new.times.from c.profile.new.times.until one.from (one.single refl) swept
          later c.next_begin.ensures.first
          (rw c.deref.ensures.value at c.in_ok-profile.ensures.profile);
      behind = IsProfile-behind c.args.zones.now c.add_all.new.all.items
          c.close_zones.new.zones.items _ c.first_waiting-next.result c.args.self.now.time
          c.next_begin.result c.profile-2.new.times.from c.profile-2.new.times.until many.from
          rising many.until swept c.close_zones.ensures c.next_begin.ensures.first
          (rw c.deref-2.ensures.value at c.in_ok-profile-2.ensures.profile);
    }

pub returns-clause-swept : goal.returns-clause-swept
returns-clause-swept c =
    let swept = IsSwept-more c.args.zones.now c.args.self.now.open_zones.items
    c.add_all.new.all.items c.args.self.now.waiting c.first_waiting-next.result
    c.args.self.now.time c.first_waiting-next.ensures.rising c.first_waiting-next.ensures.count
    c.in_ok-add_all.ensures c.requires.swept in
    let many = c.in_ok-profile-2.ensures.narrowed in
    let rising = many.many c.next_begin.ensures.later in
    let from = many.from in
    IsSwept-behind c.args.zones.now c.add_all.new.all.items
    c.close_zones.new.zones.items c.first_waiting-next.result c.args.self.now.time
    c.profile-2.new.times.until (omega arith) c.close_zones.ensures swept
