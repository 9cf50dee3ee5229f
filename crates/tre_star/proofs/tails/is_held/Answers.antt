use Rattle.std.proofs.Common.{◌*◌, ◌^◌, arith}
use Rattle.std.proofs.Math.Nat.{mul-pos}
use Rattle.tre_zone.proofs.Bounds.{IsValueWithin-key}
use Rattle.tre_star.proofs.Behind.{made_holds, never_made, all_held}
use Rattle.tre_star.proofs.tails.is_held.Goals as goal

pub new-requires : goal.new-requires
new-requires c =
    let keys = c.requires.keys in
    record {
      begin_low = IsValueWithin-key (2 ^ 42) (2 ^ 42) (omega arith) _ keys.begin_low;
      begin_high = IsValueWithin-key (2 ^ 42) (2 ^ 42) (omega arith) _ keys.begin_high;
      end_low = IsValueWithin-key (2 ^ 42) (2 ^ 42) (omega arith) _ keys.end_low;
      end_high = IsValueWithin-key (2 ^ 42) (2 ^ 42) (omega arith) _ keys.end_high;
      dur_low = IsValueWithin-key (2 ^ 42) (2 ^ 42) (omega arith) _ keys.dur_low;
      dur_high = IsValueWithin-key (2 ^ 42) (2 ^ 42) (omega arith) _ keys.dur_high;
    }

pub returns-in-Some : goal.returns-in-Some
returns-in-Some c = λ yes zones canonical takes a b n some le h.
    all_held c.args.longest c.args.zone.now c.in-Some.rest c.composed_up_to.result
    c.args.found.now zones
    (made_holds c.args.rest.now c.new.result c.new.ensures c.in-Some.rest c.in-Some.is zones
    canonical takes)
    c.composed_up_to.ensures (c.is_among.ensures yes) a b n some le h

pub returns-in-None : goal.returns-in-None
returns-in-None c = λ yes zones canonical takes a b n some le h.
    absurd (never_made c.args.rest.now c.new.result c.new.ensures c.in-None.is zones canonical
    takes h.related.midpoint (h.related.factor * b) (h.related.factor * n)
    (mul-pos h.related.positive some) h.related.right)
