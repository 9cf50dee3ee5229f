use Rattle.std.proofs.Common.{arith, ◌^◌}
use Rattle.std.proofs.lemmas.Int.{ints}
use Rattle.tre_zone.proofs.Bounds.{IsValueWithin-key}
use Rattle.tre_star.proofs.power_limit.limit_of.Goals as goal

pub returns : goal.returns
returns c = record {
  begin = c.fitting.ensures.near;
  first_end = c.fitting.ensures.far;
  end = c.fitting-2.ensures.near;
  last_begin = c.fitting-2.ensures.far;
  lasts = c.at_least.ensures.value;
  weakness = c.at_least.ensures.weakness;
  values = record {
    begin_low = IsValueWithin-key (2 ^ 42) (2 ^ 42) (omega arith) _ c.fitting.ensures.key;
    begin_high = record {
      low = omega (arith, ints, c.weak-free.ensures.value);
      high = omega (arith, ints, c.weak-free.ensures.value);
    };
    end_low = record {
      low = omega (arith, ints, c.weak.ensures.value);
      high = omega (arith, ints, c.weak.ensures.value);
    };
    end_high = IsValueWithin-key (2 ^ 42) (2 ^ 42) (omega arith) _ c.fitting-2.ensures.key;
    dur_low = record {
      low = omega (arith, ints, c.at_least.ensures.value, c.requires.limit);
      high = omega (arith, ints, c.at_least.ensures.value, c.requires.limit);
    };
    dur_high = record {
      low = omega (arith, ints, c.weak-free.ensures.value);
      high = omega (arith, ints, c.weak-free.ensures.value);
    };
  };
}
