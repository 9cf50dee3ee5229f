-- Zones: sets of pairs of times under six bounds.
use Rattle.std.specs.Prelude.{ℕ, ◌+◌, ◌-◌, ◌*◌, ◌<◌, ◌≤◌, ◌≡◌, ◌↔◌, List, [], ◌∷◌, ℤ, pos, ◌-ℤ◌, ◌≤ℤ◌, neg_ℤ, Option, MatchOption}
use Rattle.tre_pairs.specs.Pairs.{Pairs}
use Rattle.tre_pairs.specs.declared.TheConstants.{TIME_MAX}
use Rattle.tre_zone.specs.Bound.{sum_of, Meets, IsKeyWithin, IsValueWithin}
use Rattle.tre_zone.specs.declared.zone_bounds.ZoneBounds.{ZoneBounds}

-- The zone holds the pair of the times a/n and b/n: its six bounds hold of -a, a, -b, b, a - b and
-- b - a, in units of 1/n.
pub record ZoneHolds (zone : ZoneBounds) (a b n : ℕ) : Type 0 where
  pub begin_low : Meets zone.begin_low 0 a n
  pub begin_high : Meets zone.begin_high a 0 n
  pub end_low : Meets zone.end_low 0 b n
  pub end_high : Meets zone.end_high b 0 n
  pub dur_low : Meets zone.dur_low a b n
  pub dur_high : Meets zone.dur_high b a n

-- Every pair of the inner zone, at every denominator, is in the outer one.
pub record Includes (outer inner : ZoneBounds) : Type 0 where
  pub every : (a b n : ℕ) → 0 < n → a ≤ b → ZoneHolds inner a b n → ZoneHolds outer a b n

-- Each key of the outer zone is at least the inner one's.
pub record Covers (outer inner : ZoneBounds) : Type 0 where
  pub begin_low : inner.begin_low ≤ℤ outer.begin_low
  pub begin_high : inner.begin_high ≤ℤ outer.begin_high
  pub end_low : inner.end_low ≤ℤ outer.end_low
  pub end_high : inner.end_high ≤ℤ outer.end_high
  pub dur_low : inner.dur_low ≤ℤ outer.dur_low
  pub dur_high : inner.dur_high ≤ℤ outer.dur_high

-- Each difference has room between its two bounds: together they bound nothing by less than 0.
pub record LeavesRoom (zone : ZoneBounds) : Type 0 where
  pub begin_loop : pos 1 ≤ℤ sum_of zone.begin_low zone.begin_high
  pub end_loop : pos 1 ≤ℤ sum_of zone.end_low zone.end_high
  pub dur_loop : pos 1 ≤ℤ sum_of zone.dur_low zone.dur_high

-- Each bound is no looser than the way round through the third time.
pub record IsClosed (zone : ZoneBounds) : Type 0 where
  pub begin_low : zone.begin_low ≤ℤ sum_of zone.end_low zone.dur_high
  pub begin_high : zone.begin_high ≤ℤ sum_of zone.dur_low zone.end_high
  pub end_low : zone.end_low ≤ℤ sum_of zone.begin_low zone.dur_low
  pub end_high : zone.end_high ≤ℤ sum_of zone.dur_high zone.begin_high
  pub dur_low : zone.dur_low ≤ℤ sum_of zone.begin_high zone.end_low
  pub dur_high : zone.dur_high ≤ℤ sum_of zone.end_high zone.begin_low

-- The bounds keep each pair in the frame: 0 ≤ begin ≤ end ≤ TIME_MAX.
pub record IsFramed (zone : ZoneBounds) : Type 0 where
  pub starts : zone.begin_low ≤ℤ pos 1
  pub ends : zone.end_high ≤ℤ pos (2 * TIME_MAX + 1)
  pub lasts : zone.dur_low ≤ℤ pos 1

-- The canonical bounds: those of a zone that is not empty, lies in the frame of the times that can
-- be named, and has for each difference the tightest bound that its other bounds allow.
pub record IsCanonical (zone : ZoneBounds) : Type 0 where
  pub room : LeavesRoom zone
  pub closed : IsClosed zone
  pub framed : IsFramed zone

-- The bounds of the pairs with begin ≤ t < t' ≤ end, in the line of a zone `[begin,end) (begin,end]
-- (0,end-begin]`.
unfoldable pub span_of : ℕ → ℕ → ZoneBounds
span_of begin end = record {
  begin_low = pos 1 -ℤ pos (2 * begin);
  begin_high = pos (2 * end);
  end_low = neg_ℤ (pos (2 * begin));
  end_high = pos (2 * end + 1);
  dur_low = pos 0;
  dur_high = pos (2 * (end - begin) + 1);
}

-- The bounds of the instants (t,t) with from ≤ t ≤ to, in the line of a zone `[from,to] [from,to]
-- [0,0]`.
unfoldable pub instants_of : ℕ → ℕ → ZoneBounds
instants_of from to = record {
  begin_low = pos 1 -ℤ pos (2 * from);
  begin_high = pos (2 * to + 1);
  end_low = pos 1 -ℤ pos (2 * from);
  end_high = pos (2 * to + 1);
  dur_low = pos 1;
  dur_high = pos 1;
}

-- The bounds of the pairs (from,t') with from ≤ t' ≤ to, in the line of a zone
-- `[from,from] [from,to] [0,to - from]`.
unfoldable pub onward_of : ℕ → ℕ → ZoneBounds
onward_of from to = record {
  begin_low = pos 1 -ℤ pos (2 * from);
  begin_high = pos (2 * from + 1);
  end_low = pos 1 -ℤ pos (2 * from);
  end_high = pos (2 * to + 1);
  dur_low = pos 1;
  dur_high = pos (2 * (to - from) + 1);
}

-- The pairs with begin ≤ t < t' ≤ end.
pub record IsInSpan (begin end a b n : ℕ) : Type 0 where
  pub starts : begin * n ≤ a
  pub lasts : a < b
  pub ends : b ≤ end * n

-- The pair is an instant (t,t) with from ≤ t ≤ to.
pub record IsInstantBetween (from to a b n : ℕ) : Type 0 where
  pub starts : from * n ≤ a
  pub same : a ≡ b
  pub ends : b ≤ to * n

-- The pair begins at the time `from` and ends from then to the time `to`.
pub record IsOnward (from to a b n : ℕ) : Type 0 where
  pub starts : a ≡ from * n
  pub rising : a ≤ b
  pub ends : b ≤ to * n

-- The pair ends at the time t.
pub record EndsAt (t a b n : ℕ) : Type 0 where
  pub ends : b ≡ t * n

-- The pair lies in the frame of the times that can be named: 0 ≤ begin ≤ end ≤ limit.
pub record IsInFrame (limit a b n : ℕ) : Type 0 where
  pub rising : a ≤ b
  pub ends : b ≤ limit * n

pub record HoldsSome (zone : ZoneBounds) : Type 0 where
  pub a : ℕ
  pub b : ℕ
  pub n : ℕ
  pub some : 0 < n
  pub rising : a ≤ b
  pub held : ZoneHolds zone a b n

-- The key is the tightest for the difference of the two times that `left` and `right` pick from a
-- pair:
-- each bound that every pair of the zone meets has at least this key.
pub record IsTightest (zone : ZoneBounds) (key : ℤ) (left right : ℕ → ℕ → ℕ) : Type 0 where
  pub tightest : (other : ℤ) → ((a b n : ℕ) → 0 < n → a ≤ b → ZoneHolds zone a b n
      → Meets other (left a b) (right a b) n) → key ≤ℤ other

-- Each of the six bounds is the tightest that the pairs of the zone allow.
pub record IsTight (zone : ZoneBounds) : Type 0 where
  pub begin_low : IsTightest zone zone.begin_low (λ a b. 0) (λ a b. a)
  pub begin_high : IsTightest zone zone.begin_high (λ a b. a) (λ a b. 0)
  pub end_low : IsTightest zone zone.end_low (λ a b. 0) (λ a b. b)
  pub end_high : IsTightest zone zone.end_high (λ a b. b) (λ a b. 0)
  pub dur_low : IsTightest zone zone.dur_low (λ a b. a) (λ a b. b)
  pub dur_high : IsTightest zone zone.dur_high (λ a b. b) (λ a b. a)

-- The zone holds a pair, at every denominator, exactly where the relation holds of it.
pub record IsZoneOf (zone : ZoneBounds) (relation : Pairs) : Type 0 where
  pub exact : (a b n : ℕ) → 0 < n → a ≤ b → ZoneHolds zone a b n ↔ relation a b n

-- The relation holds of no pair, at any denominator.
pub record HasNoPair (relation : Pairs) : Type 0 where
  pub never : (a b n : ℕ) → 0 < n → a ≤ b → relation a b n → ⊥

-- The answer is the zone of exactly the pairs of the relation, and None where there are none.
abbrev pub GivesZone : Option ZoneBounds → Pairs → Type 0
GivesZone answer relation = MatchOption answer (HasNoPair relation) (λ zone. IsZoneOf zone relation)

-- Each key is a whole number from -limit to limit.
pub record AreKeysWithin (limit : ℕ) (zone : ZoneBounds) : Type 0 where
  pub begin_low : IsKeyWithin limit zone.begin_low
  pub begin_high : IsKeyWithin limit zone.begin_high
  pub end_low : IsKeyWithin limit zone.end_low
  pub end_high : IsKeyWithin limit zone.end_high
  pub dur_low : IsKeyWithin limit zone.dur_low
  pub dur_high : IsKeyWithin limit zone.dur_high

-- Each value is a whole number from -limit to limit.
pub record AreValuesWithin (limit : ℕ) (zone : ZoneBounds) : Type 0 where
  pub begin_low : IsValueWithin limit zone.begin_low
  pub begin_high : IsValueWithin limit zone.begin_high
  pub end_low : IsValueWithin limit zone.end_low
  pub end_high : IsValueWithin limit zone.end_high
  pub dur_low : IsValueWithin limit zone.dur_low
  pub dur_high : IsValueWithin limit zone.dur_high

-- The six keys in the order of the fields, and two zeros.
abbrev pub row_of : ZoneBounds → List ℤ
row_of zone =
    zone.begin_low ∷ zone.begin_high ∷ zone.end_low ∷ zone.end_high
    ∷ zone.dur_low ∷ zone.dur_high ∷ pos 0 ∷ pos 0 ∷ []
