-- Zones without what the ones before them hold.
use Rattle.std.proofs.Common.{◌≡◌, ℕ, ◌+◌, ◌-◌, ◌^◌, ◌<◌, ◌≤◌, ◌⊎◌, ◌↔◌, List, [], length, get_or, take, Option, Some, None, ℤ, pos, neg_ℤ, ◌+ℤ◌, ◌-ℤ◌, ◌*ℤ◌, ◌≤ℤ◌, sym, subst, arith, inl, inr, ⊎_elim, rules}
use Rattle.std.specs.Int.{int_min}
use Rattle.std.proofs.lemmas.Int.{ints, by_lt_z}
use Rattle.std.proofs.lemmas.List.{take_all}
use Rattle.tre_pairs.specs.Pairs.{Pairs, Both}
use Rattle.tre_pairs.specs.declared.TheConstants.{TIME_MAX}
use Rattle.tre_zone.specs.Bound.{value_of, weakness_of, Meets, IsKeyWithin, IsValueWithin}
use Rattle.tre_zone.specs.Zone.{ZoneHolds, AreKeysWithin, AreValuesWithin, Covers, IsCanonical, Includes, GivesZone, IsInFrame}
use Rattle.tre_zone.specs.ZoneList.{SetHolds, HoldExactly, AreCanonical}
use Rattle.tre_zone.specs.declared.zone_bounds.ZoneBounds.{ZoneBounds}
use Rattle.tre_zone.proofs.Bounds.{split, split-unique, Splits, IsValueWithin-key}
use Rattle.tre_zone.proofs.Given.{GivesZone-same}
use Rattle.tre_zone.proofs.Paths.{Meets-looser, Meets-min}
use Rattle.tre_zone.proofs.Scaling.{canonical-frame}
use Rattle.tre_zoneset.specs.ZoneSet.{FoundHolds}
use Rattle.tre_zoneset.proofs.Members.{SetHolds-more}
use Rattle.tre_zoneset.proofs.Unions.{FoundHolds-exact}
use Rattle.tre_strips.specs.Spun.{HaveSamePairs}
use Rattle.tre_strips.specs.Trim.{Trims, TrimsBehind, Early, Late, bounds_by, IsEarlyHeld}
use Rattle.tre_strips.proofs.Spinning.{set_framed}

-- ---- a bound and what is behind it

Meets-decided : (key : ℤ) (p q n : ℕ) → Meets key p q n ⊎ (Meets key p q n → ⊥)
Meets-decided key p q n = search rules

times_none : (value : ℤ) (n : ℕ) → (value *ℤ pos n) +ℤ (neg_ℤ value *ℤ pos n) ≡ pos 0
times_none value n = search rules

Meets-behind : (key : ℤ) (a n : ℕ) → Meets (pos 1 -ℤ key) 0 a n ↔ (Meets key a 0 n → ⊥)
Meets-behind key a n =
    let own = split key in
    let parts : Splits (pos 1 -ℤ key) (neg_ℤ (value_of key)) (1 - weakness_of key) =
    record { whole = omega (arith, ints); small = omega arith } in
    let one = split-unique (pos 1 -ℤ key) (neg_ℤ (value_of key)) (1 - weakness_of key) parts in
    let sum = times_none (value_of key) n in (
      (λ m. λ early.
          let late = rw (one.0, one.1) at m.met in
          let met = early.met in
          absurd (omega (arith, ints))),
      (λ not_early. record {
        met = rw (one.0, one.1)
            (by_lt_z (pos a) ((pos 0 +ℤ (value_of key *ℤ pos n)) +ℤ pos (weakness_of key))
            (λ lt. absurd (not_early (record { met = lt })))
            (λ not_lt. omega (arith, ints)));
      }),
    )

-- ---- parts of a zone

-- The bounds of a zone, but for those on its begins.
abbrev pub begun : ZoneBounds → ℤ → ℤ → ZoneBounds
begun zone low high = record {
  begin_low = low;
  begin_high = high;
  end_low = zone.end_low;
  end_high = zone.end_high;
  dur_low = zone.dur_low;
  dur_high = zone.dur_high;
}

-- Such bounds give the pairs of the zone that begin as they should.
module _ (zone : ZoneBounds) (low high : ℤ) (Begins : ℕ → ℕ → Type 0) (P : Pairs)
    (canonical : IsCanonical zone)
    (both : (a n : ℕ) → 0 < n → (Meets low 0 a n × Meets high a 0 n)
    ↔ ((Meets zone.begin_low 0 a n × Meets zone.begin_high a 0 n) × Begins a n))
    (is : (a b n : ℕ) → P a b n ↔ (ZoneHolds zone a b n × Begins a n)) where
  begun-given : (found : Option ZoneBounds)
      → GivesZone found (Both (ZoneHolds (begun zone low high)) (IsInFrame TIME_MAX))
      → GivesZone found P
  begun-given found given = search (rules, GivesZone-same, canonical-frame, canonical)

pub early_given : (zone : ZoneBounds) (last : ℤ) (found : Option ZoneBounds) (high : ℤ)
    → IsCanonical zone → high ≡ int_min zone.begin_high last
    → GivesZone found (Both (ZoneHolds (begun zone zone.begin_low high)) (IsInFrame TIME_MAX))
    → GivesZone found (Early zone last)
early_given zone last found high canonical is given =
    begun-given zone zone.begin_low high (λ a n. Meets last a 0 n) (Early zone last) canonical
    (λ a n some.
    let less : Meets high a 0 n ↔ (Meets zone.begin_high a 0 n × Meets last a 0 n) =
    subst (λ (k : ℤ). Meets k a 0 n ↔ (Meets zone.begin_high a 0 n × Meets last a 0 n)) (sym is)
    (Meets-min zone.begin_high last a 0 n some) in (
      (λ m. let parts = less.0 m.1 in ((m.0, parts.0), parts.1)),
      (λ m. (m.0.0, less.1 (m.0.1, m.1))),
    ))
    (λ a b n. ((λ e. (e.held, e.begins)), (λ e. record { held = e.0; begins = e.1 })))
    found given

pub late_given : (zone : ZoneBounds) (last : ℤ) (found : Option ZoneBounds) (low : ℤ)
    → IsCanonical zone → low ≡ int_min zone.begin_low (pos 1 -ℤ last)
    → GivesZone found (Both (ZoneHolds (begun zone low zone.begin_high)) (IsInFrame TIME_MAX))
    → GivesZone found (Late zone last)
late_given zone last found low canonical is given =
    begun-given zone low zone.begin_high (λ a n. Meets last a 0 n → ⊥) (Late zone last) canonical
    (λ a n some.
    let less : Meets low 0 a n ↔ (Meets zone.begin_low 0 a n × Meets (pos 1 -ℤ last) 0 a n) =
    subst (λ (k : ℤ). Meets k 0 a n
    ↔ (Meets zone.begin_low 0 a n × Meets (pos 1 -ℤ last) 0 a n)) (sym is)
    (Meets-min zone.begin_low (pos 1 -ℤ last) 0 a n some) in
    let turned = Meets-behind last a n in (
      (λ m. let parts = less.0 m.0 in ((parts.0, m.1), turned.0 parts.1)),
      (λ m. (less.1 (m.0.0, turned.1 m.1), m.0.1)),
    ))
    (λ a b n. ((λ e. (e.held, e.begins)), (λ e. record { held = e.0; begins = e.1 })))
    found given

-- ---- what is left of a zone

-- Looser keys hold more.
pub IsEarlyHeld-covered : (zone other : ZoneBounds) (last : ℤ)
    → Covers other (bounds_by zone last) → IsEarlyHeld zone other last
IsEarlyHeld-covered zone other last covers = record {
  held = λ a b n some le e.
      let z = e.held in
      record {
        begin_low = Meets-looser _ _ _ _ n some covers.begin_low z.begin_low;
        begin_high = Meets-looser _ _ _ _ n some covers.begin_high e.begins;
        end_low = Meets-looser _ _ _ _ n some covers.end_low z.end_low;
        end_high = Meets-looser _ _ _ _ n some covers.end_high z.end_high;
        dur_low = Meets-looser _ _ _ _ n some covers.dur_low z.dur_low;
        dur_high = Meets-looser _ _ _ _ n some covers.dur_high z.dur_high;
      };
}

pub IsEarlyHeld-some : (zone other early : ZoneBounds) (last : ℤ)
    → GivesZone (Some early) (Early zone last) → Includes other early
    → IsEarlyHeld zone other last
IsEarlyHeld-some zone other early last is includes = search rules

pub IsEarlyHeld-none : (zone other : ZoneBounds) (last : ℤ)
    → GivesZone None (Early zone last) → IsEarlyHeld zone other last
IsEarlyHeld-none zone other last none = search rules

pub TrimsBehind-late : (zone other : ZoneBounds) (last : ℤ) (rest : Option ZoneBounds)
    → IsEarlyHeld zone other last → GivesZone rest (Late zone last)
    → TrimsBehind zone other rest
TrimsBehind-late zone other last rest early late = record {
  within = λ a b n some le h.
      ((FoundHolds-exact rest (Late zone last) late a b n some le).0 h).held;
  covers = λ a b n some le h. ⊎_elim
      (λ m. inl (early.held a b n some le (record { held = h; begins = m })))
      (λ not_early. inr ((FoundHolds-exact rest (Late zone last) late a b n some le).1
      (record { held = h; begins = not_early }))) (Meets-decided last a 0 n);
}

pub TrimsBehind-itself : (zone other : ZoneBounds) → TrimsBehind zone other (Some zone)
unfolding FoundHolds
TrimsBehind-itself zone other = search rules

pub Trims-none : (zone : ZoneBounds) → Trims zone None (Some zone)
unfolding FoundHolds
Trims-none zone = search rules

pub Trims-some : (zone other : ZoneBounds) (rest : Option ZoneBounds)
    → TrimsBehind zone other rest → Trims zone (Some other) rest
unfolding FoundHolds
Trims-some zone other rest behind = search rules

-- ---- the list

-- The list holds what the first zones do, and the one before is among these.
pub record IsTrimmed (zones : List ZoneBounds) (before : Option ZoneBounds)
    (kept : List ZoneBounds) : Type 0 where
  pub canonical : AreCanonical kept
  pub held : HoldExactly kept (SetHolds zones)
  pub last : (a b n : ℕ) → FoundHolds before a b n → SetHolds zones a b n

pub IsTrimmed-none : IsTrimmed [] None []
unfolding AreCanonical FoundHolds
IsTrimmed-none = search rules

pub IsTrimmed-more : (zones : List ZoneBounds) (i : ℕ) (zone : ZoneBounds)
    (before rest : Option ZoneBounds) (old new : List ZoneBounds) → i < length zones
    → zone ≡ get_or zones i zone → IsTrimmed (take i zones) before old
    → Trims zone before rest
    → ((a b n : ℕ) → SetHolds new a b n ↔ (SetHolds old a b n ⊎ FoundHolds rest a b n))
    → (AreCanonical old → AreCanonical new)
    → IsTrimmed (take (i + 1) zones) (Some zone) new
unfolding FoundHolds
IsTrimmed-more zones i zone before rest old new within is now trims held canonical = record {
  canonical = canonical now.canonical;
  held = record {
    exact = λ a b n some le.
        let more = SetHolds-more zones i zone within is a b n in
        let was = now.held.exact a b n some le in
        let push = held a b n in (
          (λ h. more.1 (⊎_elim (λ x. inl (was.0 x))
              (λ x. inr (trims.within a b n some le x)) (push.0 h))),
          (λ h. push.1 (⊎_elim (λ x. inl (was.1 x))
              (λ x. ⊎_elim (λ y. inl (was.1 (now.last a b n y))) (λ y. inr y)
              (trims.covers a b n some le x)) (more.0 h))),
        );
  };
  last = λ a b n h. (SetHolds-more zones i zone within is a b n).1 (inr h);
}

pub IsTrimmed-all : (zones : List ZoneBounds) (i : ℕ) (before : Option ZoneBounds)
    (kept : List ZoneBounds) → length zones ≤ i → IsTrimmed (take i zones) before kept
    → HoldExactly kept (SetHolds zones)
IsTrimmed-all zones i before kept past now =
    subst (λ (l : List ZoneBounds). HoldExactly kept (SetHolds l)) (take_all i zones past) now.held

pub HaveSamePairs-exact : (set kept : List ZoneBounds) → AreCanonical set → AreCanonical kept
    → HoldExactly kept (SetHolds set) → HaveSamePairs set kept
HaveSamePairs-exact set kept canonical canonical' held =
    search (rules, held, set_framed, canonical, held.exact)

pub HaveSamePairs-trans : (one two three : List ZoneBounds) → HaveSamePairs one two
    → HaveSamePairs two three → HaveSamePairs one three
HaveSamePairs-trans one two three first second = search rules

-- ---- bounds within limits

within_min : (limit : ℕ) (one other : ℤ) → IsKeyWithin limit one → neg_ℤ (pos limit) ≤ℤ other
    → IsKeyWithin limit (int_min one other)
within_min limit one other within low = search rules

pub value_min : (one other key : ℤ) → key ≡ int_min one other → IsKeyWithin (2 ^ 42) one
    → neg_ℤ (pos (2 ^ 42)) ≤ℤ other → IsValueWithin (2 ^ 42) key
value_min one other key is within low =
    rw is (IsValueWithin-key (2 ^ 42) (2 ^ 42) (omega arith) (int_min one other)
    (within_min (2 ^ 42) one other within low))

pub value_of_key : (key : ℤ) → IsKeyWithin (2 ^ 42) key → IsValueWithin (2 ^ 42) key
value_of_key key within = IsValueWithin-key (2 ^ 42) (2 ^ 42) (omega arith) key within

pub begun-values : (zone : ZoneBounds) (low high : ℤ) → AreKeysWithin (2 ^ 42) zone
    → IsValueWithin (2 ^ 42) low → IsValueWithin (2 ^ 42) high
    → AreValuesWithin (2 ^ 42) (begun zone low high)
begun-values zone low high keys is_low is_high = search (rules, value_of_key)
