-- The bars of zones over some times.
use Rattle.std.proofs.Common.{◌≡◌, ℕ, ◌+◌, ◌-◌, ◌*◌, ◌<◌, ◌≤◌, ◌↔◌, ◌==◌, Bool, true, false, cond, not, MatchBool, Option, Some, None, List, [], ◌∷◌, ◌++◌, length, get_or, take, nat_abs, ℤ, option_to_list, arith, inl, inr, ⊎_elim, rules}
use Rattle.std.proofs.lemmas.List.{take_all}
use Rattle.tre_zone.specs.Bound.{value_of, weakness_of}
use Rattle.tre_zone.specs.Zone.{ZoneHolds, IsCanonical}
use Rattle.tre_zone.specs.ZoneList.{SetHolds}
use Rattle.tre_zone.specs.declared.zone_bounds.ZoneBounds.{ZoneBounds}
use Rattle.tre_zone.proofs.Ranges.{canonical-ranges}
use Rattle.tre_zone.proofs.ZoneListLemmas.{SetHolds-empty}
use Rattle.tre_zoneset.proofs.Members.{SetHolds-more}
use Rattle.tre_strips.specs.Bar.{place_of}
use Rattle.tre_strips.specs.Profile.{IsProfile}
use Rattle.tre_strips.specs.Profiles.{low_of, bar_end_of, Begin, IsBarOf, AreFilledOver, AreBarsOf, IsUnionOfBars}
use Rattle.tre_strips.specs.Times.{Narrows, Compares, IsLater, IsEarlier}
use Rattle.tre_strips.specs.declared.bar.Bar.{Bar}
use Rattle.tre_strips.specs.declared.bar.BarEnd.{BarEnd}
use Rattle.tre_strips.specs.declared.times.Times.{Times}
use Rattle.tre_strips.proofs.Comparing.{Narrows-time}
use Rattle.tre_strips.proofs.Lists.{BarsHold-none, BarsHold-push, AreFilled-nil, AreFilled-push}

-- ---- a bound as a place

low_fixed : (weak : Bool) (v a n x : ℕ) → (2 * (v * n + 0) + cond (not weak) 1 0 ≤ 2 * x)
    ↔ MatchBool weak (v * n ≤ x) (v * n < x)
low_fixed true v a n x = ((λ h. omega arith), (λ h. omega arith))
low_fixed false v a n x = ((λ h. omega arith), (λ h. omega arith))

high_fixed : (weak : Bool) (v a n x : ℕ) → (2 * x < 2 * (v * n + 0) + cond weak 1 0)
    ↔ MatchBool weak (x ≤ v * n) (x < v * n)
high_fixed true v a n x = ((λ h. omega arith), (λ h. omega arith))
high_fixed false v a n x = ((λ h. omega arith), (λ h. omega arith))

low_moving : (weak : Bool) (v a n x : ℕ) → a ≤ x
    → (2 * (v * n + a) + cond (not weak) 1 0 ≤ 2 * x)
    ↔ MatchBool weak (v * n ≤ x - a) (v * n < x - a)
low_moving true v a n x le = ((λ h. omega arith), (λ h. omega arith))
low_moving false v a n x le = ((λ h. omega arith), (λ h. omega arith))

high_moving : (weak : Bool) (v a n x : ℕ) → a ≤ x
    → (2 * x < 2 * (v * n + a) + cond weak 1 0)
    ↔ MatchBool weak (x - a ≤ v * n) (x - a < v * n)
high_moving true v a n x le = ((λ h. omega arith), (λ h. omega arith))
high_moving false v a n x le = ((λ h. omega arith), (λ h. omega arith))

rises : (weak : Bool) (v a n x : ℕ) → 2 * (v * n + a) + cond (not weak) 1 0 ≤ 2 * x → a ≤ x
rises true v a n x h = omega arith
rises false v a n x h = omega arith

-- A pair of the zone, by the places of its bounds.
pub record AreBetween (zone : ZoneBounds) (a b n : ℕ) : Type 0 where
  pub begin_low : place_of (low_of zone.begin_low false) a n ≤ 2 * a
  pub begin_high : 2 * a < place_of (bar_end_of zone.begin_high false) a n
  pub end_low : place_of (low_of zone.end_low false) a n ≤ 2 * b
  pub end_high : 2 * b < place_of (bar_end_of zone.end_high false) a n
  pub dur_low : place_of (low_of zone.dur_low true) a n ≤ 2 * b
  pub dur_high : 2 * b < place_of (bar_end_of zone.dur_high true) a n

abbrev ticks : ℤ → ℕ
ticks key = nat_abs (value_of key)

pub zone_places : (zone : ZoneBounds) → IsCanonical zone → (a b n : ℕ) → 0 < n
    → ZoneHolds zone a b n ↔ AreBetween zone a b n
unfolding place_of
zone_places z canonical a b n some =
    let ranges = canonical-ranges z canonical a b n some in
    let begin_low = low_fixed (weakness_of z.begin_low == 1) (ticks z.begin_low) a n a in
    let begin_high = high_fixed (weakness_of z.begin_high == 1) (ticks z.begin_high) a n a in
    let end_low = low_fixed (weakness_of z.end_low == 1) (ticks z.end_low) a n b in
    let end_high = high_fixed (weakness_of z.end_high == 1) (ticks z.end_high) a n b in
    let dur_low = low_moving (weakness_of z.dur_low == 1) (ticks z.dur_low) a n b in
    let dur_high = high_moving (weakness_of z.dur_high == 1) (ticks z.dur_high) a n b in (
      (λ h.
          let r = ranges.0 h in record {
            begin_low = begin_low.1 r.begin.0;
            begin_high = begin_high.1 r.begin.1;
            end_low = end_low.1 r.end.0;
            end_high = end_high.1 r.end.1;
            dur_low = (dur_low r.rising).1 r.duration.0;
            dur_high = (dur_high r.rising).1 r.duration.1;
          }),
      (λ p.
          let le = rises (weakness_of z.dur_low == 1) (ticks z.dur_low) a n b p.dur_low in
          ranges.1 (record {
            rising = le;
            begin = (begin_low.0 p.begin_low, begin_high.0 p.begin_high);
            end = (end_low.0 p.end_low, end_high.0 p.end_high);
            duration = ((dur_low le).0 p.dur_low, (dur_high le).0 p.dur_high);
          })),
    )

-- ---- the bar of a zone

pub IsBarOf-outside : (times : Times) (zone : ZoneBounds) → IsCanonical zone
    → Begin false times zone.begin_low zone.begin_high → IsBarOf times zone None
IsBarOf-outside times zone canonical begins = record {
  each = λ a n time b h.
      let p = (zone_places zone canonical a b n time.some).0 h in
      begins.each a n time p.begin_low p.begin_high;
}

pub IsBarOf-empty : (mid late times : Times) (zone : ZoneBounds) (low high : BarEnd)
    → IsCanonical zone → Narrows mid times → Narrows late times
    → IsLater mid (low_of zone.end_low false) (low_of zone.dur_low true) low
    → IsEarlier late (bar_end_of zone.end_high false) (bar_end_of zone.dur_high true) high
    → Compares false times low high → IsBarOf times zone None
IsBarOf-empty mid late times zone low high canonical cut cut' later earlier above = record {
  each = λ a n time b h.
      let p = (zone_places zone canonical a b n time.some).0 h in
      let one = later.place a n (Narrows-time mid times cut a n time) in
      let other = earlier.place a n (Narrows-time late times cut' a n time) in
      let empty = above.told a n time in
      let end_low = p.end_low in
      let end_high = p.end_high in
      let dur_low = p.dur_low in
      let dur_high = p.dur_high in
      omega arith;
}

pub IsBarOf-some : (early mid late times : Times) (zone : ZoneBounds) (bar : Bar)
    → IsCanonical zone → Narrows early times → Narrows mid times → Narrows late times
    → Begin true early zone.begin_low zone.begin_high
    → IsLater mid (low_of zone.end_low false) (low_of zone.dur_low true) bar.low
    → IsEarlier late (bar_end_of zone.end_high false) (bar_end_of zone.dur_high true) bar.high
    → Compares true times bar.low bar.high → IsBarOf times zone (Some bar)
IsBarOf-some early mid late times zone bar canonical cut cut' cut'' begins later earlier less =
    record {
      each = λ a n time.
          let one = later.place a n (Narrows-time mid times cut' a n time) in
          let other = earlier.place a n (Narrows-time late times cut'' a n time) in
          let within = begins.each a n (Narrows-time early times cut a n time) in (
            less.told a n time,
            (λ b.
                let places = zone_places zone canonical a b n time.some in (
                  (λ h.
                      let low = h.low in
                      let high = h.high in
                      places.1 (record {
                        begin_low = within.0;
                        begin_high = within.1;
                        end_low = omega arith;
                        end_high = omega arith;
                        dur_low = omega arith;
                        dur_high = omega arith;
                      })),
                  (λ h.
                      let p = places.0 h in
                      let end_low = p.end_low in
                      let end_high = p.end_high in
                      let dur_low = p.dur_low in
                      let dur_high = p.dur_high in
                      record { low = omega arith; high = omega arith }),
                )),
          );
    }

-- The begin over the times, as an end that moves, tells whether it meets both bounds.
abbrev pub the_begin : BarEnd
the_begin = record { ticks = 0; moves = true; after = false }

at_begin : (a n : ℕ) → place_of the_begin a n ≡ 2 * a
unfolding place_of
at_begin a n = omega arith

pub Begin-before : (times : Times) (low high : ℤ) → Compares true times the_begin (low_of low false)
    → Begin false times low high
Begin-before times low high less = search (rules, at_begin, less.told)

pub Begin-told : (old times : Times) (low high : ℤ) (within : Bool) → Narrows old times
    → Compares false old the_begin (low_of low false)
    → Compares within times the_begin (bar_end_of high false) → Begin within times low high
Begin-told old times low high true cut above less = record {
  each = λ a n time.
      let at = at_begin a n in
      let from = above.told a n (Narrows-time old times cut a n time) in
      let until = less.told a n time in
      (omega arith, omega arith);
}
Begin-told old times low high false cut above less = search (rules, at_begin, less.told)

-- ---- the bars of zones

pub AreBarsOf-none : (times : Times) → AreBarsOf times [] []
AreBarsOf-none times = search (rules, AreFilled-nil, BarsHold-none, SetHolds-empty)

AreBarsOf-some : (old new : Times) (zones : List ZoneBounds) (i : ℕ) (zone : ZoneBounds)
    (bars : List Bar) (bar : Bar) → i < length zones → zone ≡ get_or zones i zone
    → AreBarsOf old (take i zones) bars → Narrows old new → IsBarOf new zone (Some bar)
    → AreBarsOf new (take (i + 1) zones) (bars ++ bar ∷ [])
AreBarsOf-some old new zones i zone bars bar within is now cut found = record {
  filled = λ a n time.
      AreFilled-push bars bar a n (now.filled a n (Narrows-time old new cut a n time))
      (found.each a n time).0;
  exact = λ a n time b.
      let was = now.exact a n (Narrows-time old new cut a n time) b in
      let push = BarsHold-push bars bar a b n in
      let held = SetHolds-more zones i zone within is a b n in
      let one = (found.each a n time).1 b in (
        (λ h. held.1 (⊎_elim (λ x. inl (was.0 x)) (λ x. inr (one.0 x)) (push.0 h))),
        (λ h. push.1 (⊎_elim (λ x. inl (was.1 x)) (λ x. inr (one.1 x)) (held.0 h))),
      );
}

AreBarsOf-skip : (old new : Times) (zones : List ZoneBounds) (i : ℕ) (zone : ZoneBounds)
    (bars : List Bar) → i < length zones → zone ≡ get_or zones i zone
    → AreBarsOf old (take i zones) bars → Narrows old new → IsBarOf new zone None
    → AreBarsOf new (take (i + 1) zones) bars
AreBarsOf-skip old new zones i zone bars within is now cut found = record {
  filled = λ a n time. now.filled a n (Narrows-time old new cut a n time);
  exact = λ a n time b.
      let was = now.exact a n (Narrows-time old new cut a n time) b in
      let held = SetHolds-more zones i zone within is a b n in (
        (λ h. held.1 (inl (was.0 h))),
        (λ h. ⊎_elim (λ x. was.1 x) (λ x. absurd (found.each a n time b x)) (held.0 h)),
      );
}

pub AreBarsOf-step : (old new : Times) (zones : List ZoneBounds) (i : ℕ) (zone : ZoneBounds)
    (bars bars' : List Bar) (found : Option Bar) → i < length zones → zone ≡ get_or zones i zone
    → AreBarsOf old (take i zones) bars → Narrows old new → IsBarOf new zone found
    → bars' ≡ bars ++ option_to_list found
    → AreBarsOf new (take (i + 1) zones) bars'
AreBarsOf-step old new zones i zone bars bars' (Some bar) within is now cut found e =
    search (rules, AreBarsOf-some)
AreBarsOf-step old new zones i zone bars bars' None within is now cut found e =
    search (rules, AreBarsOf-skip)

pub AreBarsOf-all : (times : Times) (zones : List ZoneBounds) (i : ℕ) (bars : List Bar)
    → length zones ≤ i → AreBarsOf times (take i zones) bars → AreBarsOf times zones bars
AreBarsOf-all times zones i bars past now =
    rw (take_all i zones past) at now

-- ---- the profile

pub AreBarsOf-filled : (times : Times) (zones : List ZoneBounds) (bars : List Bar)
    → AreBarsOf times zones bars → AreFilledOver times bars
AreBarsOf-filled times zones bars are = record { each = are.filled }

pub IsProfile-union : (old times : Times) (zones : List ZoneBounds) (bars union : List Bar)
    → AreBarsOf old zones bars → Narrows old times → IsUnionOfBars times bars union
    → IsProfile (SetHolds zones) union times.from times.until
IsProfile-union old times zones bars union are cut is = search rules
