-- When the pairs of a list of zones have ended.
use Rattle.std.proofs.Common.{◌≡◌, ℕ, ◌*◌, ◌+◌, ◌<◌, ◌≤◌, max, List, [], ◌∷◌, ◌++◌, length, get_or, take, inl, inr, ⊎_elim, refl, sym, subst, arith, ℤ, pos, negsuc, nat_abs, ◌*ℤ◌, ◌+ℤ◌, ◌≤ℤ◌, ◌<ℤ◌, rules}
use Rattle.std.proofs.Math.Nat.{mul-le-mul_right, le_of_mul-le-mul_right}
use Rattle.std.proofs.lemmas.Int.{ints}
use Rattle.std.proofs.lemmas.List.{take_more, take_all}
use Rattle.tre_zone.specs.Bound.{value_of, weakness_of}
use Rattle.tre_zone.specs.Held.{Held, EndAt, IsLatest}
use Rattle.tre_zone.specs.Zone.{ZoneHolds, HoldsSome, IsTight}
use Rattle.tre_zone.specs.ZoneList.{SetHolds, AreTight}
use Rattle.tre_zone.specs.declared.zone_bounds.ZoneBounds.{ZoneBounds}
use Rattle.tre_zone.proofs.Bounds.{split, Meets-at_most}
use Rattle.tre_zone.proofs.HeldSets.{Held-empty}
use Rattle.tre_zone.proofs.Ranges.{above_zero}
use Rattle.tre_zone.proofs.ZoneListLemmas.{SetHolds-push}

-- What bounds a time from above is not less than 0.
reaches_none : (value : ℤ) (b n weakness : ℕ) → 0 < n → weakness ≤ 1
    → pos b <ℤ ((pos 0 +ℤ (value *ℤ pos n)) +ℤ pos weakness) → pos 0 ≤ℤ value
reaches_none (pos v) b n weakness some small met = omega (arith, ints)
reaches_none (negsuc v) b n weakness some small met = search rules

end_is_natural : (zone : ZoneBounds) → HoldsSome zone → pos 0 ≤ℤ value_of zone.end_high
end_is_natural zone some =
    let met = some.held.end_high.met in
    reaches_none (value_of zone.end_high) some.b some.n (weakness_of zone.end_high) some.some
    (split zone.end_high).small met

one_zone : (zone : ZoneBounds) (a b n : ℕ) → SetHolds (zone ∷ []) a b n → ZoneHolds zone a b n
unfolding SetHolds
one_zone zone a b n h = ⊎_elim (λ x. x) (λ x. absurd x) h

in_one : (zone : ZoneBounds) (a b n : ℕ) → ZoneHolds zone a b n → SetHolds (zone ∷ []) a b n
unfolding SetHolds
in_one zone a b n h = inl h

-- The pairs of a tight zone come up to its bound on their ends.
latest_of_zone : (zone : ZoneBounds) → IsTight zone → (time : ℕ)
    → value_of zone.end_high ≡ pos time → IsLatest time (zone ∷ [])
latest_of_zone zone tight time is =
    let s = split zone.end_high in record {
      ends = record {
        ends = λ a b n some h.
            let met = rw is at (one_zone zone a b n h.held).end_high.met in
            let small = s.small in
            omega (arith, ints, met, small);
      };
      first = λ bound ends.
          let key = tight.end_high.tightest (pos (2 * bound + 1)) (λ a b n some le h.
          let by = ends.ends a b n some (record { rising = le; held = in_one zone a b n h }) in
          (Meets-at_most (pos (2 * bound + 1)) bound refl b 0 n).1 (omega (arith, by))) in
          let whole = rw is at s.whole in
          omega (arith, ints, key, whole);
    }

pub latest_by_size : (zone : ZoneBounds) → HoldsSome zone → IsTight zone
    → IsLatest (nat_abs (value_of zone.end_high)) (zone ∷ [])
latest_by_size zone some tight =
    latest_of_zone zone tight (nat_abs (value_of zone.end_high))
    (above_zero (value_of zone.end_high) (end_is_natural zone some))

pub latest_of_none : IsLatest 0 []
latest_of_none = search (rules, Held-empty)

at_most_left : (one other : ℕ) → one ≤ max one other
at_most_left one other = omega arith

at_most_right : (one other : ℕ) → other ≤ max one other
at_most_right one other = omega arith

both_at_most : (one other bound : ℕ) → one ≤ bound → other ≤ bound → max one other ≤ bound
both_at_most one other bound x y = omega (arith, x, y)

-- One zone more.
pub latest_of_more : (zones : List ZoneBounds) (zone : ZoneBounds) (one other : ℕ)
    → IsLatest one zones → IsLatest other (zone ∷ [])
    → IsLatest (max one other) (zones ++ zone ∷ [])
latest_of_more zones zone one other first second = record {
  ends = record {
    ends = λ a b n some h. ⊎_elim
        (λ x.
        let e = first.ends.ends a b n some (record { rising = h.rising; held = x }) in
        let le = mul-le-mul_right n (at_most_left one other) in
        omega (arith, e, le))
        (λ x.
        let e = second.ends.ends a b n some
        (record { rising = h.rising; held = in_one zone a b n x }) in
        let le = mul-le-mul_right n (at_most_right one other) in
        omega (arith, e, le))
        ((SetHolds-push zones zone a b n).0 h.held);
  };
  first = λ bound ends.
      let x = first.first bound (record {
        ends = λ a b n some h. ends.ends a b n some (record {
          rising = h.rising;
          held = (SetHolds-push zones zone a b n).1 (inl h.held);
        });
      }) in
      let y = second.first bound (record {
        ends = λ a b n some h. ends.ends a b n some (record {
          rising = h.rising;
          held = (SetHolds-push zones zone a b n).1 (inr (one_zone zone a b n h.held));
        });
      }) in
      both_at_most one other bound x y;
}

pub latest_of_next : (zones : List ZoneBounds) (i : ℕ) (zone : ZoneBounds) (one other next : ℕ)
    → i < length zones → zone ≡ get_or zones i zone → IsLatest one (take i zones)
    → IsLatest other (zone ∷ []) → next ≡ max one other → IsLatest next (take (i + 1) zones)
latest_of_next zones i zone one other next within is before now same =
    let whole = latest_of_more (take i zones) zone one other before now in
    subst (λ (time : ℕ). IsLatest time (take (i + 1) zones)) (sym same)
    (rw (take_more zones i zone within, ← is) whole)

pub latest_of_all : (zones : List ZoneBounds) (i : ℕ) (time : ℕ) → length zones ≤ i
    → IsLatest time (take i zones) → IsLatest time zones
latest_of_all zones i time all latest =
    subst (λ (list : List ZoneBounds). IsLatest time list) (take_all i zones all) latest

-- Where each pair ends at the time, and there is one, that is the latest end.
pub latest_at : (time : ℕ) (zones : List ZoneBounds) → AreTight zones → (zones ≡ [] → ⊥)
    → EndAt time zones → IsLatest time zones
unfolding SetHolds AreTight
latest_at time [] tight filled ends = absurd (filled refl)
latest_at time (zone ∷ zones) tight filled ends = record {
  ends = record {
    ends = λ a b n some h. let e = ends.ends a b n some h in omega (arith, e);
  };
  first = λ bound by.
      let one = tight.0.0 in
      let pair : Held (zone ∷ zones) one.a one.b one.n =
      record { rising = one.rising; held = inl one.held } in
      let e = ends.ends one.a one.b one.n one.some pair in
      let le = by.ends one.a one.b one.n one.some pair in
      le_of_mul-le-mul_right (omega (arith, e, le)) one.some;
}
