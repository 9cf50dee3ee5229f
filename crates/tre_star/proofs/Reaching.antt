-- A zone that is added reaches its own row, which no zone reached before, and each row that was
-- reached.
use Rattle.std.proofs.Common.{◌≡◌, ℕ, ◌+◌, ◌*◌, ◌^◌, ◌<◌, ◌≤◌, ◌⊎◌, Bool, true, false, cond, List, [], ◌∷◌, ◌++◌, length-append, append_assoc, Any, refl, sym, ◌∙◌, ap, inl, inr, ⊎_elim, Decides, arith, ℤ, pos, negsuc, ◌≤ℤ◌, rules}
use Rattle.std.proofs.lemmas.Int.{ints}
use Rattle.std.proofs.lemmas.Bool.{false≢true}
use Rattle.std.proofs.lemmas.Bool.Decides.{Decides-or}
use Rattle.tre_zone.specs.Bound.{IsKeyWithin}
use Rattle.tre_zone.specs.Zone.{IsCanonical, Includes, Covers, AreKeysWithin}
use Rattle.tre_zone.specs.ZoneList.{AreCanonical}
use Rattle.tre_zone.specs.declared.zone_bounds.ZoneBounds.{ZoneBounds}
use Rattle.tre_zone.proofs.ZoneListLemmas.{AreCanonical-push}
use Rattle.tre_zone.proofs.Tightness.{Covers-Includes, canonical-keys}
use Rattle.tre_zoneset.proofs.Members.{Any-head, Any-tail}
use Rattle.tre_star.specs.Growth.{HasGrown}
use Rattle.tre_star.specs.Rows.{Row, place_of, is_reached_by, is_reached, missed}
use Rattle.tre_star.proofs.Sums.{sum_of_rows-less}

-- ---- places of keys

place-back : (side : ℕ) (inner outer : ℤ) → IsKeyWithin side inner → IsKeyWithin side outer
    → place_of side inner ≤ place_of side outer → inner ≤ℤ outer
unfolding place_of
place-back side (pos a) (pos b) i o le = omega (arith, ints)
place-back side (pos a) (negsuc b) i o le = let low = o.low in omega (arith, ints)
place-back side (negsuc a) (pos b) i o le = omega (arith, ints)
place-back side (negsuc a) (negsuc b) i o le = search rules

place-within : (side : ℕ) (key : ℤ) → IsKeyWithin side key → place_of side key < 2 * side + 1
unfolding place_of
place-within side (pos a) within = let high = within.high in omega (arith, ints)
place-within side (negsuc a) within = omega (arith, ints)

-- ---- rows that zones reach

record Reaches (side : ℕ) (zone : ZoneBounds) (row : Row) : Type 0 where
  begin_low : row.begin_low ≤ place_of side zone.begin_low
  begin_high : row.begin_high ≤ place_of side zone.begin_high
  end_low : row.end_low ≤ place_of side zone.end_low
  end_high : row.end_high ≤ place_of side zone.end_high
  dur_low : row.dur_low ≤ place_of side zone.dur_low
  dur_high : row.dur_high ≤ place_of side zone.dur_high

unfoldable Reached : ℕ → List ZoneBounds → Row → Type 0
Reached side [] row = ⊥
Reached side (zone ∷ zones) row = Reaches side zone row ⊎ Reached side zones row

reaches-decides : (side : ℕ) (zone : ZoneBounds) (row : Row)
    → Decides (is_reached_by side zone row) (Reaches side zone row)
unfolding is_reached_by
reaches-decides side zone row = search rules

reached-decides : (side : ℕ) (zones : List ZoneBounds) (row : Row)
    → Decides (is_reached side zones row) (Reached side zones row)
unfolding is_reached Reached
reached-decides side [] row = ((λ t. absurd (false≢true t)), (λ r. absurd r))
reached-decides side (zone ∷ zones) row =
    Decides-or (is_reached_by side zone row) (is_reached side zones row)
    (reaches-decides side zone row) (reached-decides side zones row)

Reached-push : (side : ℕ) (zones : List ZoneBounds) (zone : ZoneBounds) (row : Row)
    → Reached side zones row ⊎ Reaches side zone row
    → Reached side (zones ++ zone ∷ []) row
unfolding Reached
Reached-push side [] zone row r = ⊎_elim (λ x. absurd x) (λ x. inl x) r
Reached-push side (other ∷ zones) zone row r =
    ⊎_elim
    (λ x. ⊎_elim (λ y. inl y) (λ y. inr (Reached-push side zones zone row (inl y))) x)
    (λ x. inr (Reached-push side zones zone row (inr x)))
    r

-- The row of a zone itself.
abbrev own_row : ℕ → ZoneBounds → Row
own_row side zone = record {
  begin_low = place_of side zone.begin_low;
  begin_high = place_of side zone.begin_high;
  end_low = place_of side zone.end_low;
  end_high = place_of side zone.end_high;
  dur_low = place_of side zone.dur_low;
  dur_high = place_of side zone.dur_high;
}

Reaches-own : (side : ℕ) (zone : ZoneBounds) → Reaches side zone (own_row side zone)
Reaches-own side zone = search rules

Covers-own : (side : ℕ) (member zone : ZoneBounds) → AreKeysWithin side member
    → AreKeysWithin side zone → Reaches side member (own_row side zone)
    → Covers member zone
Covers-own side member zone m z r = record {
  begin_low = place-back side zone.begin_low member.begin_low z.begin_low m.begin_low r.begin_low;
  begin_high = place-back side zone.begin_high member.begin_high z.begin_high m.begin_high
      r.begin_high;
  end_low = place-back side zone.end_low member.end_low z.end_low m.end_low r.end_low;
  end_high = place-back side zone.end_high member.end_high z.end_high m.end_high r.end_high;
  dur_low = place-back side zone.dur_low member.dur_low z.dur_low m.dur_low r.dur_low;
  dur_high = place-back side zone.dur_high member.dur_high z.dur_high m.dur_high r.dur_high;
}

-- Which keys a canonical zone may have.
abbrev KeepKeysWithin : ℕ → Type 0
KeepKeysWithin side = (zone : ZoneBounds) → IsCanonical zone → AreKeysWithin side zone

-- Where a member reaches a zone's own row, it includes the zone.
includes_from_own : (side : ℕ) → KeepKeysWithin side → (zone : ZoneBounds) → IsCanonical zone
    → (zones : List ZoneBounds) → AreCanonical zones
    → Reached side zones (own_row side zone) → Any (λ member. Includes member zone) zones
unfolding Reached AreCanonical
includes_from_own side keys zone canonical [] all r = absurd r
includes_from_own side keys zone canonical (other ∷ zones) all r =
    ⊎_elim
    (λ x.
    Any-head (λ member. Includes member zone) other zones
    (Covers-Includes other zone (Covers-own side other zone (keys other all.0)
    (keys zone canonical) x)))
    (λ x. Any-tail (λ member. Includes member zone) other zones
    (includes_from_own side keys zone canonical zones all.1 x))
    r

-- ---- the rows that are missed

one_less : (before after : Bool) → before ≡ false → after ≡ true → cond after 0 1 < cond before 0 1
one_less false true b a = omega arith
one_less true after b a = absurd (false≢true (sym b))
one_less false false b a = absurd (false≢true a)

no_more : (before after : Bool) → (before ≡ true → after ≡ true) → cond after 0 1 ≤ cond before 0 1
no_more true true h = omega arith
no_more true false h = absurd (false≢true (h refl))
no_more false true h = omega arith
no_more false false h = omega arith

not_reached : (b : Bool) → (b ≡ true → ⊥) → b ≡ false
not_reached true h = absurd (h refl)
not_reached false h = refl

falls : (side : ℕ) → KeepKeysWithin side → (old : List ZoneBounds) (zone : ZoneBounds)
    → AreCanonical old → IsCanonical zone → (Any (λ member. Includes member zone) old → ⊥)
    → missed side (old ++ zone ∷ []) < missed side old
unfolding missed
falls side keys old zone all canonical none =
    let new = old ++ zone ∷ [] in
    let own = Reached-push side old zone (own_row side zone) (inr (Reaches-own side zone)) in
    let within = keys zone canonical in
    sum_of_rows-less (2 * side + 1) (λ row. cond (is_reached side new row) 0 1)
    (λ row. cond (is_reached side old row) 0 1)
    (λ row.
    no_more (is_reached side old row) (is_reached side new row)
    (λ t.
    (reached-decides side new row).1
    (Reached-push side old zone row (inl ((reached-decides side old row).0 t)))))
    (place_of side zone.begin_low) (place_of side zone.begin_high) (place_of side zone.end_low)
    (place_of side zone.end_high) (place_of side zone.dur_low) (place_of side zone.dur_high)
    (place-within side zone.begin_low within.begin_low)
    (place-within side zone.begin_high within.begin_high)
    (place-within side zone.end_low within.end_low)
    (place-within side zone.end_high within.end_high)
    (place-within side zone.dur_low within.dur_low)
    (place-within side zone.dur_high within.dur_high)
    (one_less (is_reached side old (own_row side zone)) (is_reached side new (own_row side zone))
    (not_reached _
    (λ t.
    none
    (includes_from_own side keys zone canonical old all
    ((reached-decides side old (own_row side zone)).0 t))))
    ((reached-decides side new (own_row side zone)).1 own))

missed-added : (old : List ZoneBounds) (zone : ZoneBounds) → AreCanonical old
    → IsCanonical zone → (Any (λ member. Includes member zone) old → ⊥)
    → missed (2 ^ 42) (old ++ zone ∷ []) < missed (2 ^ 42) old
missed-added old zone all canonical none = falls (2 ^ 42) canonical-keys old zone all canonical none

-- ---- lists that grow

pub HasGrown-none : (zones : List ZoneBounds) → AreCanonical zones → HasGrown zones zones
HasGrown-none zones all = search rules

pub HasGrown-added : (old : List ZoneBounds) (zone : ZoneBounds) → AreCanonical old
    → IsCanonical zone → (Any (λ member. Includes member zone) old → ⊥)
    → HasGrown old (old ++ zone ∷ [])
HasGrown-added old zone all canonical none = record {
  canonical = AreCanonical-push old zone all canonical;
  more = zone ∷ [];
  behind = refl;
  fewer =
      let less = missed-added old zone all canonical none in
      let longer = length-append old (zone ∷ []) in
      omega (arith, less, longer);
}

pub HasGrown-then : (old now new : List ZoneBounds) → HasGrown old now → HasGrown now new
    → HasGrown old new
HasGrown-then old now new first second = record {
  canonical = second.canonical;
  more = first.more ++ second.more;
  behind =
      second.behind ∙ ap (λ (zones : List ZoneBounds). zones ++ second.more) first.behind
      ∙ append_assoc old first.more second.more;
  fewer = let one = first.fewer in let two = second.fewer in omega (arith, one, two);
}
