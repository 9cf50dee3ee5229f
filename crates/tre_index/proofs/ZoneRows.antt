-- Rows of zones: what it means that one reaches another, or a key.
use Rattle.std.proofs.Common.{◌≡◌, ℕ, zero, suc, ◌*◌, ◌^◌, ◌<◌, ◌↔◌, true, List, [], ◌∷◌, length, get_or, map, Any, Option, Some, None, is_some, refl, sym, ap, subst, ◌∙◌, arith, w64}
use Rattle.std.proofs.lemmas.Int.{ints, to_z-of_z}
use Rattle.std.proofs.lemmas.List.{get_or-map, get_or_default, length-map}
use Rattle.std.proofs.Math.Nat.{mul-pos}
use Rattle.std.specs.Prelude.{ℤ, pos, ◌≤ℤ◌, ◌-ℤ◌}
use mir.Val.{SFits, of_z, to_z}
use Rattle.tre_pairs.specs.Pairs.{Both, Composed}
use Rattle.tre_zone.specs.Bound.{sum_of, Meets, IsKeyWithin}
use Rattle.tre_zone.specs.Zone.{ZoneHolds, Includes, Covers, IsCanonical, HasNoPair, AreKeysWithin, row_of}
use Rattle.tre_zone.specs.declared.zone_bounds.ZoneBounds.{ZoneBounds}
use Rattle.tre_zone.proofs.Paths.{Meets-sum, Meets-loop}
use Rattle.tre_zone.proofs.Tightness.{Covers-Includes, Includes-Covers, canonical-keys}
use Rattle.tre_lanes.specs.Rows.{Reaches, FindsNext}
use Rattle.tre_index.specs.ZoneKeys.{lowest, after_of, before_of, meeting_of}

-- A row of six keys and two zeros, lane by lane.
module _ (zone : ZoneBounds) (a b c d e f g h : ℤ) where
  reaches_row : a ≤ℤ zone.begin_low → b ≤ℤ zone.begin_high → c ≤ℤ zone.end_low → d ≤ℤ zone.end_high
      → e ≤ℤ zone.dur_low → f ≤ℤ zone.dur_high → g ≤ℤ pos 0 → h ≤ℤ pos 0
      → Reaches (row_of zone) (a ∷ b ∷ c ∷ d ∷ e ∷ f ∷ g ∷ h ∷ [])
  reaches_row pa pb pc pd pe pf pg ph = record { each = each } where
    each : (lane : ℕ) → get_or (a ∷ b ∷ c ∷ d ∷ e ∷ f ∷ g ∷ h ∷ []) lane (pos 0) ≤ℤ get_or
        (row_of zone) lane (pos 0)
    each zero = pa
    each (suc zero) = pb
    each (suc (suc zero)) = pc
    each (suc (suc (suc zero))) = pd
    each (suc (suc (suc (suc zero)))) = pe
    each (suc (suc (suc (suc (suc zero))))) = pf
    each (suc (suc (suc (suc (suc (suc zero)))))) = pg
    each (suc (suc (suc (suc (suc (suc (suc zero))))))) = ph
    each (suc (suc (suc (suc (suc (suc (suc (suc lane)))))))) = record { le = tt }

pub Covers-Reaches : (outer inner : ZoneBounds) → Covers outer inner
    → Reaches (row_of outer) (row_of inner)
Covers-Reaches outer inner c =
    reaches_row outer inner.begin_low inner.begin_high inner.end_low inner.end_high inner.dur_low
    inner.dur_high (pos 0) (pos 0)
    c.begin_low c.begin_high c.end_low c.end_high c.dur_low c.dur_high (record { le = tt })
    (record { le = tt })

pub Reaches-Covers : (outer inner : ZoneBounds) → Reaches (row_of outer) (row_of inner)
    → Covers outer inner
Reaches-Covers outer inner r = record {
  begin_low = r.each 0;
  begin_high = r.each 1;
  end_low = r.each 2;
  end_high = r.each 3;
  dur_low = r.each 4;
  dur_high = r.each 5;
}

-- A search for a row that reaches a zone's finds a zone that includes it.
pub some_includes : (zones : List ZoneBounds) (zone : ZoneBounds) → IsCanonical zone
    → (answer : Option ℕ)
    → FindsNext (map row_of zones) (row_of zone) 0 answer
    → (is_some answer ≡ true) ↔ Any (λ member. Includes member zone) zones
some_includes zones zone canonical None none = (
  (λ t. absurd (cc)),
  (λ any.
      let at : get_or (map row_of zones) any.0 [] ≡ row_of any.1 =
      get_or-map row_of zones any.0 any.1 [] any.2 ∙ ap row_of any.3 in
      let covers = Covers-Reaches any.1 zone (Includes-Covers any.1 zone canonical any.4) in
      absurd (none.none any.0 (omega arith) (omega (arith, any.2, length-map zones row_of))
      (omega (arith, any.2, length-map zones row_of))
      (subst (λ row. Reaches row (row_of zone)) (sym at) covers))),
)
some_includes zones zone canonical (Some place) next = (
  (λ t.
      let inside : place < length zones = omega (arith, next.ends, length-map zones row_of) in
      let member = get_or zones place zone in
      let at : get_or (map row_of zones) place [] ≡ row_of member = get_or-map row_of zones place
      zone [] inside in
      let covers = Reaches-Covers member zone
      (subst (λ row. Reaches row (row_of zone)) at next.reaches) in (
        place,
        member,
        inside,
        get_or_default zones place member zone inside,
        Covers-Includes member
            zone covers,
      )),
  (λ any. refl),
)

-- A bound from above and one from below that some difference meets leave room.
room : (high low : ℤ) (p q n : ℕ) → 0 < n → Meets high p q n → Meets low q p n
    → (pos 1 -ℤ high) ≤ℤ low
unfolding sum_of
room high low p q n some above below =
    let loop = Meets-loop (sum_of high low) p n some (Meets-sum high low p q p n above below) in
    omega (arith, ints, loop)

abbrev Below : ℤ → Type 0
Below key = lowest ≤ℤ key

-- A key that a zone can have is not below the lowest.
not_below : (key : ℤ) → IsKeyWithin (2 ^ 42) key → Below key
not_below key within = omega (arith, ints, within.low)

-- What can follow a zone, what a zone can follow, and what shares a pair with it.
module _ (zone other : ZoneBounds) (canonical : IsCanonical other) where
  keys : AreKeysWithin (2 ^ 42) other
  keys = canonical-keys other canonical

  pub after_others : (Reaches (row_of other) (after_of zone) → ⊥)
      → HasNoPair (Composed (ZoneHolds zone) (ZoneHolds other))
  unfolding after_of
  after_others below = record {
    never = λ a b n some le h.
        let n' = h.factor * n in
        let some' : 0 < n' = mul-pos h.positive some in
        below
        (reaches_row other _ _ _ _ _ _ _ _
        (room zone.end_high other.begin_low h.midpoint 0 n' some' h.left.end_high h.right.begin_low)
        (room zone.end_low other.begin_high 0 h.midpoint n' some' h.left.end_low h.right.begin_high)
        (not_below other.end_low keys.end_low) (not_below other.end_high keys.end_high)
        (not_below other.dur_low keys.dur_low) (not_below other.dur_high keys.dur_high)
        (record { le = tt }) (record { le = tt }));
  }

  pub before_others : (Reaches (row_of other) (before_of zone) → ⊥)
      → HasNoPair (Composed (ZoneHolds other) (ZoneHolds zone))
  unfolding before_of
  before_others below = record {
    never = λ a b n some le h.
        let n' = h.factor * n in
        let some' : 0 < n' = mul-pos h.positive some in
        below
        (reaches_row other _ _ _ _ _ _ _ _
        (not_below other.begin_low keys.begin_low) (not_below other.begin_high keys.begin_high)
        (room zone.begin_high other.end_low h.midpoint 0 n' some' h.right.begin_high h.left.end_low)
        (room zone.begin_low other.end_high 0 h.midpoint n' some' h.right.begin_low h.left.end_high)
        (not_below other.dur_low keys.dur_low) (not_below other.dur_high keys.dur_high)
        (record { le = tt }) (record { le = tt }));
  }

  pub meeting_others : (Reaches (row_of other) (meeting_of zone) → ⊥)
      → HasNoPair (Both (ZoneHolds zone) (ZoneHolds other))
  unfolding meeting_of
  meeting_others below = record {
    never = λ a b n some le h.
        below
        (reaches_row other _ _ _ _ _ _ _ _
        (room zone.begin_high other.begin_low a 0 n some h.left.begin_high h.right.begin_low)
        (room zone.begin_low other.begin_high 0 a n some h.left.begin_low h.right.begin_high)
        (room zone.end_high other.end_low b 0 n some h.left.end_high h.right.end_low)
        (room zone.end_low other.end_high 0 b n some h.left.end_low h.right.end_high)
        (room zone.dur_high other.dur_low b a n some h.left.dur_high h.right.dur_low)
        (room zone.dur_low other.dur_high a b n some h.left.dur_low h.right.dur_high)
        (record { le = tt }) (record { le = tt }));
  }

-- A lane, as the machine holds it.
pub lane_of : {lane : ℤ} {bounds zone : ZoneBounds} (key : ZoneBounds → ℤ) → bounds ≡ zone
    → lane ≡ (pos 1 -ℤ key bounds) → SFits w64 lane → to_z w64 (of_z w64 lane) ≡ (pos 1 -ℤ key zone)
lane_of {lane = lane} key same is fits =
    to_z-of_z w64 lane fits ∙ is ∙ ap (λ b. pos 1 -ℤ key b) same
