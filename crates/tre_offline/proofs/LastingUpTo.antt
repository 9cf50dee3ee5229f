-- How long the pairs of zones last at most.
use Rattle.std.proofs.Common.{◌≡◌, ℕ, ◌+◌, ◌-◌, ◌*◌, ◌<◌, ◌≤◌, ◌↔◌, max, List, [], ◌∷◌, ◌++◌, length, get_or, take, Option, Some, None, refl, subst, ⊎_elim, arith, pos, nat_abs}
use Rattle.std.proofs.Math.Nat.{mul-le-mul_right}
use Rattle.std.proofs.lemmas.Int.{ints}
use Rattle.std.proofs.lemmas.List.{take_more, take_all}
use Rattle.tre_pairs.specs.Pairs.{Pairs, Lasting}
use Rattle.tre_pairs.specs.declared.TheConstants.{TIME_MAX}
use Rattle.tre_zone.specs.Bound.{value_of, sum_of}
use Rattle.tre_zone.specs.Longest.{LastsUpTo, AllLastUpTo}
use Rattle.tre_zone.specs.Zone.{IsCanonical}
use Rattle.tre_zone.specs.ZoneList.{SetHolds, HoldExactly}
use Rattle.tre_zone.specs.declared.zone_bounds.ZoneBounds.{ZoneBounds}
use Rattle.tre_zone.proofs.Bounds.{split}
use Rattle.tre_zone.proofs.Lasting.{key_up_to}
use Rattle.tre_zone.proofs.Ranges.{above_zero}
use Rattle.tre_zone.proofs.ZoneListLemmas.{SetHolds-empty, SetHolds-push}
use Rattle.tre_offline.specs.Lengths.{LastUpTo}

-- The bound from above on the duration names a time.
lasts : (zone : ZoneBounds) → IsCanonical zone
    → value_of zone.dur_high ≡ pos (nat_abs (value_of zone.dur_high))
unfolding sum_of
lasts zone canonical =
    let room = canonical.room.dur_loop in
    let least = canonical.framed.lasts in
    let low = split zone.dur_low in
    let high = split zone.dur_high in
    above_zero (value_of zone.dur_high) (omega (arith, ints))

pub longest-limit : (zone : ZoneBounds) → IsCanonical zone
    → nat_abs (value_of zone.dur_high) ≤ TIME_MAX
unfolding sum_of
longest-limit zone canonical =
    let is = lasts zone canonical in
    let way = canonical.closed.dur_high in
    let starts = canonical.framed.starts in
    let ends = canonical.framed.ends in
    let begin = split zone.begin_low in
    let end = split zone.end_high in
    let high = split zone.dur_high in
    omega (arith, ints)

pub longest-all : (zone : ZoneBounds) → IsCanonical zone
    → AllLastUpTo (Some (nat_abs (value_of zone.dur_high))) zone
longest-all zone canonical =
    let is = lasts zone canonical in
    let high = split zone.dur_high in
    key_up_to zone (nat_abs (value_of zone.dur_high))
    (pos (2 * nat_abs (value_of zone.dur_high) + 1)) refl (omega (arith, ints))

pub LastUpTo-none : (longest : Option ℕ) → LastUpTo longest []
LastUpTo-none longest = record { each = λ a b n some le h. absurd (SetHolds-empty a b n h) }

left_at_most : (one other : ℕ) → one ≤ max one other
left_at_most one other = omega arith

right_at_most : (one other : ℕ) → other ≤ max one other
right_at_most one other = omega arith

-- One more zone.
LastUpTo-more : (zones : List ZoneBounds) (zone : ZoneBounds) (most own : ℕ)
    → LastUpTo (Some most) zones → AllLastUpTo (Some own) zone
    → LastUpTo (Some (max most own)) (zones ++ zone ∷ [])
LastUpTo-more zones zone most own old all = record {
  each = λ a b n some le h.
      ⊎_elim
      (λ x.
      let short : b - a ≤ most * n = (old.each a b n some le x).within in
      let more = mul-le-mul_right n (left_at_most most own) in
      record { within = omega (arith, short, more) })
      (λ x.
      let short : b - a ≤ own * n = (all.each a b n some le x).within in
      let more = mul-le-mul_right n (right_at_most most own) in
      record { within = omega (arith, short, more) })
      ((SetHolds-push zones zone a b n).0 h);
}

pub LastUpTo-next : (zones : List ZoneBounds) (i most own larger : ℕ) (zone : ZoneBounds)
    → i < length zones → zone ≡ get_or zones i zone → LastUpTo (Some most) (take i zones)
    → AllLastUpTo (Some own) zone → larger ≡ max most own
    → LastUpTo (Some larger) (take (i + 1) zones)
LastUpTo-next zones i most own larger zone within is old all same =
    rw (take_more zones i zone within, ← is, same)
    (LastUpTo-more (take i zones) zone most own old all)

pub LastUpTo-all : (zones : List ZoneBounds) (i most : ℕ) → length zones ≤ i
    → LastUpTo (Some most) (take i zones) → LastUpTo (Some most) zones
LastUpTo-all zones i most past all =
    subst (λ (list : List ZoneBounds). LastUpTo (Some most) list) (take_all i zones past) all

pub LastUpTo-any : (zones : List ZoneBounds) → LastUpTo None zones
LastUpTo-any zones = record { each = λ a b n some le h. record { within = tt } }

-- What holds exactly pairs up to the longest duration.
pub LastUpTo-exact : (longest : Option ℕ) (zones : List ZoneBounds) (R : Pairs)
    → HoldExactly zones (Lasting (LastsUpTo longest) R) → LastUpTo longest zones
LastUpTo-exact longest zones R held = record {
  each = λ a b n some le h. ((held.exact a b n some le).0 h).admitted;
}

-- Of the pairs of a set that last up to the longest duration.
pub among_short : (longest : Option ℕ) (set zones : List ZoneBounds) (R : Pairs)
    → LastUpTo longest set → HoldExactly zones (Lasting (LastsUpTo longest) R) → (a b n : ℕ)
    → 0 < n → a ≤ b → SetHolds set a b n → SetHolds zones a b n ↔ R a b n
among_short longest set zones R all held a b n some le own =
    let one = held.exact a b n some le in (
      (λ h. (one.0 h).related),
      (λ h. one.1 (record { related = h; admitted = all.each a b n some le own })),
    )
