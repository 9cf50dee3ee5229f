-- The pairs of a zone of long durations are led through by equal steps of the zone it is a limit
-- of.
use Rattle.std.proofs.Common.{◌≡◌, ◌↔◌, ℕ, zero, suc, ◌+◌, ◌-◌, ◌*◌, ◌<◌, ◌≤◌, ⊎_elim, refl, sym, ap, subst, arith, ℤ, pos, neg_ℤ, negsuc, nat_abs, ◌/◌, ◌+ℤ◌, ◌*ℤ◌, ◌≤ℤ◌, ◌∷◌, [], ◌++◌, List, Option, Some, None, IfSome, inl, inr, rules}
use Rattle.std.specs.Int.{int_min}
use Rattle.std.proofs.lemmas.Int.{ints, clamps}
use Rattle.std.proofs.lemmas.Bool.{cases_lt}
use Rattle.std.proofs.Math.Nat.{mul-le-mul_right, mul-lt-mul_of_pos_right, mul-pos}
use Rattle.tre_pairs.specs.Pairs.{Pairs, Composed, Both, Lasting, Chain}
use Rattle.tre_pairs.specs.SameTime.{SameTime}
use Rattle.tre_pairs.proofs.Steps.{Chain-even, Chain-onto, Chain-longer, Scales-SameTime, IsInstant-SameTime}
use Rattle.tre_zone.specs.Bound.{value_of, weakness_of, sum_of, Meets, IsKeyWithin}
use Rattle.tre_zone.specs.Zone.{ZoneHolds, IsCanonical, GivesZone, IsInFrame}
use Rattle.tre_zone.specs.declared.zone_bounds.ZoneBounds.{ZoneBounds}
use Rattle.tre_zone.proofs.Bounds.{split, split-sum}
use Rattle.tre_zone.proofs.Sums.{sum_of-comm}
use Rattle.tre_zone.proofs.Paths.{Meets-looser, Meets-sum}
use Rattle.tre_zone.proofs.Ranges.{below_zero}
use Rattle.tre_zone.proofs.Scaling.{Meets-scale, canonical-frame}
use Rattle.tre_zone.proofs.ZoneListLemmas.{SetHolds-empty, SetHolds-push, AreCanonical-empty, AreCanonical-push}
use Rattle.tre_zone.specs.ZoneList.{SetHolds, HoldExactly}
use Rattle.tre_pairs.proofs.Laws.{Scales, Implies}
use Rattle.tre_pairs.proofs.Scaling.{moved, Scales-Chain}
use Rattle.tre_star.proofs.Chaining.{Scales-SetHolds}
use Rattle.tre_pairs.specs.declared.TheConstants.{TIME_MAX}
use Rattle.tre_pairs.proofs.Chains.{Composed-at, Composed-assoc_right, Chain-none, Chain-step, Chain-cases}
use Rattle.tre_pairs.proofs.Implication.{Implies-Composed, Implies-Chain}
use Rattle.tre_star.specs.Parts.{SomeSteps}
use Rattle.tre_star.specs.Powers.{AreChainsOf, AreStepsOf, IsLimit}

-- ---- bounds on the duration of a step

down_product : (c n : ℕ) → neg_ℤ (pos c) *ℤ pos n ≡ neg_ℤ (pos (c * n))
down_product zero n = omega (arith, ints)
down_product (suc c) n = refl

lasts : (key : ℤ) (least p d m : ℕ) → value_of key ≡ neg_ℤ (pos least)
    → least * m < d + weakness_of key → Meets key p (p + d) m
lasts key least p d m e lt = record { met = rw (e, down_product least m) (omega (arith, ints)) }

lasted : (key : ℤ) (least a b n : ℕ) → value_of key ≡ neg_ℤ (pos least) → a ≤ b
    → Meets key a b n → least * n < (b - a) + weakness_of key
lasted key least a b n e le m = search rules

is_short : (key : ℤ) (most p d m : ℕ) → value_of key ≡ pos most → d < most * m
    → Meets key (p + d) p m
is_short key most p d m e lt = record { met = rw e (omega (arith, ints)) }

-- An earlier time meets a bound from above, and a later one a bound from below.
pub Meets-earlier : (key : ℤ) (p p' n : ℕ) → p' ≤ p → Meets key p 0 n → Meets key p' 0 n
Meets-earlier key p p' n le m = let met = m.met in record { met = omega (arith, ints) }

Meets-later : (key : ℤ) (q q' n : ℕ) → q ≤ q' → Meets key 0 q n → Meets key 0 q' n
Meets-later key q q' n le m = let met = m.met in record { met = omega (arith, ints) }

-- ---- the value of such a bound

pub not_below : (value : ℤ) → pos 0 ≤ℤ value → value ≡ pos (nat_abs value)
not_below (pos n) le = refl
not_below (negsuc n) le = absurd (omega (arith, ints))

abs_within : (limit : ℕ) (value : ℤ) → neg_ℤ (pos limit) ≤ℤ value → value ≤ℤ pos limit
    → nat_abs value ≤ limit
abs_within limit (pos n) low high = omega (arith, ints)
abs_within limit (negsuc n) low high = omega (arith, ints)

pub least_value : (key : ℤ) → key ≤ℤ pos 1 → value_of key ≡ neg_ℤ (pos (nat_abs (value_of key)))
least_value key le = let s = split key in below_zero (value_of key) (omega (arith, ints))

pub value_within : (limit : ℕ) (key : ℤ) → IsKeyWithin limit key → nat_abs (value_of key) ≤ limit
value_within limit key h =
    let s = split key in
    abs_within limit (value_of key) (omega (arith, ints, h.low)) (omega (arith, ints, h.high))

-- Some duration meets both bounds: so the value of the bound from above is not negative.
pub most_rises : (zone : ZoneBounds) → IsCanonical zone → pos 0 ≤ℤ value_of zone.dur_high
most_rises zone c =
    let sum = split-sum zone.dur_low zone.dur_high in
    let low = split zone.dur_low in
    let high = split zone.dur_high in
    omega (arith, ints, c.room.dur_loop, c.framed.lasts)

-- A bound that lasts so little tightens another one.
pub sum_of-lower : (near far least : ℤ) → least ≤ℤ pos 1
    → sum_of (int_min near far) least ≤ℤ far
sum_of-lower near far least le =
    let one = split-sum (int_min near far) least in
    let a = split (int_min near far) in
    let b = split least in
    omega (arith, ints, clamps)

pub weak_like : (key like c : ℤ) → key ≡ (pos 2 *ℤ c) +ℤ pos 1 → weakness_of like ≡ 1
    → weakness_of key ≡ weakness_of like
weak_like key like c e one = let s = split key in omega (arith, ints)

pub strict_like : (key like c : ℤ) → key ≡ pos 2 *ℤ c → (weakness_of like ≡ 1 → ⊥)
    → weakness_of key ≡ weakness_of like
strict_like key like c e other = let s = split key in let t = split like in
    omega (arith, ints, other)

-- ---- the number of steps

pub overlaps : (least most : ℕ) → least < most
    → (least / (most - least) + 1 + 1) * least < (least / (most - least) + 1) * most
overlaps least most less = search rules

-- So many equal steps that each lasts at least the least and less than the most.
record Parting (least most weakness d n : ℕ) : Type 0 where
  count : ℕ
  some : 0 < count
  low : least * (count * n) < d + weakness
  high : d < most * (count * n)

part_from : (fuel least most weakness d n count : ℕ) → 0 < n → 0 < count → least < most
    → (count + 1) * least < count * most → least * (count * n) < d + weakness
    → d < most * ((count + fuel) * n) → Parting least most weakness d n
part_from zero least most weakness d n count fine some less overlap low enough = search rules
part_from (suc fuel) least most weakness d n count fine some less overlap low enough =
    ⊎_elim
    (λ high. record { count = count; some = some; low = low; high = high })
    (λ longer.
    let more : (count + 1) * least * n < count * most * n =
    mul-lt-mul_of_pos_right overlap fine in
    part_from fuel least most weakness d n (count + 1) fine (omega arith) less
    (omega (arith, overlap, less)) (omega (arith, more, longer)) (omega (arith, enough)))
    (cases_lt d (most * (count * n)))

enough_steps : (most d n count : ℕ) → 0 < n → 0 < most → d < most * ((count + (d + 1)) * n)
enough_steps most d n count fine some = search rules

-- Equal steps, of which there is one at least: where they take no time, the first is all of them.
even_steps : (R : Pairs) (a b n count : ℕ) → 0 < count → a ≤ b
    → ((i : ℕ) → i < count → R (count * a + i * (b - a)) (count * a + i * (b - a) + (b - a))
    (count * n))
    → SomeSteps R SameTime a b n
even_steps R a b n count some rising steps =
    ⊎_elim
    (λ instant.
    let same : a ≡ b = instant.same in
    let times : count * a ≡ count * b = ap (λ (t : ℕ). count * t) same in
    let first : count * a + 0 * (b - a) ≡ count * a = omega arith in
    record {
      factor = count;
      positive = some;
      midpoint = count * b;
      left = moved R first
          (let e : count * a + 0 * (b - a) + (b - a) ≡ count * b = omega (arith, first, times, same)
          in e) refl (steps 0 some);
      right = Chain-none R SameTime (count * b) (count * b) (count * n) (record { same = refl });
    })
    (λ more. more)
    (Chain-cases R SameTime Scales-SameTime a b n
    (Chain-even R SameTime a b n count some rising (record { same = refl }) steps))

-- ---- the steps

module _ (limit zone : ZoneBounds) (least most total : ℕ) (is : IsLimit total limit zone)
    (lowest : value_of zone.dur_low ≡ neg_ℤ (pos least))
    (highest : value_of zone.dur_high ≡ pos most) where
  one_step : (count from at d n : ℕ) → 0 < count * n → count * from ≤ at
      → at + d ≤ count * from + count * d → Meets limit.begin_low 0 (count * from) (count * n)
      → Meets limit.end_high (count * from + count * d) 0 (count * n)
      → least * (count * n) < d + weakness_of zone.dur_low → d < most * (count * n)
      → ZoneHolds zone at (at + d) (count * n)
  one_step count from at d n fine after before begins ends low high =
      let m = count * n in
      let begin = Meets-later limit.begin_low (count * from) at m after begins in
      let end = Meets-earlier limit.end_high (count * from + count * d) (at + d) m before ends in
      let step = lasts zone.dur_low least at d m lowest low in
      record {
        begin_low = Meets-looser limit.begin_low zone.begin_low 0 at m fine is.begin begin;
        begin_high = Meets-looser (sum_of limit.end_high zone.dur_low) zone.begin_high at 0 m fine
            is.last_begin
            (rw (sum_of-comm limit.end_high zone.dur_low)
            (Meets-sum zone.dur_low limit.end_high at (at + d) 0 m step end));
        end_low = Meets-looser (sum_of limit.begin_low zone.dur_low) zone.end_low 0 (at + d) m fine
            is.first_end
            (Meets-sum limit.begin_low zone.dur_low 0 at (at + d) m begin step);
        end_high = Meets-looser limit.end_high zone.end_high (at + d) 0 m fine is.end end;
        dur_low = step;
        dur_high = is_short zone.dur_high most at d m highest high;
      }

  parting : (fewest a b n : ℕ) → 0 < n → a ≤ b → total ≡ fewest * least → 0 < fewest
      → least < most → (fewest + 1) * least < fewest * most → ZoneHolds limit a b n
      → Parting least most (weakness_of zone.dur_low) (b - a) n
  parting fewest a b n fine rising whole some less overlap held =
      let low : total * n < (b - a) + weakness_of zone.dur_low =
      subst (λ (w : ℕ). total * n < (b - a) + w) is.weakness
      (lasted limit.dur_low total a b n is.lasts rising held.dur_low) in
      let times : total * n ≡ fewest * least * n = ap (λ (t : ℕ). t * n) whole in
      part_from ((b - a) + 1) least most (weakness_of zone.dur_low) (b - a) n fewest fine some less
      overlap (omega (arith, low, times))
      (enough_steps most (b - a) n fewest fine (omega (arith, less)))

  zero_times : (k : ℕ) → k * 0 ≡ 0
  zero_times k = omega arith

  pub limit_leads : (fewest : ℕ) → total ≡ fewest * least → 0 < fewest → least < most
      → (fewest + 1) * least < fewest * most → AreChainsOf limit zone
  limit_leads fewest whole some less overlap = record {
    leads = λ a b n fine rising held.
        let d = b - a in
        let part = parting fewest a b n fine rising whole some less overlap held in
        let count = part.count in
        let finer : 0 < count * n = mul-pos part.some fine in
        let sum : a + d ≡ b = omega (arith, rising) in
        let sums : count * a + count * d ≡ count * b =
        (let e : count * (a + d) ≡ count * b = ap (λ (t : ℕ). count * t) sum in omega (arith, e)) in
        let begins = rw (zero_times count) at
        ((Meets-scale limit.begin_low count 0 a n part.some).0 held.begin_low) in
        let ends = rw (zero_times count) at
        ((Meets-scale limit.end_high count b 0 n part.some).0 held.end_high) in
        even_steps (ZoneHolds zone) a b n count part.some rising
        (λ i below.
        let rest : (i + 1) * d ≤ count * d = mul-le-mul_right d (omega (arith, below)) in
        one_step count a (count * a + i * d) d n finer (omega arith) (omega (arith, rest)) begins
        (subst (λ (t : ℕ). Meets limit.end_high t 0 (count * n)) (sym sums) ends) part.low
        part.high);
  }

-- The zone of such bounds.
pub limit_given : (answer : Option ZoneBounds) (limit zone : ZoneBounds)
    → GivesZone answer (Both (ZoneHolds limit) (IsInFrame TIME_MAX)) → AreChainsOf limit zone
    → IfSome answer (λ found. AreChainsOf found zone)
limit_given None limit zone given is = tt
limit_given (Some found) limit zone given is = search rules

-- ---- the steps of zones

pub AreStepsOf-none : AreStepsOf [] []
AreStepsOf-none = record {
  canonical = AreCanonical-empty;
  more = λ a b n some h. h;
  long = λ a b n some h. absurd (SetHolds-empty a b n h);
}

-- One step or more of some pairs are steps of more pairs.
more_steps : (R S : Pairs) → Implies R S → (a b n : ℕ) → SomeSteps R SameTime a b n
    → SomeSteps S SameTime a b n
more_steps R S more a b n h =
    (Implies-Composed R S (Chain R SameTime) (Chain S SameTime) more
    (Implies-Chain R S SameTime SameTime more (record { at = λ a b n x. x }))).at a b n h

lone_step : (R : Pairs) (a b n : ℕ) → R a b n → SomeSteps R SameTime a b n
lone_step R a b n h =
    Composed-at R (Chain R SameTime) a b b n h
    (Chain-none R SameTime b b n (record { same = refl }))

pub AreStepsOf-zone : (steps zones : List ZoneBounds) (zone : ZoneBounds) → IsCanonical zone
    → AreStepsOf steps zones → AreStepsOf (steps ++ zone ∷ []) (zones ++ zone ∷ [])
AreStepsOf-zone steps zones zone canonical are = record {
  canonical = AreCanonical-push steps zone are.canonical canonical;
  more = λ a b n some h. (SetHolds-push steps zone a b n).1
      (⊎_elim (λ x. inl (are.more a b n some x)) (λ x. inr x)
      ((SetHolds-push zones zone a b n).0 h));
  long = λ a b n some h.
      ⊎_elim
      (λ x. more_steps (SetHolds zones) (SetHolds (zones ++ zone ∷ []))
      (record { at = λ a b n y. (SetHolds-push zones zone a b n).1 (inl y) }) a b n
      (are.long a b n some x))
      (λ x. lone_step (SetHolds (zones ++ zone ∷ [])) a b n
      ((SetHolds-push zones zone a b n).1 (inr x)))
      ((SetHolds-push steps zone a b n).0 h);
}

pub AreStepsOf-limit : (steps zones : List ZoneBounds) (zone limit : ZoneBounds)
    → IsCanonical limit → AreChainsOf limit zone → AreStepsOf steps (zones ++ zone ∷ [])
    → AreStepsOf (steps ++ limit ∷ []) (zones ++ zone ∷ [])
AreStepsOf-limit steps zones zone limit canonical chains are = record {
  canonical = AreCanonical-push steps limit are.canonical canonical;
  more = λ a b n some h. (SetHolds-push steps limit a b n).1 (inl (are.more a b n some h));
  long = λ a b n some h.
      ⊎_elim (λ x. are.long a b n some x)
      (λ x. more_steps (ZoneHolds zone) (SetHolds (zones ++ zone ∷ []))
      (record { at = λ a b n y. (SetHolds-push zones zone a b n).1 (inr y) }) a b n
      (chains.leads a b n some (canonical-frame limit canonical a b n some x).rising x))
      ((SetHolds-push steps limit a b n).0 h);
}

-- Steps that are one step or more of the zones themselves, beside the zones: one or more of them are
-- one or more of the zones.
module _ (steps zones : List ZoneBounds) (E : Pairs) (e : Scales E) (are : AreStepsOf steps zones)
  where
    abbrev R : Pairs
    R = SetHolds zones

    abbrev S : Pairs
    S = SetHolds steps

    r : Scales R
    r = Scales-SetHolds zones

    longer : (a b n : ℕ) → 0 < n → Chain S E a b n ↔ Chain R E a b n
    longer = (Chain-longer R S E r e
        (λ a b n some h. Chain-step R SameTime r Scales-SameTime a b n (are.long a b n some h))
        are.more).at

    onto : Implies (Composed (Chain R SameTime) (Chain R E)) (Chain R E)
    onto = record {
      at = λ a b n h. (Scales-Chain R E r e).down h.factor a b n h.positive
          (Chain-onto R SameTime E r Scales-SameTime e IsInstant-SameTime (h.factor * a) h.midpoint
          (h.factor * b) (h.factor * n) h.left h.right);
    }

    fewer : (a b n : ℕ) → 0 < n → SomeSteps S E a b n → SomeSteps R E a b n
    fewer a b n some h =
        let fine : 0 < h.factor * n = mul-pos h.positive some in
        let all : Composed (SomeSteps R SameTime) (Chain R E) a b n = record {
          factor = h.factor;
          positive = h.positive;
          midpoint = h.midpoint;
          left = are.long (h.factor * a) h.midpoint (h.factor * n) fine h.left;
          right = (longer h.midpoint (h.factor * b) (h.factor * n) fine).0 h.right;
        } in
        (Implies-Composed R R (Composed (Chain R SameTime) (Chain R E)) (Chain R E)
        (record { at = λ a b n x. x }) onto).at a b n
        (Composed-assoc_right R (Chain R SameTime) (Chain R E) (Scales-Chain R E r e) a b n all)

    more : (a b n : ℕ) → 0 < n → SomeSteps R E a b n → SomeSteps S E a b n
    more a b n some h =
        let fine : 0 < h.factor * n = mul-pos h.positive some in
        record {
          factor = h.factor;
          positive = h.positive;
          midpoint = h.midpoint;
          left = are.more (h.factor * a) h.midpoint (h.factor * n) fine h.left;
          right = (longer h.midpoint (h.factor * b) (h.factor * n) fine).1 h.right;
        }

    -- A set of the short ones of such steps, one or more, is one of those of the zones.
    pub longer_steps : (D : ℕ → ℕ → Type 0) (set : List ZoneBounds)
        → HoldExactly set (Lasting D (SomeSteps S E)) → HoldExactly set (Lasting D (SomeSteps R E))
    longer_steps D set held = record {
      exact = λ a b n some le.
          let one = held.exact a b n some le in (
            (λ h.
                let steps = one.0 h in
                record { related = fewer a b n some steps.related; admitted = steps.admitted }),
            (λ h. one.1 (record { related = more a b n some h.related; admitted = h.admitted })),
          );
    }
