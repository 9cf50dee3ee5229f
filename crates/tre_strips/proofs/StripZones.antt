-- The zone of a bar over a strip.
use Rattle.std.proofs.Common.{◌≡◌, ℕ, zero, suc, ◌+◌, ◌*◌, ◌<◌, ◌≤◌, ◌⊎◌, ◌↔◌, Bool, true, false, cond, not, min, Option, List, [], ◌∷◌, ◌++◌, length, get_or, take, ℤ, pos, neg_ℤ, ◌+ℤ◌, ◌*ℤ◌, refl, sym, ap, subst, ◌∙◌, arith, inl, inr, ⊎_elim, true≢false, rules}
use mathlib.Core.Bool.{beq}
use Rattle.std.specs.Prelude.{Contains}
use Rattle.std.proofs.lemmas.Int.{ints}
use Rattle.std.proofs.lemmas.List.Elements.{Contains-append_left, Contains-push, Contains-push_cases, Contains-get_or, Contains-append_cases, Contains-append_right}
use Rattle.std.proofs.lemmas.List.{take_more, take_all}
use Rattle.tre_pairs.specs.Pairs.{Pairs, Both}
use Rattle.tre_pairs.specs.declared.TheConstants.{TIME_MAX}
use Rattle.tre_zone.specs.Bound.{Meets}
use Rattle.tre_zone.specs.Zone.{ZoneHolds, IsCanonical, IsZoneOf, GivesZone, IsInFrame, HasNoPair}
use Rattle.tre_zone.specs.declared.zone_bounds.ZoneBounds.{ZoneBounds}
use Rattle.tre_zone.proofs.Bounds.{Meets-at_most, Meets-less, Meets-at_least, Meets-more}
use Rattle.tre_zone.proofs.Given.{GivesZone-same}
use Rattle.tre_zone.proofs.Tightness.{canonical-some, same_pairs}
use Rattle.tre_zone.proofs.ZoneListLemmas.{SetHolds-push}
use Rattle.tre_strips.specs.Bar.{place_of}
use Rattle.tre_strips.specs.Found.{IsInPart, Pushes}
use Rattle.tre_strips.specs.declared.bar.Bar.{Bar}
use Rattle.tre_strips.specs.declared.bar.BarEnd.{BarEnd}
use Rattle.tre_strips.specs.declared.strip_zone.Begins.{Begins}

-- ---- an end as a bound, of times up to the last

-- Ticks past all times say no more than the first past them.
low_capped : (t n p q f : ℕ) → f ≤ 1 → q ≤ TIME_MAX * n → 0 < n
    → (2 * (min t (TIME_MAX + 1) * n + p) + f ≤ 2 * q) ↔ (2 * (t * n + p) + f ≤ 2 * q)
low_capped t n p q f small within some = search rules

high_capped : (t n p q f : ℕ) → f ≤ 1 → q ≤ TIME_MAX * n → 0 < n
    → (2 * q < 2 * (min t (TIME_MAX + 1) * n + p) + f) ↔ (2 * q < 2 * (t * n + p) + f)
high_capped t n p q f small within some = search rules

-- ---- zones that are pushed

pub Pushes-none : (begins : Begins) (zones : List ZoneBounds) → Pushes begins [] zones zones
Pushes-none begins zones = search rules

one_of : (bar other : Bar) → Contains (bar ∷ []) other → bar ≡ other
one_of bar other (zero, below, is) = is
one_of bar other (suc k, below, is) = absurd (omega (arith, below))

pub same_zone : (zone other : ZoneBounds) (P : Pairs) → IsCanonical zone → IsCanonical other
    → IsZoneOf zone P → IsZoneOf other P → zone ≡ other
same_zone zone other P canonical canonical' is is' = same_pairs zone other canonical canonical'
    (record {
      every = λ a b n some le h.
          (is.exact a b n some le).1 ((is'.exact a b n some le).0 h);
    })
    (record {
      every = λ a b n some le h.
          (is'.exact a b n some le).1 ((is.exact a b n some le).0 h);
    })

pub Pushes-some : (begins : Begins) (bar : Bar) (zone : ZoneBounds) (zones : List ZoneBounds)
    → IsCanonical zone → IsZoneOf zone (IsInPart begins bar)
    → Pushes begins (bar ∷ []) zones (zones ++ zone ∷ [])
Pushes-some begins bar zone zones canonical is = record {
  kept = λ other has. Contains-append_left zones (zone ∷ []) other has;
  all = λ other_bar other has canonical' is'.
      let same = one_of bar other_bar has in
      subst (λ (z : ZoneBounds). Contains (zones ++ zone ∷ []) z)
      (same_zone zone other (IsInPart begins bar) canonical canonical' is
      (subst (λ (b : Bar). IsZoneOf other (IsInPart begins b)) (sym same) is'))
      (Contains-push zones zone);
  sound = λ other has. ⊎_elim (λ x. inl x)
      (λ same. inr (subst (λ (z : ZoneBounds). IsCanonical z × ((b : Bar) × Contains (bar ∷ []) b
      × IsZoneOf z (IsInPart begins b))) same
      (canonical, (bar, Contains-get_or (bar ∷ []) 0 bar (omega arith), is))))
      (Contains-push_cases zones zone other has);
  held = λ a b n h. (SetHolds-push zones zone a b n).1 (inl h);
  covers = λ other has a b n some le h. (SetHolds-push zones zone a b n).1
      (inr ((is.exact a b n some le).1
      (subst (λ (x : Bar). IsInPart begins x a b n) (sym (one_of bar other has)) h)));
}

pub Pushes-empty : (begins : Begins) (bar : Bar) (zones : List ZoneBounds)
    → HasNoPair (IsInPart begins bar) → Pushes begins (bar ∷ []) zones zones
Pushes-empty begins bar zones none = record {
  kept = λ zone has. has;
  all = λ other zone has canonical is.
      let some = canonical-some zone canonical in
      absurd (none.never some.a some.b some.n some.some some.rising
      (subst (λ (x : Bar). IsInPart begins x some.a some.b some.n) (sym (one_of bar other has))
      ((is.exact some.a some.b some.n some.some some.rising).0 some.held)));
  sound = λ zone has. inl has;
  held = λ a b n h. h;
  covers = λ other has a b n some le h. absurd (none.never a b n some le
      (subst (λ (x : Bar). IsInPart begins x a b n) (sym (one_of bar other has)) h));
}

-- One bar more.
pub Pushes-more : (begins : Begins) (bars : List Bar) (i : ℕ) (bar : Bar)
    (old mid new : List ZoneBounds) → i < length bars → bar ≡ get_or bars i bar
    → Pushes begins (take i bars) old mid → Pushes begins (bar ∷ []) mid new
    → Pushes begins (take (i + 1) bars) old new
Pushes-more begins bars i bar old mid new within is first second = record {
  kept = λ zone has. second.kept zone (first.kept zone has);
  all = λ other zone has canonical is_it. ⊎_elim
      (λ x. second.kept zone (first.all other zone x canonical is_it))
      (λ x. second.all other zone x canonical is_it) (parts other has);
  sound = λ zone has. ⊎_elim
      (λ x. ⊎_elim (λ y. inl y) (λ y. inr (y.0, (y.1.0, front y.1.0 y.1.1, y.1.2)))
      (first.sound zone x))
      (λ x. inr (x.0, (x.1.0, last x.1.0 x.1.1, x.1.2))) (second.sound zone has);
  held = λ a b n h. second.held a b n (first.held a b n h);
  covers = λ other has a b n some le h. ⊎_elim
      (λ x. second.held a b n (first.covers other x a b n some le h))
      (λ x. second.covers other x a b n some le h) (parts other has);
}
  where
    whole : take (i + 1) bars ≡ take i bars ++ bar ∷ []
    whole = take_more bars i bar within ∙ ap (λ (b : Bar). take i bars ++ b ∷ []) (sym is)

    parts : (other : Bar) → Contains (take (i + 1) bars) other
        → Contains (take i bars) other ⊎ Contains (bar ∷ []) other
    parts other has = Contains-append_cases (take i bars) (bar ∷ []) other
        (subst (λ (l : List Bar). Contains l other) whole has)

    front : (other : Bar) → Contains (take i bars) other → Contains (take (i + 1) bars) other
    front other has = subst (λ (l : List Bar). Contains l other) (sym whole)
        (Contains-append_left (take i bars) (bar ∷ []) other has)

    last : (other : Bar) → Contains (bar ∷ []) other → Contains (take (i + 1) bars) other
    last other has = subst (λ (l : List Bar). Contains l other) (sym whole)
        (Contains-append_right (take i bars) (bar ∷ []) other has)

pub Pushes-all : (begins : Begins) (bars : List Bar) (i : ℕ) (old new : List ZoneBounds)
    → length bars ≤ i → Pushes begins (take i bars) old new → Pushes begins bars old new
Pushes-all begins bars i old new past pushed =
    subst (λ (l : List Bar). Pushes begins l old new) (take_all i bars past) pushed

-- ---- the bounds of an end

abbrev pub LowMeans : ℤ → BarEnd → Bool → Type 0
LowMeans key end moving = (a b n : ℕ) → 0 < n → a ≤ b → b ≤ TIME_MAX * n
    → Meets key (cond moving a 0) b n ↔ (end.moves ≡ moving → place_of end a n ≤ 2 * b)

abbrev pub HighMeans : ℤ → BarEnd → Bool → Type 0
HighMeans key end moving = (a b n : ℕ) → 0 < n → a ≤ b → b ≤ TIME_MAX * n
    → Meets key b (cond moving a 0) n ↔ (end.moves ≡ moving → 2 * b < place_of end a n)

least : (moving : Bool) (a b : ℕ) → a ≤ b → cond moving a 0 ≤ b
least true a b le = le
least false a b le = omega arith

abbrev bit_of : Bool → ℕ
bit_of flag = cond flag 1 0

-- The place of an end that moves as is asked, as it is for such a one.
place_as : (end : BarEnd) (moving after_it : Bool) (a n : ℕ) → end.moves ≡ moving
    → end.after ≡ after_it
    → place_of end a n ≡ 2 * (end.ticks * n + cond moving a 0) + cond after_it 1 0
unfolding place_of
place_as end moving after_it a n e e' = search rules

pub LowMeans-strict : (key : ℤ) (end : BarEnd) (moving : Bool)
    → key ≡ pos 2 *ℤ neg_ℤ (pos (min end.ticks (TIME_MAX + 1))) → end.moves ≡ moving
    → end.after ≡ true → LowMeans key end moving
LowMeans-strict key end moving is same late a b n some le within =
    let both = Meets-more key (min end.ticks (TIME_MAX + 1)) (omega (arith, ints))
    (cond moving a 0) b n in
    let capped = low_capped end.ticks n (cond moving a 0) b 1 (omega arith) within some in
    let place = place_as end moving true a n same late in (
      (λ m. λ e. let lt = both.0 m in let h = capped.0 (omega arith) in omega arith),
      (λ h. let at = h same in let lt = capped.1 (omega arith) in both.1 (omega arith)),
    )

pub LowMeans-weak : (key : ℤ) (end : BarEnd) (moving : Bool)
    → key ≡ (pos 2 *ℤ neg_ℤ (pos (min end.ticks (TIME_MAX + 1)))) +ℤ pos 1 → end.moves ≡ moving
    → end.after ≡ false → LowMeans key end moving
LowMeans-weak key end moving is same early a b n some le within =
    let both = Meets-at_least key (min end.ticks (TIME_MAX + 1)) (omega (arith, ints))
    (cond moving a 0) b n in
    let capped = low_capped end.ticks n (cond moving a 0) b 0 (omega arith) within some in
    let place = place_as end moving false a n same early in (
      (λ m. λ e. let lt = both.0 m in let h = capped.0 (omega arith) in omega arith),
      (λ h. let at = h same in let lt = capped.1 (omega arith) in both.1 (omega arith)),
    )

pub HighMeans-weak : (key : ℤ) (end : BarEnd) (moving : Bool)
    → key ≡ (pos 2 *ℤ pos (min end.ticks (TIME_MAX + 1))) +ℤ pos 1 → end.moves ≡ moving
    → end.after ≡ true → HighMeans key end moving
HighMeans-weak key end moving is same late a b n some le within =
    let both = Meets-at_most key (min end.ticks (TIME_MAX + 1)) (omega (arith, ints)) b
    (cond moving a 0) n in
    let capped = high_capped end.ticks n (cond moving a 0) b 1 (omega arith) within some in
    let place = place_as end moving true a n same late in (
      (λ m. λ e. let lt = both.0 m in let h = capped.0 (omega arith) in omega arith),
      (λ h. let at = h same in let lt = capped.1 (omega arith) in both.1 (omega arith)),
    )

pub HighMeans-strict : (key : ℤ) (end : BarEnd) (moving : Bool)
    → key ≡ pos 2 *ℤ pos (min end.ticks (TIME_MAX + 1)) → end.moves ≡ moving
    → end.after ≡ false → HighMeans key end moving
HighMeans-strict key end moving is same early a b n some le within =
    let both = Meets-less key (min end.ticks (TIME_MAX + 1)) (omega (arith, ints)) b
    (cond moving a 0) n in
    let capped = high_capped end.ticks n (cond moving a 0) b 0 (omega arith) within some in
    let place = place_as end moving false a n same early in (
      (λ m. λ e. let lt = both.0 m in let h = capped.0 (omega arith) in omega arith),
      (λ h. let at = h same in let lt = capped.1 (omega arith) in both.1 (omega arith)),
    )

-- ---- the six bounds

from_it : (takes : Bool) (time a n : ℕ) → (2 * (time * n + 0) + cond (not takes) 1 0 ≤ 2 * a)
    ↔ ((time * n ≤ a) × (a ≡ time * n → takes ≡ true))
from_it true time a n = ((λ h. (omega arith, λ e. refl)), (λ h. let le = h.0 in omega arith))
from_it false time a n = search rules

until_it : (takes : Bool) (time a n : ℕ) → (2 * a < 2 * (time * n + 0) + cond takes 1 0)
    ↔ ((a ≤ time * n) × (a ≡ time * n → takes ≡ true))
until_it true time a n = ((λ h. (omega arith, λ e. refl)), (λ h. let le = h.0 in omega arith))
until_it false time a n = search rules

either : (flag : Bool) (P : Type 0) → (flag ≡ false → P) → (flag ≡ true → P) → P
either flag P no_it yes_it = search rules

abbrev pub begin_end : Begins → BarEnd
begin_end begins = record {
  ticks = begins.from;
  moves = false;
  after = not begins.takes_from;
}

abbrev pub last_end : Begins → BarEnd
last_end begins = record {
  ticks = begins.until;
  moves = false;
  after = begins.takes_until;
}

pub GivesZone-part : (begins : Begins) (bar : Bar) (zone : ZoneBounds) (found : Option ZoneBounds)
    → LowMeans zone.begin_low (begin_end begins) false
    → HighMeans zone.begin_high (last_end begins) false
    → LowMeans zone.end_low bar.low false → HighMeans zone.end_high bar.high false
    → LowMeans zone.dur_low bar.low true → HighMeans zone.dur_high bar.high true
    → GivesZone found (Both (ZoneHolds zone) (IsInFrame TIME_MAX))
    → GivesZone found (IsInPart begins bar)
unfolding place_of
GivesZone-part begins bar zone found begin_low begin_high end_low end_high dur_low dur_high given =
    GivesZone-same found (Both (ZoneHolds zone) (IsInFrame TIME_MAX)) (IsInPart begins bar)
    (λ a b n some le. (
      (λ both.
          let frame = both.right in
          let ends = frame.ends in
          let z = both.left in
          let from = (from_it begins.takes_from begins.from a n).0
          ((begin_low a a n some (omega arith) (omega arith)).0 z.begin_low refl) in
          let until = (until_it begins.takes_until begins.until a n).0
          ((begin_high a a n some (omega arith) (omega arith)).0 z.begin_high refl) in
          record {
            left = record {
              low = from.0;
              high = until.0;
              first = from.1;
              last = until.1;
              ends = record {
                low = either bar.low.moves _ ((end_low a b n some le ends).0 z.end_low)
                    ((dur_low a b n some le ends).0 z.dur_low);
                high = either bar.high.moves _ ((end_high a b n some le ends).0 z.end_high)
                    ((dur_high a b n some le ends).0 z.dur_high);
              };
            };
            right = frame;
          }),
      (λ part.
          let frame = part.right in
          let ends = frame.ends in
          let p = part.left in
          record {
            left = record {
              begin_low = (begin_low a a n some (omega arith) (omega arith)).1
                  (λ e. (from_it begins.takes_from begins.from a n).1 (p.low, p.first));
              begin_high = (begin_high a a n some (omega arith) (omega arith)).1
                  (λ e. (until_it begins.takes_until begins.until a n).1 (p.high, p.last));
              end_low = (end_low a b n some le ends).1 (λ e. p.ends.low);
              end_high = (end_high a b n some le ends).1 (λ e. p.ends.high);
              dur_low = (dur_low a b n some le ends).1 (λ e. p.ends.low);
              dur_high = (dur_high a b n some le ends).1 (λ e. p.ends.high);
            };
            right = frame;
          }),
    )) given

pub same_flags : (m k : Bool) → not (beq m k) ≡ false → m ≡ k
same_flags true true e = refl
same_flags true false e = absurd (true≢false e)
same_flags false true e = absurd (true≢false e)
same_flags false false e = refl
