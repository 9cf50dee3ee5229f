-- Bars over one whole time: where they stand there tells what they hold there, in all units.
use Rattle.std.proofs.Common.{◌≡◌, ℕ, zero, suc, ◌+◌, ◌*◌, ◌<◌, ◌≤◌, ◌↔◌, Bool, true, false, cond, List, [], ◌∷◌, length, get_or, take, refl, sym, ap, subst, ◌∙◌, arith, inl, inr, ⊎_elim, mul-le-mul_right, rules}
use Rattle.std.proofs.lemmas.Bool.{cases_lt}
use Rattle.std.proofs.lemmas.List.{take_more, take_all, get_or_default}
use Rattle.tre_strips.specs.Bar.{place_of, BarsHold, AreFilled, RiseFrom}
use Rattle.tre_strips.specs.Found.{StandAlike, AreSamePlaces, Agree, RiseAt}
use Rattle.tre_strips.specs.Profiles.{AreFilledOver, IsUnionOfBars}
use Rattle.tre_strips.specs.Times.{IsAmongTimes}
use Rattle.tre_strips.specs.declared.bar.Bar.{Bar}
use Rattle.tre_strips.specs.declared.bar.BarEnd.{BarEnd}
use Rattle.tre_strips.specs.declared.times.Times.{Times}
use Rattle.tre_strips.proofs.Lists.{AreFilled-push, AreFilled-at}
use Rattle.tre_strips.proofs.Joining.{IsUnion-few}
use Rattle.tre_strips.proofs.Unique.{covers_held, same_places}

-- ---- one time in all units

-- The moment of an end over the time, in ticks.
moment : BarEnd → ℕ → ℕ
moment end time = end.ticks + cond end.moves time 0

at : (t time n : ℕ) (m f : Bool)
    → 2 * (t * n + cond m (time * n) 0) + cond f 1 0 ≡ 2 * ((t + cond m time 0) * n) + cond f 1 0
at t time n true f = omega arith
at t time n false f = omega arith

small : (flag : Bool) → cond flag 1 0 ≤ 1
small true = omega arith
small false = omega arith

place_at : (end : BarEnd) (time n : ℕ)
    → place_of end (time * n) n ≡ 2 * (moment end time * n) + cond end.after 1 0
unfolding place_of moment
place_at end time n = at end.ticks time n end.moves end.after

place_twice : (end : BarEnd) (time : ℕ)
    → place_of end (2 * time) 2 ≡ 2 * (moment end time * 2) + cond end.after 1 0
place_twice end time =
    let turned : 2 * time ≡ time * 2 = omega arith in
    ap (λ (k : ℕ). place_of end k 2) turned ∙ place_at end time 2

pub same_single : (end other : BarEnd) (time n : ℕ)
    → place_of end (2 * time) 2 ≡ place_of other (2 * time) 2
    → place_of end (time * n) n ≡ place_of other (time * n) n
same_single end other time n e =
    search (rules, place_twice, small, moment, place_at, end.after, other.after)

pub less_single : (end other : BarEnd) (time n : ℕ) → 0 < n
    → place_of end (2 * time) 2 < place_of other (2 * time) 2
    → place_of end (time * n) n < place_of other (time * n) n
less_single end other time n some less =
    let one = place_twice end time in
    let two = place_twice other time in
    let low = small end.after in
    let low' = small other.after in
    let here = place_at end time n in
    let there = place_at other time n in
    ⊎_elim (λ (below : moment end time < moment other time).
    let wide = mul-le-mul_right n below in omega arith)
    (λ (above : moment other time ≤ moment end time).
    let same : moment end time ≡ moment other time = omega arith in
    let product = ap (λ k. k * n) same in omega arith)
    (cases_lt (moment end time) (moment other time))

-- ---- lists of bars

pub AreSamePlaces-single : (bars others : List Bar) (time n : ℕ)
    → AreSamePlaces bars others (2 * time) 2 → AreSamePlaces bars others (time * n) n
unfolding AreSamePlaces
AreSamePlaces-single [] [] time n same = tt
AreSamePlaces-single [] (other ∷ others) time n same = same
AreSamePlaces-single (bar ∷ bars) [] time n same = same
AreSamePlaces-single (bar ∷ bars) (other ∷ others) time n same = (
  record {
    low = same_single bar.low other.low time n same.0.low;
    high = same_single bar.high other.high time n same.0.high;
  },
  AreSamePlaces-single bars others time n same.1,
)

pub AreFilled-single : (bars : List Bar) (time n : ℕ) → 0 < n → AreFilled bars (2 * time) 2
    → AreFilled bars (time * n) n
unfolding AreFilled
AreFilled-single [] time n some filled = tt
AreFilled-single (bar ∷ bars) time n some filled =
    (less_single bar.low bar.high time n some filled.0, AreFilled-single bars time n some filled.1)

pub AreSamePlaces-held : (bars others : List Bar) (a b n : ℕ) → AreSamePlaces bars others a n
    → BarsHold bars a b n ↔ BarsHold others a b n
unfolding AreSamePlaces BarsHold
AreSamePlaces-held [] [] a b n same = ((λ h. h), (λ h. h))
AreSamePlaces-held [] (other ∷ others) a b n same = absurd same
AreSamePlaces-held (bar ∷ bars) [] a b n same = absurd same
AreSamePlaces-held (bar ∷ bars) (other ∷ others) a b n same =
    let rest = AreSamePlaces-held bars others a b n same.1 in
    let low = same.0.low in
    let high = same.0.high in (
      (λ h. ⊎_elim (λ x. let above = x.low in let below = x.high in
          inl (record { low = omega arith; high = omega arith })) (λ x. inr (rest.0 x)) h),
      (λ h. ⊎_elim (λ x. let above = x.low in let below = x.high in
          inl (record { low = omega arith; high = omega arith })) (λ x. inr (rest.1 x)) h),
    )

-- ---- place by place

pub each_alike : (bars others : List Bar) (a n : ℕ) → AreSamePlaces bars others a n
    → (length bars ≡ length others) × ((k : ℕ) (d e : Bar) → k < length bars
    → StandAlike a n (get_or bars k d) (get_or others k e))
unfolding AreSamePlaces
each_alike [] [] a n same = (refl, λ k d e below. absurd (omega (arith, below)))
each_alike [] (other ∷ others) a n same = absurd same
each_alike (bar ∷ bars) [] a n same = absurd same
each_alike (bar ∷ bars) (other ∷ others) a n same =
    let rest = each_alike bars others a n same.1 in
    (ap suc rest.0, at_each bar other bars others a n same.0 rest.1)
  where
    at_each : (bar other : Bar) (bars others : List Bar) (a n : ℕ) → StandAlike a n bar other
        → ((k : ℕ) (d e : Bar) → k < length bars
        → StandAlike a n (get_or bars k d) (get_or others k e))
        → (k : ℕ) (d e : Bar) → k < length (bar ∷ bars)
        → StandAlike a n (get_or (bar ∷ bars) k d) (get_or (other ∷ others) k e)
    at_each bar other bars others a n first rest zero d e below = first
    at_each bar other bars others a n first rest (suc k) d e below =
        rest k d e (omega (arith, below))

pub all_alike : (bars others : List Bar) (a n : ℕ) → length bars ≡ length others
    → ((k : ℕ) (d e : Bar) → k < length bars
    → StandAlike a n (get_or bars k d) (get_or others k e))
    → AreSamePlaces bars others a n
unfolding AreSamePlaces
all_alike [] [] a n same each = tt
all_alike [] (other ∷ others) a n same each = absurd (omega arith)
all_alike (bar ∷ bars) [] a n same each = absurd (omega arith)
all_alike (bar ∷ bars) (other ∷ others) a n same each = (
  each 0 bar other (omega arith),
  all_alike bars others a n (omega arith) (λ k d e below. each (suc k) d e (omega (arith, below))),
)

-- ---- bars that fit

-- What is united rises, and agrees with the profile exactly where it stands alike.
pub Agree-same : (time : ℕ) (times : Times) (bars union there : List Bar) → times.from ≡ time
    → times.until ≡ time → AreFilled bars (2 * time) 2 → IsUnionOfBars times bars union
    → AreSamePlaces union there (2 * time) 2 → Agree time bars there
Agree-same time times bars union there is is' filled union_is same =
    search (rules, AreFilled-single, AreSamePlaces-held, AreSamePlaces-single, union_is.exact)

pub same-Agree : (time : ℕ) (times : Times) (bars union there : List Bar) → times.from ≡ time
    → times.until ≡ time → IsUnionOfBars times bars union → RiseAt time there → Agree time bars there
    → AreSamePlaces union there (2 * time) 2
same-Agree time times bars union there is is' union_is rise agree =
    let turned : time * 2 ≡ 2 * time = omega arith in
    let twice : time * 4 ≡ 2 * (2 * time) = omega arith in
    let own : (n : ℕ) → 0 < n → IsAmongTimes times (time * n) n = λ n some. record {
      some = some;
      inside = inl (is ∙ sym is', ap (λ k. k * n) (sym is));
    } in
    subst (λ (a : ℕ). AreSamePlaces union there a 2) turned
    (same_places union there 0 0 (time * 2) 2 (union_is.rising (time * 2) 2 (own 2 (omega arith)))
    (rise.rising 2 (omega arith)) (λ p.
    let one = covers_held union (time * 2) 2 p in
    let other = covers_held there (time * 2) 2 p in
    let four : time * 4 ≡ 2 * (time * 2) = omega arith in
    let same = union_is.exact (time * 4) 4 (own 4 (omega arith)) p in
    let agrees = agree.exact p 4 (omega arith) in
    let held = subst (λ (a : ℕ). BarsHold union a p 4 ↔ BarsHold bars a p 4) four same in
    let held' = subst (λ (a : ℕ). BarsHold bars a p 4 ↔ BarsHold there a p 4) four agrees in (
      (λ h. other.0 (held'.0 (held.0 (one.1 h)))),
      (λ h. one.0 (held.1 (held'.1 (other.1 h)))),
    )))

pub AreFilledOver-single : (time : ℕ) (bars : List Bar) (times : Times) → times.from ≡ time
    → times.until ≡ time → AreFilled bars (2 * time) 2 → AreFilledOver times bars
AreFilledOver-single time bars times is is' filled = search (rules, AreFilled-single)

-- What is filled at twice the unit is so at its half.
pub Agree-filled : (time : ℕ) (bars there : List Bar) → Agree time bars there
    → AreFilled bars (2 * time) 2
Agree-filled time bars there agree =
    let turned : time * 2 ≡ 2 * time = omega arith in
    subst (λ (k : ℕ). AreFilled bars k 2) turned (agree.filled 2 (omega arith))

-- What stands as a rising list does is filled.
AreFilled-alike : (least : ℕ) (bars others : List Bar) (a n : ℕ) → RiseFrom least others a n
    → AreSamePlaces bars others a n → AreFilled bars a n
unfolding RiseFrom AreSamePlaces AreFilled
AreFilled-alike least [] others a n rise same = tt
AreFilled-alike least (bar ∷ bars) [] a n rise same = absurd same
AreFilled-alike least (bar ∷ bars) (other ∷ others) a n rise same =
    let low = same.0.low in
    let high = same.0.high in
    let less = rise.1 in
    (omega arith, AreFilled-alike (place_of other.high a n + 1) bars others a n rise.2 same.1)

-- What stands alike agrees.
pub Agree-alike : (time : ℕ) (bars there : List Bar) → RiseAt time there
    → AreSamePlaces bars there (2 * time) 2 → Agree time bars there
Agree-alike time bars there rise same =
    search (rules, AreFilled-alike, AreSamePlaces-single, AreSamePlaces-held, rise.rising)

-- Fewer than two bars are united as they stand, so they agree only where they stand alike.
pub few-Agree : (time : ℕ) (bars there : List Bar) → length bars < 2 → RiseAt time there
    → Agree time bars there → AreSamePlaces bars there (2 * time) 2
few-Agree time bars there few rise agree =
    let times : Times = record { from = time; until = time } in
    same-Agree time times bars bars there refl refl
    (IsUnion-few times bars few
    (AreFilledOver-single time bars times refl refl (Agree-filled time bars there agree)))
    rise agree

-- ---- one bar after another

pub AreFilled-none : (a n : ℕ) → AreFilled [] a n
unfolding AreFilled
AreFilled-none a n = tt

pub AreFilled-more : (bars : List Bar) (i : ℕ) (d : Bar) (a n : ℕ) → i < length bars
    → AreFilled (take i bars) a n
    → place_of (get_or bars i d).low a n < place_of (get_or bars i d).high a n
    → AreFilled (take (i + 1) bars) a n
AreFilled-more bars i d a n within filled less =
    rw (take_more bars i d within) (AreFilled-push (take i bars) (get_or bars i d) a n filled less)

pub AreFilled-all : (bars : List Bar) (i a n : ℕ) → length bars ≤ i → AreFilled (take i bars) a n
    → AreFilled bars a n
AreFilled-all bars i a n past filled = rw (take_all i bars past) at filled

pub AreFilled-not : (bars : List Bar) (i : ℕ) (d : Bar) (a n : ℕ) → AreFilled bars a n
    → i < length bars
    → (place_of (get_or bars i d).low a n < place_of (get_or bars i d).high a n → ⊥) → ⊥
AreFilled-not bars i d a n filled within not_less = not_less (AreFilled-at _ _ _ _ _ filled within)

-- ---- the test of two lists

-- What stands where a list has no bar.
abbrev pub blank : Bar
blank = record {
  low = record { ticks = 0; moves = false; after = false };
  high = record { ticks = 0; moves = false; after = false };
}

abbrev pub AlikeBelow : ℕ → List Bar → List Bar → ℕ → Type 0
AlikeBelow i bars others a = (k : ℕ) → k < i
    → StandAlike a 2 (get_or bars k blank) (get_or others k blank)

pub AreSamePlaces-below : (bars others : List Bar) (i a : ℕ) → length bars ≡ length others
    → length bars ≤ i → AlikeBelow i bars others a → AreSamePlaces bars others a 2
AreSamePlaces-below bars others i a same past each =
    all_alike bars others a 2 same (λ k d e below.
    rw (get_or_default bars k d blank below, get_or_default others k e blank (omega (arith, below)))
    (each k (omega (arith, below))))

pub AreSamePlaces-one : (bars others : List Bar) (i a : ℕ) → i < length bars
    → AreSamePlaces bars others a 2
    → StandAlike a 2 (get_or bars i blank) (get_or others i blank)
AreSamePlaces-one bars others i a within same = (each_alike _ _ _ 2 same).1 i blank blank within

pub AreSamePlaces-long : (bars others : List Bar) (a : ℕ) → AreSamePlaces bars others a 2
    → length bars ≡ length others
AreSamePlaces-long bars others a same = (each_alike bars others a 2 same).0

pub AreSamePlaces-itself : (bars : List Bar) (a n : ℕ) → AreSamePlaces bars bars a n
unfolding AreSamePlaces
AreSamePlaces-itself [] a n = tt
AreSamePlaces-itself (bar ∷ bars) a n =
    (record { low = refl; high = refl }, AreSamePlaces-itself bars a n)
