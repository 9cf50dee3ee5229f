-- Whether an end stands before another over some times, seen at one of them; and cut times.
use Rattle.std.proofs.Common.{◌≡◌, ℕ, ◌+◌, ◌-◌, ◌*◌, ◌<◌, ◌≤◌, ◌↔◌, Bool, true, false, cond, IsTrue, refl, sym, ap, arith, inl, inr, ⊎_elim, true≢false, mul-le-mul_right, rules}
use Rattle.std.proofs.lemmas.Bool.{cases_lt}
use Rattle.tre_strips.specs.Bar.{place_of}
use Rattle.tre_strips.specs.Times.{IsAmongTimes, Narrows, sample_of, IsSettled, Compares}
use Rattle.tre_strips.specs.declared.bar.BarEnd.{BarEnd}
use Rattle.tre_strips.specs.declared.times.Times.{Times}

-- Where a/n is one of them, the times do not end before they begin.
pub times_rise : (times : Times) (a n : ℕ) → IsAmongTimes times a n → times.from ≤ times.until
times_rise times a n time = search rules

pub sample_is_time : (times : Times) → times.from ≤ times.until → IsAmongTimes times (sample_of times) 2
unfolding sample_of
sample_is_time times rising = search rules

-- The places at one of the times tell the order over all.
pub Compares-test : (times : Times) (one other : BarEnd) (before : Bool)
    → (IsTrue before ↔ (place_of one (sample_of times) 2 < place_of other (sample_of times) 2))
    → IsSettled times one other → Compares before times one other
Compares-test times one other true test settled = record {
  told = λ a n time.
      ⊎_elim (λ less. less a n time)
      (λ above.
      let here = above (sample_of times) 2 (sample_is_time times (times_rise times a n time)) in
      let less = test.0 refl in
      absurd (omega arith))
      settled.order;
}
Compares-test times one other false test settled = record {
  told = λ a n time.
      ⊎_elim (λ less.
      let here = less (sample_of times) 2 (sample_is_time times (times_rise times a n time)) in
      absurd (true≢false (sym (test.1 here))))
      (λ above. above a n time)
      settled.order;
}

pub Narrows-time : (old new : Times) → Narrows old new → (a n : ℕ) → IsAmongTimes new a n
    → IsAmongTimes old a n
Narrows-time old new narrows a n time =
    let from = narrows.from in
    let until = narrows.until in
    let start = ap (λ k. k * n) from in
    let end = mul-le-mul_right n until in
    record {
      some = time.some;
      inside = ⊎_elim (λ one.
          let same = one.0 in
          let is = one.1 in
          ⊎_elim (λ (less : old.from < old.until).
          let open_still = narrows.many less in absurd (omega arith))
          (λ (above : old.until ≤ old.from). inl (omega arith, omega arith))
          (cases_lt old.from old.until))
          (λ many.
          let low = many.0 in
          let high = many.1 in
          inr (omega arith, omega arith)) time.inside;
    }

pub Narrows-trans : (old mid new : Times) → Narrows old mid → Narrows mid new → Narrows old new
Narrows-trans old mid new first second = search rules

pub Narrows-itself : (times : Times) → Narrows times times
Narrows-itself times = search rules

-- The times that are left have the same sample.
pub Narrows-sample : (old new : Times) → Narrows old new → sample_of new ≡ sample_of old
unfolding sample_of
Narrows-sample old new narrows = search rules

pub sample_single : (times : Times) → times.from ≡ times.until → sample_of times ≡ 2 * times.from
unfolding sample_of
sample_single times same = omega arith

pub sample_many : (times : Times) → times.from < times.until
    → sample_of times ≡ 2 * times.from + 1
unfolding sample_of
sample_many times less = omega arith

-- The sample stands at the first of the times, or half a tick behind it.
pub sample_near : (times : Times)
    → (2 * times.from ≤ sample_of times) × (sample_of times ≤ 2 * times.from + 1)
unfolding sample_of
sample_near times = (omega arith, omega arith)

pub flag_small : (flag : Bool) → cond flag 1 0 ≤ 1
flag_small true = omega arith
flag_small false = omega arith

-- ---- a moving end and a fixed one

pub is-so : {A : Type 0} → A → IsTrue true ↔ A
is-so a = ((λ e. a), (λ b. refl))

pub is-not : {A : Type 0} → (A → ⊥) → IsTrue false ↔ A
is-not never = ((λ e. absurd (true≢false (sym e))), (λ a. absurd (never a)))

-- The places where the two stand at the sample, in quarters of a tick.
module _ (times : Times) (moving fixed : BarEnd) where
  abbrev pub moving_place : ℕ
  moving_place = 4 * moving.ticks + (2 * sample_of times + cond moving.after 1 0)

  abbrev pub fixed_place : ℕ
  fixed_place = 4 * fixed.ticks + cond fixed.after 1 0

  pub meets-later : times.from < fixed.ticks - moving.ticks → moving_place < fixed_place
  meets-later later =
      omega (arith, later, (sample_near times).1, flag_small moving.after)

  pub met-before : fixed.ticks - moving.ticks < times.from → fixed_place < moving_place
  met-before before =
      omega (arith, before, (sample_near times).0, flag_small fixed.after)

  pub meets-never : fixed.ticks < moving.ticks → fixed_place < moving_place
  meets-never past = omega (arith, past, flag_small fixed.after)

  -- where they meet, their flags tell
  module _ (meeting late one other : ℕ) (is : meeting ≡ fixed.ticks - moving.ticks)
      (below : meeting ≤ times.from) (above : times.from ≤ meeting)
      (rising : moving.ticks ≤ fixed.ticks) (later : 4 * times.from + late ≡ 2 * sample_of times)
      (one_is : one ≡ cond moving.after 1 0) (other_is : other ≡ cond fixed.after 1 0) where
    same : moving_place ≡ 4 * fixed.ticks + (one + late)
    same = omega (arith, is, below, above, rising, later, one_is)

    pub moving-first : {told : Bool} → (IsTrue told ↔ (one + late < other))
        → IsTrue told ↔ (moving_place < fixed_place)
    moving-first less = (
      (λ e. omega (arith, same, other_is, less.0 e)),
      (λ lt. less.1 (omega (arith, same, other_is, lt))),
    )

    pub fixed-first : {told : Bool} → (IsTrue told ↔ (other < one + late))
        → IsTrue told ↔ (fixed_place < moving_place)
    fixed-first less = (
      (λ e. omega (arith, same, other_is, less.0 e)),
      (λ lt. less.1 (omega (arith, same, other_is, lt))),
    )
