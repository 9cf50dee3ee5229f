-- Sums over rows: of what is no more, and of what is less at one row.
use Rattle.std.proofs.Common.{◌≡◌, ℕ, zero, suc, ◌<◌, ◌≤◌, ⊎_elim, subst, arith}
use Rattle.std.proofs.lemmas.Bool.{cases_lt}
use Rattle.tre_star.specs.Rows.{Row, sum_below, sum_of_rows}

sum_below-le : (width : ℕ) (f g : ℕ → ℕ) → ((k : ℕ) → f k ≤ g k)
    → sum_below width f ≤ sum_below width g
unfolding sum_below
sum_below-le zero f g le = omega arith
sum_below-le (suc width) f g le = omega (arith, le width, sum_below-le width f g le)

sum_below-less : (width : ℕ) (f g : ℕ → ℕ) → ((k : ℕ) → f k ≤ g k) → (j : ℕ) → j < width
    → f j < g j → sum_below width f < sum_below width g
unfolding sum_below
sum_below-less zero f g le j below less = absurd (omega arith)
sum_below-less (suc width) f g le j below less =
    ⊎_elim
    (λ earlier. omega (arith, le width, sum_below-less width f g le j earlier less))
    (λ last.
    let same : j ≡ width = omega arith in
    let here : f width < g width = subst (λ k. f k < g k) same less in
    omega (arith, here, sum_below-le width f g le))
    (cases_lt j width)

abbrev row_at : ℕ → ℕ → ℕ → ℕ → ℕ → ℕ → Row
row_at a b c d e g = record {
  begin_low = a;
  begin_high = b;
  end_low = c;
  end_high = d;
  dur_low =
      e;
  dur_high = g;
}

-- The sums over the last place, the last two places, and so on.
module _ (width : ℕ) (f : Row → ℕ) where
  abbrev last : ℕ → ℕ → ℕ → ℕ → ℕ → ℕ
  last a b c d e = sum_below width (λ g. f (row_at a b c d e g))

  abbrev last_two : ℕ → ℕ → ℕ → ℕ → ℕ
  last_two a b c d = sum_below width (λ e. last a b c d e)

  abbrev last_three : ℕ → ℕ → ℕ → ℕ
  last_three a b c = sum_below width (λ d. last_two a b c d)

  abbrev last_four : ℕ → ℕ → ℕ
  last_four a b = sum_below width (λ c. last_three a b c)

  abbrev last_five : ℕ → ℕ
  last_five a = sum_below width (λ b. last_four a b)

module _ (width : ℕ) (f g : Row → ℕ) (le : (row : Row) → f row ≤ g row) where
  le_one : (a b c d e : ℕ) → last width f a b c d e ≤ last width g a b c d e
  le_one a b c d e = sum_below-le width (λ k. f (row_at a b c d e k)) (λ k. g (row_at a b c d e k))
      (λ k. le (row_at a b c d e k))

  le_two : (a b c d : ℕ) → last_two width f a b c d ≤ last_two width g a b c d
  le_two a b c d = sum_below-le width (λ e. last width f a b c d e) (λ e. last width g a b c d e)
      (λ e. le_one a b c d e)

  le_three : (a b c : ℕ) → last_three width f a b c ≤ last_three width g a b c
  le_three a b c = sum_below-le width (λ d. last_two width f a b c d)
      (λ d. last_two width g a b c d) (λ d. le_two a b c d)

  le_four : (a b : ℕ) → last_four width f a b ≤ last_four width g a b
  le_four a b = sum_below-le width (λ c. last_three width f a b c) (λ c. last_three width g a b c)
      (λ c. le_three a b c)

  le_five : (a : ℕ) → last_five width f a ≤ last_five width g a
  le_five a = sum_below-le width (λ b. last_four width f a b) (λ b. last_four width g a b)
      (λ b. le_four a b)

  pub sum_of_rows-less : (a b c d e k : ℕ) → a < width → b < width → c < width → d < width
      → e < width → k < width
      → f (row_at a b c d e k) < g (row_at a b c d e k) → sum_of_rows width f < sum_of_rows width g
  unfolding sum_of_rows
  sum_of_rows-less a b c d e k in_a in_b in_c in_d in_e in_k less =
      sum_below-less width (λ a. last_five width f a) (λ a. last_five width g a)
      (λ a. le_five a) a in_a
      (sum_below-less width (λ b. last_four width f a b) (λ b. last_four width g a b)
      (λ b. le_four a b) b in_b
      (sum_below-less width (λ c. last_three width f a b c) (λ c. last_three width g a b c)
      (λ c. le_three a b c) c in_c
      (sum_below-less width (λ d. last_two width f a b c d) (λ d. last_two width g a b c d)
      (λ d. le_two a b c d) d in_d
      (sum_below-less width (λ e. last width f a b c d e) (λ e. last width g a b c d e)
      (λ e. le_one a b c d e) e in_e
      (sum_below-less width (λ k. f (row_at a b c d e k)) (λ k. g (row_at a b c d e k))
      (λ k. le (row_at a b c d e k)) k in_k less)))))
