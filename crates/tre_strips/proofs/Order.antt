-- Two ends of bars keep their order over times that are cut where they meet.
use Rattle.std.proofs.Common.{◌≡◌, ◌≢◌, ℕ, ◌+◌, ◌-◌, ◌*◌, ◌<◌, ◌≤◌, ◌⊎◌, Bool, true, false, cond, sym, ap, arith, inl, inr, ⊎_elim, le_of_eq, le_of_lt, mul-le-mul_right, rules}
use Rattle.std.proofs.lemmas.Bool.{cases_eq, cases_lt}
use Rattle.tre_strips.specs.Bar.{place_of}
use Rattle.tre_strips.specs.Profile.{IsIn}
use Rattle.tre_strips.specs.Times.{IsSettled}
use Rattle.tre_strips.specs.declared.bar.BarEnd.{BarEnd}
use Rattle.tre_strips.specs.declared.times.Times.{Times}

small : (flag : Bool) → cond flag 1 0 ≤ 1
small true = omega arith
small false = omega arith

-- ---- two ends that are both fixed, or both move

keeps_less : (t u f g x n : ℕ) → 0 < n → f ≤ 1 → g ≤ 1 → 2 * t + f < 2 * u + g
    → 2 * (t * n + x) + f < 2 * (u * n + x) + g
keeps_less t u f g x n some p q less =
    ⊎_elim (λ (below : t < u). let wide = mul-le-mul_right n below in omega arith)
    (λ (above : u ≤ t).
    let same : t ≡ u = omega arith in
    let product = ap (λ k. k * n) same in
    omega arith)
    (cases_lt t u)

keeps_same : (t u f g x n : ℕ) → f ≤ 1 → g ≤ 1 → 2 * t + f ≡ 2 * u + g
    → 2 * (t * n + x) + f ≡ 2 * (u * n + x) + g
keeps_same t u f g x n p q same = search rules

abbrev OverAll : ℕ → ℕ → (ℕ → ℕ → Type 0) → Type 0
OverAll from until P = (a n : ℕ) → 0 < n → IsIn from until a n → P a n

-- Over all of the times the left place is less, or the same, or more.
abbrev Keeps : ℕ → ℕ → (ℕ → ℕ → ℕ) → (ℕ → ℕ → ℕ) → Type 0
Keeps from until L R =
    OverAll from until (λ a n. L a n < R a n)
    ⊎ (OverAll from until (λ a n. L a n ≡ R a n) ⊎ OverAll from until (λ a n. R a n < L a n))

flip : (from until : ℕ) (L R : ℕ → ℕ → ℕ) → Keeps from until L R → Keeps from until R L
flip from until L R keeps = search rules

alike : (from until t f u g : ℕ) (x : ℕ → ℕ) → f ≤ 1 → g ≤ 1
    → Keeps from until (λ a n. 2 * (t * n + x a) + f) (λ a n. 2 * (u * n + x a) + g)
alike from until t f u g x p q =
    ⊎_elim (λ (less : 2 * t + f < 2 * u + g).
    inl (λ a n some i. keeps_less t u f g (x a) n some p q less))
    (λ (above : 2 * u + g ≤ 2 * t + f).
    ⊎_elim (λ (same : 2 * t + f ≡ 2 * u + g).
    inr (inl (λ a n some i. keeps_same t u f g (x a) n p q same)))
    (λ (differs : 2 * t + f ≢ 2 * u + g).
    inr (inr (λ a n some i. keeps_less u t g f (x a) n some q p (omega arith))))
    (cases_eq (2 * t + f) (2 * u + g)))
    (cases_lt (2 * t + f) (2 * u + g))

-- ---- an end that moves, and one that is fixed

-- At one time a moving end is a fixed one.
at_one : (from until a n : ℕ) → from ≡ until → IsIn from until a n → a ≡ from * n
at_one from until a n same i = search rules

at_many : (from until a n : ℕ) → from ≢ until → IsIn from until a n
    → (from * n < a) × (a < until * n)
at_many from until a n differs i = ⊎_elim (λ one. absurd (differs one.0)) (λ many. many) i

meet_once : (from until t f u g : ℕ) → f ≤ 1 → g ≤ 1 → from ≡ until
    → Keeps from until (λ a n. 2 * (t * n + a) + f) (λ a n. 2 * (u * n + 0) + g)
meet_once from until t f u g p q same =
    ⊎_elim (λ less. inl (λ a n some i.
    let is = at_one from until a n same i in
    let lt = less a n some i in omega arith))
    (λ rest. ⊎_elim (λ equal. inr (inl (λ a n some i.
    let is = at_one from until a n same i in
    let eq = equal a n some i in omega arith)))
    (λ more. inr (inr (λ a n some i.
    let is = at_one from until a n same i in
    let lt = more a n some i in omega arith))) rest)
    (alike from until (t + from) f u g (λ a. 0) p q)

meet_later : (from until t f u g : ℕ) → f ≤ 1 → until ≤ u - t → from < u - t → (a n : ℕ)
    → 0 < n → a < until * n → 2 * (t * n + a) + f < 2 * (u * n + 0) + g
meet_later from until t f u g p cut less a n some below =
    let sum : (u - t) + t ≡ u = omega arith in
    let product = ap (λ k. k * n) sum in
    let within = mul-le-mul_right n cut in
    omega arith

met_before : (from t f u g : ℕ) → g ≤ 1 → u - t ≤ from → (a n : ℕ) → 0 < n → from * n < a
    → 2 * (u * n + 0) + g < 2 * (t * n + a) + f
met_before from t f u g q past a n some above =
    let sum : u ≤ t + from = omega arith in
    let product = mul-le-mul_right n sum in
    omega arith

meeting : (from until t f u g : ℕ) → f ≤ 1 → g ≤ 1 → (from < u - t → until ≤ u - t)
    → Keeps from until (λ a n. 2 * (t * n + a) + f) (λ a n. 2 * (u * n + 0) + g)
meeting from until t f u g p q cut =
    ⊎_elim (λ (same : from ≡ until). meet_once from until t f u g p q same)
    (λ (differs : from ≢ until).
    ⊎_elim (λ (less : from < u - t). inl (λ a n some i.
    meet_later from until t f u g p (cut less) less a n some
    (at_many from until a n differs i).1))
    (λ (past : u - t ≤ from). inr (inr (λ a n some i.
    met_before from t f u g q past a n some (at_many from until a n differs i).0)))
    (cases_lt from (u - t)))
    (cases_eq from until)

-- ---- any two ends

abbrev place : ℕ → Bool → Bool → ℕ → ℕ → ℕ
place t m f a n = 2 * (t * n + cond m a 0) + cond f 1 0

-- The times end where a moving end and a fixed one meet behind the first of them.
abbrev pub AreCut : Bool → Bool → ℕ → ℕ → ℕ → ℕ → Type 0
AreCut m k t u from until =
    (m ≡ true → k ≡ false → from < u - t → until ≤ u - t)
    × (m ≡ false → k ≡ true → from < t - u → until ≤ t - u)

keeps : (from until t : ℕ) (m f : Bool) (u : ℕ) (k g : Bool) → AreCut m k t u from until
    → Keeps from until (λ a n. place t m f a n) (λ a n. place u k g a n)
keeps from until t true f u true g cut =
    alike from until t (cond f 1 0) u (cond g 1 0) (λ a. a) (small f) (small g)
keeps from until t false f u false g cut =
    alike from until t (cond f 1 0) u (cond g 1 0) (λ a. 0) (small f) (small g)
keeps from until t true f u false g cut = search (rules, meeting, small, cut.0)
keeps from until t false f u true g cut = search (rules, flip, meeting, small, cut.1)

pub IsSettled-cut : (times : Times) (one other : BarEnd)
    → AreCut one.moves other.moves one.ticks other.ticks times.from times.until
    → IsSettled times one other
unfolding place_of
IsSettled-cut times one other cut = record {
  order = ⊎_elim (λ less. inl (λ a n time. less a n time.some time.inside))
      (λ rest. ⊎_elim (λ same. inr (λ a n time. le_of_eq (sym (same a n time.some time.inside))))
      (λ more. inr (λ a n time. le_of_lt (more a n time.some time.inside))) rest)
      (keeps times.from times.until one.ticks one.moves one.after other.ticks other.moves
      other.after cut);
}
