-- From the mask of a comparison of eight lanes to the order of two rows.
use Rattle.std.proofs.Common.{◌≡◌, ℕ, zero, suc, ◌+◌, ◌-◌, ◌^◌, ◌%◌, ◌<◌, ◌↔◌, Bool, true, false, cond, List, [], ◌∷◌, length, get_or, map, eqb, refl, sym, ap, ap₂, ◌∙◌, arith, w64}
use Rattle.std.proofs.Math.Nat.{pow-succ'}
use Rattle.std.proofs.lemmas.Bool.{eqb-true, eq-eqb}
use Rattle.std.proofs.lemmas.Float.{T_from_true}
use Rattle.std.proofs.lemmas.Int.{to_z-of_z}
use Rattle.std.proofs.lemmas.List.{length-map}
use Rattle.std.proofs.lemmas.Simd.{tops_compared, mask_l-mod, length-zip2, Each1-from_get_or}
use Rattle.std.specs.Prelude.{ℤ, pos, ◌≤ℤ◌}
use lib.Lanes.{Each1, zip2, mask_l, top}
use lib.Dec.{T}
use lib.Signed.{le_z}
use mir.Val.{SFits, of_z, to_z}
use Rattle.tre_lanes.specs.Rows.{Reaches}

-- A fact of each of eight places.
module _ (P : ℤ → Type 0) (xs : List ℤ) (eight : length xs ≡ 8) where
  abbrev At : ℕ → Type 0
  At i = P (get_or xs i (pos 0))

  pub Each1-eight : At 0 → At 1 → At 2 → At 3 → At 4 → At 5 → At 6 → At 7 → Each1 P xs
  Each1-eight a b c d e f g h = Each1-from_get_or P xs (pos 0) (λ i in_it. at i (omega arith)) where
    at : (i : ℕ) → i < 8 → At i
    at zero small = a
    at (suc zero) small = b
    at (suc (suc zero)) small = c
    at (suc (suc (suc zero))) small = d
    at (suc (suc (suc (suc zero)))) small = e
    at (suc (suc (suc (suc (suc zero))))) small = f
    at (suc (suc (suc (suc (suc (suc zero)))))) small = g
    at (suc (suc (suc (suc (suc (suc (suc zero))))))) small = h
    at (suc (suc (suc (suc (suc (suc (suc (suc i)))))))) small = absurd (omega arith)

abbrev AllTrue : List Bool → Type 0
AllTrue = Each1 (λ m. m ≡ true)

all_set : (ms : List Bool) → mask_l ms + 1 ≡ 2 ^ length ms → AllTrue ms
all_set [] full = tt
all_set (true ∷ ms) full = (refl, all_set ms (omega (arith, full, pow-succ' 2 (length ms))))
all_set (false ∷ ms) full = absurd (omega (arith, full, pow-succ' 2 (length ms)))

set_all : (ms : List Bool) → AllTrue ms → mask_l ms + 1 ≡ 2 ^ length ms
set_all [] each = refl
set_all (true ∷ ms) each =
    let rest = set_all ms each.1 in
    omega (arith, rest, pow-succ' 2 (length ms))
set_all (false ∷ ms) each = absurd (cc (each.0))

-- The comparison of two lanes, and of the lanes of two rows, as the machine makes it.
abbrev is_least : ℕ → ℕ → Bool
is_least a b = le_z (to_z w64 a) (to_z w64 b)

abbrev compared : List ℤ → List ℤ → List Bool
compared keys rows = zip2 is_least (map (of_z w64) keys) (map (of_z w64) rows)

abbrev Fit : List ℤ → Type 0
Fit = Each1 (SFits w64)

is_true : (b : Bool) → T b → b ≡ true
is_true true holds = refl
is_true false holds = absurd holds

least_of : (key row : ℤ) → SFits w64 key → SFits w64 row
    → is_least (of_z w64 key) (of_z w64 row) ≡ le_z key row
least_of key row fit_key fit_row =
    ap₂ le_z (to_z-of_z w64 key fit_key) (to_z-of_z w64 row fit_row)

each_lane : (keys rows : List ℤ) → length keys ≡ length rows → Fit keys → Fit rows
    → AllTrue (compared keys rows)
    → (lane : ℕ) → get_or keys lane (pos 0) ≤ℤ get_or rows lane (pos 0)
each_lane [] [] same fit_keys fit_rows each lane = record { le = tt }
each_lane [] (row ∷ rows) same fit_keys fit_rows each lane = absurd (omega arith)
each_lane (key ∷ keys) [] same fit_keys fit_rows each lane = absurd (omega arith)
each_lane (key ∷ keys) (row ∷ rows) same fit_keys fit_rows each zero =
    let told : le_z key row ≡ true = sym (least_of key row fit_keys.0 fit_rows.0) ∙ each.0 in
    record { le = T_from_true (le_z key row) told }
each_lane (key ∷ keys) (row ∷ rows) same fit_keys fit_rows each (suc lane) =
    each_lane keys rows (omega arith) fit_keys.1 fit_rows.1 each.1 lane

lane_each : (keys rows : List ℤ) → length keys ≡ length rows → Fit keys → Fit rows
    → ((lane : ℕ) → get_or keys lane (pos 0) ≤ℤ get_or rows lane (pos 0))
    → AllTrue (compared keys rows)
lane_each [] rows same fit_keys fit_rows each = tt
lane_each (key ∷ keys) [] same fit_keys fit_rows each = absurd (omega arith)
lane_each (key ∷ keys) (row ∷ rows) same fit_keys fit_rows each = (
  least_of key row fit_keys.0 fit_rows.0 ∙ is_true (le_z key row) (each 0).le,
  lane_each keys rows (omega arith) fit_keys.1 fit_rows.1 (λ lane. each (suc lane)),
)

-- The comparison of all lanes holds exactly where the row reaches the key.
module _ (rows keys : List ℤ) (mask : ℕ) (rows8 : length rows ≡ 8) (keys8 : length keys ≡ 8)
    (fit_rows : Fit rows) (fit_keys : Fit keys) where
  abbrev whole : List ℕ
  whole =
      zip2 (λ a b. cond (is_least a b) (2 ^ 64 - 1) 0) (map (of_z w64) keys) (map (of_z w64) rows)

  long : length (compared keys rows) ≡ 8
  long =
      let a = length-map keys (of_z w64) ∙ keys8 in
      let b = length-map rows (of_z w64) ∙ rows8 in
      length-zip2 is_least (map (of_z w64) keys) (map (of_z w64) rows) (a ∙ sym b) ∙ a

  module _ (is : mask ≡ mask_l (map (top 63) whole)) where
    mask_is : mask % 2 ^ 64 ≡ mask_l (compared keys rows)
    mask_is =
        let tops = tops_compared w64 is_least (map (of_z w64) keys) (map (of_z w64) rows) in
        ap (λ m. m % 2 ^ 64) (is ∙ ap mask_l tops)
        ∙ mask_l-mod (compared keys rows) 64 (omega (arith, long))

    pub is_reached : (eqb (mask % 2 ^ 64) 255 ≡ true) ↔ Reaches rows keys
    is_reached = (
      (λ t.
          let set : mask % 2 ^ 64 ≡ 255 = eqb-true (mask % 2 ^ 64) 255 t in
          let full : mask_l (compared keys rows) + 1 ≡ 2 ^ length (compared keys rows) =
          rw long (omega (arith, mask_is, set)) in
          record {
            each = each_lane keys rows (keys8 ∙ sym rows8) fit_keys fit_rows
                (all_set (compared keys rows) full);
          }),
      (λ reaches.
          let each = lane_each keys rows (keys8 ∙ sym rows8) fit_keys fit_rows reaches.each in
          let full = rw long at (set_all (compared keys rows) each) in
          eq-eqb (mask % 2 ^ 64) 255 (omega (arith, mask_is, full))),
    )
