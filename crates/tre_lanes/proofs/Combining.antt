-- Lists of words that are combined from the front on: the step of eight words, and the end.
use Rattle.std.proofs.Common.{◌≡◌, ℕ, ◌+◌, ◌-◌, ◌<◌, ◌≤◌, List, [], ◌∷◌, length, get_or, map, refl, sym, ap, ap₂, subst, ◌∙◌, inl, inr, arith}
use Rattle.std.proofs.lemmas.Bool.{cases_lt}
use Rattle.std.proofs.lemmas.List.{same_lists, get_or_default}
use Rattle.std.proofs.lemmas.Simd.{length-zip2, length-chunk, length-put_chunk, get_or-zip2, get_or-chunk, get_or-put_chunk_below, get_or-put_chunk_at, get_or-put_chunk_above}
use lib.Lanes.{chunk, put_chunk, zip2}
use Rattle.tre_lanes.specs.Words.{CombinedBelow}

module _ (of : ℕ → ℕ → ℕ) (old b new : List ℕ) (place : ℕ) (same : length old ≡ length b)
    (combined : CombinedBelow of old b new place) where
  -- One more vector of words.
  module _ (room : place + 8 ≤ length new) (lanes : List ℕ)
      (are : lanes ≡ zip2 of (chunk place 8 new) (chunk place 8 b)) where
    from_new : length (chunk place 8 new) ≡ 8
    from_new = length-chunk place 8 new room

    from_b : length (chunk place 8 b) ≡ 8
    from_b = length-chunk place 8 b (omega (arith, combined.same_length))

    eight : length lanes ≡ 8
    eight =
        ap length are
        ∙ length-zip2 of (chunk place 8 new) (chunk place 8 b) (from_new ∙ sym from_b)
        ∙ from_new

    in_lanes : (j : ℕ) → j < 8
        → get_or (put_chunk place new lanes) (place + j) 0
        ≡ of (get_or old (place + j) 0) (get_or b (place + j) 0)
    in_lanes j small =
        get_or-put_chunk_at place new lanes j 0 (omega (arith, eight)) (omega (arith, eight))
        ∙ ap (λ l. get_or l j 0) are
        ∙ get_or-zip2 of (chunk place 8 new) (chunk place 8 b) j 0 0 0 (omega (arith, from_new))
        (omega (arith, from_b))
        ∙ ap₂ of (get_or-chunk place 8 new j 0 small ∙ combined.after (place + j) (omega arith))
        (get_or-chunk place 8 b j 0 small)

    before : (k : ℕ) → k < place + 8
        → get_or (put_chunk place new lanes) k 0 ≡ of (get_or old k 0) (get_or b k 0)
    before k below =
        elim (cases_lt k place) [
          | inl early ↦
              get_or-put_chunk_below place new lanes k 0 early ∙ combined.before k early
          | inr late ↦
              let back : place + (k - place) ≡ k = omega arith in
              subst
              (λ i. get_or (put_chunk place new lanes) i 0 ≡ of (get_or old i 0) (get_or b i 0))
              back (in_lanes (k - place) (omega arith))
        ]

    pub combined_more : CombinedBelow of old b (put_chunk place new lanes) (place + 8)
    combined_more = record {
      within = omega (arith, combined.same_length);
      same_length = length-put_chunk place new lanes ∙ combined.same_length;
      before = before;
      after = λ k above.
          get_or-put_chunk_above place new lanes k 0 (omega (arith, eight))
          ∙ combined.after k (omega arith);
    }

  -- All words are combined.
  pub combined_all : length new ≤ place → new ≡ zip2 of old b
  combined_all all =
      let long : length (zip2 of old b) ≡ length old = length-zip2 of old b same in
      same_lists new (zip2 of old b) (combined.same_length ∙ sym long)
      (λ k d within.
      let in_old : k < length old = omega (arith, combined.same_length) in
      let in_b : k < length b = omega arith in
      get_or_default new k d 0 within
      ∙ combined.before k (omega arith)
      ∙ sym (get_or-zip2 of old b k 0 0 d in_old in_b))

-- What the words of the second list alone decide.
pub zip2-right : (f : ℕ → ℕ) (a b : List ℕ) → length a ≡ length b → zip2 (λ x y. f y) a b ≡ map f b
zip2-right f [] [] same = refl
zip2-right f [] (y ∷ b) same = absurd (omega arith)
zip2-right f (x ∷ a) [] same = absurd (omega arith)
zip2-right f (x ∷ a) (y ∷ b) same = ap (λ rest. f y ∷ rest) (zip2-right f a b (omega arith))
