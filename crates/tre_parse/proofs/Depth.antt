-- What is looked for from the left is the first place at which too many brackets are open.
use Rattle.std.proofs.Common.{◌≡◌, ℕ, ◌+◌, ◌<◌, ◌≤◌, zero, suc, Bool, true, false, Option, Some, None, List, [], ◌∷◌, take, refl, subst, arith, rules}
use Rattle.std.specs.Prelude.{nat_lt, if◌then◌else◌, MatchOption}
use Rattle.std.specs.List.{fold}
use Rattle.std.proofs.lemmas.Bool.Decides.{nat_tests}
use Rattle.tre_parse.specs.declared.limits.TheConstants.{DEPTH_MAX}
use Rattle.tre_trace.specs.Reading.{Vocabulary}
use Rattle.tre_parse.specs.Words.{Words}
use Rattle.tre_parse.specs.TokenWords.{text_of, Piece, words_by, tokens_by}
use Rattle.tre_parse.specs.Outcome.{open_after, IsFirst}
use Rattle.tre_parse.specs.Limits.{deep_place}
use Rattle.tre_parse.proofs.Pieces.{opened}

-- Behind the words up to this place more than DEPTH_MAX brackets are open.
abbrev pub IsDeepAt : Words → ℕ → Type 0
IsDeepAt words place = DEPTH_MAX < fold open_after 0 (take (place + 1) words)

-- So many words further, counted from a depth.
record DeepFrom (depth : ℕ) (words : Words) (k : ℕ) : Type 0 where
  deep : DEPTH_MAX < fold open_after depth (take (suc k) words)
  first : (n : ℕ) → n ≤ k → fold open_after depth (take n words) ≤ DEPTH_MAX

record Further (depth base : ℕ) (words : Words) (place : ℕ) : Type 0 where
  k : ℕ
  here : place ≡ base + k
  is : DeepFrom depth words k

abbrev Told : ℕ → ℕ → Words → Option ℕ → Type 0
Told depth base words found = MatchOption found ((n : ℕ)
    → fold open_after depth (take n words) ≤ DEPTH_MAX) (Further depth base words)

past_none : (depth : ℕ) (word : List ℕ) (words : Words) → depth ≤ DEPTH_MAX
    → ((n : ℕ) → fold open_after (open_after depth word) (take n words) ≤ DEPTH_MAX) →
    (n : ℕ) → fold open_after depth (take n (word ∷ words)) ≤ DEPTH_MAX
past_none depth word words le h zero = le
past_none depth word words le h (suc n) = h n

past_first : (depth : ℕ) (word : List ℕ) (words : Words) (k : ℕ) → depth ≤ DEPTH_MAX
    → ((n : ℕ) → n ≤ k → fold open_after (open_after depth word) (take n words) ≤ DEPTH_MAX) →
    (n : ℕ) → n ≤ suc k → fold open_after depth (take n (word ∷ words)) ≤ DEPTH_MAX
past_first depth word words k le h zero b = le
past_first depth word words k le h (suc n) b = h n (omega arith)

told_past : (depth base : ℕ) (word : List ℕ) (words : Words) (found : Option ℕ)
    → depth ≤ DEPTH_MAX → Told (open_after depth word) (base + 1) words found
    → Told depth base (word ∷ words) found
told_past depth base word words None le h = past_none depth word words le h
told_past depth base word words (Some place) le h =
    let e = h.here in
    record {
      k = suc h.k;
      here = omega (arith, e);
      is = record {
        deep = h.is.deep;
        first =
            past_first depth word words h.k le h.is.first;
      };
    }

told_step : (depth base : ℕ) (word : List ℕ) (words : Words) (later : Option ℕ) (is : Bool)
    → nat_lt DEPTH_MAX (open_after depth word) ≡ is → depth ≤ DEPTH_MAX →
    (open_after depth word ≤ DEPTH_MAX → Told (open_after depth word) (base + 1) words later) →
    Told depth base (word ∷ words) (if is then Some base else later)
told_step depth base word words later true e le go = search rules
told_step depth base word words later false e le go = told_past depth base word words later le
    (go (grind (arith, nat_tests)))

nothing_opened : (depth : ℕ) → depth ≤ DEPTH_MAX → (n : ℕ) → fold open_after depth (take n []) ≤ DEPTH_MAX
nothing_opened depth le zero = le
nothing_opened depth le (suc n) = le

module _ (scale : ℕ) (known : Vocabulary) where
  told : (pieces : List (Piece scale known)) (depth base : ℕ) → depth ≤ DEPTH_MAX
      → Told depth base (words_by scale known pieces)
      (deep_place depth base (tokens_by scale known pieces))
  told [] depth base le = nothing_opened depth le
  told (p ∷ pieces) depth base le =
      let after = open_after depth p.word in
      let words = words_by scale known pieces in
      let tokens = tokens_by scale known pieces in
      subst (λ n. Told depth base (p.word ∷ words)
      (if nat_lt DEPTH_MAX n then Some base else deep_place n (base + 1) tokens))
      (opened scale known depth p.word p.token p.stands)
      (told_step depth base p.word words (deep_place after (base + 1) tokens)
      (nat_lt DEPTH_MAX after) refl le (λ fewer. told pieces after (base + 1) fewer))

  -- What is found is the first place, and nothing is found where there is none.
  pub deep_first : (pieces : List (Piece scale known)) (place : ℕ)
      → deep_place 0 0 (tokens_by scale known pieces) ≡ Some place
      → IsFirst (IsDeepAt (words_by scale known pieces)) place
  deep_first pieces place e =
      let words = words_by scale known pieces in
      first words (subst (Told 0 0 words) e (told pieces 0 0 (omega arith)))
    where
      first : (words : Words) → Further 0 0 words place → IsFirst (IsDeepAt words) place
      first words h =
          let here = h.here in
          let same : h.k ≡ place = omega (arith, here) in
          let one : suc h.k ≡ h.k + 1 = omega arith in
          let deep = subst (λ n. DEPTH_MAX < fold open_after 0 (take n words)) one h.is.deep in
          subst (IsFirst (IsDeepAt words)) same (
            deep,
            λ n lt again.
                let few = h.is.first (n + 1) (omega arith) in omega (arith, few, again),
          )

  pub never_deep : (pieces : List (Piece scale known)) (place : ℕ)
      → deep_place 0 0 (tokens_by scale known pieces) ≡ None
      → IsDeepAt (words_by scale known pieces) place → ⊥
  never_deep pieces place e deep =
      let few = subst (Told 0 0 (words_by scale known pieces)) e (told pieces 0 0 (omega arith)) in
      omega (arith, few (place + 1), deep)
