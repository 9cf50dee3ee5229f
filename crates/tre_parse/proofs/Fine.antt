-- The intervals of an expression are those that stand among its words.
use Rattle.std.proofs.Common.{◌≡◌, ℕ, ◌+◌, ◌<◌, ◌≤◌, suc, Bool, true, false, None, List, [], ◌∷◌, ◌++◌, length, get_or, refl, sym, ◌∙◌, ap, subst, arith, append_assoc}
use Rattle.std.specs.Prelude.{position, codes, nat_lt, ◌&&◌, if◌then◌else◌}
use Rattle.std.proofs.lemmas.Bool.Decides.{nat_tests}
use Rattle.std.proofs.lemmas.List.{append-nil}
use Rattle.tre_state.proofs.Places.{none_len, len_fails}
use Rattle.tre_pairs.specs.declared.TheConstants.{TIME_MAX}
use Rattle.tre_zone.specs.Interval.{IntervalEnds, IsIntervalWithin}
use Rattle.tre_syntax.specs.PatternTree.{PatternTree}
use Rattle.tre_trace.specs.Reading.{Vocabulary}
use Rattle.tre_parse.specs.Words.{Words, is_number, units_within}
use Rattle.tre_parse.specs.Grammar.{SpellsInterval, with_high, without_high, Rule, expr, meet, seq, post, primary, Spells, expr_meet, expr_bar, meet_seq, meet_ampersand, seq_post, seq_semicolon, post_primary, post_star, post_plus, post_question, post_percent, primary_eps, primary_parens, primary_rise, primary_fall, primary_event, primary_lit, primary_begins, primary_ends, primary_begins_ends}
use Rattle.tre_parse.specs.Parts.{IsFineInterval}
use Rattle.tre_parse.specs.Operands.{HasFineIntervals}
use Rattle.tre_parse.specs.Outcome.{is_big}
use Rattle.tre_parse.specs.Unkept.{NoneEmpty}

module _ (scale : ℕ) (known : Vocabulary) where
  -- Each interval that stands among the words is fine.
  pub record StandFine (words : Words) : Type 0 where
    pub fine : (front body rest : Words) (ends : IntervalEnds) → words
        ≡ front ++ codes "%" ∷ (body ++ rest) → SpellsInterval scale known body ends → IsFineInterval ends

  left_fine : (xs ys : Words) → StandFine (xs ++ ys) → StandFine xs
  left_fine xs ys h = record {
    fine = λ front body rest ends e s.
        h.fine front body (rest ++ ys) ends (ap (λ t. t ++ ys) e
        ∙ append_assoc front (codes "%" ∷ (body ++ rest)) ys
        ∙ ap (λ t. front ++ codes "%" ∷ t) (append_assoc body rest ys)) s;
  }

  right_fine : (xs ys : Words) → StandFine (xs ++ ys) → StandFine ys
  right_fine xs ys h = record {
    fine = λ front body rest ends e s.
        h.fine (xs ++ front) body rest ends (ap (λ t. xs ++ t) e
        ∙ sym (append_assoc xs front (codes "%" ∷ (body ++ rest)))) s;
  }

  -- Inside two words, or after one.
  after_fine : (t : List ℕ) (xs : Words) → StandFine (t ∷ xs) → StandFine xs
  after_fine t xs h = right_fine (t ∷ []) xs h

  inside_fine : (t : List ℕ) (xs : Words) (u : List ℕ) → StandFine (t ∷ xs ++ u ∷ [])
      → StandFine xs
  inside_fine t xs u h = left_fine xs (u ∷ []) (after_fine t (xs ++ u ∷ []) h)

  pub fine_intervals : (r : Rule) (xs : Words) (e : PatternTree) → Spells scale known r xs e → StandFine xs
      → HasFineIntervals e
  fine_intervals _ _ _ (expr_meet xs e h) f = fine_intervals meet xs e h f
  fine_intervals _ _ _ (expr_bar xs ys e g h k) f = (
    fine_intervals expr xs e h (left_fine xs (codes "|" ∷ ys) f),
    fine_intervals meet ys g k
        (after_fine (codes "|") ys (right_fine xs (codes "|" ∷ ys) f)),
  )
  fine_intervals _ _ _ (meet_seq xs e h) f = fine_intervals seq xs e h f
  fine_intervals _ _ _ (meet_ampersand xs ys e g h k) f = (
    fine_intervals meet xs e h (left_fine xs (codes "&" ∷ ys) f),
    fine_intervals seq ys g k
        (after_fine (codes "&") ys (right_fine xs (codes "&" ∷ ys) f)),
  )
  fine_intervals _ _ _ (seq_post xs e h) f = fine_intervals post xs e h f
  fine_intervals _ _ _ (seq_semicolon xs ys e g h k) f = (
    fine_intervals seq xs e h (left_fine xs (codes ";" ∷ ys) f),
    fine_intervals post ys g k
        (after_fine (codes ";") ys (right_fine xs (codes ";" ∷ ys) f)),
  )
  fine_intervals _ _ _ (post_primary xs e h) f = fine_intervals primary xs e h f
  fine_intervals _ _ _ (post_star xs e h) f = fine_intervals post xs e h (left_fine xs (codes "*" ∷ []) f)
  fine_intervals _ _ _ (post_plus xs e h) f =
      let whole = fine_intervals post xs e h (left_fine xs (codes "+" ∷ []) f) in (whole, whole)
  fine_intervals _ _ _ (post_question xs e h) f = (
    fine_intervals post xs e h
        (left_fine xs (codes "?" ∷ []) f),
    tt,
  )
  fine_intervals _ _ _ (post_percent xs ys e i h k) f = (
    fine_intervals post xs e h (left_fine xs (codes "%" ∷ ys) f),
    f.fine xs ys [] i
        (ap (λ t. xs ++ codes "%" ∷ t) (sym (append-nil ys))) k,
  )
  fine_intervals _ _ _ primary_eps f = tt
  fine_intervals _ _ _ (primary_parens xs e h) f = fine_intervals expr xs e h
      (inside_fine (codes "(") xs (codes ")") f)
  fine_intervals _ _ _ (primary_rise xs s h) f = tt
  fine_intervals _ _ _ (primary_fall xs s h) f = tt
  fine_intervals _ _ _ (primary_event text is) f = tt
  fine_intervals _ _ _ (primary_lit xs s h) f = tt
  fine_intervals _ _ _ (primary_begins xs s h) f = (tt, tt)
  fine_intervals _ _ _ (primary_ends xs s h) f = (tt, tt)
  fine_intervals _ _ _ (primary_begins_ends xs s h) f = ((tt, tt), tt)

  -- The brackets of an interval.
  abbrev opening : Bool → List ℕ
  opening weak = if weak then codes "[" else codes "("

  abbrev closing : Bool → List ℕ
  closing weak = if weak then codes "]" else codes ")"

  -- No number among the words is big.
  pub record NoneBig (words : Words) : Type 0 where
    pub small : (front rest : Words) (text : List ℕ) → words ≡ front ++ text ∷ rest
        → is_number text ≡ true → units_within scale text ≤ TIME_MAX

  small_here : (text : List ℕ) → is_number text ≡ true → is_big scale text ≡ false
      → units_within scale text ≤ TIME_MAX
  small_here text is q = by (nat_lt TIME_MAX (units_within scale text)) refl
      (sym (ap (λ (one : Bool). one && nat_lt TIME_MAX (units_within scale text)) is) ∙ q)
    where
      by : (above : Bool) → nat_lt TIME_MAX (units_within scale text) ≡ above → above ≡ false
          → units_within scale text ≤ TIME_MAX
      by true e q = absurd (cc)
      by false e q = grind (arith, nat_tests)

  -- The place of the first big number says whether there is one.
  pub none_big : (words : Words) → position (is_big scale) words ≡ None → NoneBig words
  none_big words e =
      let fails = len_fails (is_big scale) words (none_len (is_big scale) words e) in
      record {
        small = λ front rest text q.
            let P = λ (ts : Words). (k : ℕ) (d : List ℕ) → k < length ts
            → is_big scale (get_or ts k d) ≡ false in
            small_at front rest text (subst P q fails);
      }
    where
      small_at : (front rest : Words) (text : List ℕ) → ((k : ℕ) (d : List ℕ)
          → k < length (front ++ text ∷ rest) → is_big scale (get_or (front ++ text ∷ rest) k d)
          ≡ false) → is_number text ≡ true → units_within scale text ≤ TIME_MAX
      small_at [] rest text h is = small_here text is (h 0 text (omega arith))
      small_at (t ∷ front) rest text h is =
          small_at front rest text (λ k d lt. h (suc k) d (omega arith)) is

  pub ends_within : (words front body rest : Words) (ends : IntervalEnds) → NoneBig words
      → words ≡ front ++ codes "%" ∷ (body ++ rest) → SpellsInterval scale known body ends
      → IsIntervalWithin TIME_MAX ends
  ends_within words front _ rest _ b e (with_high low high low_weak high_weak l h) =
      let open_low = b.small (front ++ codes "%" ∷ opening low_weak ∷ [])
      (codes "," ∷ high ∷ closing high_weak ∷ rest) low
      (e ∙ sym (append_assoc front (codes "%" ∷ opening low_weak ∷ []) _)) l in
      let open_high = b.small (front ++ codes "%" ∷ opening low_weak ∷ low ∷ codes "," ∷ [])
      (closing high_weak ∷ rest) high (e ∙ sym (append_assoc front
      (codes "%" ∷ opening low_weak ∷ low ∷ codes "," ∷ []) _)) h in
      record { low = open_low; high = open_high }
  ends_within words front _ rest _ b e (without_high low low_weak l) =
      record {
        low = b.small (front ++ codes "%" ∷ opening low_weak ∷ [])
            (codes "," ∷ codes "inf" ∷ codes ")" ∷ rest) low (e ∙ sym
            (append_assoc front (codes "%" ∷ opening low_weak ∷ []) _)) l;
        high = tt;
      }

  pub stand_fine : (words : Words) → NoneBig words → NoneEmpty scale known words → StandFine words
  stand_fine words b h = record {
    fine = λ front body rest ends e s.
        record {
          lasts = λ k. h (length front + 1) (record {
            front = front;
            body = body;
            rest = rest;
            ends = ends;
            split = e;
            here = refl;
            spelt = s;
            empty = k;
          });
          within = ends_within words front body rest ends b e s;
        };
  }
