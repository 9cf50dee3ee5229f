-- The numbers of the names in an expression come as its tokens have them.
use Rattle.std.proofs.Common.{◌≡◌, ℕ, ◌+◌, ◌<◌, ◌≤◌, Bool, true, false, Option, Some, None, List, [], ◌∷◌, ◌++◌, refl, sym, ◌∙◌, ap, arith, append_assoc, rules}
use Rattle.std.specs.Prelude.{codes, nat_lt, ◌==◌, if◌then◌else◌}
use Rattle.std.proofs.lemmas.Bool.Decides.{nat_tests}
use Rattle.std.proofs.lemmas.List.{append-nil}
use Rattle.tre_trace.specs.Reading.{Vocabulary}
use Rattle.tre_state.specs.StateTree.{StateTree, always, proposition, negation}
use Rattle.tre_syntax.specs.declared.name_kind.NameKind.{NameKind}
use Rattle.tre_syntax.specs.declared.name_kind.NameKind.TheVariants.{Proposition, Event as EventKind}
use Rattle.tre_syntax.specs.PatternTree.{PatternTree, atom, event, numbers_of_state, numbers_of, seen_after}
use Rattle.tre_zone.specs.Interval.{IntervalEnds}
use Rattle.tre_parse.specs.declared.token.Token.{Token}
use Rattle.tre_parse.specs.declared.token.Token.TheVariants.{Name, EventName}
use Rattle.tre_parse.specs.declared.before.Before.{Before}
use Rattle.tre_parse.specs.declared.before.Before.TheVariants.{Other}
use Rattle.tre_parse.specs.Words.{Words, is_number, place_in}
use Rattle.tre_parse.specs.TokenWords.{text_of, token_as, tokens_for, tokens_as}
use Rattle.tre_parse.specs.Grammar.{StateRule, state, conj, unary, SpellsState, unary_name, unary_true, unary_bang, braces, parens, state_conj, state_bars, conj_unary, conj_ampersands, SpellsInterval, with_high, without_high, Rule, expr, meet, seq, post, primary, Spells, expr_meet, expr_bar, meet_seq, meet_ampersand, seq_post, seq_semicolon, post_primary, post_star, post_plus, post_question, post_percent, primary_eps, primary_parens, primary_rise, primary_fall, primary_event, primary_lit, primary_begins, primary_ends, primary_begins_ends}
use Rattle.tre_parse.specs.declared.connective.Connective.{Connective}
use Rattle.tre_parse.specs.declared.connective.Connective.TheVariants.{And, Or}
use Rattle.tre_parse.specs.Joins.{connected, connective_sign}
use Rattle.tre_parse.specs.Numbering.{numbers_at, numbers_in}
use Rattle.tre_parse.proofs.Spelt.{after, spread, named, counted, event_named}

pub numbers_join : (kind : NameKind) (xs ys : List Token) → numbers_in kind (xs ++ ys)
    ≡ numbers_in kind xs ++ numbers_in kind ys
numbers_join kind [] ys = refl
numbers_join kind (token ∷ xs) ys =
    ap (λ l. numbers_at token kind ++ l) (numbers_join kind xs ys)
    ∙ sym (append_assoc (numbers_at token kind) (numbers_in kind xs) (numbers_in kind ys))

name_numbers : (kind : NameKind) (i : ℕ) → numbers_of_state kind (proposition i)
    ≡ numbers_in kind (Name i ∷ [])
name_numbers Proposition i = refl
name_numbers EventKind i = refl

event_numbers : (kind : NameKind) (i : ℕ) → numbers_of kind (atom (event i))
    ≡ numbers_in kind (EventName i ∷ [])
event_numbers Proposition i = refl
event_numbers EventKind i = refl

-- What names nothing, or what its part does.
always_numbers : (kind : NameKind) → numbers_of_state kind always ≡ []
always_numbers Proposition = refl
always_numbers EventKind = refl

negation_numbers : (kind : NameKind) (s : StateTree) → numbers_of_state kind (negation s)
    ≡ numbers_of_state kind s
negation_numbers Proposition s = refl
negation_numbers EventKind s = refl

-- Two states that are joined.
both_numbers : (kind : NameKind) (how : Connective) (s t : StateTree)
    → numbers_of_state kind (connected how s t)
    ≡ numbers_of_state kind s ++ numbers_of_state kind t
both_numbers Proposition And s t = refl
both_numbers Proposition Or s t = refl
both_numbers EventKind how s t = refl

-- Numbers read in two parts.
record SeenBetween (xs ys : List ℕ) (n m : ℕ) : Type 0 where
  between : ℕ
  first : seen_after n xs ≡ Some between
  second : seen_after between ys ≡ Some m

split_by : (below same : Bool) (xs ys : List ℕ) (n m : ℕ)
    → (seen_after n (xs ++ ys) ≡ Some m → SeenBetween xs ys n m)
    → (seen_after (n + 1) (xs ++ ys) ≡ Some m → SeenBetween xs ys (n + 1) m) →
    (if below then seen_after n (xs ++ ys) else (if same then seen_after (n + 1) (xs ++ ys) else
    None)) ≡ Some m →
    (b : ℕ) × ((if below then seen_after n xs else (if same then seen_after (n + 1) xs else None))
    ≡ Some b) × (seen_after b ys ≡ Some m)
split_by true same xs ys n m go next e = let r = go e in (r.between, r.first, r.second)
split_by false true xs ys n m go next e = let r = next e in (r.between, r.first, r.second)
split_by false false xs ys n m go next e = absurd (cc)

seen_split : (xs ys : List ℕ) (n m : ℕ) → seen_after n (xs ++ ys) ≡ Some m → SeenBetween xs ys n m
seen_split [] ys n m e = record { between = n; first = refl; second = e }
seen_split (i ∷ xs) ys n m e =
    let r = split_by (nat_lt i n) (i == n) xs ys n m (λ q. seen_split xs ys n m q)
    (λ q. seen_split xs ys (n + 1) m q) e in
    record { between = r.0; first = r.1; second = r.2 }

join_by : (below same : Bool) (xs ys : List ℕ) (n k m : ℕ)
    → (seen_after n xs ≡ Some k → seen_after n (xs ++ ys) ≡ Some m)
    → (seen_after (n + 1) xs ≡ Some k → seen_after (n + 1) (xs ++ ys) ≡ Some m) →
    (if below then seen_after n xs else (if same then seen_after (n + 1) xs else None)) ≡ Some k →
    (if below then seen_after n (xs ++ ys) else (if same then seen_after (n + 1) (xs ++ ys) else
    None)) ≡ Some m
join_by true same xs ys n k m go next e = go e
join_by false true xs ys n k m go next e = next e
join_by false false xs ys n k m go next e = absurd (cc)

seen_join : (xs ys : List ℕ) (n k m : ℕ) → seen_after n xs ≡ Some k → seen_after k ys ≡ Some m
    → seen_after n (xs ++ ys) ≡ Some m
seen_join [] ys n k m e f = let same : n ≡ k = cc in ap (λ j. seen_after j ys) same ∙ f
seen_join (i ∷ xs) ys n k m e f = join_by (nat_lt i n) (i == n) xs ys n k m
    (λ q. seen_join xs ys n k m q f) (λ q. seen_join xs ys (n + 1) k m q f) e

-- Numbers that were read once are all known, so read again they add none.
known : (below : Bool) (i j : ℕ) (rest other : Option ℕ) → nat_lt i j ≡ below → i < j → rest
    ≡ Some j → (if below then rest else other) ≡ Some j
known true i j rest other t lt e = e
known false i j rest other t lt e = absurd (grind (arith, nat_tests))

more_by : (below same : Bool) (i n m j : ℕ) (xs : List ℕ) → nat_lt i n ≡ below → (i == n) ≡ same
    → m ≤ j →
    (seen_after n xs ≡ Some m → (n ≤ m) × (seen_after j xs ≡ Some j))
    → (seen_after (n + 1) xs ≡ Some m → (n + 1 ≤ m) × (seen_after j xs ≡ Some j)) →
    (if below then seen_after n xs else (if same then seen_after (n + 1) xs else None)) ≡ Some m
    → (n ≤ m) × (seen_after j (i ∷ xs) ≡ Some j)
more_by true same i n m j xs t u le go next e = search rules
more_by false true i n m j xs t u le go next e = search rules
more_by false false i n m j xs t u le go next e = absurd (cc)

seen_more : (xs : List ℕ) (n m j : ℕ) → seen_after n xs ≡ Some m → m ≤ j → (n ≤ m)
    × (seen_after j xs ≡ Some j)
seen_more [] n m j e le = let same : n ≡ m = cc in (omega arith, refl)
seen_more (i ∷ xs) n m j e le = more_by (nat_lt i n) (i == n) i n m j xs refl refl le
    (λ q. seen_more xs n m j q le) (λ q. seen_more xs (n + 1) m j q le) e

seen_again : (xs : List ℕ) (n m : ℕ) → seen_after n xs ≡ Some m → seen_after n (xs ++ xs) ≡ Some m
seen_again xs n m e = seen_join xs xs n m m e (seen_more xs n m m e (omega arith)).1

module _ (scale : ℕ) (known : Vocabulary) where
  -- the numbers of words
  abbrev numbers : NameKind → Words → List ℕ
  numbers kind xs = numbers_in kind (tokens_as scale known xs)

  -- The sign has no number, and what stands behind it has those that it has alone.
  abbrev Parts : NameKind → List ℕ → Words → Type 0
  Parts kind mark ys = (b : Before) → numbers_in kind (tokens_for scale known b (mark ∷ ys))
      ≡ numbers kind ys

  numbers_beside : (kind : NameKind) (xs : Words) (mark : List ℕ) (ys : Words)
      → Parts kind mark ys → numbers kind (xs ++ mark ∷ ys) ≡ numbers kind xs ++ numbers kind ys
  numbers_beside kind xs mark ys s =
      let behind = tokens_for scale known (after scale known Other xs) (mark ∷ ys) in
      ap (numbers_in kind) (sym (append-nil (tokens_as scale known (xs ++ mark ∷ ys)))
      ∙ spread scale known xs (mark ∷ ys) []
      ∙ ap (λ ts. tokens_as scale known xs ++ ts) (append-nil behind))
      ∙ numbers_join kind (tokens_as scale known xs) behind
      ∙ ap (λ l. numbers kind xs ++ l) (s (after scale known Other xs))

  -- A sign behind words has no number.
  numbers_closed : (kind : NameKind) (xs : Words) (mark : List ℕ) → Parts kind mark []
      → numbers kind (xs ++ mark ∷ []) ≡ numbers kind xs
  numbers_closed kind xs mark s = numbers_beside kind xs mark [] s
      ∙ append-nil (numbers kind xs)

  joined_numbers : (kind : NameKind) (how : Connective) (xs ys : Words) (s t : StateTree)
      → numbers_of_state kind s ≡ numbers kind xs → numbers_of_state kind t ≡ numbers kind ys
      → Parts kind (text_of (connective_sign how)) ys → numbers_of_state kind (connected how s t)
      ≡ numbers kind (xs ++ text_of (connective_sign how) ∷ ys)
  joined_numbers kind how xs ys s t h k e = both_numbers kind how s t
      ∙ ap (λ l. l ++ numbers_of_state kind t) h ∙ ap (λ l. numbers kind xs ++ l) k
      ∙ sym (numbers_beside kind xs (text_of (connective_sign how)) ys e)

  state_numbers : (kind : NameKind) (r : StateRule) (xs : Words) (s : StateTree)
      → SpellsState scale known r xs s → numbers_of_state kind s ≡ numbers kind xs
  state_numbers kind _ _ _ (unary_name inside text is) =
      name_numbers kind (place_in known.names text)
      ∙ ap (λ t. numbers_in kind (t ∷ [])) (sym (named scale known text is))
  state_numbers kind _ _ _ (unary_true inside) = always_numbers kind
  state_numbers kind _ _ _ (unary_bang inside xs s h) = negation_numbers kind s
      ∙ state_numbers kind (unary inside) xs s h
  state_numbers kind _ _ _ (braces xs s h) = state_numbers kind state xs s h
      ∙ sym (numbers_closed kind xs (codes "}") (λ b. refl))
  state_numbers kind _ _ _ (parens xs s h) = state_numbers kind state xs s h
      ∙ sym (numbers_closed kind xs (codes ")") (λ b. refl))
  state_numbers kind _ _ _ (state_conj xs s h) = state_numbers kind conj xs s h
  state_numbers kind _ _ _ (state_bars xs ys s t h k) = joined_numbers kind Or xs ys s t
      (state_numbers kind state xs s h) (state_numbers kind conj ys t k) (λ b. refl)
  state_numbers kind _ _ _ (conj_unary xs s h) = state_numbers kind (unary true) xs s h
  state_numbers kind _ _ _ (conj_ampersands xs ys s t h k) = joined_numbers kind And xs ys s t
      (state_numbers kind conj xs s h) (state_numbers kind (unary true) ys t k) (λ b. refl)

  -- Whatever is known before, the tokens and the expression come to as many names.
  pub record CountsAlike (xs : Words) (e : PatternTree) : Type 0 where
    pub alike : (kind : NameKind) (n m : ℕ) → seen_after n (numbers kind xs) ≡ Some m
        → seen_after n (numbers_of kind e) ≡ Some m

  -- Two parts side by side, with a token between them.
  alike_join : (xs ys : Words) (mark : List ℕ) (e f : PatternTree) →
      ((kind : NameKind) → Parts kind mark ys) →
      CountsAlike xs e → CountsAlike ys f →
      (kind : NameKind) (n m : ℕ) → seen_after n (numbers kind (xs ++ mark ∷ ys)) ≡ Some m
      → seen_after n (numbers_of kind e ++ numbers_of kind f) ≡ Some m
  alike_join xs ys mark e f s a b kind n m h =
      let r = seen_split (numbers kind xs) (numbers kind ys) n m
      (ap (seen_after n) (sym (numbers_beside kind xs mark ys (s kind))) ∙ h) in
      seen_join (numbers_of kind e) (numbers_of kind f) n r.between m
      (a.alike kind n r.between r.first) (b.alike kind r.between m r.second)

  alike_closed : (xs : Words) (mark : List ℕ) (e : PatternTree) →
      ((kind : NameKind) → Parts kind mark []) → CountsAlike xs e →
      (kind : NameKind) (n m : ℕ) → seen_after n (numbers kind (xs ++ mark ∷ [])) ≡ Some m
      → seen_after n (numbers_of kind e) ≡ Some m
  alike_closed xs mark e s a kind n m h = a.alike kind n m
      (ap (seen_after n) (sym (numbers_closed kind xs mark (s kind))) ∙ h)

  state_seen : (r : StateRule) (xs : Words) (s : StateTree) → SpellsState scale known r xs s
      → (kind : NameKind) (n m : ℕ) → seen_after n (numbers kind xs) ≡ Some m
      → seen_after n (numbers_of_state kind s) ≡ Some m
  state_seen r xs s h kind n m e = ap (seen_after n) (state_numbers kind r xs s h) ∙ e

  -- A state in brackets, or before a `:>`.
  closed_seen : (r : StateRule) (xs : Words) (s : StateTree) (mark : List ℕ) →
      ((kind : NameKind) → Parts kind mark []) → SpellsState scale known r xs s →
      (kind : NameKind) (n m : ℕ) → seen_after n (numbers kind (xs ++ mark ∷ [])) ≡ Some m
      → seen_after n (numbers_of_state kind s) ≡ Some m
  closed_seen r xs s mark e h kind n m q = state_seen r xs s h kind n m
      (ap (seen_after n) (sym (numbers_closed kind xs mark (e kind))) ∙ q)

  -- A number of an interval is no name.
  none : (kind : NameKind) (text : List ℕ) → is_number text ≡ true
      → numbers_at (token_as scale known Other text) kind ++ [] ≡ []
  none kind text is = ap (λ t. numbers_at t kind ++ []) (counted scale known text is)

  two : (kind : NameKind) (low high : List ℕ) → is_number low ≡ true → is_number high ≡ true
      → numbers_at (token_as scale known Other low) kind
      ++ (numbers_at (token_as scale known Other high) kind ++ []) ≡ []
  two kind low high l h =
      ap (λ t. numbers_at t kind ++ (numbers_at (token_as scale known Other high) kind ++ []))
      (counted scale known low l) ∙ none kind high h

  pub counts_alike : (r : Rule) (xs : Words) (e : PatternTree) → Spells scale known r xs e → CountsAlike xs e
  counts_alike _ _ _ (expr_meet xs e h) = counts_alike meet xs e h
  counts_alike _ _ _ (expr_bar xs ys e f h k) = record
      { alike = alike_join xs ys (codes "|") e f (λ kind b. refl) (counts_alike expr xs e h) (counts_alike meet ys f k) }
  counts_alike _ _ _ (meet_seq xs e h) = counts_alike seq xs e h
  counts_alike _ _ _ (meet_ampersand xs ys e f h k) =
      record {
        alike = alike_join xs ys (codes "&") e f (λ kind b. refl) (counts_alike meet xs e h)
            (counts_alike seq ys f k);
      }
  counts_alike _ _ _ (seq_post xs e h) = counts_alike post xs e h
  counts_alike _ _ _ (seq_semicolon xs ys e f h k) =
      record {
        alike = alike_join xs ys (codes ";") e f (λ kind b. refl) (counts_alike seq xs e h)
            (counts_alike post ys f k);
      }
  counts_alike _ _ _ (post_primary xs e h) = counts_alike primary xs e h
  counts_alike _ _ _ (post_star xs e h) = record {
    alike =
        alike_closed xs (codes "*") e (λ kind b. refl) (counts_alike post xs e h);
  }
  counts_alike _ _ _ (post_plus xs e h) =
      record {
        alike = λ kind n m q. seen_again (numbers_of kind e) n m
            (alike_closed xs (codes "+") e (λ kind b. refl) (counts_alike post xs e h) kind n m q);
      }
  counts_alike _ _ _ (post_question xs e h) =
      record {
        alike = λ kind n m q. ap (seen_after n) (append-nil (numbers_of kind e))
            ∙ alike_closed xs (codes "?") e (λ kind b. refl) (counts_alike post xs e h) kind n m q;
      }
  counts_alike _ _ _ (post_percent xs ys e i h k) =
      record {
        alike = λ kind n m q. (counts_alike post xs e h).alike kind n m
            (ap (seen_after n) (sym (numbers_beside kind xs (codes "%") ys (λ b. refl)
            ∙ ap (λ l. numbers kind xs ++ l) (interval_numbers kind ys i k)
            ∙ append-nil (numbers kind xs))) ∙ q);
      }
    where
      interval_numbers : (kind : NameKind) (ys : Words) (i : IntervalEnds)
          → SpellsInterval scale known ys i → numbers kind ys ≡ []
      interval_numbers kind _ _ (with_high low high true true l h) = two kind low high l h
      interval_numbers kind _ _ (with_high low high true false l h) = two kind low high l h
      interval_numbers kind _ _ (with_high low high false true l h) = two kind low high l h
      interval_numbers kind _ _ (with_high low high false false l h) = two kind low high l h
      interval_numbers kind _ _ (without_high low true l) = none kind low l
      interval_numbers kind _ _ (without_high low false l) = none kind low l
  counts_alike _ _ _ primary_eps = record { alike = λ kind n m q. q }
  counts_alike _ _ _ (primary_parens xs e h) = record
      { alike = alike_closed xs (codes ")") e (λ kind b. refl) (counts_alike expr xs e h) }
  counts_alike _ _ _ (primary_rise xs s h) = record
      { alike = closed_seen state xs s (codes ")") (λ kind b. refl) h }
  counts_alike _ _ _ (primary_fall xs s h) = record
      { alike = closed_seen state xs s (codes ")") (λ kind b. refl) h }
  counts_alike _ _ _ (primary_event text is) = record {
    alike = λ kind n m q. ap (seen_after n) (event_numbers kind (place_in known.events text)
        ∙ ap (λ t. numbers_in kind (t ∷ [])) (sym (event_named scale known text is))) ∙ q;
  }
  counts_alike _ _ _ (primary_lit xs s h) = record { alike = state_seen (unary false) xs s h }
  counts_alike _ _ _ (primary_begins xs s h) = record {
    alike = λ kind n m q. seen_again (numbers_of_state kind s) n m (state_seen (unary false) xs s h kind n m q);
  }
  counts_alike _ _ _ (primary_ends xs s h) =
      record {
        alike = λ kind n m q. seen_again (numbers_of_state kind s) n m
            (closed_seen (unary false) xs s (codes ":>") (λ kind b. refl) h kind n m q);
      }
  counts_alike _ _ _ (primary_begins_ends xs s h) =
      record {
        alike = λ kind n m q.
            let names = numbers_of_state kind s in
            let once = closed_seen (unary false) xs s (codes ":>") (λ kind b. refl) h kind n m q in
            let more = (seen_more names n m m once (omega arith)).1 in
            seen_join (names ++ names) names n m m (seen_again names n m once) more;
      }
