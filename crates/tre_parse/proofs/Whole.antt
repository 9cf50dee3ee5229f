-- All the words: what is read is the one expression that they spell, and where reading stops they
-- go wrong.
use Rattle.std.proofs.Common.{◌≡◌, ℕ, ◌+◌, ◌-◌, ◌<◌, ◌≤◌, zero, suc, List, [], ◌∷◌, ◌++◌, length, take, refl, sym, ◌∙◌, ap, subst, arith, append_assoc, length-append}
use Rattle.std.proofs.Math.Seq.{take-append_seam}
use Rattle.std.proofs.lemmas.List.{append-nil, map-append, length-map}
use Rattle.tre_trace.specs.Reading.{Vocabulary}
use Rattle.tre_syntax.specs.PatternTree.{PatternTree}
use Rattle.tre_parse.specs.declared.token.Token.{Token}
use Rattle.tre_parse.specs.declared.before.Before.{Before}
use Rattle.tre_parse.specs.declared.before.Before.TheVariants.{Other}
use Rattle.tre_parse.specs.declared.connective.Join.TheVariants.{Alternation}
use Rattle.tre_parse.specs.Words.{Words}
use Rattle.tre_parse.specs.TokenWords.{before_word, tokens_for, Piece, words_by, tokens_by, AreTheirs}
use Rattle.tre_parse.specs.Grammar.{expr, Spells}
use Rattle.tre_parse.specs.Begins.{Begins}
use Rattle.tre_parse.specs.Front.{front}
use Rattle.tre_parse.specs.Outcome.{BeginsExpression, IsFirst}
use Rattle.tre_parse.specs.Reader.{Reading, got, stop, expression_by, of_pattern, read_pattern}
use Rattle.tre_parse.proofs.Fixpoint.{left}
use Rattle.tre_parse.proofs.Says.{before, Says}
use Rattle.tre_parse.proofs.Rules.{task_says, begun}
use Rattle.tre_parse.proofs.Prefixes.{pattern_whole, behind, beside, completes}

-- A whole expression, as it is read.
abbrev pub read_whole : List Token → Reading PatternTree
read_whole tokens = read_pattern (expression_by Alternation) tokens

-- A reading that is not a whole expression: it stops, or leaves tokens.
abbrev pub IsCut : Reading PatternTree → Type 0
IsCut (got e rest) = rest ≡ [] → ⊥
IsCut (stop rest) = Unit {0}

not_whole : (o : Reading PatternTree) (e : PatternTree) → IsCut o → o ≡ got e [] → ⊥
not_whole (stop rest) e h q = cc
not_whole (got f rest) e h q = h (cc)

-- With other tokens behind, of which there are some, neither is it.
cut_before : (o : Reading PatternTree) (t : Token) (ts : List Token) (e : PatternTree)
    → before (t ∷ ts) o ≡ got e [] → ⊥
cut_before (stop rest) t ts e q = cc
cut_before (got f rest) t ts e q = cc

take_one_more : (xs : Words) (y : List ℕ) (ys : Words)
    → take (length xs + 1) (xs ++ y ∷ ys) ≡ xs ++ y ∷ []
take_one_more xs y ys = ap (λ n. take n (xs ++ y ∷ ys)) (sym (length-append xs (y ∷ [])))
    ∙ ap (take (length (xs ++ y ∷ []))) (sym (append_assoc xs (y ∷ []) ys))
    ∙ take-append_seam (xs ++ y ∷ []) ys

-- Fewer words than so many are the first of them.
record Cut (m n : ℕ) (ts : Words) : Type 0 where
  rest : Words
  whole : take n ts ≡ take m ts ++ rest

cut : (m n : ℕ) (ts : Words) → m ≤ n → Cut m n ts
cut zero n ts le = record { rest = take n ts; whole = refl }
cut (suc m) zero ts le = absurd (omega arith)
cut (suc m) (suc n) [] le = record { rest = []; whole = refl }
cut (suc m) (suc n) (t ∷ ts) le = let c = cut m n ts (omega arith) in
    record { rest = c.rest; whole = ap (λ l. t ∷ l) c.whole }

module _ (scale : ℕ) (known : Vocabulary) where
  pub read_spelt : (pieces : List (Piece scale known)) (e : PatternTree)
      → AreTheirs scale known pieces → Spells scale known expr (words_by scale known pieces) e
      → read_whole (tokens_by scale known pieces) ≡ got e []
  read_spelt pieces e own h = ap (λ ts. read_whole ts) own
      ∙ pattern_whole scale known expr (words_by scale known pieces) e h

  pub spelt_once : (words : Words) (e f : PatternTree) → Spells scale known expr words e
      → Spells scale known expr words f → e ≡ f
  spelt_once words e f h k =
      same e f (sym (pattern_whole scale known expr words e h)
      ∙ pattern_whole scale known expr words f k)
    where
      same : (a b : PatternTree) → got a [] ≡ got b [] → a ≡ b
      same a b q = cc

  none_by : (pieces : List (Piece scale known)) → [] ≡ tokens_by scale known pieces → pieces ≡ []
  none_by [] e = refl
  none_by (piece ∷ rest) e = absurd (cc)

  pub spelt_read : (pieces : List (Piece scale known)) (e : PatternTree)
      → read_whole (tokens_by scale known pieces) ≡ got e []
      → Spells scale known expr (words_by scale known pieces) e
  spelt_read pieces e q =
      let s = task_says scale known (of_pattern (expression_by Alternation)) pieces in
      let P = λ (ps : List (Piece scale known)). Spells scale known expr (words_by scale known ps) e in
      let Q = λ (o : Reading PatternTree). Says scale known (Spells scale known expr)
      (Begins scale known expr) (words_by scale known s.taken) o in
      let none = none_by s.rest (sym (ap (λ o. left o) q) ∙ s.stays) in
      subst P (sym (s.split ∙ ap (λ ps. s.taken ++ ps) none ∙ append-nil s.taken))
      (subst Q q s.says)

  -- ---- the place of a fault

  -- What begins the rule begins an expression.
  begins_one : (xs : Words) → Begins scale known expr xs → BeginsExpression scale known xs
  begins_one xs h = let c = completes scale known expr xs h in (c.rest, c.tree, c.spells)

  -- Fewer words than those that begin an expression begin one.
  fewer_begin : (m n : ℕ) (ts : Words) → m ≤ n → BeginsExpression scale known (take n ts)
      → BeginsExpression scale known (take m ts)
  fewer_begin m n ts le h =
      let c = cut m n ts le in
      let P = λ (us : Words). Spells scale known expr us h.1 in (
        c.rest ++ h.0,
        h.1,
        subst P (ap (λ us. us ++ h.0) c.whole ∙ append_assoc (take m ts) c.rest h.0) h.2,
      )

  front_begun : (xs : Words) (o : Reading PatternTree)
      → Says scale known (Spells scale known expr) (Begins scale known expr) xs o
      → Begins scale known expr xs
  front_begun xs (stop rest) h = h
  front_begun xs (got e rest) h = begun scale known expr xs e h

  -- The first of words have their own tokens too.
  front_theirs : (before : Before) (xs ys : List (Piece scale known))
      → tokens_by scale known (xs ++ ys)
      ≡ tokens_for scale known before (words_by scale known (xs ++ ys))
      → tokens_by scale known xs ≡ tokens_for scale known before (words_by scale known xs)
  front_theirs before [] ys e = refl
  front_theirs before (x ∷ xs) ys e =
      let more = front_theirs (before_word before x.word) xs ys (cc) in
      let here : x.token ∷ tokens_by scale known (xs ++ ys)
      ≡ tokens_for scale known before (x.word ∷ words_by scale known (xs ++ ys)) = e in
      (cc)

  wrong_rest : (pieces taken rest : List (Piece scale known)) (o : Reading PatternTree)
      → AreTheirs scale known pieces → pieces ≡ taken ++ rest →
      ((other : List Token) → front other ≡ front (tokens_by scale known rest)
      → read_whole (tokens_by scale known taken ++ other) ≡ before other o)
      → BeginsExpression scale known (take (length taken + 1) (words_by scale known pieces))
      → length taken ≡ length (words_by scale known pieces)
  wrong_rest pieces taken [] o own e alike h =
      sym (length-map pieces (λ (piece : Piece scale known). piece.word)
      ∙ ap length (e ∙ append-nil taken))
  wrong_rest pieces taken (p ∷ rest) o own e alike h =
      let word = λ (piece : Piece scale known). piece.word in
      let token = λ (piece : Piece scale known). piece.token in
      let by = words_by scale known in
      let one = taken ++ p ∷ [] in
      let n = length-map taken word in
      let c = subst (λ (ws : Words). BeginsExpression scale known ws)
      (ap (λ ps. take (length taken + 1) (by ps)) e
      ∙ ap (take (length taken + 1)) (map-append word taken (p ∷ rest))
      ∙ ap (λ k. take (k + 1) (by taken ++ p.word ∷ by rest)) (sym n)
      ∙ take_one_more (by taken) p.word (by rest)
      ∙ sym (map-append word taken (p ∷ []))) h in
      let more = behind scale known one c.0 in
      let theirs = front_theirs Other one rest (subst (λ ps. AreTheirs scale known ps)
      (e ∙ sym (append_assoc taken (p ∷ []) rest)) own) in
      absurd (cut_before o p.token more c.1 (sym (alike (p.token ∷ more) refl)
      ∙ ap (λ ts. read_whole ts) (sym (append_assoc (tokens_by scale known taken) (p.token ∷ []) more)
      ∙ ap (λ ts. ts ++ more) (sym (map-append token taken (p ∷ [])))
      ∙ beside scale known one c.0 theirs)
      ∙ pattern_whole scale known expr (by one ++ c.0) c.1 c.2))

  -- The words begin no expression with the one at the place, or the place is their end.
  abbrev pub IsStuckAt : Words → ℕ → Type 0
  IsStuckAt words place = BeginsExpression scale known (take (place + 1) words)
      → place ≡ length words

  -- Where reading comes to no whole expression, the words spell none.
  pub no_tree : (pieces : List (Piece scale known)) → AreTheirs scale known pieces
      → IsCut (read_whole (tokens_by scale known pieces)) → (tree : PatternTree)
      → Spells scale known expr (words_by scale known pieces) tree → ⊥
  no_tree pieces own h tree k =
      not_whole (read_whole (tokens_by scale known pieces)) tree h (read_spelt pieces tree own k)

  -- They go wrong at those that reading leaves.
  pub fault_at : (pieces : List (Piece scale known)) → AreTheirs scale known pieces
      → IsCut (read_whole (tokens_by scale known pieces))
      → IsFirst (IsStuckAt (words_by scale known pieces)) (length (tokens_by scale known pieces)
      - length (left (read_whole (tokens_by scale known pieces))))
  fault_at pieces own h =
      let s = task_says scale known (of_pattern (expression_by Alternation)) pieces in
      let word = λ (piece : Piece scale known). piece.word in
      let words = words_by scale known pieces in
      let mine = words_by scale known s.taken in
      let whole = read_whole (tokens_by scale known pieces) in
      let count = length-append s.taken s.rest in
      let size = ap length s.split in
      let stays = ap length s.stays
      ∙ length-map s.rest (λ (piece : Piece scale known). piece.token) in
      let all = length-map pieces word in
      let both = length-map pieces (λ (piece : Piece scale known). piece.token) in
      let here : length s.taken ≡ length (tokens_by scale known pieces) - length (left whole) =
      omega (arith, count, size, stays, both) in
      let taken : mine ≡ take (length s.taken) words =
      sym (ap (λ ps. take (length s.taken) (words_by scale known ps)) s.split
      ∙ ap (take (length s.taken)) (map-append word s.taken s.rest)
      ∙ ap (λ k. take k (mine ++ words_by scale known s.rest)) (sym (length-map s.taken word))
      ∙ take-append_seam mine (words_by scale known s.rest)) in
      let begins = subst (λ (ws : Words). BeginsExpression scale known ws) taken
      (begins_one mine (front_begun mine whole s.says)) in
      subst (IsFirst (IsStuckAt words)) here (
        wrong_rest pieces s.taken s.rest whole own s.split s.alike,
        λ n less stuck.
            let end = stuck (fewer_begin (n + 1) (length s.taken) words (omega (arith, less)) begins) in
            omega (arith, end, less, all, size, count),
      )
