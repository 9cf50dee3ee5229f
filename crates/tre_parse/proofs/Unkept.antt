-- The first interval that can't be kept, from the tokens that one function reads to those of
-- another; and that where no number is too big it is the first empty one.
use Rattle.std.proofs.Common.{◌≡◌, ◌≢◌, ℕ, suc, ◌+◌, ◌-◌, Bool, true, false, Option, Some, None, List, [], ◌∷◌, ◌++◌, length, inl, inr, refl, sym, ◌∙◌, ap, subst, arith, append_assoc, length-append, rules}
use Rattle.std.specs.Prelude.{MatchOption, position, codes}
use Rattle.std.specs.Option.{option_or}
use Rattle.std.proofs.lemmas.List.{append-nil, map-append, length-map}
use Rattle.tre_trace.specs.Reading.{Vocabulary}
use Rattle.tre_state.specs.StateTree.{StateTree}
use Rattle.tre_zone.specs.Interval.{IntervalEnds}
use Rattle.tre_parse.specs.declared.token.Token.{Token}
use Rattle.tre_parse.specs.declared.token.Token.TheVariants.{Percent}
use Rattle.tre_parse.specs.declared.before.Before.{Before}
use Rattle.tre_parse.specs.declared.before.Before.TheVariants.{Other}
use Rattle.tre_parse.specs.Words.{Words}
use Rattle.tre_parse.specs.TokenWords.{Stands, Piece, words_by, tokens_by, tokens_for, tokens_as, AreTheirs, before_word}
use Rattle.tre_parse.specs.Grammar.{SpellsInterval}
use Rattle.tre_parse.specs.Begins.{BeginsInterval}
use Rattle.tre_parse.specs.Joins.{edge_sign}
use Rattle.tre_parse.specs.Parts.{IsFineInterval, IsMadeOf}
use Rattle.tre_parse.specs.Operands.{Formula, RepresentsState}
use Rattle.tre_parse.specs.Outcome.{is_big, HasEmptyAt, IsFirst}
use Rattle.tre_parse.specs.Reader.{Reading, got, stop, StateTask, of_state, of_interval, read, read_state}
use Rattle.tre_parse.specs.Reading.{ReadingGoes, Accepts}
use Rattle.tre_parse.specs.Unkept.{NoneEmptyBefore, NoneEmpty, interval_of, interval_from, BeginsUnkept, Finds, FindsUpTo, unkept_at}
use Rattle.tre_parse.proofs.Empties.{none_before_one, none_before_more, none_empty, unkept_empty}
use Rattle.tre_parse.proofs.Fine.{none_big, ends_within}
use Rattle.tre_parse.proofs.Fixpoint.{left}
use Rattle.tre_parse.proofs.Skips.{skips}
use Rattle.tre_parse.proofs.Says.{Says}
use Rattle.tre_parse.proofs.Rules.{task_says}
use Rattle.tre_parse.proofs.Spelt.{after, spread, interval_is_read}

pub or_none : (a : Option ℕ) → option_or a None ≡ a
or_none None = refl
or_none (Some n) = refl

pub edge_no_percent : (rises : Bool) → edge_sign rises ≢ Percent
edge_no_percent true q = cc
edge_no_percent false q = cc

-- ---- one part behind the other

pub up_to_past : (t : Token) (old us new : List Token) (found : Option ℕ) → old ≡ t ∷ us
    → t ≢ Percent → FindsUpTo us new found → FindsUpTo old new found
up_to_past t old us new found e n k = search rules

pub up_to_end : (t : Token) (old ts new : List Token) (found now : Option ℕ)
    → FindsUpTo old ts found → ts ≡ t ∷ new → t ≢ Percent → now ≡ found → FindsUpTo old new now
up_to_end t old ts new found now k e n same = search rules

pub up_to_joined : (old ts new : List Token) (a b c : Option ℕ) → FindsUpTo old ts a
    → FindsUpTo ts new b → c ≡ option_or a b → FindsUpTo old new c
up_to_joined old ts new a b c k m e = search rules

pub up_to_accept : (t : Token) (is : Bool) (old us new : List Token) (found : Option ℕ)
    → Accepts t is old us → t ≢ Percent → FindsUpTo us new found → FindsUpTo old new found
up_to_accept t true old us new found a n k = up_to_past t old us new found a n k
up_to_accept t false old us new found a n k = subst (λ l. FindsUpTo l new found) a.0 k

pub up_to_accepted : (t : Token) (is : Bool) (old ts new : List Token) (found now : Option ℕ)
    → FindsUpTo old ts found → Accepts t is ts new → t ≢ Percent → now ≡ found
    → FindsUpTo old new now
up_to_accepted t true old ts new found now k a n same = search rules
up_to_accepted t false old ts new found now k a n same = search rules

-- ---- states and intervals

pub up_to_state : (task : StateTask) (x : Formula) (old new : List Token)
    → ReadingGoes RepresentsState x (read_state task old) (λ s. got s new)
    → FindsUpTo old new None
up_to_state task x old new k = λ later h.
    let P = λ (o : Reading StateTree). Finds (left o) later in
    skips (of_state task) old tt later (subst P (sym k.goes) h)

pub up_to_interval : (within : Option IntervalEnds) (us new : List Token)
    → ReadingGoes IsMadeOf within (read of_interval us) (λ ends. got ends new) →
    FindsUpTo (Percent ∷ us) new (unkept_at within (length us))
up_to_interval within us new k = by within k.stands
  where
    reads : interval_from us ≡ Some k.tree
    reads = ap interval_of k.goes

    same : (one other : IntervalEnds) → Some one ≡ Some other → one ≡ other
    same one other e = cc

    by : (within : Option IntervalEnds) → IsMadeOf within k.tree
        → FindsUpTo (Percent ∷ us) new (unkept_at within (length us))
    by None made = λ later h. inl (
      record {
        ends = k.tree;
        reads = reads;
        unkept = λ fine. let some = made.made fine in (cc);
      },
      refl,
    )
    by (Some kept) made = λ later h.
        let P = λ (o : Reading IntervalEnds). Finds (left o) later in
        inr (
          (λ u. u.unkept (subst IsFineInterval (same k.tree u.ends (sym reads ∙ u.reads))
              (made.fine refl))),
          skips of_interval us tt later (subst P (sym k.goes) h),
        )

-- ---- all the tokens

same_place : (front other xs ys : List Token) → front ++ xs ≡ other ++ ys → length front
    ≡ length other → xs ≡ ys
same_place [] [] xs ys e n = e
same_place [] (o ∷ other) xs ys e n = absurd (omega (arith, n))
same_place (f ∷ front) [] xs ys e n = absurd (omega (arith, n))
same_place (f ∷ front) (o ∷ other) xs ys e n = same_place front other xs ys (tail f o _ _ e)
    (omega (arith, n))
  where
    tail : (a b : Token) (us vs : List Token) → a ∷ us ≡ b ∷ vs → us ≡ vs
    tail a b us vs q = cc

module _ (scale : ℕ) (known : Vocabulary) where
  for_length : (before : Before) (words : Words)
      → length (tokens_for scale known before words) ≡ length words
  for_length before [] = refl
  for_length before (word ∷ rest) =
      ap (λ n. suc n) (for_length (before_word before word) rest)

  -- The tokens of words among which an interval stands.
  parted : (front body rest : Words) → tokens_as scale known (front ++ codes "%" ∷ (body ++ rest))
      ≡ tokens_as scale known front ++ Percent ∷ (tokens_as scale known body
      ++ (tokens_for scale known (after scale known Other body) rest ++ []))
  parted front body rest =
      sym (append-nil (tokens_as scale known (front ++ codes "%" ∷ (body ++ rest))))
      ∙ spread scale known front (codes "%" ∷ (body ++ rest)) []
      ∙ ap (λ ts. tokens_as scale known front ++ Percent ∷ ts) (spread scale known body rest [])

  module _ (pieces : List (Piece scale known)) (own : AreTheirs scale known pieces) where
    abbrev words : Words
    words = words_by scale known pieces

    abbrev IsEmptyAt : ℕ → Type 0
    IsEmptyAt place = HasEmptyAt scale known words place

    -- What is found in the rest, where no interval before it is empty.
    abbrev pub IsFound : Option ℕ → Type 0
    IsFound found = MatchOption found (NoneEmpty scale known words)
        (λ left. IsFirst IsEmptyAt (length words - left))

    no_empty_at : (front rest : List (Piece scale known)) (p : Piece scale known)
        → pieces ≡ front ++ p ∷ rest
        → (p.token ≡ Percent → BeginsUnkept (tokens_by scale known rest) → ⊥)
        → IsEmptyAt (length front + 1) → ⊥
    no_empty_at front rest p e never k =
        let token = λ (piece : Piece scale known). piece.token in
        let behind = tokens_as scale known k.body
        ++ (tokens_for scale known (after scale known Other k.body) k.rest ++ []) in
        let both : tokens_by scale known front ++ p.token ∷ tokens_by scale known rest
        ≡ tokens_as scale known k.front ++ Percent ∷ behind =
        sym (ap (tokens_by scale known) e ∙ map-append token front (p ∷ rest))
        ∙ own ∙ ap (tokens_as scale known) k.split ∙ parted k.front k.body k.rest in
        let more = same_place (tokens_by scale known front) (tokens_as scale known k.front)
        (p.token ∷ tokens_by scale known rest) (Percent ∷ behind) both
        (omega (arith, k.here, length-map front token, for_length Other k.front)) in
        let first : p.token ≡ Percent = cc in
        let rests : tokens_by scale known rest ≡ behind = cc in
        never first (record {
          ends = k.ends;
          reads = ap interval_from rests ∙ ap interval_of (interval_is_read scale known k.body k.ends
              k.spelt (tokens_for scale known (after scale known Other k.body) k.rest ++ []));
          unkept = λ fine. fine.lasts k.empty;
        })

    -- What is read is at the front.
    record Fronts (rest : List (Piece scale known)) (ends : IntervalEnds) : Type 0 where
      body : List (Piece scale known)
      behind : List (Piece scale known)
      split : rest ≡ body ++ behind
      spelt : SpellsInterval scale known (words_by scale known body) ends

    fronts : (rest : List (Piece scale known)) (ends : IntervalEnds)
        → interval_from (tokens_by scale known rest) ≡ Some ends → Fronts rest ends
    fronts rest ends e =
        let s = task_says scale known of_interval rest in
        by s.taken s.rest (read of_interval (tokens_by scale known rest)) s.split s.says e
      where
        by : (taken behind : List (Piece scale known)) (o : Reading IntervalEnds)
            → rest ≡ taken ++ behind → Says scale known (SpellsInterval scale known)
            (BeginsInterval scale known) (words_by scale known taken) o
            → interval_of o ≡ Some ends → Fronts rest ends
        by taken behind (stop ts) split says e = absurd (cc)
        by taken behind (got found ts) split says e =
            let same : found ≡ ends = cc in
            let P = λ (i : IntervalEnds). SpellsInterval scale known (words_by scale known taken) i in
            record { body = taken; behind = behind; split = split; spelt = subst P same says }

    empty_at : (front rest : List (Piece scale known)) (p : Piece scale known)
        → pieces ≡ front ++ p ∷ rest → p.token ≡ Percent
        → position (is_big scale) words ≡ None
        → NoneEmptyBefore scale known words (length front + 1)
        → BeginsUnkept (tokens_by scale known rest)
        → IsFirst IsEmptyAt (length words - length (tokens_by scale known rest))
    empty_at front rest p e percent big none u =
        let word = λ (piece : Piece scale known). piece.word in
        let by = words_by scale known in
        let f = fronts rest u.ends u.reads in
        let is : p.word ≡ codes "%" = subst (λ t. Stands scale known p.word t) percent p.stands in
        let split : words ≡ by front ++ codes "%" ∷ (by f.body ++ by f.behind) =
        ap by e ∙ map-append word front (p ∷ rest)
        ∙ ap (λ w. by front ++ w ∷ by rest) is
        ∙ ap (λ ws. by front ++ codes "%" ∷ ws) (ap by f.split ∙ map-append word f.body f.behind) in
        let size = ap length e in
        let count = length-append front (p ∷ rest) in
        let all = length-map pieces word in
        let some = length-map front word in
        let others = length-map rest (λ (piece : Piece scale known). piece.token) in
        let here : length front + 1 ≡ length words - length (tokens_by scale known rest) =
        omega (arith, size, count, all, others) in
        subst (IsFirst IsEmptyAt) here (
          record {
            front = by front;
            body = by f.body;
            rest = by f.behind;
            ends = u.ends;
            split = split;
            here = omega (arith, some);
            spelt = f.spelt;
            empty = unkept_empty u.ends
                (ends_within scale known words (by front) (by f.body) (by f.behind) u.ends
                (none_big scale known words big) split f.spelt)
                u.unkept;
          },
          none,
        )

    -- One word further.
    finds_step : (front rest : List (Piece scale known)) (p : Piece scale known) (found : Option ℕ)
        → pieces ≡ front ++ p ∷ rest → position (is_big scale) words ≡ None
        → NoneEmptyBefore scale known words (length front + 1)
        → (NoneEmptyBefore scale known words (length (front ++ p ∷ []) + 1)
        → Finds (tokens_by scale known rest) found → IsFound found)
        → (t : Token) → p.token ≡ t → Finds (t ∷ tokens_by scale known rest) found → IsFound found
    finds_step front rest p found e big none go = by
      where
        on : (IsEmptyAt (length front + 1) → ⊥) → Finds (tokens_by scale known rest) found
            → IsFound found
        on never k =
            let more : length front + 1 + 1 ≡ length (front ++ p ∷ []) + 1 =
            omega (arith, length-append front (p ∷ [])) in
            go (subst (NoneEmptyBefore scale known words) more
            (none_before_more scale known words (length front) none never)) k

        by : (t : Token) → p.token ≡ t → Finds (t ∷ tokens_by scale known rest) found
            → IsFound found
        by Percent q (inl k) = subst IsFound (sym k.1) (empty_at front rest p e q big none k.0)
        by Percent q (inr k) = on (no_empty_at front rest p e (λ r. k.0)) k.1
        by _ q k = on (no_empty_at front rest p e (λ r. absurd (cc))) k

    finds_on : (front rest : List (Piece scale known)) (found : Option ℕ)
        → pieces ≡ front ++ rest → position (is_big scale) words ≡ None
        → NoneEmptyBefore scale known words (length front + 1)
        → Finds (tokens_by scale known rest) found → IsFound found
    finds_on front [] found e big none h =
        let size = ap length (e ∙ append-nil front) in
        let all = length-map pieces (λ (piece : Piece scale known). piece.word) in
        subst IsFound (sym h) (none_empty scale known words (length front)
        (omega (arith, size, all)) none)
    finds_on front (p ∷ rest) found e big none h =
        finds_step front rest p found e big none
        (λ k. finds_on (front ++ p ∷ []) rest found (e ∙ sym (append_assoc front (p ∷ []) rest)) big k)
        p.token refl h

    pub finds_first : (found : Option ℕ) → position (is_big scale) words ≡ None
        → FindsUpTo (tokens_by scale known pieces) [] found → IsFound found
    finds_first found big k =
        finds_on [] pieces found refl big (none_before_one scale known words)
        (subst (Finds (tokens_by scale known pieces)) (or_none found) (k None refl))
