-- Which outcome each step of parsing comes to.
use Rattle.std.proofs.Common.{◌≡◌, ℕ, ◌+◌, ◌<◌, ◌≤◌, ◌-◌, Option, Some, None, Ok, Err, List, [], ◌∷◌, length, ◌⊎◌, inl, inr, refl, sym, ◌∙◌, ap, subst, arith, rules}
use Rattle.std.specs.Prelude.{Result, slice_index_or, position, map, take, MatchOption}
use Rattle.std.proofs.lemmas.List.{length-map}
use Rattle.tre_trace.specs.Reading.{Vocabulary}
use Rattle.tre_syntax.specs.declared.name_kind.NameKind.{NameKind}
use Rattle.tre_syntax.specs.declared.name_kind.NameKind.TheVariants.{Proposition, Event as EventKind}
use Rattle.tre_syntax.specs.declared.pattern.TheConstants.{NODES_MAX}
use Rattle.tre_syntax.specs.declared.pattern.Pattern.{Pattern}
use Rattle.tre_syntax.specs.PatternTree.{PatternTree, node_count, IsNumbered, seen_after}
use Rattle.tre_syntax.specs.Expr.{tree_of}
use Rattle.tre_syntax.specs.declared.expr.Expr.{Expr}
use Rattle.tre_parse.specs.declared.limits.TheConstants.{TEXT_MAX}
use Rattle.tre_parse.specs.declared.fault.ParseFault.{ParseFault}
use Rattle.tre_parse.specs.declared.fault.ParseFault.TheVariants.{TooLong, BadByte, Number, TooDeep, EmptyInterval, TooManyNames, TooLarge, Syntax as Mistaken, Memory}
use Rattle.tre_parse.specs.declared.token.Token.{Token}
use Rattle.tre_parse.specs.declared.scan.Scan.{Scan}
use Rattle.tre_parse.specs.declared.cursor.Stop.{Stop}
use Rattle.tre_parse.specs.declared.cursor.Stop.TheVariants.{Syntax as Stuck, Memory as Lacking}
use Rattle.tre_parse.specs.Words.{Words, names_among}
use Rattle.tre_parse.specs.Grammar.{expr, Spells}
use Rattle.tre_parse.specs.TokenWords.{Piece, words_by, tokens_by, tokens_as}
use Rattle.tre_parse.specs.Tokens.{RawTokenAt}
use Rattle.tre_parse.specs.Scanned.{raw_tokens_of, bad_byte, tokens_of, names_of}
use Rattle.tre_parse.specs.Known.{names_of_kind, Known, nothing_known, next_token, known_after, tokens_from, offsets_of}
use Rattle.tre_parse.specs.Operands.{Operand, Represents, HasFineIntervals}
use Rattle.tre_parse.specs.Joins.{Keeps}
use Rattle.tre_parse.specs.Reader.{Reading, got}
use Rattle.tre_parse.specs.Reading.{ReadingGoes, Stops}
use Rattle.tre_parse.specs.Scan.{placed_from, IsBadByte, IsScan}
use Rattle.tre_parse.specs.Front.{tokens_in, offsets_in}
use Rattle.tre_parse.specs.Numbering.{numbers_in, IsNumberedByUse}
use Rattle.tre_parse.specs.Limits.{is_above, is_past, deep_place}
use Rattle.tre_parse.specs.Outcome.{Read, words, IsOutcome, is_big, HasEmptyAt, IsFirst, SpellsAll, HasCause, rank, Outcome, spelt, refused, ComesFirst}
use Rattle.tre_parse.specs.ScannedOutcome.{TextTokens, offset_of, text_tokens_of, IsPastAt, NoneBelow, AreTokensOf}
use Rattle.tre_parse.specs.Answers.{Answers, AnswersFirst, NoneBelowIn, text_tokens_in, IsFaultOf}
use Rattle.tre_parse.specs.Unkept.{NoneEmpty, FindsUpTo}
use Rattle.tre_parse.proofs.Fixpoint.{left}
use Rattle.tre_parse.proofs.Whole.{read_whole, IsCut, IsStuckAt, no_tree, fault_at, spelt_once, spelt_read}
use Rattle.tre_parse.proofs.Numbers.{counts_alike}
use Rattle.tre_parse.proofs.NumberedWords.{text_numbered}
use Rattle.tre_parse.proofs.Fine.{none_big, stand_fine, fine_intervals}
use Rattle.tre_parse.proofs.Unkept.{IsFound, finds_first}
use Rattle.tre_parse.proofs.Pieces.{same_big}
use Rattle.tre_parse.proofs.Depth.{IsDeepAt, deep_first, never_deep}
use Rattle.tre_parse.proofs.Agreement.{scanned, scanned_tokens}
use Rattle.tre_parse.proofs.Outcomes.{first_once}
use Rattle.tre_parse.proofs.Spelling.{none_found}

-- What was read is a pattern with these names.
pub record IsBuildable (names : Vocabulary) (operand : Operand) (tree : PatternTree) : Type 0 where
  pub represents : Represents operand tree
  pub small : node_count tree ≤ NODES_MAX
  pub fine : HasFineIntervals tree
  pub numbered : (kind : NameKind) → IsNumbered kind tree (length (names_of_kind kind names))

module _ (scale : ℕ) (text : List ℕ) (read : Read scale text) where
  abbrev known : Vocabulary
  known = names_among (words read)

  abbrev Below : ℕ → Type 0
  Below n = NoneBelow scale text read n

  -- ---- one refusal after the other

  -- Where the refusals of one rank have no cause, the first is one of a higher rank.
  next : (n : ℕ) → Below n
      → ((fault : ParseFault) → rank fault ≡ n → HasCause read fault → ⊥) → Below (n + 1)
  next n below none fault is =
      let least = below fault is in
      let never : rank fault ≡ n → ⊥ = λ e. none fault e is in
      omega (arith, least, never)

  pub short : length text ≤ TEXT_MAX → Below 1
  short le TooLong long = absurd (omega (arith, le, long))
  short le fault is = omega arith

  pub good_bytes : length text ≤ TEXT_MAX → read.bad ≡ None → Below 2
  good_bytes le none = next 1 (short le) bad
    where
      bad : (fault : ParseFault) → rank fault ≡ 1 → HasCause read fault → ⊥
      bad (BadByte at) e is = cc
      bad fault e is = omega (arith, e)

  pub past_numbers : Below 2 → position (is_big scale) (words read) ≡ None → Below 3
  past_numbers below none = next 2 below big
    where
      big : (fault : ParseFault) → rank fault ≡ 2 → HasCause read fault → ⊥
      big (Number at) e is = let some = is.1.0 in cc
      big fault e is = omega (arith, e)

  pub past_brackets : Below 3 → ((place : ℕ) → IsDeepAt (words read) place → ⊥) → Below 4
  past_brackets below never = next 3 below deep
    where
      deep : (fault : ParseFault) → rank fault ≡ 3 → HasCause read fault → ⊥
      deep (TooDeep at) e is = never is.0 is.1.0
      deep fault e is = omega (arith, e)

  pub past_syntax : Below 4 → (tree : PatternTree) → SpellsAll read tree → Below 5
  past_syntax below tree spells = next 4 below wrong
    where
      wrong : (fault : ParseFault) → rank fault ≡ 4 → HasCause read fault → ⊥
      wrong (Mistaken at) e is = is.0 tree spells
      wrong fault e is = omega (arith, e)

  pub past_intervals : Below 5 → NoneEmpty scale known (words read) → Below 6
  past_intervals below never = next 5 below empty
    where
      empty : (fault : ParseFault) → rank fault ≡ 5 → HasCause read fault → ⊥
      empty (EmptyInterval at) e is = never is.0 is.1.0
      empty fault e is = omega (arith, e)

  pub past_names : Below 6 → ((place : ℕ) → IsPastAt scale text read place → ⊥) → Below 7
  past_names below never = next 6 below past
    where
      past : (fault : ParseFault) → rank fault ≡ 6 → HasCause read fault → ⊥
      past (TooManyNames at) e is = never is.0 is.1.0
      past fault e is = omega (arith, e)

  pub past_size : Below 7 → (tree : PatternTree) → SpellsAll read tree
      → node_count tree ≤ NODES_MAX → (fault : ParseFault) → HasCause read fault → ⊥
  past_size below tree spells small (TooLarge nodes) is =
      let same = ap node_count (spelt_once scale known (words read) tree is.0 spells is.1) in
      let large = is.2 in
      omega (arith, same, large, small)
  past_size below tree spells small Memory is = is
  past_size below tree spells small fault is =
      let least = below fault is in omega (arith, least)

  pub no_big : Below 4 → position (is_big scale) (words read) ≡ None
  no_big below = none_found (position (is_big scale) (words read)) never
    where
      same : (found : Option ℕ) (i j : ℕ) → found ≡ Some i → found ≡ Some j → j < i → ⊥
      same found i j e q lt = let one : i ≡ j = cc in omega (arith, one, lt)

      never : (place : ℕ) → position (is_big scale) (words read) ≡ Some place → ⊥
      never place e =
          let least = below (Number (slice_index_or (map (λ (one : ℕ × List ℕ). one.0) read.placed)
          place (length text))) (place, (e, λ n lt q. same _ place n e q lt), refl) in
          omega (arith, least)

  module _ (tokens : TextTokens) (r : AreTokensOf scale text read tokens) where
    abbrev pieces : List (Piece scale known)
    pieces = r.pieces

    pub at_place : (place : ℕ) → offset_of tokens place
        ≡ slice_index_or (map (λ (one : ℕ × List ℕ). one.0) read.placed) place (length text)
    at_place place = ap (λ l. slice_index_or l place tokens.size) r.offsets
        ∙ ap (λ n. slice_index_or (map (λ (one : ℕ × List ℕ). one.0) read.placed) place n) r.size

    pub words_length : length tokens.tokens ≡ length (words read)
    words_length = ap length r.same
        ∙ length-map r.pieces (λ (piece : Piece scale known). piece.token)
        ∙ sym (length-map r.pieces (λ (piece : Piece scale known). piece.word))
        ∙ sym (ap length r.written)

    -- The limits on numbers and brackets are found among the tokens.
    pub found_big : position (is_big scale) (words read) ≡ position is_above tokens.tokens
    found_big = ap (position (is_big scale)) r.written ∙ same_big scale known r.pieces
        ∙ sym (ap (position is_above) r.same)

    pub big_outcome : (place at : ℕ) → position is_above tokens.tokens ≡ Some place
        → at ≡ offset_of tokens place → ComesFirst read (refused (Number at))
    big_outcome place at e q =
        let here = found_big ∙ e in
        ((place, (here, λ n lt k. same _ place n here k lt), q ∙ at_place place), r.below)
      where
        same : (found : Option ℕ) (i j : ℕ) → found ≡ Some i → found ≡ Some j → j < i → ⊥
        same found i j e q lt = let one : i ≡ j = cc in omega (arith, one, lt)

    pub small : position is_above tokens.tokens ≡ None → Below 3
    small none = past_numbers r.below (found_big ∙ none)

    pub deep_outcome : (place at : ℕ) → position is_above tokens.tokens ≡ None
        → deep_place 0 0 tokens.tokens ≡ Some place → at ≡ offset_of tokens place
        → ComesFirst read (refused (TooDeep at))
    deep_outcome place at none e q =
        let first = deep_first scale known r.pieces place
        (ap (deep_place 0 0) (sym r.same) ∙ e) in (
          (place, subst (λ ws. IsFirst (IsDeepAt ws) place) (sym r.written) first, q ∙ at_place place),
          small none,
        )

    pub shallow : position is_above tokens.tokens ≡ None → deep_place 0 0 tokens.tokens ≡ None
        → Below 4
    shallow none e = past_brackets (small none) (λ place deep.
        never_deep scale known r.pieces place (ap (deep_place 0 0) (sym r.same) ∙ e)
        (subst (λ ws. IsDeepAt ws place) r.written deep))

    -- ---- where reading stops

    -- Words that are not read to an end go wrong where the reading stops.
    stuck : IsCut (read_whole tokens.tokens) → ((tree : PatternTree) → SpellsAll read tree → ⊥)
        × IsFirst (IsStuckAt scale known (words read))
        (length tokens.tokens - length (left (read_whole tokens.tokens)))
    stuck h =
        let cut = subst (λ (ts : List Token). IsCut (read_whole ts)) r.same h in
        let place = λ (ts : List Token). length ts - length (left (read_whole ts)) in
        subst (λ (ts : List Token). ((tree : PatternTree) → SpellsAll read tree → ⊥)
        × IsFirst (IsStuckAt scale known (words read)) (place ts)) (sym r.same)
        (subst (λ (ws : Words). ((tree : PatternTree) → Spells scale known expr ws tree → ⊥)
        × IsFirst (IsStuckAt scale known ws) (place (tokens_by scale known r.pieces))) (sym r.written)
        (no_tree scale known r.pieces r.theirs cut, fault_at scale known r.pieces r.theirs cut))

    pub cut_outcome : (fault : ParseFault) (rest : List Token)
        → Below 4 → IsCut (read_whole tokens.tokens) → left (read_whole tokens.tokens) ≡ rest
        → fault ≡ Mistaken (offset_of tokens (length tokens.tokens - length rest))
        → ComesFirst read (refused fault)
    cut_outcome fault rest below h same f =
        let place = length tokens.tokens - length (left (read_whole tokens.tokens)) in
        let is = ap (λ ts. Mistaken (offset_of tokens (length tokens.tokens - length ts))) same
        ∙ sym f in
        let s = stuck h in
        subst (λ one. ComesFirst read (refused one)) is
        ((s.0, (place, s.1, at_place place)), below)

    pub stop_outcome : (stopped : Stop) (fault : ParseFault) (rest : List Token)
        → Below 4 → Stops (read_whole tokens.tokens) stopped rest
        → IsFaultOf tokens stopped fault → (fault ≡ Memory) ⊎ ComesFirst read (refused fault)
    stop_outcome Lacking fault rest below h f = inl f
    stop_outcome (Stuck n) fault rest below h f =
        inr (cut_outcome fault rest below (subst IsCut (sym h.1) tt) (ap (λ o. left o) h.1)
        (f ∙ ap (λ k. Mistaken (offset_of tokens (length tokens.tokens - k))) h.0))

    -- So have those that are an expression with more behind it.
    pub rest_outcome : (stopped : Stop) (fault : ParseFault) (operand : Operand)
        (rest : List Token) → Below 4 →
        ReadingGoes Represents operand (read_whole tokens.tokens) (λ e. got e rest) → (rest ≡ [] → ⊥) →
        stopped ≡ Stuck (length rest) → IsFaultOf tokens stopped fault →
        (fault ≡ Memory) ⊎ ComesFirst read (refused fault)
    rest_outcome stopped fault operand rest below h some q f =
        inr (cut_outcome fault rest below (subst IsCut (sym h.goes) some) (ap (λ o. left o) h.goes)
        (subst (λ one. IsFaultOf tokens one fault) q f))

    -- What was read stands for the expression that the words spell.
    pub record IsRepresented (operand : Operand) : Type 0 where
      pub tree : PatternTree
      pub spells : SpellsAll read tree
      pub represents : Represents operand tree

    pub whole_spelt : (tree : PatternTree) → read_whole tokens.tokens ≡ got tree []
        → SpellsAll read tree
    whole_spelt tree goes = subst (λ (ws : Words). Spells scale known expr ws tree) (sym r.written)
        (spelt_read scale known r.pieces tree (ap (λ ts. read_whole ts) (sym r.same) ∙ goes))

    pub is_whole : (operand : Operand)
        → ReadingGoes Represents operand (read_whole tokens.tokens) (λ e. got e [])
        → IsRepresented operand
    is_whole operand h = record {
      tree = h.tree;
      spells = whole_spelt h.tree h.goes;
      represents = h.stands;
    }

    -- What was found while the tokens were read is their first empty interval.
    pub found : Below 4 → (unkept : Option ℕ) → FindsUpTo tokens.tokens [] unkept
        → IsFound scale known r.pieces r.theirs unkept
    found below unkept k = finds_first scale known r.pieces r.theirs unkept
        (ap (position (is_big scale)) (sym r.written) ∙ no_big below)
        (subst (λ ts. FindsUpTo ts [] unkept) r.same k)

    pub none_empty : (operand : Operand) → Below 4 → FindsUpTo tokens.tokens [] operand.unkept
        → operand.unkept ≡ None → NoneEmpty scale known (words read)
    none_empty operand below k none =
        subst (λ ws. NoneEmpty scale known ws) (sym r.written)
        (subst (IsFound scale known r.pieces r.theirs) none (found below operand.unkept k))

    pub first_found : (operand : Operand) (left : ℕ) → Below 4
        → FindsUpTo tokens.tokens [] operand.unkept → operand.unkept ≡ Some left
        → IsFirst (HasEmptyAt scale known (words read)) (length tokens.tokens - left)
    first_found operand left below k some =
        subst (λ n. IsFirst (HasEmptyAt scale known (words read)) (n - left)) (sym words_length)
        (subst (λ ws. IsFirst (HasEmptyAt scale known ws) (length ws - left)) (sym r.written)
        (subst (IsFound scale known r.pieces r.theirs) some (found below operand.unkept k)))

    -- ---- the limits of an expression that is spelt

    pub empty_outcome : (operand : Operand) (place at : ℕ) → Below 4 → IsRepresented operand
        → IsFirst (HasEmptyAt scale known (words read)) place → at ≡ offset_of tokens place
        → ComesFirst read (refused (EmptyInterval at))
    empty_outcome operand place at below w h q =
        ((place, h, q ∙ at_place place), past_syntax below w.tree w.spells)

    fits : (operand : Operand) → Below 4 → IsRepresented operand
        → NoneEmpty scale known (words read) → Below 6
    fits operand below w h = past_intervals (past_syntax below w.tree w.spells) h

    pub none_past : position is_past tokens.tokens ≡ None → (place : ℕ)
        → IsPastAt scale text read place → ⊥
    none_past e = by (position is_past tokens.tokens) r.past e
      where
        by : (one : Option ℕ) → MatchOption one ((place : ℕ) → IsPastAt scale text read place → ⊥)
            (IsFirst (IsPastAt scale text read)) → one ≡ None
            → (place : ℕ) → IsPastAt scale text read place → ⊥
        by None h e = h
        by (Some place) h e = absurd (cc)

    pub first_past : (place : ℕ) → position is_past tokens.tokens ≡ Some place
        → IsFirst (IsPastAt scale text read) place
    first_past place e = subst (λ one. MatchOption one
        ((place : ℕ) → IsPastAt scale text read place → ⊥) (IsFirst (IsPastAt scale text read))) e r.past

    pub past_outcome : (operand : Operand) (place at : ℕ) → Below 4 → IsRepresented operand
        → NoneEmpty scale known (words read) → position is_past tokens.tokens ≡ Some place
        → at ≡ offset_of tokens place → ComesFirst read (refused (TooManyNames at))
    past_outcome operand place at below w h q same =
        ((place, first_past place q, same ∙ at_place place), fits operand below w h)

    pub large_outcome : (operand : Operand) (nodes : ℕ) → Below 4 → IsRepresented operand
        → NoneEmpty scale known (words read) → position is_past tokens.tokens ≡ None
        → nodes ≡ operand.nodes → NODES_MAX < nodes → ComesFirst read (refused (TooLarge nodes))
    large_outcome operand nodes below w h q same lt =
        let count = w.represents.nodes in
        let large : NODES_MAX < node_count w.tree = omega (arith, count, same) in (
          (w.tree, w.spells, large, same ∙ count),
          past_names (fits operand below w h) (none_past q),
        )

    -- What is within all limits can be built, and is the pattern.
    pub is_buildable : (operand : Operand) → Below 4
        → (w : IsRepresented operand) → NoneEmpty scale known (words read)
        → position is_past tokens.tokens ≡ None → operand.nodes ≤ NODES_MAX
        → IsNumberedByUse tokens → IsBuildable tokens.names operand w.tree
    is_buildable operand below w h q le n =
        let count = w.represents.nodes in
        record {
          represents = w.represents;
          small = omega (arith, count);
          fine = fine_intervals scale known expr (words read) w.tree w.spells
              (stand_fine scale known (words read) (none_big scale known (words read) (no_big below)) h);
          numbered = λ kind. (counts_alike scale known expr (words read) w.tree w.spells).alike kind 0
              (length (names_of_kind kind tokens.names))
              (ap (λ ts. seen_after 0 (numbers_in kind ts)) (ap (λ ws. tokens_as scale known ws) r.written
              ∙ sym r.theirs ∙ sym r.same) ∙ n q kind);
        }

    pub spelt_outcome : (operand : Operand) (tree : PatternTree)
        (names : Vocabulary) → Below 4 → (w : IsRepresented operand)
        → NoneEmpty scale known (words read) → position is_past tokens.tokens ≡ None
        → operand.nodes ≤ NODES_MAX → tree ≡ w.tree → names ≡ tokens.names
        → ComesFirst read (spelt tree names)
    spelt_outcome operand tree names below w h q le same kept =
        let count = w.represents.nodes in
        let few : node_count w.tree ≤ NODES_MAX = omega (arith, count, le) in
        subst (λ one. ComesFirst read (spelt one names)) (sym same) (
          kept ∙ r.names q,
          w.spells,
          past_size (past_names (fits operand below w h) (none_past q)) w.tree w.spells few,
        )

pub expr_is : (names : Vocabulary) (operand : Operand) (tree : PatternTree) (kept : Option Expr)
    (built : Expr) → IsBuildable names operand tree → Keeps operand.nodes operand.tree kept →
    kept ≡ Some built → tree_of built ≡ tree
expr_is names operand tree kept built b k e = search rules

pub expr_some : (names : Vocabulary) (operand : Operand) (tree : PatternTree)
    (kept : Option Expr) → IsBuildable names operand tree → Keeps operand.nodes operand.tree kept →
    operand.nodes ≤ NODES_MAX → kept ≡ None → ⊥
expr_some names operand tree kept b k le e = search rules

pub pattern_some : (names : Vocabulary) (operand : Operand) (tree : PatternTree) (built : Expr)
    → IsBuildable names operand tree → tree_of built ≡ tree →
    (node_count (tree_of built) ≤ NODES_MAX)
    × IsNumbered Proposition (tree_of built) (length names.names)
    × IsNumbered EventKind (tree_of built) (length names.events)
pattern_some names operand tree built b e = search rules

-- ---- the text as a whole

-- The tokens and the offsets of words that are listed together.
placed_tokens : (scale : ℕ) (known : Known) (raw_tokens : List RawTokenAt)
    → tokens_in (placed_from scale known raw_tokens) ≡ tokens_from scale known raw_tokens
placed_tokens scale known [] = refl
placed_tokens scale known (raw ∷ rest) = ap (λ ts. next_token scale known raw.word ∷ ts)
    (placed_tokens scale (known_after known raw.word) rest)

placed_offsets : (scale : ℕ) (known : Known) (raw_tokens : List RawTokenAt)
    → offsets_in (placed_from scale known raw_tokens) ≡ offsets_of raw_tokens
placed_offsets scale known [] = refl
placed_offsets scale known (raw ∷ rest) = ap (λ ns. raw.at ∷ ns)
    (placed_offsets scale (known_after known raw.word) rest)

-- A scan of a text holds its tokens.
pub same_words : (scale : ℕ) (text : List ℕ) (scan : Scan) → IsScan scale text scan
    → text_tokens_in scan ≡ text_tokens_of scale text
same_words scale text scan s =
    let raw_tokens = raw_tokens_of text in
    let z = s.size in
    let c = s.names in
    let a = ap tokens_in s.tokens ∙ placed_tokens scale nothing_known raw_tokens in
    let b = ap offsets_in s.tokens ∙ placed_offsets scale nothing_known raw_tokens in
    (cc)

pub scan_numbered : (scale : ℕ) (text : List ℕ) (scan : Scan) → IsScan scale text scan
    → IsNumberedByUse (text_tokens_in scan)
scan_numbered scale text scan s = let P = λ (w : TextTokens). IsNumberedByUse w in
    subst P (sym (same_words scale text scan s)) (text_numbered scale text)

pub scan_tokens : (scale : ℕ) (text : List ℕ) (scan : Scan) → length text ≤ TEXT_MAX
    → IsScan scale text scan → AreTokensOf scale text (scanned scale text) (text_tokens_in scan)
scan_tokens scale text scan le s =
    subst (λ tokens. AreTokensOf scale text (scanned scale text) tokens)
    (sym (same_words scale text scan s))
    (scanned_tokens scale text (good_bytes scale text (scanned scale text) le s.good))

-- The outcome is what is answered.
pub answered : (scale : ℕ) (text : List ℕ) (outcome : Outcome) (result : Result Pattern ParseFault)
    → Answers (ComesFirst (scanned scale text)) result → ComesFirst (scanned scale text) outcome
    → Answers (λ answer. outcome ≡ answer) result
answered scale text outcome (Ok pattern) h k =
    first_once scale text (scanned scale text) outcome _ k h
answered scale text outcome (Err fault) (inl memory) k = inl memory
answered scale text outcome (Err fault) (inr h) k =
    inr (first_once scale text (scanned scale text) outcome _ k h)

pub answer_meant : (scale : ℕ) (text : List ℕ) (result : Result Pattern ParseFault)
    → Answers (ComesFirst (scanned scale text)) result → Answers (IsOutcome scale text) result
answer_meant scale text (Ok pattern) h = (scanned scale text, h)
answer_meant scale text (Err fault) (inl memory) = inl memory
answer_meant scale text (Err fault) (inr h) = inr (scanned scale text, h)

-- A text that is too long, and one that has a byte at which no token begins.
pub long_outcome : (scale : ℕ) (text : List ℕ) → TEXT_MAX < length text
    → ComesFirst (scanned scale text) (refused TooLong)
long_outcome scale text long = (long, λ fault is. omega arith)

pub bad_outcome : (scale : ℕ) (text : List ℕ) (fault : ParseFault) → length text ≤ TEXT_MAX
    → IsBadByte text 0 fault → (fault ≡ Memory) ⊎ ComesFirst (scanned scale text) (refused fault)
bad_outcome scale text fault few (inl memory) = inl memory
bad_outcome scale text fault few (inr bad) =
    inr (subst (λ one. ComesFirst (scanned scale text) (refused one)) (sym bad.1)
    (bad.2, short scale text (scanned scale text) few))
