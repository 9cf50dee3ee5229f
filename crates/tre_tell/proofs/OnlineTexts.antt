-- An online text is that of one list of blocks.
use Rattle.std.proofs.Common.{◌≡◌, ◌∙◌, ℕ, ◌+◌, ◌<◌, ◌≤◌, ◌^◌, List, [], ◌∷◌, ◌++◌, length, Option, None, Some, IfSome, refl, sym, subst, arith, ap, append_assoc, length-append}
use Rattle.tre_decimal.specs.Decimal.{number_text}
use Rattle.tre_pairs.specs.declared.TheConstants.{TIME_MAX}
use Rattle.tre_show.specs.Line.{lines_of, offline_text}
use Rattle.tre_trace.specs.Trace.{end_of}
use Rattle.tre_trace.specs.declared.segment.Segment.{Segment}
use Rattle.tre_trace.proofs.Segments.{end_of-le}
use Rattle.tre_zone.specs.ZoneList.{AreCanonical}
use Rattle.tre_zone.specs.declared.zone_bounds.ZoneBounds.{ZoneBounds}
use Rattle.tre_tell.proofs.Stretches.{lengths_of}
use Rattle.tre_tell.specs.OnlineText.{block_text, block_texts, closing_text, online_text, AreCanonicalBlocks, AreBlocksOf}

-- two lines of the same end go on in the same way
end_line-behind : (xs ys : List ℕ) → 116 ∷ 32 ∷ xs ≡ 116 ∷ 32 ∷ ys → xs ≡ ys
end_line-behind xs ys e = cc

-- What a text tells.
pub record IsOneText (blocks others : List (List ZoneBounds)) (closing ending : Option (List
    ZoneBounds)) (trace other : List Segment) : Type 0 where
  pub blocks_same : blocks ≡ others
  pub closing_same : closing ≡ ending
  pub lengths_same : lengths_of trace ≡ lengths_of other

module _ (scale : ℕ) where
  -- What the law of tre_show says of the front of a text: lines before a letter, and a number that
  -- fills its line.
  pub record FrontTells : Type 0 where
    pub lines : (zones others : List ZoneBounds) (letter other : ℕ) (xs ys : List ℕ)
        → AreCanonical zones → AreCanonical others → 97 ≤ letter → 97 ≤ other
        → lines_of scale zones ++ (letter ∷ xs) ≡ lines_of scale others ++ (other ∷ ys)
        → (zones ≡ others) × (letter ≡ other) × (xs ≡ ys)
    pub number : (number other : ℕ) (xs ys : List ℕ) → number < 2 ^ 64 → other < 2 ^ 64
        → number_text scale number ++ (10 ∷ xs) ≡ number_text scale other ++ (10 ∷ ys) → (number ≡
        other) × (xs ≡ ys)

  -- the line of a segment's end behind its letter a, and what follows it
  abbrev end_line : ℕ → List ℕ → List ℕ
  end_line end xs = 116 ∷ 32 ∷ (number_text scale end ++ (10 ∷ xs))

  -- the text of a block, and what follows it
  block_bytes : (zones : List ZoneBounds) (end : ℕ) (xs : List ℕ)
      → block_text scale zones end ++ xs ≡ lines_of scale zones ++ (97 ∷ end_line end xs)
  unfolding block_text
  block_bytes zones end xs = simp append_assoc

  -- What the text of a block tells, with what follows it.
  block_once : FrontTells → (zones others : List ZoneBounds) (end other : ℕ) (xs ys : List ℕ)
      → AreCanonical zones → AreCanonical others → end ≤ TIME_MAX → other ≤ TIME_MAX
      → block_text scale zones end ++ xs ≡ block_text scale others other ++ ys
      → (zones ≡ others) × (end ≡ other) × (xs ≡ ys)
  block_once tells zones others end other xs ys p q small small' e =
      let lines = tells.lines zones others 97 97 (end_line end xs) (end_line other ys) p q
      (omega arith) (omega arith) (sym (block_bytes zones end xs) ∙ e ∙ block_bytes others other ys)
      in
      let number = tells.number end other xs ys (omega (arith, small)) (omega (arith, small'))
      (end_line-behind _ _ lines.2) in
      (lines.0, number.0, number.1)

  -- what closes a text, behind its letter e
  abbrev end_bytes : ℕ → List ℕ
  end_bytes end = 110 ∷ 100 ∷ 32 ∷ (number_text scale end ++ (10 ∷ []))

  -- the text of zones that close one
  closing_bytes : (zones : List ZoneBounds) (end : ℕ)
      → offline_text scale zones end ≡ lines_of scale zones ++ (101 ∷ end_bytes end)
  unfolding offline_text
  closing_bytes zones end = simp append_assoc

  -- lines and a letter behind them are some bytes
  none_of_lines : (zones : List ZoneBounds) (letter : ℕ) (xs : List ℕ)
      → [] ≡ lines_of scale zones ++ (letter ∷ xs) → ⊥
  none_of_lines zones letter xs none =
      absurd (omega (arith, ap length none, length-append (lines_of scale zones) (letter ∷ xs)))

  -- where one text has closed or ended the other has no block
  no_block : FrontTells → (zones : List ZoneBounds) (end at : ℕ)
      (closing : Option (List ZoneBounds)) (xs : List ℕ) → AreCanonical zones
      → IfSome closing AreCanonical → closing_text scale closing at ≡ block_text scale zones end ++
      xs → ⊥
  no_block tells zones end at (Some told) xs p q e =
      let both = tells.lines told zones 101 97 (end_bytes at) (end_line end xs) q p
      (omega arith) (omega arith) (sym (closing_bytes told at) ∙ e ∙ block_bytes zones end xs) in
      absurd (omega (arith, both.1))
  no_block tells zones end at None xs p q e =
      none_of_lines zones 97 (end_line end xs) (e ∙ block_bytes zones end xs)

  -- what closes two texts
  closing_once : FrontTells → (closing ending : Option (List ZoneBounds)) (at at' : ℕ)
      → IfSome closing AreCanonical → IfSome ending AreCanonical
      → closing_text scale closing at ≡ closing_text scale ending at' → closing ≡ ending
  closing_once tells None None at at' p q e = refl
  closing_once tells None (Some zones) at at' p q e =
      absurd (none_of_lines zones 101 (end_bytes at') (e ∙ closing_bytes zones at'))
  closing_once tells (Some zones) None at at' p q e =
      absurd (none_of_lines zones 101 (end_bytes at) (sym e ∙ closing_bytes zones at))
  closing_once tells (Some zones) (Some others) at at' p q e =
      ap Some (tells.lines zones others 101 101 (end_bytes at) (end_bytes at') p q
      (omega arith) (omega arith)
      (sym (closing_bytes zones at) ∙ e ∙ closing_bytes others at')).0

  texts_once : FrontTells → (start : ℕ) (blocks others : List (List ZoneBounds))
      (closing ending : Option (List ZoneBounds)) (trace other : List Segment) (at at' : ℕ)
      → length blocks ≡ length trace → length others ≡ length other
      → AreCanonicalBlocks blocks → AreCanonicalBlocks others
      → IfSome closing AreCanonical → IfSome ending AreCanonical
      → end_of start trace ≤ TIME_MAX → end_of start other ≤ TIME_MAX
      → block_texts scale start blocks trace ++ closing_text scale closing at
      ≡ block_texts scale start others other ++ closing_text scale ending at'
      → IsOneText blocks others closing ending trace other
  texts_once tells start [] [] closing ending [] [] at at' n n' p q r r' small small' e = record {
    blocks_same = refl;
    closing_same = closing_once tells closing ending at at' r r' e;
    lengths_same = refl;
  }
  texts_once tells start [] (zones ∷ others) closing ending [] (segment ∷ other) at at' n n' p q r
      r' small small' e = absurd (no_block tells zones (start + segment.len) at closing
      (block_texts scale (start + segment.len) others other ++ closing_text scale ending at') q.0 r
      (e ∙ append_assoc (block_text scale zones (start + segment.len))
      (block_texts scale (start + segment.len) others other) (closing_text scale ending at')))
  texts_once tells start (zones ∷ blocks) [] closing ending (segment ∷ trace) [] at at' n n' p q r
      r' small small' e = absurd (no_block tells zones (start + segment.len) at' ending
      (block_texts scale (start + segment.len) blocks trace ++ closing_text scale closing at) p.0 r'
      (sym e ∙ append_assoc (block_text scale zones (start + segment.len))
      (block_texts scale (start + segment.len) blocks trace) (closing_text scale closing at)))
  texts_once tells start (zones ∷ blocks) (zones' ∷ others) closing ending (segment ∷ trace)
      (segment' ∷ other) at at' n n' p q r r' small small' e =
      let m = start + segment.len in
      let m' = start + segment'.len in
      let xs = block_texts scale m blocks trace ++ closing_text scale closing at in
      let ys = block_texts scale m' others other ++ closing_text scale ending at' in
      let block = block_once tells zones zones' m m' xs ys p.0 q.0
      (omega (arith, small, end_of-le m trace)) (omega (arith, small', end_of-le m' other))
      (sym (append_assoc (block_text scale zones m) (block_texts scale m blocks trace) (closing_text
      scale closing at)) ∙ e
      ∙ append_assoc (block_text scale zones' m') (block_texts scale m' others other) (closing_text
      scale ending at'))
      in
      let same : m ≡ m' = block.1 in
      let rest = texts_once tells m blocks others closing ending trace other at at'
      (omega (arith, n)) (omega (arith, n')) p.1 q.1 r r' small
      (subst (λ k. end_of k other ≤ TIME_MAX) (sym same) small')
      (subst (λ k. xs ≡ block_texts scale k others other ++ closing_text scale ending at') (sym
      same) block.2) in
      let first : zones ≡ zones' = block.0 in
      let later : blocks ≡ others = rest.blocks_same in
      let length_same : segment.len ≡ segment'.len = omega (arith, same) in
      let lengths : lengths_of trace ≡ lengths_of other = rest.lengths_same in
      record { blocks_same = cc; closing_same = rest.closing_same; lengths_same = cc }
  texts_once tells start [] others closing ending (segment ∷ trace) other at at' n n' p q r r' small
      small' e = absurd (omega (arith, n))
  texts_once tells start (zones ∷ blocks) others closing ending [] other at at' n n' p q r r' small
      small' e = absurd (omega (arith, n))
  texts_once tells start [] [] closing ending [] (segment ∷ other) at at' n n' p q r r' small small'
      e = absurd (omega (arith, n'))
  texts_once tells start [] (zones ∷ others) closing ending [] [] at at' n n' p q r r' small small'
      e = absurd (omega (arith, n'))
  texts_once tells start (zones ∷ blocks) [] closing ending (segment ∷ trace) (other ∷ others) at
      at' n n' p q r r' small small' e = absurd (omega (arith, n'))
  texts_once tells start (zones ∷ blocks) (zones' ∷ others) closing ending (segment ∷ trace) [] at
      at' n n' p q r r' small small' e = absurd (omega (arith, n'))

  pub text_once : FrontTells → (blocks others : List (List ZoneBounds))
      (closing ending : Option (List ZoneBounds)) (trace other : List Segment)
      → AreBlocksOf blocks closing trace → AreBlocksOf others ending other
      → online_text scale blocks closing trace ≡ online_text scale others ending other
      → IsOneText blocks others closing ending trace other
  unfolding online_text
  text_once tells blocks others closing ending trace other are are' same = texts_once tells 0 blocks
      others closing ending trace other (end_of 0 trace) (end_of 0 other) are.count are'.count
      are.canonical are'.canonical are.closed are'.closed are.is_trace.in_time are'.is_trace.in_time
      same
