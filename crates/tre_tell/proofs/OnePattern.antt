-- The text that is told of one pattern without a label.
use Rattle.std.proofs.Common.{◌≡◌, ℕ, zero, suc, ◌+◌, List, [], ◌∷◌, ◌++◌, length, length-drop, drop, get_or, None, Some, refl, sym, ap, ◌∙◌, arith, append-nil}
use Rattle.tre_show.specs.Line.{lines_of, offline_text}
use Rattle.tre_trace.specs.Trace.{end_of}
use Rattle.tre_trace.specs.declared.segment.Segment.{Segment}
use Rattle.tre_zone.specs.declared.zone_bounds.ZoneBounds.{ZoneBounds}
use Rattle.tre_tell.specs.Blocks.{blocks_from, blocks_text, ending_text}
use Rattle.tre_tell.specs.Transcript.{Account}
use Rattle.tre_tell.specs.OnlineText.{block_text, block_texts, online_text}

-- what stands at a place, and behind it, of a list that goes on with that from there
at_front : {X : Type 0} (xs : List X) (i : ℕ) (x : X) (rest : List X) (d : X)
    → drop i xs ≡ x ∷ rest → (get_or xs i d ≡ x) × (drop (suc i) xs ≡ rest)
at_front {X} [] i x rest d goes_on =
    absurd (omega (arith, ap length goes_on, length-drop {A = X} i []))
at_front (first ∷ xs) zero x rest d goes_on = (cc, cc)
at_front (first ∷ xs) (suc i) x rest d goes_on = at_front xs i x rest d goes_on

module _ (scale : ℕ) (account : Account) (none : account.pattern.label ≡ []) where
  -- the texts of the blocks from a place on
  blocks_from-one : (i start : ℕ) (rest : List (List ZoneBounds)) (segments : List Segment)
      → drop i account.blocks ≡ rest → length rest ≡ length segments
      → blocks_from scale (account ∷ []) i start segments ≡ block_texts scale start rest segments
  unfolding lines_of block_text
  blocks_from-one i start [] [] goes_on count = refl
  blocks_from-one i start (zones ∷ rest) (segment ∷ segments) goes_on count =
      let here = at_front account.blocks i zones rest [] goes_on in
      let later = blocks_from-one (suc i) (start + segment.len) rest segments here.1
      (omega (arith, count)) in
      rw (none, here.0, append-nil (lines_of scale zones), later) refl
  blocks_from-one i start [] (segment ∷ segments) goes_on count = absurd (omega (arith, count))
  blocks_from-one i start (zones ∷ rest) [] goes_on count = absurd (omega (arith, count))

  blocks_text-open : (segments : List Segment) → length account.blocks ≡ length segments
      → blocks_text scale (account ∷ []) segments ≡ block_texts scale 0 account.blocks segments
  unfolding blocks_text
  blocks_text-open segments count = blocks_from-one 0 0 account.blocks segments refl count

  ending_text-one : (segments : List Segment)
      → ending_text scale (account ∷ []) segments
      ≡ offline_text scale account.closing (end_of 0 segments)
  unfolding ending_text offline_text lines_of
  ending_text-one segments = rw (none, append-nil (lines_of scale account.closing)) refl

  pub blocks_text-one : (segments : List Segment) → length account.blocks ≡ length segments
      → blocks_text scale (account ∷ []) segments ≡ online_text scale account.blocks None segments
  unfolding online_text
  blocks_text-one segments count = blocks_text-open segments count
      ∙ sym (append-nil (block_texts scale 0 account.blocks segments))

  pub whole_text-one : (segments : List Segment) → length account.blocks ≡ length segments
      → blocks_text scale (account ∷ []) segments ++ ending_text scale (account ∷ []) segments
      ≡ online_text scale account.blocks (Some account.closing) segments
  unfolding online_text
  whole_text-one segments count =
      rw (blocks_text-open segments count, ending_text-one segments) refl
