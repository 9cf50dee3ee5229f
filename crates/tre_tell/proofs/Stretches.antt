-- The rows and the columns of stretches, and the texts of their blocks.
use Rattle.std.proofs.Common.{◌≡◌, ℕ, suc, ◌+◌, ◌<◌, List, [], ◌∷◌, ◌++◌, length, map, refl, sym, ap, arith}
use Rattle.std.specs.List.{AllByRecursion}
use Rattle.std.proofs.lemmas.List.{length-map, map-append}
use Rattle.tre_online.specs.Watch.{pushed_each}
use Rattle.tre_trace.specs.Reading.{Stretch, Vocabulary, no_names, segment_for, segments_for}
use Rattle.tre_trace.specs.Trace.{end_of, quiet}
use Rattle.tre_trace.specs.declared.segment.Segment.{Segment}
use Rattle.tre_tell.specs.Blocks.{block_of, blocks_from, blocks_text, ending_text}
use Rattle.tre_tell.specs.Online.{fronts}
use Rattle.tre_tell.specs.Sought.{Sought, all_names}
use Rattle.tre_tell.specs.Telling.{column_for, first_row, rows_for}
use Rattle.tre_tell.specs.Transcript.{Account}

-- each row has as many segments
pub level_for : (asked : List Vocabulary) (stretches : List Stretch)
    → AllByRecursion (λ row. length row ≡ length stretches) (rows_for asked stretches)
level_for [] stretches = tt
level_for (names ∷ asked) stretches =
    (length-map stretches (segment_for names), level_for asked stretches)

-- one column behind them
pub pushed_for : (asked : List Vocabulary) (stretches : List Stretch) (next : Stretch)
    → pushed_each (rows_for asked stretches) (column_for asked next)
    ≡ rows_for asked (stretches ++ next ∷ [])
pushed_for [] stretches next = refl
pushed_for (names ∷ asked) stretches next =
    rw (pushed_for asked stretches next, map-append (segment_for names) stretches (next ∷ []))
    refl

-- the traces of rows without an end
pub quiet_rows : (patterns : List Sought) (stretches : List Stretch)
    → map quiet (rows_for (all_names patterns) stretches) ≡ fronts patterns stretches
quiet_rows [] stretches = refl
quiet_rows (pattern ∷ patterns) stretches =
    ap (λ rest. quiet (segments_for pattern.names stretches) ∷ rest)
    (quiet_rows patterns stretches)

-- all rows are of the same lengths
abbrev pub lengths_of : List Segment → List ℕ
lengths_of segments = map (λ segment. segment.len) segments

same_lengths : (names : Vocabulary) (stretches : List Stretch)
    → lengths_of (segments_for names stretches) ≡ lengths_of (segments_for no_names stretches)
same_lengths names [] = refl
same_lengths names (stretch ∷ stretches) =
    ap (λ rest. stretch.len ∷ rest) (same_lengths names stretches)

-- texts hang on these alone
blocks_alike : (scale : ℕ) (accounts : List Account) (i start : ℕ) (one other : List Segment)
    → lengths_of one ≡ lengths_of other
    → blocks_from scale accounts i start one ≡ blocks_from scale accounts i start other
blocks_alike scale accounts i start [] [] same = refl
blocks_alike scale accounts i start [] (segment ∷ other) same = cc
blocks_alike scale accounts i start (segment ∷ one) [] same = cc
blocks_alike scale accounts i start (first ∷ one) (second ∷ other) same =
    let here : first.len ≡ second.len = cc same in
    let rest : lengths_of one ≡ lengths_of other = cc same in
    rw here (ap (λ text. block_of scale accounts i (start + second.len) ++ text)
    (blocks_alike scale accounts (suc i) (start + second.len) one other rest))

end_alike : (start : ℕ) (one other : List Segment) → lengths_of one ≡ lengths_of other
    → end_of start one ≡ end_of start other
end_alike start [] [] same = refl
end_alike start [] (segment ∷ other) same = cc
end_alike start (segment ∷ one) [] same = cc
end_alike start (first ∷ one) (second ∷ other) same =
    let here : first.len ≡ second.len = cc same in
    let rest : lengths_of one ≡ lengths_of other = cc same in
    rw here (end_alike (start + second.len) one other rest)

module _ (scale : ℕ) (accounts : List Account) (stretches : List Stretch) where
  pub blocks_for-rows : (asked : List Vocabulary) → 0 < length asked
      → blocks_from scale accounts 0 0 (segments_for no_names stretches)
      ≡ blocks_text scale accounts (first_row (rows_for asked stretches))
  unfolding blocks_text
  blocks_for-rows [] some = absurd (omega (arith, some))
  blocks_for-rows (names ∷ asked) some =
      sym (blocks_alike scale accounts 0 0 _ _ (same_lengths names stretches))

  pub ending_for-rows : (asked : List Vocabulary) → 0 < length asked
      → ending_text scale accounts (segments_for no_names stretches)
      ≡ ending_text scale accounts (first_row (rows_for asked stretches))
  unfolding ending_text
  ending_for-rows [] some = absurd (omega (arith, some))
  ending_for-rows (names ∷ asked) some =
      rw (end_alike 0 _ _ (same_lengths names stretches)) refl
