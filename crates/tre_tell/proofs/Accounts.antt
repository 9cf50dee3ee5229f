-- What was told of each pattern, with one block more, and closed.
use Rattle.std.proofs.Common.{◌≡◌, ℕ, suc, ◌+◌, ◌<◌, ◌≤◌, List, [], ◌∷◌, ◌++◌, length, get_or, flat_map, map, codes, refl, sym, arith, append-nil, append_assoc}
use Rattle.std.proofs.Math.Seq.{get_or-append_seam}
use Rattle.std.proofs.lemmas.List.{get_or_append_left}
use Rattle.tre_decimal.specs.Decimal.{number_text}
use Rattle.tre_trace.specs.Trace.{timeline_of, quiet, end_of}
use Rattle.tre_trace.specs.declared.segment.Segment.{Segment}
use Rattle.tre_zone.specs.declared.zone_bounds.ZoneBounds.{ZoneBounds}
use Rattle.tre_tell.specs.Blocks.{lines_with, block_of, blocks_from, blocks_text, ending_text}
use Rattle.tre_tell.specs.Transcript.{Account}
use Rattle.tre_tell.specs.Printed.{lines_behind, time_line}
use Rattle.tre_tell.proofs.Lists.{end_of-more}

-- One block more, of one segment more.
abbrev pub account_more : Account → Segment → List ZoneBounds → Account
account_more account segment zones = record {
  pattern = account.pattern;
  trace = quiet (account.trace.segments ++ segment ∷ []);
  blocks = account.blocks ++ zones ∷ [];
  closing = account.closing;
}

-- Of each pattern.
abbrev pub accounts_more : List Account → List Segment → List (List ZoneBounds) → List Account
accounts_more (account ∷ accounts) (segment ∷ column) (zones ∷ printed) =
    account_more account segment zones ∷ accounts_more accounts column printed
accounts_more accounts column printed = []

-- The end of the trace, and what it completes.
abbrev pub account_closed : Account → ℕ → List ZoneBounds → Account
account_closed account events zones = record {
  pattern = account.pattern;
  trace = timeline_of account.trace.segments events;
  blocks = account.blocks;
  closing = zones;
}

-- Of each pattern.
abbrev pub accounts_closed : List Account → List ℕ → List (List ZoneBounds) → List Account
accounts_closed (account ∷ accounts) (events ∷ lasts) (zones ∷ printed) =
    account_closed account events zones ∷ accounts_closed accounts lasts printed
accounts_closed accounts lasts printed = []

-- Each has so many blocks.
abbrev pub HaveBlocks : ℕ → List Account → Type 0
HaveBlocks n [] = Unit {0}
HaveBlocks n (account ∷ accounts) = (length account.blocks ≡ n) × HaveBlocks n accounts

-- the label of each
abbrev pub labels_of : List Account → List (List ℕ)
labels_of accounts = map (λ account. account.pattern.label) accounts

regroup : (a b c d : List ℕ) → a ++ b ++ c ++ d ≡ a ++ (b ++ c ++ d)
regroup a b c d = simp append_assoc

module _ (scale : ℕ) where
  -- the lines of the block at a place
  abbrev lines_at : List Account → ℕ → List ℕ
  lines_at accounts i =
      flat_map (λ account. lines_with scale account.pattern.label (get_or account.blocks i []))
      accounts

  -- the blocks before the last stay as they are
  lines_before : (accounts : List Account) (column : List Segment)
      (printed : List (List ZoneBounds)) (n i : ℕ) → i < n → HaveBlocks n accounts
      → length column ≡ length accounts
      → length printed ≡ length accounts
      → lines_at (accounts_more accounts column printed) i ≡ lines_at accounts i
  lines_before [] column printed n i below have columns prints = refl
  lines_before (account ∷ accounts) [] printed n i below have columns prints =
      absurd (omega (arith, columns))
  lines_before (account ∷ accounts) (segment ∷ column) [] n i below have columns prints =
      absurd (omega (arith, prints))
  lines_before (account ∷ accounts) (segment ∷ column) (zones ∷ printed) n i below have columns
      prints =
      let here : get_or (account.blocks ++ zones ∷ []) i [] ≡ get_or account.blocks i [] =
      get_or_append_left account.blocks (zones ∷ []) [] i (omega (arith, below, have.0)) in
      let rest = lines_before accounts column printed n i below have.1 (omega (arith, columns))
      (omega (arith, prints)) in
      rw (here, rest) refl

  -- the last block has the lines that were printed
  lines_last : (accounts : List Account) (column : List Segment) (printed : List (List ZoneBounds))
      (n : ℕ) → HaveBlocks n accounts → length column ≡ length accounts
      → length printed ≡ length accounts
      → lines_at (accounts_more accounts column printed) n
      ≡ lines_behind scale (labels_of accounts) printed
  lines_last [] column printed n have columns prints = refl
  lines_last (account ∷ accounts) [] printed n have columns prints = absurd (omega (arith, columns))
  lines_last (account ∷ accounts) (segment ∷ column) [] n have columns prints =
      absurd (omega (arith, prints))
  lines_last (account ∷ accounts) (segment ∷ column) (zones ∷ printed) n have columns prints =
      let here : get_or (account.blocks ++ zones ∷ []) n [] ≡ zones =
      rw (sym have.0) (get_or-append_seam account.blocks zones [] []) in
      let rest = lines_last accounts column printed n have.1 (omega (arith, columns))
      (omega (arith, prints)) in
      rw (here, rest) refl

  -- accounts with the same lines up to a place have the same texts of blocks up to it
  blocks_from-same : (accounts others : List Account) (n : ℕ)
      → ((i : ℕ) → i < n → lines_at accounts i ≡ lines_at others i)
      → (i start : ℕ) (segments : List Segment) → i + length segments ≤ n
      → blocks_from scale accounts i start segments ≡ blocks_from scale others i start segments
  blocks_from-same accounts others n same i start [] short = refl
  blocks_from-same accounts others n same i start (segment ∷ segments) short =
      let rest = blocks_from-same accounts others n same (suc i) (start + segment.len) segments
      (omega (arith, short)) in
      rw (same i (omega (arith, short)), rest) refl

  -- the text of one block more
  blocks_from-more : (accounts : List Account) (i start : ℕ) (segments : List Segment)
      (segment : Segment) → blocks_from scale accounts i start (segments ++ segment ∷ [])
      ≡ blocks_from scale accounts i start segments
      ++ block_of scale accounts (i + length segments) (end_of start segments + segment.len)
  blocks_from-more accounts i start [] segment =
      let place : i + length {A = Segment} [] ≡ i = omega arith in
      rw place (append-nil (block_of scale accounts i (start + segment.len)))
  blocks_from-more accounts i start (first ∷ rest) segment =
      let place : i + length (first ∷ rest) ≡ suc i + length rest = omega arith in
      rw (place, blocks_from-more accounts (suc i) (start + first.len) rest segment)
      (sym (append_assoc (block_of scale accounts i (start + first.len)) _ _))

  -- the text of the last block
  block_last : (accounts : List Account) (column : List Segment)
      (printed : List (List ZoneBounds)) (n end : ℕ) → HaveBlocks n accounts
      → length column ≡ length accounts → length printed ≡ length accounts
      → block_of scale (accounts_more accounts column printed) n end
      ≡ lines_behind scale (labels_of accounts) printed ++ time_line scale (codes "at ") end
  block_last accounts column printed n end have columns prints =
      rw (lines_last accounts column printed n have columns prints)
      (regroup (lines_behind scale (labels_of accounts) printed) (codes "at ")
      (number_text scale end) (codes "\n"))

  -- the first blocks of what is told with one more
  pub blocks_text-before : (accounts : List Account) (column : List Segment)
      (printed : List (List ZoneBounds)) (segments : List Segment)
      → HaveBlocks (length segments) accounts → length column ≡ length accounts
      → length printed ≡ length accounts
      → blocks_text scale (accounts_more accounts column printed) segments
      ≡ blocks_text scale accounts segments
  unfolding blocks_text
  blocks_text-before accounts column printed segments have columns prints =
      blocks_from-same (accounts_more accounts column printed) accounts (length segments)
      (λ i below. lines_before accounts column printed (length segments) i below have columns
      prints) 0 0 segments (omega arith)

  pub blocks_text-more : (accounts : List Account) (column : List Segment)
      (printed : List (List ZoneBounds)) (segments : List Segment) (segment : Segment)
      → HaveBlocks (length segments) accounts → length column ≡ length accounts
      → length printed ≡ length accounts
      → blocks_text scale (accounts_more accounts column printed) (segments ++ segment ∷ [])
      ≡ blocks_text scale accounts segments ++ (lines_behind scale (labels_of accounts) printed
      ++ time_line scale (codes "at ") (end_of 0 (segments ++ segment ∷ [])))
  unfolding blocks_text
  blocks_text-more accounts column printed segments segment have columns prints =
      let more = accounts_more accounts column printed in
      let end = end_of 0 segments + segment.len in
      let place : 0 + length segments ≡ length segments = omega arith in
      rw (
        end_of-more 0 segments segment,
        blocks_from-more more 0 0 segments segment,
        blocks_text-before accounts column printed segments have columns prints,
        place,
        block_last accounts column printed (length segments) end have columns prints,
      ) refl

  -- closed accounts have the blocks that they had
  lines_closed : (accounts : List Account) (lasts : List ℕ) (printed : List (List ZoneBounds))
      (i : ℕ) → length lasts ≡ length accounts → length printed ≡ length accounts
      → lines_at (accounts_closed accounts lasts printed) i ≡ lines_at accounts i
  lines_closed [] lasts printed i ends prints = refl
  lines_closed (account ∷ accounts) [] printed i ends prints = absurd (omega (arith, ends))
  lines_closed (account ∷ accounts) (last ∷ lasts) [] i ends prints =
      absurd (omega (arith, prints))
  lines_closed (account ∷ accounts) (last ∷ lasts) (zones ∷ printed) i ends prints =
      rw (lines_closed accounts lasts printed i (omega (arith, ends)) (omega (arith, prints))) refl

  pub blocks_text-closed : (accounts : List Account) (lasts : List ℕ)
      (printed : List (List ZoneBounds)) (segments : List Segment)
      → length lasts ≡ length accounts → length printed ≡ length accounts
      → blocks_text scale (accounts_closed accounts lasts printed) segments
      ≡ blocks_text scale accounts segments
  unfolding blocks_text
  blocks_text-closed accounts lasts printed segments ends prints =
      blocks_from-same (accounts_closed accounts lasts printed) accounts (length segments)
      (λ i below. lines_closed accounts lasts printed i ends prints) 0 0 segments (omega arith)

  -- the lines of what the ends complete
  lines_at_end : (accounts : List Account) (lasts : List ℕ) (printed : List (List ZoneBounds))
      → length lasts ≡ length accounts → length printed ≡ length accounts
      → flat_map (λ account. lines_with scale account.pattern.label account.closing)
      (accounts_closed accounts lasts printed)
      ≡ lines_behind scale (labels_of accounts) printed
  lines_at_end [] lasts printed ends prints = refl
  lines_at_end (account ∷ accounts) [] printed ends prints = absurd (omega (arith, ends))
  lines_at_end (account ∷ accounts) (last ∷ lasts) [] ends prints = absurd (omega (arith, prints))
  lines_at_end (account ∷ accounts) (last ∷ lasts) (zones ∷ printed) ends prints =
      rw (lines_at_end accounts lasts printed (omega (arith, ends)) (omega (arith, prints))) refl

  pub ending_text-closed : (accounts : List Account) (lasts : List ℕ)
      (printed : List (List ZoneBounds)) (segments : List Segment)
      → length lasts ≡ length accounts → length printed ≡ length accounts
      → ending_text scale (accounts_closed accounts lasts printed) segments
      ≡ lines_behind scale (labels_of accounts) printed
      ++ time_line scale (codes "end ") (end_of 0 segments)
  unfolding ending_text
  ending_text-closed accounts lasts printed segments ends prints =
      rw (lines_at_end accounts lasts printed ends prints)
      (regroup (lines_behind scale (labels_of accounts) printed) (codes "end ")
      (number_text scale (end_of 0 segments)) (codes "\n"))
