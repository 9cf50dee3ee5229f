-- What the parts of a telling promise each other of what was told. A row is the segments of one
-- pattern, and a column the segments of all patterns at one place.
use Rattle.std.specs.Prelude.{◌≡◌, ◌<◌, ℕ, All, List, [], ◌∷◌, ◌++◌, length, map, Option, Result, Ok, Err, IsPermutation}
use Rattle.std.specs.List.{AllZip}
use Rattle.std.specs.Io.KnownBytes.{Appends}
use Rattle.tre_feed.specs.Standing.{Asks, Wait}
use Rattle.tre_feed.specs.declared.input.Input.{Input}
use Rattle.tre_io.specs.Faults.{count_after}
use Rattle.tre_online.specs.Watch.{trees_of, ended_of_each, Watches, AreAlike, pushed_each}
use Rattle.tre_online.specs.declared.watch.Watch.{Watch}
use Rattle.tre_trace.specs.Reading.{Stretch, Vocabulary, segment_for, segments_for}
use Rattle.tre_trace.specs.Trace.{Timeline, timeline_of, quiet, Fits, IsTrace}
use Rattle.tre_trace.specs.declared.segment.Segment.{Segment}
use Rattle.tre_zone.specs.declared.zone_bounds.ZoneBounds.{ZoneBounds}
use Rattle.tre_tell.specs.Blocks.{AreAccounts, blocks_text, ending_text}
use Rattle.tre_tell.specs.Outputs.{IsCutBehind}
use Rattle.tre_tell.specs.Sought.{Sought, all_names}
use Rattle.tre_tell.specs.Transcript.{Account, IsClosing, block_before}
use Rattle.tre_feed.specs.declared.fault.Fault.{Fault}
use Rattle.tre_feed.specs.declared.fault.Fault.TheVariants.{Write, Memory}

-- the row of stretches for each of these names
abbrev pub rows_for : List Vocabulary → List Stretch → List (List Segment)
rows_for asked stretches = map (λ names. segments_for names stretches) asked

-- the column of one
abbrev pub column_for : List Vocabulary → Stretch → List Segment
column_for asked stretch = map (λ names. segment_for names stretch) asked

-- the first of the rows, which tells how long the segments of all are
abbrev pub first_row : List (List Segment) → List Segment
first_row [] = []
first_row (row ∷ rows) = row

-- how many segments each has, where each has as many
abbrev pub count_of : List (List Segment) → ℕ
count_of rows = length (first_row rows)

-- Each row has as many segments.
abbrev pub AreLevel : List (List Segment) → Type 0
AreLevel rows = All (λ row. length row ≡ count_of rows) rows

-- each row, with these events at its end
abbrev pub timelines : List (List Segment) → List ℕ → List Timeline
timelines (row ∷ rows) (last ∷ lasts) = timeline_of row last ∷ timelines rows lasts
timelines rows lasts = []

-- The first segment of the column can stand behind the first row.
abbrev pub FirstFits : List (List Segment) → List Segment → Type 0
FirstFits (row ∷ rows) (segment ∷ column) = Fits row segment
FirstFits rows column = Unit {0}

-- The watch has read rows, and this column comes next in them.
pub record CanTell (watch : Watch) (column : List Segment) : Type 0 where
  pub rows : List (List Segment)
  pub stands : Watches watch rows
  pub some : 0 < length column
  pub count : length column ≡ length (trees_of watch)
  pub alike : AreAlike column
  pub fits : FirstFits rows column

-- It was told stretches for these names, and more come behind them.
pub record CanTellAll (watch : Watch) (asked : List Vocabulary) (waiting : List Stretch)
    : Type 0 where
  pub told : List Stretch
  pub some : 0 < length asked
  pub stands : Watches watch (rows_for asked told)
  pub is_trace : (names : Vocabulary) → IsTrace (segments_for names (told ++ waiting))

-- What waits of the input can be told to the watch.
pub record CanTellWaiting {R : Type 0} (names : R → Vocabulary) (watch : Watch) (input : Input R)
    : Type 0 where
  pub asked : List Vocabulary
  pub waiting : List Stretch
  pub asks : Asks names input asked
  pub wait : Wait names input waiting
  pub can : CanTellAll watch asked waiting

-- It has read some rows.
pub record HasRows (watch : Watch) : Type 0 where
  pub rows : List (List Segment)
  pub stands : Watches watch rows

-- The blocks of these rows were written, and nothing else.
pub record BlocksWritten (scale : ℕ) (patterns : List Sought) (rows : List (List Segment))
    (before now : Option (List ℕ)) : Type 0 where
  pub accounts : List Account
  pub are : AreAccounts patterns (map quiet rows) accounts
  pub written : Appends before now (blocks_text scale accounts (first_row rows))

-- The zones are those of the last block, in another order.
pub record IsLastBlock (zones : List ZoneBounds) (account : Account) : Type 0 where
  pub same : IsPermutation zones (block_before (length account.blocks) account.blocks)

-- The watch was given these rows, and the block of each column was written, with these labels.
pub record HasTold (watch : Watch) (labels : List (List ℕ)) (scale : ℕ) (patterns : List Sought)
    (rows : List (List Segment)) (before now : Option (List ℕ)) : Type 0 where
  pub stands : Watches watch rows
  pub level : AreLevel rows
  pub same_trees : trees_of watch ≡ map (λ pattern. pattern.tree) patterns
  pub same_labels : labels ≡ map (λ pattern. pattern.label) patterns
  pub told : BlocksWritten scale patterns rows before now
  pub ended : AllZip IsLastBlock (ended_of_each watch) told.accounts

-- The blocks of these rows were written, and a first part of that of the column behind them.
pub record LastBlockIsCut (scale : ℕ) (patterns : List Sought) (rows : List (List Segment))
    (column : List Segment) (before now : Option (List ℕ)) : Type 0 where
  pub accounts : List Account
  pub are : AreAccounts patterns (map quiet (pushed_each rows column)) accounts
  pub cut : IsCutBehind (blocks_text scale accounts (first_row rows))
      (blocks_text scale accounts (first_row (pushed_each rows column))) before now

-- A column was to be told behind rows, and it stopped there: memory was wanting and nothing of its
-- block was written, or a write failed within it.
abbrev pub StopsAtColumn : ℕ → List Sought → List (List Segment) → List Segment →
    Option (List ℕ) → Option (List ℕ) → Fault → Type 0
StopsAtColumn scale patterns rows column before now Write =
    LastBlockIsCut scale patterns rows column before now
StopsAtColumn scale patterns rows column before now Memory =
    BlocksWritten scale patterns rows before now
StopsAtColumn scale patterns rows column before now fault = ⊥

-- Of stretches that wait behind others, which were told, the telling stopped at one.
pub record StopsWithin (scale : ℕ) (patterns : List Sought) (told waiting : List Stretch)
    (before now : Option (List ℕ)) (fault : Fault) : Type 0 where
  pub front : List Stretch
  pub next : Stretch
  pub rest : List Stretch
  pub split : waiting ≡ front ++ next ∷ rest
  pub stops : StopsAtColumn scale patterns (rows_for (all_names patterns) (told ++ front))
      (column_for (all_names patterns) next) before now fault

-- A failed write is one that was counted, and nothing else raises the count.
abbrev pub HasWriteCause : {T : Type 0} → ℕ → ℕ → Result T Fault → Type 0
HasWriteCause before now (Ok value) = now ≡ before
HasWriteCause before now (Err Write) = now ≡ count_after before
HasWriteCause before now (Err fault) = now ≡ before

-- The blocks of traces were written, and what their ends complete, and where they end.
pub record HasClosed (scale : ℕ) (patterns : List Sought) (rows : List (List Segment))
    (traces : List Timeline) (before now : Option (List ℕ)) : Type 0 where
  pub accounts : List Account
  pub are : AreAccounts patterns traces accounts
  pub closed : All IsClosing accounts
  pub written : Appends before now (blocks_text scale accounts (first_row rows)
      ++ ending_text scale accounts (first_row rows))

-- The blocks of traces were written, and a first part of what stands behind them.
pub record ClosingIsCut (scale : ℕ) (patterns : List Sought) (rows : List (List Segment))
    (traces : List Timeline) (before now : Option (List ℕ)) : Type 0 where
  pub accounts : List Account
  pub are : AreAccounts patterns traces accounts
  pub closed : All IsClosing accounts
  pub cut : IsCutBehind (blocks_text scale accounts (first_row rows))
      (blocks_text scale accounts (first_row rows) ++ ending_text scale accounts (first_row rows))
      before now

-- How it ended to tell what the ends of the rows complete, and where they are: where memory was
-- wanting nothing of it was written.
abbrev pub EndsClosing : ℕ → List Sought → List (List Segment) → List ℕ → Option (List ℕ) →
    Option (List ℕ) → Result (Unit {0}) Fault → Type 0
EndsClosing scale patterns rows lasts before now (Ok done) =
    HasClosed scale patterns rows (timelines rows lasts) before now
EndsClosing scale patterns rows lasts before now (Err Write) =
    ClosingIsCut scale patterns rows (timelines rows lasts) before now
EndsClosing scale patterns rows lasts before now (Err Memory) =
    BlocksWritten scale patterns rows before now
EndsClosing scale patterns rows lasts before now (Err fault) = ⊥
