-- What was told of the columns that a watch was given, and what stands where it stopped.
use Rattle.std.proofs.Common.{◌≡◌, ◌∙◌, ℕ, suc, ◌+◌, ◌<◌, All, List, [], ◌∷◌, ◌++◌, length, map, codes, Option, None, Some, refl, sym, ap, subst, arith, length-append, append-nil}
use Rattle.std.specs.Io.KnownBytes.{Appends}
use Rattle.std.specs.List.{AllByRecursion, AllZip}
use Rattle.std.specs.List.Sorted.{IsPermutation}
use Rattle.std.proofs.KnownBytes.{Appends-trans}
use Rattle.std.proofs.Math.Seq.{take-append-add, get_or-append_seam}
use Rattle.std.proofs.lemmas.List.{length-map, map-id}
use Rattle.std.proofs.lemmas.List.Elements.{All-nil, All-head, All-tail, All-from_recursion, recursion_from_All}
use Rattle.tre_io.specs.Written.{AppendsPart}
use Rattle.tre_online.specs.Watch.{sessions_of, trees_of, ended_of_each, first_at, time_of, StandForEach, Watches, pushed_each, AreRefusedFor, TellEach}
use Rattle.tre_online.specs.declared.session.Session.{Session}
use Rattle.tre_online.specs.declared.watch.Watch.{Watch}
use Rattle.tre_syntax.specs.PatternTree.{PatternTree}
use Rattle.tre_trace.specs.Trace.{Timeline, quiet, end_of}
use Rattle.tre_trace.specs.declared.fault.PushFault.{PushFault}
use Rattle.tre_trace.specs.declared.fault.PushFault.TheVariants.{Zero, TooLate, Memory}
use Rattle.tre_trace.specs.declared.segment.Segment.{Segment}
use Rattle.tre_zone.specs.declared.zone_bounds.ZoneBounds.{ZoneBounds}
use Rattle.tre_tell.specs.Blocks.{AreAccounts, blocks_text}
use Rattle.tre_tell.specs.Outputs.{IsCutBehind}
use Rattle.tre_tell.specs.Printed.{IsPrinted, IsTextOf, lines_behind, time_line}
use Rattle.tre_tell.specs.Sought.{Sought}
use Rattle.tre_tell.specs.Telling.{first_row, AreLevel, count_of, FirstFits, IsLastBlock, HasTold, LastBlockIsCut}
use Rattle.tre_tell.specs.Transcript.{Account, block_before, IsTranscript}
use Rattle.tre_tell.proofs.Accounts.{accounts_more, HaveBlocks, labels_of, blocks_text-more, blocks_text-before}
use Rattle.tre_tell.proofs.Lists.{map-map}
use Rattle.tre_tell.proofs.Transcripts.{IsTranscript-more}

pub Appends-none : (told : Option (List ℕ)) → Appends told told []
Appends-none None = tt
Appends-none (Some bytes) = sym (append-nil bytes)

-- all of a text, and a part of what stands behind it
pub IsCutBehind-after : (a b c : Option (List ℕ)) (xs ys : List ℕ) → Appends a b xs
    → AppendsPart b c ys → IsCutBehind xs (xs ++ ys) a c
IsCutBehind-after a b c xs ys first part = record {
  part = record {
    count = length xs + part.count;
    short = omega (arith, part.short, length-append xs ys);
    appends = rw (take-append-add xs ys part.count) (Appends-trans a b c xs _ first part.appends);
  };
  behind = omega arith;
}

-- a segment that fits is refused for want of memory alone
pub CanTell-refused : (rows : List (List Segment)) (column : List Segment) (fault : PushFault)
    → FirstFits rows column → AreRefusedFor rows column fault → fault ≡ Memory
CanTell-refused [] column fault fits refused = refused.none refl
CanTell-refused (row ∷ rows) [] fault fits refused = absurd refused.each
CanTell-refused (row ∷ rows) (segment ∷ column) Zero fits refused =
    absurd (omega (arith, fits.long, refused.each.0))
CanTell-refused (row ∷ rows) (segment ∷ column) (TooLate end) fits refused =
    absurd (omega (arith, fits.in_time, refused.each.0.1, refused.each.0.2))
CanTell-refused (row ∷ rows) (segment ∷ column) Memory fits refused = refl

-- when the traces of a watch end
pub time_first : (watch : Watch) (rows : List (List Segment)) → Watches watch rows
    → time_of watch ≡ end_of 0 (first_row rows)
time_first watch [] stands = none_at (sessions_of watch) stands.each
  where
    none_at : (sessions : List Session) → StandForEach sessions [] → first_at sessions ≡ 0
    none_at [] each = refl
    none_at (session ∷ sessions) each = absurd each
time_first watch (row ∷ rows) stands = sym stands.together.0

-- rows of so many segments each are level
pub level_of : (n : ℕ) (rows : List (List Segment)) → AllByRecursion (λ row. length row ≡ n) rows
    → AreLevel rows
level_of n [] each = All-nil (λ (row : List Segment). length row ≡ 0)
level_of n (row ∷ rows) each =
    All-from_recursion (λ (other : List Segment). length other ≡ length row) (row ∷ rows)
    (subst (λ k. AllByRecursion (λ (other : List Segment). length other ≡ k) (row ∷ rows))
    (sym each.0) each)

pub lengths_in : (rows : List (List Segment)) → AreLevel rows
    → AllByRecursion (λ row. length row ≡ count_of rows) rows
lengths_in rows level = recursion_from_All (λ (row : List Segment). length row ≡ count_of rows) rows
    level

pub level_pushed : (n : ℕ) (rows : List (List Segment)) (column : List Segment)
    → AllByRecursion (λ row. length row ≡ n) rows
    → AllByRecursion (λ row. length row ≡ suc n) (pushed_each rows column)
level_pushed n [] column each = tt
level_pushed n (row ∷ rows) [] each = tt
level_pushed n (row ∷ rows) (segment ∷ column) each = (
  omega (arith, each.0, length-append row (segment ∷ [])),
  level_pushed n rows column each.1,
)

-- the trees of accounts, and their rows
abbrev pub told_trees : List Account → List PatternTree
told_trees accounts = map (λ account. account.pattern.tree) accounts

abbrev pub told_rows : List Account → List (List Segment)
told_rows accounts = map (λ account. account.trace.segments) accounts

-- What is known of accounts with one block more.
pub record AreMore (accounts : List Account) (column : List Segment)
    (told printed : List (List ZoneBounds)) : Type 0 where
  pub transcripts : AllByRecursion IsTranscript (accounts_more accounts column printed)
  pub ended : AllZip IsLastBlock told (accounts_more accounts column printed)
  pub columns : length column ≡ length accounts
  pub prints : length printed ≡ length accounts
  pub patterns : map (λ account. account.pattern) (accounts_more accounts column printed)
      ≡ map (λ account. account.pattern) accounts
  pub traces : map (λ account. account.trace) (accounts_more accounts column printed)
      ≡ map quiet (pushed_each (told_rows accounts) column)

-- the last of some blocks
last_of : (blocks : List (List ZoneBounds)) (told zones : List ZoneBounds)
    → IsPermutation told zones
    → IsPermutation told (block_before (length (blocks ++ zones ∷ [])) (blocks ++ zones ∷ []))
last_of blocks told zones order =
    let count : length (blocks ++ zones ∷ []) ≡ suc (length blocks) = omega
    (arith, length-append blocks (zones ∷ [])) in
    rw (count, get_or-append_seam blocks zones [] []) order

-- one block more of each pattern
are_more : (accounts : List Account) (column : List Segment)
    (earlier told printed : List (List ZoneBounds))
    → TellEach (told_trees accounts) (told_rows accounts) column earlier told
    → AllZip IsPrinted told printed → AllZip IsLastBlock earlier accounts
    → All IsTranscript accounts → AreMore accounts column told printed
are_more [] [] [] [] [] tells prints ended transcripts = record {
  transcripts = tt;
  ended = tt;
  columns = refl;
  prints = refl;
  patterns = refl;
  traces = refl;
}
are_more (account ∷ accounts) (segment ∷ column) (last ∷ earlier) (zones ∷ told) (lines ∷ printed)
    tells prints ended transcripts =
    let here = All-head IsTranscript account accounts transcripts in
    let rest = are_more accounts column earlier told printed tells.1 prints.1 ended.1
    (All-tail IsTranscript account accounts transcripts) in
    record {
      transcripts = (
        IsTranscript-more account segment last zones lines here tells.0 prints.0 ended.0.same,
        rest.transcripts,
      );
      ended = (
        record { same = last_of account.blocks zones lines prints.0.same },
        rest.ended,
      );
      columns = ap suc rest.columns;
      prints = ap suc rest.prints;
      patterns = ap (λ others. account.pattern ∷ others) rest.patterns;
      traces = ap (λ others. quiet (account.trace.segments ++ segment ∷ []) ∷ others) rest.traces;
    }
are_more [] [] [] [] (lines ∷ printed) tells prints ended transcripts = absurd prints
are_more [] [] [] (zones ∷ told) printed tells prints ended transcripts = absurd tells
are_more [] [] (last ∷ earlier) told printed tells prints ended transcripts = absurd ended
are_more [] (segment ∷ column) earlier told printed tells prints ended transcripts = absurd tells
are_more (account ∷ accounts) [] earlier told printed tells prints ended transcripts =
    absurd tells
are_more (account ∷ accounts) (segment ∷ column) [] told printed tells prints ended transcripts =
    absurd ended
are_more (account ∷ accounts) (segment ∷ column) (last ∷ earlier) [] printed tells prints ended
    transcripts = absurd tells
are_more (account ∷ accounts) (segment ∷ column) (last ∷ earlier) (zones ∷ told) [] tells prints
    ended transcripts = absurd prints

-- each has as many blocks as segments
have_blocks : (n : ℕ) (accounts : List Account) → All IsTranscript accounts
    → AllByRecursion (λ row. length row ≡ n) (told_rows accounts) → HaveBlocks n accounts
have_blocks n [] transcripts each = tt
have_blocks n (account ∷ accounts) transcripts each = (
  (All-head IsTranscript account accounts transcripts).count ∙ each.0,
  have_blocks n accounts (All-tail IsTranscript account accounts transcripts) each.1,
)

module _ (scale : ℕ) where
  -- the text with one block more
  text_more : (accounts : List Account) (rows : List (List Segment)) (column : List Segment)
      (printed : List (List ZoneBounds)) (time : ℕ) → HaveBlocks (count_of rows) accounts
      → length rows ≡ length accounts → length column ≡ length accounts
      → length printed ≡ length accounts → 0 < length column
      → time ≡ end_of 0 (first_row (pushed_each rows column))
      → blocks_text scale (accounts_more accounts column printed)
      (first_row (pushed_each rows column))
      ≡ blocks_text scale accounts (first_row rows)
      ++ (lines_behind scale (labels_of accounts) printed ++ time_line scale (codes "at ") time)
  text_more accounts rows [] printed time have count columns prints some ends =
      absurd (omega (arith, some))
  text_more accounts [] (segment ∷ column) printed time have count columns prints some ends =
      absurd (omega (arith, count, columns))
  text_more accounts (row ∷ rows) (segment ∷ column) printed time have count columns prints some
      ends = rw ends (blocks_text-more scale accounts (segment ∷ column) printed row segment have
      columns prints)

  -- the blocks before it
  text_before : (accounts : List Account) (rows : List (List Segment)) (column : List Segment)
      (printed : List (List ZoneBounds)) → HaveBlocks (count_of rows) accounts
      → length column ≡ length accounts → length printed ≡ length accounts
      → blocks_text scale (accounts_more accounts column printed) (first_row rows)
      ≡ blocks_text scale accounts (first_row rows)
  text_before accounts [] column printed have columns prints =
      blocks_text-before scale accounts column printed [] have columns prints
  text_before accounts (row ∷ rows) column printed have columns prints =
      blocks_text-before scale accounts column printed row have columns prints

-- What is known of a watch that has told its rows, in the words of the accounts.
pub record InAccounts (watch : Watch) (labels : List (List ℕ)) (patterns : List Sought)
    (rows : List (List Segment)) (accounts : List Account) : Type 0 where
  pub trees : trees_of watch ≡ told_trees accounts
  pub labels_are : labels ≡ labels_of accounts
  pub rows_are : rows ≡ told_rows accounts
  pub have : HaveBlocks (count_of rows) accounts

module _ {watch : Watch} {labels : List (List ℕ)} {scale : ℕ} {patterns : List Sought}
    {rows : List (List Segment)} {before now : Option (List ℕ)} where
  pub in_accounts : (so_far : HasTold watch labels scale patterns rows before now)
      → InAccounts watch labels patterns rows so_far.told.accounts
  in_accounts so_far =
      let accounts = so_far.told.accounts in
      let are = so_far.told.are in
      let rows_are : rows ≡ told_rows accounts =
      sym (map-id rows)
      ∙ (sym (map-map quiet (λ (trace : Timeline). trace.segments) rows)
      ∙ (ap (map (λ (trace : Timeline). trace.segments)) (sym are.over_traces)
      ∙ map-map (λ (account : Account). account.trace) (λ trace. trace.segments) accounts)) in
      record {
        trees = so_far.same_trees
            ∙ (ap (map (λ (pattern : Sought). pattern.tree)) (sym are.of_patterns)
            ∙ map-map (λ (account : Account). account.pattern) (λ pattern. pattern.tree) accounts);
        labels_are = so_far.same_labels
            ∙ (ap (map (λ (pattern : Sought). pattern.label)) (sym are.of_patterns)
            ∙ map-map (λ (account : Account). account.pattern) (λ pattern. pattern.label)
            accounts);
        rows_are = rows_are;
        have = have_blocks (count_of rows) accounts are.told
            (subst (λ rs. AllByRecursion (λ (row : List Segment). length row ≡ count_of rows) rs)
            rows_are (lengths_in rows so_far.level));
      }

  -- accounts with the block of one column more
  more_of : (column : List Segment) (sets printed : List (List ZoneBounds))
      → (so_far : HasTold watch labels scale patterns rows before now)
      → TellEach (trees_of watch) rows column (ended_of_each watch) sets
      → AllZip IsPrinted sets printed
      → AreMore so_far.told.accounts column sets printed
  more_of column sets printed so_far tells prints =
      let known = in_accounts so_far in
      let accounts = so_far.told.accounts in
      are_more accounts column (ended_of_each watch) sets printed
      (subst (λ rs. TellEach (told_trees accounts) rs column (ended_of_each watch) sets)
      known.rows_are
      (subst (λ ts. TellEach ts rows column (ended_of_each watch) sets) known.trees tells))
      prints so_far.ended so_far.told.are.told

  -- they are those of the rows with the column
  are_accounts : (column : List Segment) (sets printed : List (List ZoneBounds))
      → (so_far : HasTold watch labels scale patterns rows before now)
      → AreMore so_far.told.accounts column sets printed
      → AreAccounts patterns (map quiet (pushed_each rows column))
      (accounts_more so_far.told.accounts column printed)
  are_accounts column sets printed so_far more =
      let known = in_accounts so_far in
      record {
        of_patterns = more.patterns ∙ so_far.told.are.of_patterns;
        over_traces = more.traces
            ∙ ap (λ rs. map quiet (pushed_each rs column)) (sym known.rows_are);
        told = All-from_recursion IsTranscript _ more.transcripts;
      }

  -- the text with the block of the column
  text_with : (column : List Segment) (sets printed : List (List ZoneBounds)) (time : ℕ)
      → (so_far : HasTold watch labels scale patterns rows before now)
      → AreMore so_far.told.accounts column sets printed → 0 < length column
      → time ≡ end_of 0 (first_row (pushed_each rows column))
      → blocks_text scale (accounts_more so_far.told.accounts column printed)
      (first_row (pushed_each rows column))
      ≡ blocks_text scale so_far.told.accounts (first_row rows)
      ++ (lines_behind scale labels printed ++ time_line scale (codes "at ") time)
  text_with column sets printed time so_far more some ends =
      let known = in_accounts so_far in
      let accounts = so_far.told.accounts in
      let count : length rows ≡ length accounts =
      ap length known.rows_are ∙ length-map accounts (λ account. account.trace.segments) in
      rw known.labels_are (text_more scale accounts rows column printed time known.have count
      more.columns more.prints some ends)

  -- one column more was told
  pub HasTold-more : (then : Watch) (column : List Segment) (sets : List (List ZoneBounds))
      (text : List ℕ) (now' : Option (List ℕ))
      → HasTold watch labels scale patterns rows before now
      → Watches then (pushed_each rows column)
      → trees_of then ≡ trees_of watch → ended_of_each then ≡ sets
      → TellEach (trees_of watch) rows column (ended_of_each watch) sets
      → IsTextOf scale labels sets (time_line scale (codes "at ") (time_of then)) text
      → 0 < length column → Appends now now' text
      → HasTold then labels scale patterns (pushed_each rows column) before now'
  HasTold-more then column sets text now' so_far stands trees ended tells made some written =
      let more = more_of column sets made.printed so_far tells made.are in
      let same = text_with column sets made.printed (time_of then) so_far more some
      (time_first then (pushed_each rows column) stands) in
      record {
        stands = stands;
        level = level_of (suc (count_of rows)) (pushed_each rows column)
            (level_pushed (count_of rows) rows column (lengths_in rows so_far.level));
        same_trees = trees ∙ so_far.same_trees;
        same_labels = so_far.same_labels;
        told = record {
          accounts = accounts_more so_far.told.accounts column made.printed;
          are = are_accounts column sets made.printed so_far more;
          written = rw same (Appends-trans before now now' _ _ so_far.told.written
              (rw made.is_text at written));
        };
        ended = rw ended more.ended;
      }

  -- a write failed within the block of one column more
  pub HasTold-cut : (then : Watch) (column : List Segment) (sets : List (List ZoneBounds))
      (text : List ℕ) (now' : Option (List ℕ))
      → HasTold watch labels scale patterns rows before now
      → Watches then (pushed_each rows column)
      → TellEach (trees_of watch) rows column (ended_of_each watch) sets
      → IsTextOf scale labels sets (time_line scale (codes "at ") (time_of then)) text
      → 0 < length column → AppendsPart now now' text
      → LastBlockIsCut scale patterns rows column before now'
  HasTold-cut then column sets text now' so_far stands tells made some part =
      let more = more_of column sets made.printed so_far tells made.are in
      let known = in_accounts so_far in
      let same = text_with column sets made.printed (time_of then) so_far more some
      (time_first then (pushed_each rows column) stands) in
      record {
        accounts = accounts_more so_far.told.accounts column made.printed;
        are = are_accounts column sets made.printed so_far more;
        cut = rw (
          text_before scale so_far.told.accounts rows column made.printed known.have more.columns
              more.prints,
          same,
        ) (IsCutBehind-after before now now' _ _ so_far.told.written (rw made.is_text at part));
      }
