-- What was told of a watch's rows at the start, and where they end.
use Rattle.std.proofs.Common.{◌≡◌, ◌∙◌, ℕ, suc, All, List, [], ◌∷◌, ◌++◌, length, map, codes, Option, refl, sym, ap, subst, arith}
use Rattle.std.specs.Io.KnownBytes.{Appends}
use Rattle.std.specs.List.{AllByRecursion, AllZip}
use Rattle.std.proofs.KnownBytes.{Appends-trans}
use Rattle.std.proofs.lemmas.List.{map-id}
use Rattle.std.proofs.lemmas.List.Elements.{All-nil, All-cons, All-head, All-tail, All-from_recursion}
use Rattle.std.proofs.lemmas.List.Sorted.{IsPermutation-refl}
use Rattle.tre_io.specs.Written.{AppendsPart}
use Rattle.tre_online.specs.Watch.{trees_of, ended_of_each, time_of, Watches, TellLastEach}
use Rattle.tre_online.specs.declared.watch.Watch.{Watch}
use Rattle.tre_syntax.specs.Pattern.{pattern_tree}
use Rattle.tre_syntax.specs.declared.pattern.Pattern.{Pattern}
use Rattle.tre_trace.specs.Reading.{Vocabulary}
use Rattle.tre_trace.specs.Trace.{timeline_of, quiet}
use Rattle.tre_trace.specs.declared.segment.Segment.{Segment}
use Rattle.tre_zone.specs.declared.zone_bounds.ZoneBounds.{ZoneBounds}
use Rattle.tre_tell.specs.Blocks.{AreAccounts, blocks_text, ending_text}
use Rattle.tre_tell.specs.Printed.{IsPrinted, IsTextOf, lines_behind, time_line}
use Rattle.tre_tell.specs.Online.{BlocksStand, fronts}
use Rattle.tre_tell.specs.Outputs.{OutputTold, NothingWritten}
use Rattle.tre_tell.specs.Request.{Request}
use Rattle.tre_tell.specs.Sought.{Sought, all_names, sought_by}
use Rattle.tre_tell.specs.Telling.{first_row, rows_for, timelines, IsLastBlock, HasTold, HasClosed, ClosingIsCut}
use Rattle.tre_tell.specs.Transcript.{Account, IsTranscript, IsClosing}
use Rattle.tre_tell.proofs.Accounts.{accounts_closed, blocks_text-closed, ending_text-closed}
use Rattle.tre_tell.proofs.Lists.{map-map}
use Rattle.tre_tell.proofs.Stretches.{level_for, quiet_rows}
use Rattle.tre_tell.proofs.Told.{Appends-none, IsCutBehind-after, told_trees, told_rows, in_accounts, level_of, time_first}
use Rattle.tre_tell.proofs.Transcripts.{IsTranscript-none, IsTranscript-closed, IsClosing-told}

-- What is known of accounts that are closed.
pub record AreAtEnd (accounts : List Account) (lasts : List ℕ)
    (printed : List (List ZoneBounds)) : Type 0 where
  pub transcripts : AllByRecursion IsTranscript (accounts_closed accounts lasts printed)
  pub closings : AllByRecursion IsClosing (accounts_closed accounts lasts printed)
  pub ends : length lasts ≡ length accounts
  pub prints : length printed ≡ length accounts
  pub patterns : map (λ account. account.pattern) (accounts_closed accounts lasts printed)
      ≡ map (λ account. account.pattern) accounts
  pub traces : map (λ account. account.trace) (accounts_closed accounts lasts printed)
      ≡ timelines (told_rows accounts) lasts

-- the end of each
are_at_end : (accounts : List Account) (lasts : List ℕ)
    (earlier told printed : List (List ZoneBounds))
    → TellLastEach (told_trees accounts) (told_rows accounts) lasts earlier told
    → AllZip IsPrinted told printed → AllZip IsLastBlock earlier accounts
    → All IsTranscript accounts → AreAtEnd accounts lasts printed
are_at_end [] [] [] [] [] tells prints ended transcripts = record {
  transcripts = tt;
  closings = tt;
  ends = refl;
  prints = refl;
  patterns = refl;
  traces = refl;
}
are_at_end (account ∷ accounts) (events ∷ lasts) (last ∷ earlier) (zones ∷ told) (lines ∷ printed)
    tells prints ended transcripts =
    let here = All-head IsTranscript account accounts transcripts in
    let rest = are_at_end accounts lasts earlier told printed tells.1 prints.1 ended.1
    (All-tail IsTranscript account accounts transcripts) in
    record {
      transcripts = (IsTranscript-closed account events lines here, rest.transcripts);
      closings = (
        IsClosing-told account events last zones lines here tells.0 prints.0 ended.0.same,
        rest.closings,
      );
      ends = ap suc rest.ends;
      prints = ap suc rest.prints;
      patterns = ap (λ others. account.pattern ∷ others) rest.patterns;
      traces = ap (λ others. timeline_of account.trace.segments events ∷ others) rest.traces;
    }
are_at_end [] [] [] [] (lines ∷ printed) tells prints ended transcripts = absurd prints
are_at_end [] [] [] (zones ∷ told) printed tells prints ended transcripts = absurd tells
are_at_end [] [] (last ∷ earlier) told printed tells prints ended transcripts = absurd ended
are_at_end [] (events ∷ lasts) earlier told printed tells prints ended transcripts = absurd tells
are_at_end (account ∷ accounts) [] earlier told printed tells prints ended transcripts =
    absurd tells
are_at_end (account ∷ accounts) (events ∷ lasts) [] told printed tells prints ended transcripts =
    absurd ended
are_at_end (account ∷ accounts) (events ∷ lasts) (last ∷ earlier) [] printed tells prints ended
    transcripts = absurd tells
are_at_end (account ∷ accounts) (events ∷ lasts) (last ∷ earlier) (zones ∷ told) [] tells prints
    ended transcripts = absurd prints

module _ {watch : Watch} {labels : List (List ℕ)} {scale : ℕ} {patterns : List Sought}
    {rows : List (List Segment)} {before now : Option (List ℕ)} where
  -- accounts with the ends of their traces
  ends_of : (lasts : List ℕ) (sets printed : List (List ZoneBounds))
      → (so_far : HasTold watch labels scale patterns rows before now)
      → TellLastEach (trees_of watch) rows lasts (ended_of_each watch) sets
      → AllZip IsPrinted sets printed → AreAtEnd so_far.told.accounts lasts printed
  ends_of lasts sets printed so_far tells prints =
      let known = in_accounts so_far in
      let accounts = so_far.told.accounts in
      are_at_end accounts lasts (ended_of_each watch) sets printed
      (subst (λ rs. TellLastEach (told_trees accounts) rs lasts (ended_of_each watch) sets)
      known.rows_are
      (subst (λ ts. TellLastEach ts rows lasts (ended_of_each watch) sets) known.trees tells))
      prints so_far.ended so_far.told.are.told

  are_closed : (lasts : List ℕ) (printed : List (List ZoneBounds))
      → (so_far : HasTold watch labels scale patterns rows before now)
      → AreAtEnd so_far.told.accounts lasts printed
      → AreAccounts patterns (timelines rows lasts)
      (accounts_closed so_far.told.accounts lasts printed)
  are_closed lasts printed so_far at_end =
      let known = in_accounts so_far in
      record {
        of_patterns = at_end.patterns ∙ so_far.told.are.of_patterns;
        over_traces = at_end.traces ∙ ap (λ rs. timelines rs lasts) (sym known.rows_are);
        told = All-from_recursion IsTranscript _ at_end.transcripts;
      }

  -- the text of the blocks and of what closes them
  closed_text : (lasts : List ℕ) (printed : List (List ZoneBounds))
      → (so_far : HasTold watch labels scale patterns rows before now)
      → AreAtEnd so_far.told.accounts lasts printed
      → blocks_text scale (accounts_closed so_far.told.accounts lasts printed) (first_row rows)
      ++ ending_text scale (accounts_closed so_far.told.accounts lasts printed) (first_row rows)
      ≡ blocks_text scale so_far.told.accounts (first_row rows)
      ++ (lines_behind scale labels printed ++ time_line scale (codes "end ") (time_of watch))
  closed_text lasts printed so_far at_end =
      let known = in_accounts so_far in
      let accounts = so_far.told.accounts in
      rw (
        blocks_text-closed scale accounts lasts printed (first_row rows) at_end.ends
            at_end.prints,
        ending_text-closed scale accounts lasts printed (first_row rows) at_end.ends
            at_end.prints,
        known.labels_are,
        time_first watch rows so_far.stands,
      ) refl

  -- the end was told
  pub HasClosed-told : (lasts : List ℕ) (sets : List (List ZoneBounds)) (text : List ℕ)
      (now' : Option (List ℕ)) → HasTold watch labels scale patterns rows before now
      → TellLastEach (trees_of watch) rows lasts (ended_of_each watch) sets
      → IsTextOf scale labels sets (time_line scale (codes "end ") (time_of watch)) text
      → Appends now now' text
      → HasClosed scale patterns rows (timelines rows lasts) before now'
  HasClosed-told lasts sets text now' so_far tells made written =
      let at_end = ends_of lasts sets made.printed so_far tells made.are in
      record {
        accounts = accounts_closed so_far.told.accounts lasts made.printed;
        are = are_closed lasts made.printed so_far at_end;
        closed = All-from_recursion IsClosing _ at_end.closings;
        written = rw (closed_text lasts made.printed so_far at_end)
            (Appends-trans before now now' _ _ so_far.told.written (rw made.is_text at written));
      }

  -- a write failed within it
  pub ClosingIsCut-told : (lasts : List ℕ) (sets : List (List ZoneBounds)) (text : List ℕ)
      (now' : Option (List ℕ)) → HasTold watch labels scale patterns rows before now
      → TellLastEach (trees_of watch) rows lasts (ended_of_each watch) sets
      → IsTextOf scale labels sets (time_line scale (codes "end ") (time_of watch)) text
      → AppendsPart now now' text
      → ClosingIsCut scale patterns rows (timelines rows lasts) before now'
  ClosingIsCut-told lasts sets text now' so_far tells made part =
      let at_end = ends_of lasts sets made.printed so_far tells made.are in
      let accounts = so_far.told.accounts in
      record {
        accounts = accounts_closed accounts lasts made.printed;
        are = are_closed lasts made.printed so_far at_end;
        closed = All-from_recursion IsClosing _ at_end.closings;
        cut = rw (
          closed_text lasts made.printed so_far at_end,
          blocks_text-closed scale accounts lasts made.printed (first_row rows) at_end.ends
              at_end.prints,
        ) (IsCutBehind-after before now now' _ _ so_far.told.written (rw made.is_text at part));
      }

-- nothing was told of a pattern
abbrev start_account : Sought → Account
start_account pattern = record { pattern = pattern; trace = quiet []; blocks = []; closing = [] }

start_trees : (labels : List (List ℕ)) (patterns : List Pattern)
    → length labels ≡ length patterns
    → map pattern_tree patterns ≡ map (λ pattern. pattern.tree) (sought_by labels patterns)
start_trees [] [] same = refl
start_trees [] (pattern ∷ patterns) same = absurd (omega (arith, same))
start_trees (label ∷ labels) [] same = absurd (omega (arith, same))
start_trees (label ∷ labels) (pattern ∷ patterns) same =
    ap (λ trees. pattern_tree pattern ∷ trees) (start_trees labels patterns (omega (arith, same)))

start_labels : (labels : List (List ℕ)) (patterns : List Pattern)
    → length labels ≡ length patterns
    → labels ≡ map (λ pattern. pattern.label) (sought_by labels patterns)
start_labels [] [] same = refl
start_labels [] (pattern ∷ patterns) same = absurd (omega (arith, same))
start_labels (label ∷ labels) [] same = absurd (omega (arith, same))
start_labels (label ∷ labels) (pattern ∷ patterns) same =
    ap (λ rest. label ∷ rest) (start_labels labels patterns (omega (arith, same)))

start_traces : (patterns : List Sought)
    → map (λ account. account.trace) (map start_account patterns) ≡ fronts patterns []
start_traces [] = refl
start_traces (pattern ∷ patterns) = ap (λ rest. quiet [] ∷ rest) (start_traces patterns)

start_ended : (labels : List (List ℕ)) (patterns : List Pattern)
    → length labels ≡ length patterns
    → AllZip IsLastBlock (map (λ _. []) patterns) (map start_account (sought_by labels patterns))
start_ended [] [] same = tt
start_ended [] (pattern ∷ patterns) same = absurd (omega (arith, same))
start_ended (label ∷ labels) [] same = absurd (omega (arith, same))
start_ended (label ∷ labels) (pattern ∷ patterns) same = (
  record { same = IsPermutation-refl [] },
  start_ended labels patterns (omega (arith, same)),
)

start_told : (patterns : List Sought) → All IsTranscript (map start_account patterns)
start_told [] = All-nil IsTranscript
start_told (pattern ∷ patterns) = All-cons IsTranscript (start_account pattern)
    (map start_account patterns) (IsTranscript-none pattern) (start_told patterns)

first_none : (asked : List Vocabulary) → first_row (rows_for asked []) ≡ []
first_none [] = refl
first_none (names ∷ asked) = refl

start_text : (scale : ℕ) (accounts : List Account) → blocks_text scale accounts [] ≡ []
unfolding blocks_text
start_text scale accounts = refl

-- nothing was written of patterns of which nothing was read
start_accounts : (patterns : List Sought)
    → AreAccounts patterns (fronts patterns []) (map start_account patterns)
start_accounts patterns = record {
  of_patterns = map-map start_account (λ account. account.pattern) patterns ∙ map-id patterns;
  over_traces = start_traces patterns;
  told = start_told patterns;
}

pub BlocksStand-none : (request : Request) (output : OutputTold) → NothingWritten output
    → BlocksStand request output []
BlocksStand-none request output none = record {
  accounts = map start_account request.patterns;
  are = start_accounts request.patterns;
  stand = record {
    writes = none.writes;
    written = rw none.unwritten (Appends-none output.before.written);
  };
}

-- no row of a pattern
rows_none : (labels : List (List ℕ)) (patterns : List Pattern) → length labels ≡ length patterns
    → map (λ _. []) patterns ≡ rows_for (all_names (sought_by labels patterns)) []
rows_none [] [] same = refl
rows_none [] (pattern ∷ patterns) same = absurd (omega (arith, same))
rows_none (label ∷ labels) [] same = absurd (omega (arith, same))
rows_none (label ∷ labels) (pattern ∷ patterns) same =
    ap (λ rest. [] ∷ rest) (rows_none labels patterns (omega (arith, same)))

-- a new watch has told nothing
pub HasTold-start : (watch : Watch) (labels : List (List ℕ)) (scale : ℕ)
    (patterns : List Pattern) (told : Option (List ℕ)) → length labels ≡ length patterns
    → Watches watch (map (λ _. []) patterns)
    → ended_of_each watch ≡ map (λ _. []) patterns
    → trees_of watch ≡ map pattern_tree patterns
    → HasTold watch labels scale (sought_by labels patterns)
    (rows_for (all_names (sought_by labels patterns)) []) told told
HasTold-start watch labels scale patterns told same stands ended trees =
    let sought = sought_by labels patterns in
    let asked = all_names sought in
    record {
      stands = rw (rows_none labels patterns same) at stands;
      level = level_of 0 (rows_for asked []) (level_for asked []);
      same_trees = trees ∙ start_trees labels patterns same;
      same_labels = start_labels labels patterns same;
      told = record {
        accounts = map start_account sought;
        are = rw (quiet_rows sought []) (start_accounts sought);
        written = rw (first_none asked, start_text scale (map start_account sought))
            (Appends-none told);
      };
      ended = rw ended (start_ended labels patterns same);
    }
