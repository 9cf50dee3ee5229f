-- Zones with canonical bounds are told by lines of three ranges, and these hold the same pairs.
use Rattle.std.proofs.Common.{◌≡◌, ◌∙◌, ◌↔◌, ℕ, zero, suc, ◌+◌, ◌<◌, ◌≤◌, All, List, [], ◌∷◌, ◌++◌, take, get_or, flat_map, map, refl, sym, subst, ap, inl, inr, ⊎_elim}
use Rattle.std.specs.List.{AllByRecursion}
use Rattle.std.specs.Prelude.{codes}
use Rattle.std.proofs.lemmas.List.{map-append, length-map}
use Rattle.std.proofs.lemmas.List.Elements.{recursion_from_All, All-from_recursion}
use Rattle.tre_decimal.specs.Decimal.{number_text}
use Rattle.tre_show.specs.Line.{line_of}
use Rattle.tre_show.specs.Shown.{Shown, LinesHold, shown}
use Rattle.tre_show.proofs.Shown.{shown_holds}
use Rattle.tre_syntax.specs.Meaning.{Matches}
use Rattle.tre_syntax.specs.Rest.{whole}
use Rattle.tre_syntax.proofs.CutMeaning.{IsOrdered-rest}
use Rattle.tre_trace.specs.Trace.{Timeline, IsTrace, quiet, end_of}
use Rattle.tre_trace.specs.declared.segment.Segment.{Segment}
use Rattle.tre_zone.specs.ZoneList.{SetHolds, AreCanonical}
use Rattle.tre_zone.specs.declared.zone_bounds.ZoneBounds.{ZoneBounds}
use Rattle.tre_tell.specs.Blocks.{AreAccounts, lines_with, blocks_from, blocks_text, ending_text}
use Rattle.tre_tell.specs.Lines.{lines_printed, Printed, lines_in_blocks, HoldSoFar, HoldInAll, ArePrinted, printed_block, printed_from, printed_ending, SaysSoFar, SaysAll}
use Rattle.tre_tell.specs.OnlineText.{AreCanonicalBlocks}
use Rattle.tre_tell.specs.Sought.{Sought}
use Rattle.tre_tell.specs.Transcript.{Account, IsTranscript, IsClosing, zones_in_blocks}
use Rattle.tre_tell.proofs.CanonicalBlocks.{blocks_canonical, closing_canonical}
use Rattle.tre_tell.proofs.ForGood.{in_all}

-- ---- the pairs

pub lines_hold : (zones : List ZoneBounds) → AreCanonical zones → (a b n : ℕ) → 0 < n
    → LinesHold (map shown zones) a b n ↔ SetHolds zones a b n
unfolding LinesHold SetHolds AreCanonical
lines_hold [] canonical a b n some = ((λ h. h), (λ h. h))
lines_hold (zone ∷ zones) canonical a b n some =
    let first = shown_holds zone canonical.0 a b n some in
    let rest = lines_hold zones canonical.1 a b n some in (
      (λ h. ⊎_elim (λ x. inl (first.1 x)) (λ x. inr (rest.0 x)) h),
      (λ h. ⊎_elim (λ x. inl (first.0 x)) (λ x. inr (rest.1 x)) h),
    )

pub lines_rise : (lines : List Shown) (a b n : ℕ) → LinesHold lines a b n → a ≤ b
unfolding LinesHold
lines_rise [] a b n h = absurd h
lines_rise (line ∷ lines) a b n h = ⊎_elim (λ x. x.rising) (λ x. lines_rise lines a b n x) h

-- lines that hold what some rising pairs are
pub lines_exact : (zones : List ZoneBounds) (lines : List Shown) (M : ℕ → ℕ → ℕ → Type 0)
    → lines ≡ map shown zones → AreCanonical zones
    → ((a b n : ℕ) → M a b n → a ≤ b)
    → ((a b n : ℕ) → 0 < n → a ≤ b → SetHolds zones a b n ↔ M a b n)
    → (a b n : ℕ) → 0 < n → LinesHold lines a b n ↔ M a b n
lines_exact zones lines M is canonical rise exact a b n some =
    let same = lines_hold zones canonical a b n some in (
      (λ h.
          let held : LinesHold (map shown zones) a b n =
          subst (λ list. LinesHold list a b n) is h in
          (exact a b n some (lines_rise lines a b n h)).0 (same.0 held)),
      (λ h. subst (λ list. LinesHold list a b n) (sym is)
          (same.1 ((exact a b n some (rise a b n h)).1 h))),
    )

-- ---- the text

pub lines_same : (scale : ℕ) (label : List ℕ) (zones : List ZoneBounds)
    → lines_with scale label zones ≡ lines_printed scale label (map shown zones)
lines_same scale label [] = refl
lines_same scale label (zone ∷ zones) =
    ap (λ rest. (label ++ line_of scale zone) ++ rest) (lines_same scale label zones)

shown_at : (blocks : List (List ZoneBounds)) (i : ℕ)
    → get_or (map (map shown) blocks) i [] ≡ map shown (get_or blocks i [])
shown_at [] i = refl
shown_at (zones ∷ blocks) zero = refl
shown_at (zones ∷ blocks) (suc i) = shown_at blocks i

shown_blocks : (i : ℕ) (blocks : List (List ZoneBounds))
    → lines_in_blocks (take i (map (map shown) blocks))
    ≡ map shown (zones_in_blocks (take i blocks))
shown_blocks zero blocks = refl
shown_blocks (suc i) [] = refl
shown_blocks (suc i) (zones ∷ blocks) =
    ap (λ rest. map shown zones ++ rest) (shown_blocks i blocks)
    ∙ sym (map-append shown zones (zones_in_blocks (take i blocks)))

shown_all : (blocks : List (List ZoneBounds))
    → lines_in_blocks (map (map shown) blocks) ≡ map shown (zones_in_blocks blocks)
shown_all [] = refl
shown_all (zones ∷ blocks) =
    ap (λ rest. map shown zones ++ rest) (shown_all blocks)
    ∙ sym (map-append shown zones (zones_in_blocks blocks))

-- what is printed of an account
abbrev printed_of : Account → Printed
printed_of account = record {
  pattern = account.pattern;
  trace = account.trace;
  blocks = map (map shown) account.blocks;
  closing = map shown account.closing;
}

module _ (scale : ℕ) where
  block_lines : (accounts : List Account) (i : ℕ)
      → flat_map (λ account. lines_with scale account.pattern.label (get_or account.blocks i []))
      accounts
      ≡ flat_map
      (λ printed. lines_printed scale printed.pattern.label (get_or printed.blocks i []))
      (map printed_of accounts)
  block_lines [] i = refl
  block_lines (account ∷ accounts) i =
      let label = account.pattern.label in
      let first : lines_with scale label (get_or account.blocks i [])
      ≡ lines_printed scale label (get_or (map (map shown) account.blocks) i []) =
      lines_same scale label (get_or account.blocks i [])
      ∙ ap (λ lines. lines_printed scale label lines) (sym (shown_at account.blocks i)) in
      let rest = block_lines accounts i in
      cc

  closing_lines : (accounts : List Account)
      → flat_map (λ account. lines_with scale account.pattern.label account.closing) accounts
      ≡ flat_map (λ printed. lines_printed scale printed.pattern.label printed.closing)
      (map printed_of accounts)
  closing_lines [] = refl
  closing_lines (account ∷ accounts) =
      let first = lines_same scale account.pattern.label account.closing in
      let rest = closing_lines accounts in
      cc

  texts_same : (accounts : List Account) (i start : ℕ) (segments : List Segment)
      → blocks_from scale accounts i start segments
      ≡ printed_from scale (map printed_of accounts) i start segments
  texts_same accounts i start [] = refl
  texts_same accounts i start (segment ∷ segments) =
      let end = start + segment.len in
      ap (λ lines. (lines ++ codes "at " ++ number_text scale end ++ codes "\n")
      ++ blocks_from scale accounts (suc i) end segments) (block_lines accounts i)
      ∙ ap (λ rest. printed_block scale (map printed_of accounts) i end ++ rest)
      (texts_same accounts (suc i) end segments)

  ending_same : (accounts : List Account) (segments : List Segment)
      → ending_text scale accounts segments
      ≡ printed_ending scale (map printed_of accounts) segments
  unfolding ending_text
  ending_same accounts segments =
      ap (λ lines. lines ++ codes "end " ++ number_text scale (end_of 0 segments) ++ codes "\n")
      (closing_lines accounts)

-- ---- what the lines hold

AreCanonical-both : (left right : List ZoneBounds) → AreCanonical left → AreCanonical right
    → AreCanonical (left ++ right)
unfolding AreCanonical
AreCanonical-both [] right p q = q
AreCanonical-both (zone ∷ left) right p q = (p.0, AreCanonical-both left right p.1 q)

front_canonical : (i : ℕ) (blocks : List (List ZoneBounds)) → AreCanonicalBlocks blocks
    → AreCanonical (zones_in_blocks (take i blocks))
unfolding AreCanonical
front_canonical zero blocks all = tt
front_canonical (suc i) [] all = tt
front_canonical (suc i) (zones ∷ blocks) all =
    AreCanonical-both zones (zones_in_blocks (take i blocks)) all.0 (front_canonical i blocks all.1)

whole_canonical : (blocks : List (List ZoneBounds)) → AreCanonicalBlocks blocks
    → AreCanonical (zones_in_blocks blocks)
unfolding AreCanonical
whole_canonical [] all = tt
whole_canonical (zones ∷ blocks) all =
    AreCanonical-both zones (zones_in_blocks blocks) all.0 (whole_canonical blocks all.1)

so_far_printed : (account : Account) → IsTrace account.trace.segments → IsTranscript account
    → HoldSoFar (printed_of account)
so_far_printed account trace is = record {
  count = length-map account.blocks (map shown) ∙ is.count;
  exact = λ i a b n less some.
      let front = quiet (take (suc i) account.trace.segments) in
      lines_exact (zones_in_blocks (take (suc i) account.blocks))
      (lines_in_blocks (take (suc i) (map (map shown) account.blocks)))
      (Matches account.pattern.tree front) (shown_blocks (suc i) account.blocks)
      (front_canonical (suc i) account.blocks (blocks_canonical account is trace))
      (IsOrdered-rest account.pattern.tree (whole front)).le (is.each i less).so_far.exact a b n
      some;
}

in_all_printed : (account : Account) → IsTrace account.trace.segments → IsTranscript account
    → IsClosing account → HoldInAll (printed_of account)
in_all_printed account trace is closing = record {
  exact = λ long a b n some.
      lines_exact (zones_in_blocks account.blocks ++ account.closing)
      (lines_in_blocks (map (map shown) account.blocks) ++ map shown account.closing)
      (Matches account.pattern.tree account.trace)
      (ap (λ lines. lines ++ map shown account.closing) (shown_all account.blocks)
      ∙ sym (map-append shown (zones_in_blocks account.blocks) account.closing))
      (AreCanonical-both (zones_in_blocks account.blocks) account.closing
      (whole_canonical account.blocks (blocks_canonical account is trace))
      (closing_canonical account closing trace))
      (IsOrdered-rest account.pattern.tree (whole account.trace)).le
      (in_all account long is closing).exact a b n some;
}

each_printed : (P : Printed → Type 0) (Q : Account → Type 0) (accounts : List Account)
    → ((account : Account) → IsTrace account.trace.segments → IsTranscript account → Q account
    → P (printed_of account))
    → AllByRecursion (λ trace. IsTrace trace.segments) (map (λ account. account.trace) accounts)
    → AllByRecursion IsTranscript accounts → AllByRecursion Q accounts
    → AllByRecursion P (map printed_of accounts)
each_printed P Q [] law traces are all = tt
each_printed P Q (account ∷ accounts) law traces are all =
    (law account traces.0 are.0 all.0, each_printed P Q accounts law traces.1 are.1 all.1)

traces_of : (traces : List Timeline) (accounts : List Account)
    → map (λ account. account.trace) accounts ≡ traces
    → All (λ trace. IsTrace trace.segments) traces
    → AllByRecursion (λ trace. IsTrace trace.segments) (map (λ account. account.trace) accounts)
traces_of traces accounts over all =
    subst (λ list. AllByRecursion (λ trace. IsTrace trace.segments) list) (sym over)
    (recursion_from_All (λ trace. IsTrace trace.segments) traces all)

nothing_more : (accounts : List Account) → AllByRecursion (λ account. Unit {0}) accounts
nothing_more [] = tt
nothing_more (account ∷ accounts) = (tt, nothing_more accounts)

of_printed : {X : Type 0} (f : Account → X) (g : Printed → X)
    → ((account : Account) → g (printed_of account) ≡ f account) → (accounts : List Account)
    → map g (map printed_of accounts) ≡ map f accounts
of_printed f g same [] = refl
of_printed f g same (account ∷ accounts) =
    let first = same account in
    let rest = of_printed f g same accounts in
    cc

are_printed : (patterns : List Sought) (traces : List Timeline) (accounts : List Account)
    → AreAccounts patterns traces accounts → All (λ trace. IsTrace trace.segments) traces
    → ArePrinted patterns traces (map printed_of accounts)
are_printed patterns traces accounts are is_trace = record {
  of_patterns =
      of_printed (λ account. account.pattern) (λ printed. printed.pattern) (λ account. refl)
      accounts ∙ are.of_patterns;
  over_traces =
      of_printed (λ account. account.trace) (λ printed. printed.trace) (λ account. refl)
      accounts ∙ are.over_traces;
  so_far = All-from_recursion HoldSoFar (map printed_of accounts)
      (each_printed HoldSoFar (λ account. Unit {0}) accounts
      (λ account trace is none. so_far_printed account trace is)
      (traces_of traces accounts are.over_traces is_trace)
      (recursion_from_All IsTranscript accounts are.told) (nothing_more accounts));
}

pub says_so_far : (scale : ℕ) (patterns : List Sought) (traces : List Timeline)
    (accounts : List Account) (segments : List Segment) → AreAccounts patterns traces accounts
    → All (λ trace. IsTrace trace.segments) traces
    → SaysSoFar scale patterns traces segments (blocks_text scale accounts segments)
unfolding blocks_text
says_so_far scale patterns traces accounts segments are is_trace = record {
  all = map printed_of accounts;
  are = are_printed patterns traces accounts are is_trace;
  text_is = texts_same scale accounts 0 0 segments;
}

pub says_all : (scale : ℕ) (patterns : List Sought) (traces : List Timeline)
    (accounts : List Account) (segments : List Segment) → AreAccounts patterns traces accounts
    → All IsClosing accounts → All (λ trace. IsTrace trace.segments) traces
    → SaysAll scale patterns traces segments
    (blocks_text scale accounts segments ++ ending_text scale accounts segments)
unfolding blocks_text
says_all scale patterns traces accounts segments are closing is_trace = record {
  all = map printed_of accounts;
  are = are_printed patterns traces accounts are is_trace;
  in_all = All-from_recursion HoldInAll (map printed_of accounts)
      (each_printed HoldInAll IsClosing accounts in_all_printed
      (traces_of traces accounts are.over_traces is_trace)
      (recursion_from_All IsTranscript accounts are.told)
      (recursion_from_All IsClosing accounts closing));
  text_is =
      ap (λ text. text ++ ending_text scale accounts segments)
      (texts_same scale accounts 0 0 segments)
      ∙ ap (λ text. printed_from scale (map printed_of accounts) 0 0 segments ++ text)
      (ending_same scale accounts segments);
}
