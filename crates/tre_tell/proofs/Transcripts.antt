-- A transcript with one block more, and what closes one.
use Rattle.std.proofs.Common.{◌≡◌, ◌∙◌, ◌⊎◌, ◌≢◌, ℕ, zero, suc, ◌*◌, ◌<◌, ◌≤◌, List, Contains, [], ◌∷◌, ◌++◌, length, take, get_or, refl, sym, ap, inl, inr, ⊎_elim, arith, length-append, append-nil}
use Rattle.std.specs.List.{Any}
use Rattle.std.specs.List.Sorted.{IsPermutation}
use Rattle.std.proofs.Math.Seq.{get_or-append_seam, take-append_seam}
use Rattle.std.proofs.lemmas.List.{take-append-le, take_all, get_or_append_left}
use Rattle.std.proofs.lemmas.List.Concat.{flat_map-append}
use Rattle.std.proofs.lemmas.List.Elements.{All-contains_itself}
use Rattle.std.proofs.lemmas.List.Sorted.{IsPermutation-sym, length_permutation, Contains-permutation}
use Rattle.tre_online.specs.Told.{WasTold}
use Rattle.tre_online.specs.Session.{TellsNew, TellsLast}
use Rattle.tre_syntax.specs.Meaning.{Matches}
use Rattle.tre_syntax.specs.PatternTree.{PatternTree}
use Rattle.tre_syntax.specs.Rest.{whole}
use Rattle.tre_syntax.proofs.CutMeaning.{IsBounded-rest}
use Rattle.tre_trace.specs.Trace.{timeline_of, quiet, end_of}
use Rattle.tre_trace.specs.declared.segment.Segment.{Segment}
use Rattle.tre_zone.specs.Zone.{Includes}
use Rattle.tre_zone.specs.ZoneList.{SetHolds, HoldExactly}
use Rattle.tre_zone.specs.declared.zone_bounds.ZoneBounds.{ZoneBounds}
use Rattle.tre_zone.proofs.ZoneListLemmas.{SetHolds-append}
use Rattle.tre_tell.specs.Printed.{IsPrinted}
use Rattle.tre_tell.specs.Sought.{Sought}
use Rattle.tre_tell.specs.Transcript.{Account, zones_in_blocks, block_before, AreTold, IsBlock, IsTranscript, IsClosing}
use Rattle.tre_tell.proofs.Accounts.{account_more, account_closed}

zones_of-more : (blocks : List (List ZoneBounds)) (zones : List ZoneBounds)
    → zones_in_blocks (blocks ++ zones ∷ []) ≡ zones_in_blocks blocks ++ zones
zones_of-more blocks zones =
    flat_map-append (λ block. block) blocks (zones ∷ [])
    ∙ ap (λ rest. zones_in_blocks blocks ++ rest) (append-nil zones)

block_before-append : (i : ℕ) (blocks more : List (List ZoneBounds)) → i ≤ length blocks
    → block_before i (blocks ++ more) ≡ block_before i blocks
block_before-append zero blocks more inside = refl
block_before-append (suc i) blocks more inside =
    get_or_append_left blocks more [] i (omega (arith, inside))

-- a block stays as it is where one more comes
IsBlock-more : (account : Account) (segment : Segment) (zones : List ZoneBounds) (i : ℕ)
    → length account.blocks ≡ length account.trace.segments → i < length account.trace.segments
    → IsBlock account i → IsBlock (account_more account segment zones) i
IsBlock-more account segment zones i count below block =
    let blocks_front : take (suc i) (account.blocks ++ zones ∷ []) ≡ take (suc i) account.blocks =
    take-append-le (suc i) account.blocks (zones ∷ []) (omega (arith, count, below)) in
    let front : take (suc i) (account.trace.segments ++ segment ∷ [])
    ≡ take (suc i) account.trace.segments =
    take-append-le (suc i) account.trace.segments (segment ∷ []) (omega (arith, below)) in
    let front_before : take i (account.trace.segments ++ segment ∷ [])
    ≡ take i account.trace.segments =
    take-append-le i account.trace.segments (segment ∷ []) (omega (arith, below)) in
    let here : get_or (account.blocks ++ zones ∷ []) i [] ≡ get_or account.blocks i [] =
    get_or_append_left account.blocks (zones ∷ []) [] i (omega (arith, count, below)) in
    let before : block_before i (account.blocks ++ zones ∷ []) ≡ block_before i account.blocks =
    block_before-append i account.blocks (zones ∷ []) (omega (arith, count, below)) in
    record {
      so_far = rw (blocks_front, front) block.so_far;
      told = rw (before, front_before, front, here) block.told;
    }

-- a transcript tells exactly the matches over its trace, where that has a segment
exact_of : (account : Account) (count : ℕ) → length account.trace.segments ≡ suc count
    → IsTranscript account
    → HoldExactly (zones_in_blocks account.blocks)
    (Matches account.pattern.tree (quiet account.trace.segments))
exact_of account count some transcript =
    let last = transcript.each count (omega (arith, some)) in
    let all : take (suc count) account.blocks ≡ account.blocks =
    take_all (suc count) account.blocks (omega (arith, some, transcript.count)) in
    let trace : take (suc count) account.trace.segments ≡ account.trace.segments =
    take_all (suc count) account.trace.segments (omega (arith, some)) in
    rw (all, trace) at last.so_far

-- with the block of one segment more they are exactly the matches over the trace with it
exact_with : (blocks : List (List ZoneBounds)) (tree : PatternTree) (trace : List Segment)
    (segment : Segment) (earlier told zones : List ZoneBounds) → length blocks ≡ length trace
    → ((count : ℕ) → length trace ≡ suc count
    → HoldExactly (zones_in_blocks blocks) (Matches tree (quiet trace)))
    → TellsNew tree trace segment earlier told → IsPrinted told zones
    → HoldExactly (zones_in_blocks (blocks ++ zones ∷ [])) (Matches tree (quiet (trace ++ segment ∷ [])))
exact_with [] tree [] segment earlier told zones same so_far tells printed = record {
  exact = λ a b n positive rising.
      let first = (tells.first refl).exact a b n positive rising in
      let held = printed.held a b n in
      rw (append-nil zones) ((λ h. first.0 (held.0 h)), (λ h. held.1 (first.1 h)));
}
exact_with (block ∷ blocks) tree [] segment earlier told zones same so_far tells printed =
    absurd (omega (arith, same))
exact_with blocks tree (first ∷ rest) segment earlier told zones same so_far tells printed = record {
  exact = λ a b n positive rising.
      let before = (so_far (length rest) refl).exact a b n positive rising in
      let now = tells.all a b n positive rising in
      let held = printed.held a b n in
      let parts = SetHolds-append (zones_in_blocks blocks) zones a b n in
      rw (zones_of-more blocks zones) (
        (λ h. ⊎_elim (λ x. now.0 (inr (before.0 x))) (λ x. now.0 (inl (held.0 x))) (parts.0 h)),
        (λ h. ⊎_elim (λ x. parts.1 (inr (held.1 x))) (λ x. parts.1 (inl (before.1 x)))
            (now.1 h)),
      );
}

any_in : (P : ZoneBounds → Type 0) (zones others : List ZoneBounds) → IsPermutation zones others
    → Any P zones → Any P others
any_in P zones others order any =
    let place = Contains-permutation zones others any.1 order (any.0, any.2, any.3) in
    (place.0, any.1, place.1, place.2, any.4)

-- what is printed of what was told, where that ends between two times, and no zone of it is in one
-- that was told before
AreTold-printed : (earlier told zones block : List ZoneBounds) (from to : ℕ)
    → ((zone : ZoneBounds) → Contains told zone → WasTold earlier zone → ⊥)
    → ((a b n : ℕ) → 0 < n → a ≤ b → SetHolds told a b n → (from * n ≤ b) × (b ≤ to * n))
    → IsPrinted told zones → IsPermutation earlier block → AreTold block from to zones
AreTold-printed earlier told zones block from to new within printed order = record {
  apart = printed.apart;
  tight = printed.tight;
  rising = printed.rising;
  within = λ a b n positive rising held.
      within a b n positive rising ((printed.held a b n).0 held);
  new = λ k d below any.
      let zone = get_or zones k d in
      new zone
      (Contains-permutation zones told zone (IsPermutation-sym told zones printed.same)
      (All-contains_itself zones k d below))
      (record {
        included = any_in (λ other. Includes other zone) block earlier
            (IsPermutation-sym earlier block order) any;
      });
}

-- the block of the segment behind the trace
IsBlock-last : (account : Account) (segment : Segment) (earlier told zones : List ZoneBounds)
    → IsTranscript account
    → TellsNew account.pattern.tree account.trace.segments segment earlier told
    → IsPrinted told zones
    → IsPermutation earlier (block_before (length account.blocks) account.blocks)
    → IsBlock (account_more account segment zones) (length account.trace.segments)
IsBlock-last account segment earlier told zones transcript tells printed order =
    let blocks = account.blocks in
    let tree = account.pattern.tree in
    let trace = account.trace.segments in
    let all_blocks : take (suc (length trace)) (blocks ++ zones ∷ []) ≡ blocks ++ zones ∷ [] =
    take_all (suc (length trace)) (blocks ++ zones ∷ [])
    (omega (arith, transcript.count, length-append blocks (zones ∷ []))) in
    let all : take (suc (length trace)) (trace ++ segment ∷ []) ≡ trace ++ segment ∷ [] =
    take_all (suc (length trace)) (trace ++ segment ∷ [])
    (omega (arith, length-append trace (segment ∷ []))) in
    let front : take (length trace) (trace ++ segment ∷ []) ≡ trace =
    take-append_seam trace (segment ∷ []) in
    let here : get_or (blocks ++ zones ∷ []) (length trace) [] ≡ zones =
    rw (sym transcript.count) (get_or-append_seam blocks zones [] []) in
    let before : block_before (length trace) (blocks ++ zones ∷ [])
    ≡ block_before (length blocks) blocks =
    rw (sym transcript.count) (block_before-append (length blocks) blocks (zones ∷ [])
    (omega arith)) in
    record {
      so_far = rw (all_blocks, all) (exact_with blocks tree trace segment earlier told zones
          transcript.count (λ count some. exact_of account count some transcript) tells printed);
      told = rw (before, front, all, here) (AreTold-printed earlier told zones _ (end_of 0 trace)
          (end_of 0 (trace ++ segment ∷ [])) tells.new (λ a b n positive rising was_told. (
            tells.late a b n positive rising was_told,
            (IsBounded-rest tree (whole (quiet (trace ++ segment ∷ [])))).end a b n
                ((tells.all a b n positive rising).0 (inl was_told)),
          )) printed order);
    }

last_or_before : (i count : ℕ) → i < suc count → (i < count) ⊎ (i ≡ count)
last_or_before zero zero below = inr refl
last_or_before zero (suc count) below = inl (omega arith)
last_or_before (suc i) zero below = absurd (omega (arith, below))
last_or_before (suc i) (suc count) below =
    ⊎_elim (λ less. inl (omega (arith, less))) (λ same. inr (ap suc same))
    (last_or_before i count (omega (arith, below)))

pub IsTranscript-more : (account : Account) (segment : Segment)
    (earlier told zones : List ZoneBounds) → IsTranscript account
    → TellsNew account.pattern.tree account.trace.segments segment earlier told
    → IsPrinted told zones
    → IsPermutation earlier (block_before (length account.blocks) account.blocks)
    → IsTranscript (account_more account segment zones)
IsTranscript-more account segment earlier told zones transcript tells printed order = record {
  count = omega (
    arith,
    transcript.count,
    length-append account.blocks (zones ∷ []),
    length-append account.trace.segments (segment ∷ []),
  );
  each = λ i below.
      let inside : i < suc (length account.trace.segments) = omega
      (arith, below, length-append account.trace.segments (segment ∷ [])) in
      ⊎_elim
      (λ earlier_one. IsBlock-more account segment zones i transcript.count earlier_one
      (transcript.each i earlier_one))
      (λ last. rw last
      (IsBlock-last account segment earlier told zones transcript tells printed order))
      (last_or_before i (length account.trace.segments) inside);
}

-- no block, of no segment
pub IsTranscript-none : (pattern : Sought)
    → IsTranscript (record { pattern = pattern; trace = quiet []; blocks = []; closing = [] })
IsTranscript-none pattern = record { count = refl; each = λ i below. absurd (omega (arith, below)) }

-- the end of the trace changes no block
pub IsTranscript-closed : (account : Account) (events : ℕ) (zones : List ZoneBounds)
    → IsTranscript account → IsTranscript (account_closed account events zones)
IsTranscript-closed account events zones transcript = record {
  count = transcript.count;
  each = λ i below.
      let block = transcript.each i below in
      record { so_far = block.so_far; told = block.told };
}

-- no zone in another order
none_of : (told zones : List ZoneBounds) → IsPermutation told zones → told ≡ [] → zones ≡ []
none_of told [] same none = refl
none_of told (zone ∷ zones) same none =
    absurd (omega (arith, length_permutation told (zone ∷ zones) same, ap length none))

-- all that was told with the end is exactly the matches over the trace, where events happen there
all_with : (blocks : List (List ZoneBounds)) (tree : PatternTree) (segments : List Segment)
    (events : ℕ) (earlier told zones : List ZoneBounds) → events ≢ 0
    → length blocks ≡ length segments
    → ((count : ℕ) → length segments ≡ suc count
    → HoldExactly (zones_in_blocks blocks) (Matches tree (quiet segments)))
    → TellsLast tree segments events earlier told → IsPrinted told zones
    → HoldExactly (zones_in_blocks blocks ++ zones) (Matches tree (timeline_of segments events))
all_with [] tree [] events earlier told zones happens same so_far tells printed = record {
  exact = λ a b n positive rising.
      let first = (tells.first refl happens).exact a b n positive rising in
      let held = printed.held a b n in
      ((λ h. first.0 (held.0 h)), (λ h. held.1 (first.1 h)));
}
all_with (block ∷ blocks) tree [] events earlier told zones happens same so_far tells printed =
    absurd (omega (arith, same))
all_with blocks tree (first ∷ rest) events earlier told zones happens same so_far tells printed =
    record {
      exact = λ a b n positive rising.
          let before = (so_far (length rest) refl).exact a b n positive rising in
          let now = tells.all a b n positive rising in
          let held = printed.held a b n in
          let parts = SetHolds-append (zones_in_blocks blocks) zones a b n in (
            (λ h. ⊎_elim (λ x. now.0 (inr (before.0 x))) (λ x. now.0 (inl (held.0 x)))
                (parts.0 h)),
            (λ h. ⊎_elim (λ x. parts.1 (inr (held.1 x))) (λ x. parts.1 (inl (before.1 x)))
                (now.1 h)),
          );
    }

-- what the end completes closes the blocks of a trace
pub IsClosing-told : (account : Account) (events : ℕ) (earlier told zones : List ZoneBounds)
    → IsTranscript account
    → TellsLast account.pattern.tree account.trace.segments events earlier told
    → IsPrinted told zones
    → IsPermutation earlier (block_before (length account.blocks) account.blocks)
    → IsClosing (account_closed account events zones)
IsClosing-told account events earlier told zones transcript tells printed order = record {
  none = λ silent. none_of told zones printed.same (tells.none silent);
  all = λ happens. all_with account.blocks account.pattern.tree account.trace.segments events
      earlier told zones happens transcript.count
      (λ count some. exact_of account count some transcript) tells printed;
  told = AreTold-printed earlier told zones _ (end_of 0 account.trace.segments)
      (end_of 0 account.trace.segments) tells.new
      (λ a b n positive rising was_told.
      let there = tells.ends a b n positive rising was_told in
      (omega (arith, there), omega (arith, there))) printed order;
}
