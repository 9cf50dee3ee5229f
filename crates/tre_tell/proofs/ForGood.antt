-- What was told of a pattern stays true whatever comes, nothing is late, and all of it is what a
-- whole run tells.
use Rattle.std.proofs.Common.{◌≡◌, ◌≢◌, ◌∙◌, ◌⊎◌, ℕ, zero, suc, ◌*◌, ◌<◌, ◌≤◌, None, List, [], ◌∷◌, ◌++◌, length, take, refl, sym, subst, ap, inl, inr, ⊎_elim, arith, append-nil}
use Rattle.std.proofs.lemmas.List.{take_all}
use Rattle.tre_pairs.proofs.Laws.{ImpliesBefore}
use Rattle.tre_syntax.specs.Meaning.{Matches}
use Rattle.tre_syntax.specs.PatternTree.{PatternTree}
use Rattle.tre_syntax.specs.Rest.{AtomMatches, rest_of, prefixed}
use Rattle.tre_syntax.proofs.Atoms.{IsOrdered-Atom, IsInstant-Empty}
use Rattle.tre_syntax.proofs.Growth.{Implies-grown, ImpliesBefore-cut}
use Rattle.tre_syntax.proofs.MeaningLaws.{Implies-Meaning, ImpliesBefore-Meaning, IsOrdered-Meaning}
use Rattle.tre_trace.specs.Trace.{Timeline, timeline_of, end_of, quiet}
use Rattle.tre_trace.specs.declared.segment.Segment.{Segment}
use Rattle.tre_zone.specs.ZoneList.{SetHolds, HoldExactly}
use Rattle.tre_zone.specs.declared.zone_bounds.ZoneBounds.{ZoneBounds}
use Rattle.tre_tell.specs.Transcript.{Account, zones_in_blocks, IsTranscript, IsClosing}

grown : (tree : PatternTree) (u : List Segment) (next : Timeline) (a b n : ℕ)
    → Matches tree (quiet u) a b n → Matches tree (prefixed u next) a b n
grown tree u next =
    (Implies-Meaning (AtomMatches (rest_of 0 None (quiet u)))
    (AtomMatches (rest_of 0 None (prefixed u next))) (Implies-grown 0 None u next) tree).at

cut_off : (tree : PatternTree) (u : List Segment) (next : Timeline)
    → ImpliesBefore (end_of 0 u) (Matches tree (prefixed u next)) (Matches tree (quiet u))
cut_off tree u next =
    let longer = rest_of 0 None (prefixed u next) in
    ImpliesBefore-Meaning (AtomMatches longer) (AtomMatches (rest_of 0 None (quiet u)))
    (end_of 0 u) (IsOrdered-Atom longer) (IsInstant-Empty longer)
    (ImpliesBefore-cut 0 None u next) tree

pub stays_true : (account : Account) (next : Timeline) (i a b n : ℕ) → IsTranscript account
    → i < length account.trace.segments → 0 < n → a ≤ b
    → SetHolds (zones_in_blocks (take (suc i) account.blocks)) a b n
    → Matches account.pattern.tree (prefixed (take (suc i) account.trace.segments) next) a b n
stays_true account next i a b n is less some rising held =
    grown account.pattern.tree (take (suc i) account.trace.segments) next a b n
    (((is.each i less).so_far.exact a b n some rising).0 held)

pub in_time : (account : Account) (next : Timeline) (i a b n : ℕ) → IsTranscript account
    → i < length account.trace.segments → 0 < n
    → b < end_of 0 (take (suc i) account.trace.segments) * n
    → Matches account.pattern.tree (prefixed (take (suc i) account.trace.segments) next) a b n
    → SetHolds (zones_in_blocks (take (suc i) account.blocks)) a b n
in_time account next i a b n is less some before match =
    let u = take (suc i) account.trace.segments in
    let longer = rest_of 0 None (prefixed u next) in
    let rising = (IsOrdered-Meaning (AtomMatches longer) (IsOrdered-Atom longer)
    (IsInstant-Empty longer) account.pattern.tree).le a b n match in
    ((is.each i less).so_far.exact a b n some rising).1
    ((cut_off account.pattern.tree u next).at a b n before match)

-- the blocks of all segments, where there is one at least
so_far : (tree : PatternTree) (blocks : List (List ZoneBounds)) (segments : List Segment)
    → 0 < length segments → length blocks ≡ length segments
    → ((i : ℕ) → i < length segments → HoldExactly (zones_in_blocks (take (suc i) blocks))
    (Matches tree (quiet (take (suc i) segments))))
    → HoldExactly (zones_in_blocks blocks) (Matches tree (quiet segments))
so_far tree blocks [] some count each = absurd (omega (arith, some))
so_far tree blocks (first ∷ rest) some count each =
    let all : take (suc (length rest)) (first ∷ rest) ≡ first ∷ rest =
    take_all (suc (length rest)) (first ∷ rest) (omega arith) in
    let whole : take (suc (length rest)) blocks ≡ blocks =
    take_all (suc (length rest)) blocks (omega (arith, count)) in
    subst (λ list. HoldExactly (zones_in_blocks list) (Matches tree (quiet (first ∷ rest)))) whole
    (subst (λ list. HoldExactly (zones_in_blocks (take (suc (length rest)) blocks))
    (Matches tree (quiet list))) all (each (length rest) (omega arith)))

is_none_or_some : (count : ℕ) → (count ≡ 0) ⊎ (count ≢ 0)
is_none_or_some zero = inl refl
is_none_or_some (suc count) = inr (λ e. omega (arith, e))

pub in_all : (account : Account) → 0 < length account.trace.segments → IsTranscript account
    → IsClosing account
    → HoldExactly (zones_in_blocks account.blocks ++ account.closing)
    (Matches account.pattern.tree account.trace)
in_all account some is closing =
    let tree = account.pattern.tree in
    let segments = account.trace.segments in
    let zones = zones_in_blocks account.blocks in
    let blocks = so_far tree account.blocks segments some is.count
    (λ i less. (is.each i less).so_far) in
    ⊎_elim (λ silent.
    let none : zones ++ account.closing ≡ zones =
    ap (λ list. zones ++ list) (closing.none silent) ∙ append-nil zones in
    subst (λ list. HoldExactly list (Matches tree account.trace)) (sym none)
    (subst (λ last. HoldExactly zones (Matches tree (timeline_of segments last))) (sym silent)
    blocks)) closing.all (is_none_or_some account.trace.last)
