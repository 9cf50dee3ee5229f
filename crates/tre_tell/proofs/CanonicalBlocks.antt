-- What is told of a pattern over a trace has canonical bounds.
use Rattle.std.proofs.Common.{ℕ, suc, ◌*◌, ◌<◌, ◌≤◌, List, [], ◌∷◌, length, take, drop, get_or, ◌++◌, inl, inr, arith, Some, None, sym, subst}
use Rattle.std.proofs.Math.Nat.{mul-le-mul_right}
use Rattle.std.proofs.lemmas.List.{take-append-drop}
use Rattle.tre_pairs.specs.declared.TheConstants.{TIME_MAX}
use Rattle.tre_syntax.proofs.Growth.{end_of-grows}
use Rattle.tre_trace.specs.Trace.{end_of, IsTrace}
use Rattle.tre_trace.specs.declared.segment.Segment.{Segment}
use Rattle.tre_zone.specs.ZoneList.{SetHolds, AreCanonical, AreTight}
use Rattle.tre_zone.specs.declared.zone_bounds.ZoneBounds.{ZoneBounds}
use Rattle.tre_zone.proofs.TightBounds.{canonical_from_tight}
use Rattle.tre_tell.specs.OnlineText.{AreCanonicalBlocks, AreBlocksOf}
use Rattle.tre_tell.specs.Transcript.{Account, IsTranscript, IsClosing}

-- tight zones whose pairs end in time have canonical bounds
pub tight_in_time : (zones : List ZoneBounds) → AreTight zones
    → ((a b n : ℕ) → 0 < n → a ≤ b → SetHolds zones a b n → b ≤ TIME_MAX * n)
    → AreCanonical zones
unfolding AreTight AreCanonical SetHolds
tight_in_time [] tight ends = tt
tight_in_time (zone ∷ zones) tight ends = (
  canonical_from_tight zone tight.0.0 tight.0.1
      (λ a b n some rising held. record {
        rising = rising;
        ends = ends a b n some rising (inl held);
      }),
  tight_in_time zones tight.1 (λ a b n some rising held. ends a b n some rising (inr held)),
)

-- what ends by a time of the trace ends in time
in_time : (end b n : ℕ) → end ≤ TIME_MAX → b ≤ end * n → b ≤ TIME_MAX * n
in_time end b n small before =
    let more : end * n ≤ TIME_MAX * n = mul-le-mul_right n small in
    omega (arith, before, more)

front_ends : (i : ℕ) (segments : List Segment) → IsTrace segments
    → end_of 0 (take i segments) ≤ TIME_MAX
front_ends i segments is =
    let more = end_of-grows 0 (take i segments) (drop i segments) in
    let whole : end_of 0 (take i segments ++ drop i segments) ≤ TIME_MAX =
    subst (λ list. end_of 0 list ≤ TIME_MAX) (sym (take-append-drop i segments)) is.in_time in
    omega (arith, more, whole)

each_canonical : (blocks : List (List ZoneBounds))
    → ((i : ℕ) → i < length blocks → AreCanonical (get_or blocks i []))
    → AreCanonicalBlocks blocks
each_canonical [] each = tt
each_canonical (zones ∷ blocks) each = (
  each 0 (omega arith),
  each_canonical blocks (λ i less. each (suc i) (omega (arith, less))),
)

pub blocks_canonical : (account : Account) → IsTranscript account → IsTrace account.trace.segments
    → AreCanonicalBlocks account.blocks
blocks_canonical account is trace =
    each_canonical account.blocks (λ i less.
    let told = (is.each i (omega (arith, less, is.count))).told in
    tight_in_time (get_or account.blocks i []) told.tight (λ a b n some rising held.
    in_time (end_of 0 (take (suc i) account.trace.segments)) b n
    (front_ends (suc i) account.trace.segments trace)
    (told.within a b n some rising held).1))

pub closing_canonical : (account : Account) → IsClosing account → IsTrace account.trace.segments
    → AreCanonical account.closing
closing_canonical account is trace =
    tight_in_time account.closing is.told.tight (λ a b n some rising held.
    in_time (end_of 0 account.trace.segments) b n trace.in_time
    (is.told.within a b n some rising held).1)

pub so_far_canonical : (account : Account) → IsTrace account.trace.segments
    → IsTranscript account → AreBlocksOf account.blocks None account.trace.segments
so_far_canonical account trace is = record {
  count = is.count;
  is_trace = trace;
  canonical = blocks_canonical account is trace;
  closed = tt;
}

pub all_canonical : (account : Account) → IsTrace account.trace.segments
    → IsTranscript account → IsClosing account
    → AreBlocksOf account.blocks (Some account.closing) account.trace.segments
all_canonical account trace is closing = record {
  count = is.count;
  is_trace = trace;
  canonical = blocks_canonical account is trace;
  closed = closing_canonical account closing trace;
}
