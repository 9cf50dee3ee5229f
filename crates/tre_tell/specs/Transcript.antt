-- What is told of one pattern as its trace comes: a block of zones for each segment, and what the
-- end completes.
use Rattle.std.specs.Prelude.{◌≡◌, ◌≢◌, ℕ, zero, suc, ◌*◌, ◌<◌, ◌≤◌, All, Any, List, [], ◌++◌, length, take, get_or, flat_map}
use Rattle.tre_show.specs.Order.{IsRising}
use Rattle.tre_syntax.specs.Meaning.{Matches}
use Rattle.tre_trace.specs.Trace.{Timeline, quiet, end_of}
use Rattle.tre_zone.specs.Zone.{Includes}
use Rattle.tre_zone.specs.ZoneList.{SetHolds, IsApart, AreTight, HoldExactly}
use Rattle.tre_zone.specs.declared.zone_bounds.ZoneBounds.{ZoneBounds}
use Rattle.tre_tell.specs.Sought.{Sought}

-- What is told of one pattern: the zones of each block, and those that the end completes.
pub record Account : Type 0 where
  pub pattern : Sought
  pub trace : Timeline
  pub blocks : List (List ZoneBounds)
  pub closing : List ZoneBounds

abbrev pub zones_in_blocks : List (List ZoneBounds) → List ZoneBounds
zones_in_blocks blocks = flat_map (λ zones. zones) blocks

-- the zones of the block before this one; before the first there are none
abbrev pub block_before : ℕ → List (List ZoneBounds) → List ZoneBounds
block_before zero blocks = []
block_before (suc i) blocks = get_or blocks i []

-- Zones that are told behind an earlier block, in the order in which they are printed. Their pairs
-- end between `from` and `to`, and none of them is told again of which the earlier block tells all.
pub record AreTold (earlier : List ZoneBounds) (from to : ℕ) (zones : List ZoneBounds) : Type 0
  where
    pub apart : IsApart zones
    pub tight : AreTight zones
    pub rising : IsRising zones
    pub within : (a b n : ℕ) → 0 < n → a ≤ b → SetHolds zones a b n
        → (from * n ≤ b) × (b ≤ to * n)
    pub new : All (λ zone. ¬ Any (λ other. Includes other zone) earlier) zones

-- The block of the segment at place i, counted from 0. With those before it, it tells exactly the
-- matches over the trace up to its segment's end. Its pairs end within the segment.
pub record IsBlock (account : Account) (i : ℕ) : Type 0 where
  pub so_far : HoldExactly (zones_in_blocks (take (suc i) account.blocks))
      (Matches account.pattern.tree (quiet (take (suc i) account.trace.segments)))
  pub told : AreTold (block_before i account.blocks) (end_of 0 (take i account.trace.segments))
      (end_of 0 (take (suc i) account.trace.segments)) (get_or account.blocks i [])

-- One block for each segment. So all together tell exactly the matches over the trace, if it has a
-- segment and no event at its end.
pub record IsTranscript (account : Account) : Type 0 where
  pub count : length account.blocks ≡ length account.trace.segments
  pub each : (i : ℕ) → i < length account.trace.segments → IsBlock account i

-- What the end of the trace completes: nothing, where no event happens there. Else all that is told
-- is exactly the matches over the trace. The pairs end where the trace does.
pub record IsClosing (account : Account) : Type 0 where
  pub none : account.trace.last ≡ 0 → account.closing ≡ []
  pub all : account.trace.last ≢ 0 → HoldExactly (zones_in_blocks account.blocks ++ account.closing)
      (Matches account.pattern.tree account.trace)
  pub told : AreTold (block_before (length account.blocks) account.blocks)
      (end_of 0 account.trace.segments) (end_of 0 account.trace.segments) account.closing
