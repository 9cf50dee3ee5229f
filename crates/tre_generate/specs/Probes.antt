-- The pairs of times at which zones are compared, and how many of them a relation has.
use Rattle.std.specs.Prelude.{◌≡◌, ℕ, zero, suc, ◌+◌, ◌*◌, ◌≤◌, ◌⊎◌, List, take}
use Rattle.tre_pairs.specs.Pairs.{Pairs}
use Rattle.tre_trace.specs.declared.segment.Segment.{Segment}
use Rattle.tre_trace.specs.Trace.{end_of}

-- The probe of a segment: from its begin to one and a half ticks behind its end, in half ticks.
abbrev pub probe_begin : List Segment → ℕ → ℕ
probe_begin segments place = 2 * end_of 0 (take place segments)

abbrev pub probe_end : List Segment → ℕ → ℕ
probe_end segments place = 2 * end_of 0 (take (place + 1) segments) + 3

pub record ProbeIsInside (segments : List Segment) (place : ℕ) : Type 0 where
  pub end : probe_end segments place ≤ 2 * end_of 0 segments

pub record IsProbed (R : Pairs) (segments : List Segment) (place : ℕ) : Type 0 where
  pub inside : ProbeIsInside segments place
  pub related : R (probe_begin segments place) (probe_end segments place) 2

-- One was counted exactly where P holds.
abbrev pub IsCounted : Type 0 → ℕ → ℕ → Type 0
IsCounted P before after = (P × (after ≡ before + 1)) ⊎ ((P → ⊥) × (after ≡ before))

-- P holds of as many as `number` of the places below `limit`.
abbrev pub IsCountOf : (ℕ → Type 0) → ℕ → ℕ → Type 0
IsCountOf P zero number = number ≡ 0
IsCountOf P (suc limit) number =
    (fewer : ℕ) × IsCountOf P limit fewer × IsCounted (P limit) fewer number
