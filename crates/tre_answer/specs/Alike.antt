-- When two requests ask for the same of two inputs, and when two findings say the same.
use Rattle.std.specs.Prelude.{◌≡◌, ℕ, ◌<◌, ◌≤◌, ◌↔◌, true, List, [], ◌∷◌}
use Rattle.tre_tell.specs.Request.{Request, AreReadAs}
use Rattle.tre_trace.specs.Reading.{no_names, segments_for}
use Rattle.tre_trace.specs.Trace.{Timeline, end_of}
use Rattle.tre_zone.specs.ZoneList.{SetHolds}
use Rattle.tre_answer.specs.Findings.{Finding}
use Rattle.tre_answer.specs.Wanted.{IsWanted}

-- Both ask for canonical zones, at one scale, no more of them than so many; the inputs end at one
-- time, and over the traces that the bytes are the same pairs are wanted.
pub record WantTheSame (one other : Request) (bytes others : List ℕ) : Type 0 where
  pub normal : (one.job.normal ≡ true) × (other.job.normal ≡ true)
  pub scale : one.job.scale ≡ other.job.scale
  pub most : one.job.max_zones ≡ other.job.max_zones
  pub end : end_of 0 (segments_for no_names (one.recording true bytes).stretches)
      ≡ end_of 0 (segments_for no_names (other.recording true others).stretches)
  pub wanted : (traces seconds : List Timeline) → AreReadAs one bytes traces
      → AreReadAs other others seconds → (a b n : ℕ) → 0 < n → a ≤ b
      → IsWanted one.patterns traces a b n ↔ IsWanted other.patterns seconds a b n

-- Of each check they have the same name, the same verdict, and the same pairs that are shown.
abbrev pub SayTheSame : List Finding → List Finding → Type 0
SayTheSame [] [] = Unit {0}
SayTheSame (one ∷ findings) (other ∷ others) =
    (one.name ≡ other.name) × (one.verdict ≡ other.verdict)
    × ((a b n : ℕ) → 0 < n → a ≤ b → SetHolds one.zones a b n ↔ SetHolds other.zones a b n)
    × SayTheSame findings others
SayTheSame findings others = ⊥
