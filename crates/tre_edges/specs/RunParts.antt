-- Stretches of runs that begin or end at an edge.
use Rattle.std.specs.Prelude.{◌≡◌, ℕ, ◌*◌, ◌<◌, Bool, false, IsTrue, Option, IfSome}
use Rattle.tre_state.specs.StateTree.{StateTree}
use Rattle.tre_syntax.specs.PatternTree.{literal, rise, fall}
use Rattle.tre_syntax.specs.Rest.{Rest, AtomMatches}
use Rattle.tre_zone.specs.Interval.{IntervalEnds, LastsWithin}
use Rattle.tre_zone.specs.Zone.{IsInSpan}
use Rattle.tre_edges.specs.declared.run_edges.RunEdges.{RunEdges}

-- stretches that begin and end anywhere in their run
abbrev pub anywhere : RunEdges
anywhere = record { rise = false; fall = false }

-- The pair is a stretch on which the state holds throughout. Where it is to begin at a rise, the
-- state becomes true where it begins; where it is to end at a fall, it becomes false where it ends.
pub record IsRunPart (edges : RunEdges) (state : StateTree) (rest : Rest) (a b n : ℕ) : Type 0
  where
    pub held : AtomMatches rest (literal state) a b n
    pub begins : IsTrue edges.rise → AtomMatches rest (rise state) a a n
    pub ends : IsTrue edges.fall → AtomMatches rest (fall state) b b n

-- The duration d/n is in the interval, where there is one.
abbrev pub LastsIn : Option IntervalEnds → ℕ → ℕ → Type 0
LastsIn interval d n = IfSome interval (λ ends. LastsWithin ends d n)

-- The pair is a stretch of a run from `begin` to `end`, with both ends where they are to be.
pub record IsPart (edges : RunEdges) (begin end a b n : ℕ) : Type 0 where
  pub span : IsInSpan begin end a b n
  pub begins : IsTrue edges.rise → a ≡ begin * n
  pub ends : IsTrue edges.fall → b ≡ end * n

-- It is one of a run that was found to have its edges.
pub record IsFoundPart (found : Bool) (edges : RunEdges) (begin end a b n : ℕ) : Type 0 where
  pub is : IsTrue found
  pub part : IsPart edges begin end a b n

-- A run from the place `begin` to `end` has these edges within a trace of so many segments.
pub record HasEdges (edges : RunEdges) (begin end count : ℕ) : Type 0 where
  pub rises : IsTrue edges.rise → 0 < begin
  pub falls : IsTrue edges.fall → end < count
