-- What the functions inside a watch promise each other.
use Rattle.std.specs.Prelude.{◌≡◌, ◌⊎◌, ℕ, List, [], ◌∷◌, ◌++◌}
use Rattle.std.specs.List.{AllZip}
use Rattle.tre_syntax.specs.Pattern.{pattern_tree}
use Rattle.tre_syntax.specs.declared.pattern.Pattern.{Pattern}
use Rattle.tre_trace.specs.Trace.{Fits, IsRefusedFor}
use Rattle.tre_trace.specs.declared.fault.PushFault.{PushFault}
use Rattle.tre_trace.specs.declared.segment.Segment.{Segment}
use Rattle.tre_online.specs.Session.{pattern_of, ended_of, StandsFor, TellsNew, TellsLast}
use Rattle.tre_online.specs.declared.session.Session.{Session}

-- A session for a copy of the pattern, which has read no segment.
pub record IsNewFor (pattern : Pattern) (session : Session) : Type 0 where
  pub stands : StandsFor session []
  pub tree : pattern_tree (pattern_of session) ≡ pattern_tree pattern

abbrev pub AreNewFor : List Pattern → List Session → Type 0
AreNewFor patterns sessions = AllZip IsNewFor patterns sessions

-- What a segment makes of a session, which keeps what it tells of it.
pub record SessionGoes (old : Session) (segment : Segment) (new : Session) : Type 0 where
  pub stands : (trace : List Segment) → StandsFor old trace
      → StandsFor new (trace ++ segment ∷ [])
  pub fits : (trace : List Segment) → StandsFor old trace → Fits trace segment
  pub tells : (trace : List Segment) → StandsFor old trace
      → TellsNew (pattern_tree (pattern_of old)) trace segment (ended_of old) (ended_of new)
  pub tree : pattern_tree (pattern_of new) ≡ pattern_tree (pattern_of old)

-- What the end, where these events happen, makes of a session, which keeps what it tells there.
pub record SessionCloses (old : Session) (events : ℕ) (new : Session) : Type 0 where
  pub tells : (trace : List Segment) → StandsFor old trace
      → TellsLast (pattern_tree (pattern_of old)) trace events (ended_of old) (ended_of new)
  pub tree : pattern_tree (pattern_of new) ≡ pattern_tree (pattern_of old)

-- Each session becomes a new one by what it is given, as R says.
abbrev pub Become : {X : Type 0} → (Session → X → Session → Type 0) → List Session → List X
    → List Session → Type 0
Become R [] [] [] = Unit {0}
Become R (old ∷ olds) (x ∷ given) (new ∷ news) = R old x new × Become R olds given news
Become R olds given news = ⊥

-- The session refuses the segment for this fault.
pub record IsRefusedBy (session : Session) (segment : Segment) (fault : PushFault) : Type 0 where
  pub refused : (trace : List Segment) → StandsFor session trace
      → IsRefusedFor trace segment fault

-- One of the sessions refuses its segment for this fault.
abbrev pub IsRefusedByOne : List Session → List Segment → PushFault → Type 0
IsRefusedByOne (session ∷ sessions) (segment ∷ segments) fault =
    IsRefusedBy session segment fault ⊎ IsRefusedByOne sessions segments fault
IsRefusedByOne sessions segments fault = ⊥
