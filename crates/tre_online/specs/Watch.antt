-- Watches: what one stands for, and what it tells of its segments and of the ends. Each word is
-- that of a session, said of each in turn.
use Rattle.std.specs.Prelude.{◌≡◌, ℕ, List, [], ◌∷◌, ◌++◌, map}
use Rattle.std.specs.List.{AllByRecursion}
use Rattle.tre_syntax.specs.Pattern.{pattern_tree}
use Rattle.tre_syntax.specs.PatternTree.{PatternTree}
use Rattle.tre_trace.specs.Trace.{end_of, Fits, IsRefusedFor}
use Rattle.tre_trace.specs.declared.fault.PushFault.{PushFault}
use Rattle.tre_trace.specs.declared.fault.PushFault.TheVariants.{Memory}
use Rattle.tre_trace.specs.declared.segment.Segment.{Segment}
use Rattle.tre_zone.specs.declared.zone_bounds.ZoneBounds.{ZoneBounds}
use Rattle.tre_online.specs.Session.{pattern_of, at_of, ended_of, StandsFor, TellsNew, TellsLast}
use Rattle.tre_online.specs.declared.session.Session.{Session}
use Rattle.tre_online.specs.declared.watch.Watch.{Watch}

-- The sessions, one for each pattern.
abbrev pub sessions_of : Watch → List Session
sessions_of watch = watch.sessions.items

-- The pattern of each session, as a tree.
abbrev pub trees_of : Watch → List PatternTree
trees_of watch = map (λ session. pattern_tree (pattern_of session)) (sessions_of watch)

-- The zones that each session told last.
abbrev pub ended_of_each : Watch → List (List ZoneBounds)
ended_of_each watch = map (λ session. ended_of session) (sessions_of watch)

-- When the first of the sessions' traces ends so far, in ticks.
abbrev pub first_at : List Session → ℕ
first_at [] = 0
first_at (session ∷ sessions) = at_of session

-- When the traces end so far: 0 where there is none.
abbrev pub time_of : Watch → ℕ
time_of watch = first_at (sessions_of watch)

-- Each session stands for its trace.
abbrev pub StandForEach : List Session → List (List Segment) → Type 0
StandForEach [] [] = Unit {0}
StandForEach (session ∷ sessions) (trace ∷ traces) =
    StandsFor session trace × StandForEach sessions traces
StandForEach sessions traces = ⊥

-- Each trace ends at this time.
abbrev pub EndEach : ℕ → List (List Segment) → Type 0
EndEach time traces = AllByRecursion (λ trace. end_of 0 trace ≡ time) traces

-- The watch has read these traces, one for each pattern. All of them end when it says.
pub record Watches (watch : Watch) (traces : List (List Segment)) : Type 0 where
  pub each : StandForEach (sessions_of watch) traces
  pub together : EndEach (time_of watch) traces

-- The segments are of one length.
pub record AreAlike (segments : List Segment) : Type 0 where
  pub len : ℕ
  pub each : AllByRecursion (λ segment. segment.len ≡ len) segments

-- Each of the traces, with its segment behind it.
abbrev pub pushed_each : List (List Segment) → List Segment → List (List Segment)
pushed_each (trace ∷ traces) (segment ∷ segments) =
    (trace ++ segment ∷ []) ∷ pushed_each traces segments
pushed_each traces segments = []

-- Each segment can stand behind its trace.
abbrev pub FitEach : List (List Segment) → List Segment → Type 0
FitEach [] [] = Unit {0}
FitEach (trace ∷ traces) (segment ∷ segments) = Fits trace segment × FitEach traces segments
FitEach traces segments = ⊥

-- What is told of each segment that comes behind its trace, where `earlier` was told last.
abbrev pub TellEach : List PatternTree → List (List Segment) → List Segment
    → List (List ZoneBounds) → List (List ZoneBounds) → Type 0
TellEach [] [] [] [] [] = Unit {0}
TellEach (tree ∷ trees) (trace ∷ traces) (segment ∷ segments) (last ∷ earlier) (zones ∷ told) =
    TellsNew tree trace segment last zones × TellEach trees traces segments earlier told
TellEach trees traces segments earlier told = ⊥

-- What is told of each trace where it ends with these events, where `earlier` was told last.
abbrev pub TellLastEach : List PatternTree → List (List Segment) → List ℕ
    → List (List ZoneBounds) → List (List ZoneBounds) → Type 0
TellLastEach [] [] [] [] [] = Unit {0}
TellLastEach (tree ∷ trees) (trace ∷ traces) (here ∷ events) (last ∷ earlier) (zones ∷ told) =
    TellsLast tree trace here last zones × TellLastEach trees traces events earlier told
TellLastEach trees traces events earlier told = ⊥

-- Each segment is refused behind its trace for this fault.
abbrev pub RefuseEach : PushFault → List (List Segment) → List Segment → Type 0
RefuseEach fault [] [] = Unit {0}
RefuseEach fault (trace ∷ traces) (segment ∷ segments) =
    IsRefusedFor trace segment fault × RefuseEach fault traces segments
RefuseEach fault traces segments = ⊥

-- Why segments of one length were refused behind traces that end at one time: what is refused
-- behind one of them is refused behind each. Where there is none, memory ran out.
pub record AreRefusedFor (traces : List (List Segment)) (segments : List Segment)
    (fault : PushFault) : Type 0 where
  pub each : RefuseEach fault traces segments
  pub none : traces ≡ [] → fault ≡ Memory
