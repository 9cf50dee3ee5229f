-- What a watch stands for and what it tells, from what each of its sessions does.
use Rattle.std.proofs.Common.{◌≡◌, ℕ, ◌+◌, length, List, [], ◌∷◌, ◌++◌, map, refl, sym, subst, inl, inr, arith, ◌∙◌}
use Rattle.std.specs.List.{AllByRecursion}
use Rattle.tre_syntax.specs.Pattern.{pattern_tree}
use Rattle.tre_syntax.specs.PatternTree.{PatternTree}
use Rattle.tre_syntax.specs.declared.pattern.Pattern.{Pattern}
use Rattle.tre_trace.specs.Trace.{end_of, IsRefusedFor}
use Rattle.tre_trace.specs.declared.fault.PushFault.{PushFault}
use Rattle.tre_trace.specs.declared.fault.PushFault.TheVariants.{Zero, TooLate, Memory}
use Rattle.tre_trace.specs.declared.segment.Segment.{Segment}
use Rattle.tre_trace.proofs.Segments.{end_of-append}
use Rattle.tre_online.specs.Session.{pattern_of, at_of, ended_of}
use Rattle.tre_online.specs.Watch.{first_at, StandForEach, EndEach, pushed_each, FitEach, TellEach, TellLastEach, RefuseEach, AreAlike, AreRefusedFor}
use Rattle.tre_online.specs.Giving.{AreNewFor, SessionGoes, SessionCloses, Become, IsRefusedByOne}
use Rattle.tre_online.specs.declared.session.Session.{Session}

-- The pattern of a session, as a tree.
abbrev tree_in : Session → PatternTree
tree_in session = pattern_tree (pattern_of session)

-- What is so of each session that has read no segment.
pub stand_new : (patterns : List Pattern) (sessions : List Session) → AreNewFor patterns sessions
    → StandForEach sessions (map (λ _. []) patterns)
stand_new [] [] new = tt
stand_new (pattern ∷ patterns) (session ∷ sessions) new =
    (new.0.stands, stand_new patterns sessions new.1)
stand_new patterns sessions new = absurd new

pub ended_new : (patterns : List Pattern) (sessions : List Session) → AreNewFor patterns sessions
    → map (λ session. ended_of session) sessions ≡ map (λ _. []) patterns
ended_new [] [] new = refl
ended_new (pattern ∷ patterns) (session ∷ sessions) new =
    let first = new.0.stands.unstarted refl in
    let rest = ended_new patterns sessions new.1 in
    cc
ended_new patterns sessions new = absurd new

pub trees_new : (patterns : List Pattern) (sessions : List Session) → AreNewFor patterns sessions
    → map (λ session. tree_in session) sessions ≡ map pattern_tree patterns
trees_new [] [] new = refl
trees_new (pattern ∷ patterns) (session ∷ sessions) new =
    let first = new.0.tree in
    let rest = trees_new patterns sessions new.1 in
    cc
trees_new patterns sessions new = absurd new

-- Traces without a segment end at 0.
end_empty : (patterns : List Pattern) → EndEach 0 (map (λ _. []) patterns)
end_empty [] = tt
end_empty (pattern ∷ patterns) = (refl, end_empty patterns)

pub together_new : (patterns : List Pattern) (sessions : List Session)
    → AreNewFor patterns sessions → EndEach (first_at sessions) (map (λ _. []) patterns)
together_new [] [] new = tt
together_new (pattern ∷ patterns) (session ∷ sessions) new =
    subst (λ (time : ℕ). EndEach time (map (λ _. []) (pattern ∷ patterns)))
    (sym new.0.stands.at) (end_empty (pattern ∷ patterns))
together_new patterns sessions new = absurd new

-- Each session then stands for its trace with the segment behind it.
pub stand_next : (olds : List Session) (segments : List Segment) (news : List Session)
    (traces : List (List Segment)) → Become SessionGoes olds segments news → StandForEach olds traces
    → StandForEach news (pushed_each traces segments)
stand_next [] [] [] [] go each = tt
stand_next [] [] [] (trace ∷ traces) go each = absurd each
stand_next (old ∷ olds) (segment ∷ segments) (new ∷ news) [] go each = absurd each
stand_next (old ∷ olds) (segment ∷ segments) (new ∷ news) (trace ∷ traces) go each =
    (go.0.stands trace each.0, stand_next olds segments news traces go.1 each.1)
stand_next olds segments news traces go each = absurd go

pub fit_each : (olds : List Session) (segments : List Segment) (news : List Session)
    (traces : List (List Segment)) → Become SessionGoes olds segments news → StandForEach olds traces
    → FitEach traces segments
fit_each [] [] [] [] go each = tt
fit_each [] [] [] (trace ∷ traces) go each = absurd each
fit_each (old ∷ olds) (segment ∷ segments) (new ∷ news) [] go each = absurd each
fit_each (old ∷ olds) (segment ∷ segments) (new ∷ news) (trace ∷ traces) go each =
    (go.0.fits trace each.0, fit_each olds segments news traces go.1 each.1)
fit_each olds segments news traces go each = absurd go

pub tell_each : (olds : List Session) (segments : List Segment) (news : List Session)
    (traces : List (List Segment)) → Become SessionGoes olds segments news → StandForEach olds traces
    → TellEach (map (λ session. tree_in session) olds) traces segments
    (map (λ session. ended_of session) olds) (map (λ session. ended_of session) news)
tell_each [] [] [] [] go each = tt
tell_each [] [] [] (trace ∷ traces) go each = absurd each
tell_each (old ∷ olds) (segment ∷ segments) (new ∷ news) [] go each = absurd each
tell_each (old ∷ olds) (segment ∷ segments) (new ∷ news) (trace ∷ traces) go each =
    (go.0.tells trace each.0, tell_each olds segments news traces go.1 each.1)
tell_each olds segments news traces go each = absurd go

-- The trees stay where each session's does.
module _ {X : Type 0} (R : Session → X → Session → Type 0)
    (same : (old : Session) (x : X) (new : Session) → R old x new → tree_in new ≡ tree_in old) where
  pub trees_next : (olds : List Session) (given : List X) (news : List Session)
      → Become R olds given news
      → map (λ session. tree_in session) news ≡ map (λ session. tree_in session) olds
  trees_next [] [] [] become = refl
  trees_next (old ∷ olds) (x ∷ given) (new ∷ news) become =
      let first = same old x new become.0 in
      let rest = trees_next olds given news become.1 in
      cc
  trees_next olds given news become = absurd become

-- Traces that end at one time do so with segments of one length behind them.
end_pushed : (time len : ℕ) (traces : List (List Segment)) (segments : List Segment)
    → EndEach time traces → AllByRecursion (λ segment. segment.len ≡ len) segments
    → EndEach (time + len) (pushed_each traces segments)
end_pushed time len (trace ∷ traces) (segment ∷ segments) ends alike = (
  (let end : end_of 0 (trace ++ segment ∷ []) ≡ end_of 0 trace + segment.len =
      end_of-append 0 trace (segment ∷ []) in
      let before = ends.0 in
      let long = alike.0 in
      cc),
  end_pushed time len traces segments ends.1 alike.1,
)
end_pushed time len [] segments ends alike = tt
end_pushed time len (trace ∷ traces) [] ends alike = tt

pub together_next : (olds : List Session) (segments : List Segment) (news : List Session)
    (traces : List (List Segment))
    → Become SessionGoes olds segments news → StandForEach olds traces → AreAlike segments
    → EndEach (first_at olds) traces → EndEach (first_at news) (pushed_each traces segments)
together_next [] [] [] [] go each alike ends = tt
together_next [] [] [] (trace ∷ traces) go each alike ends = absurd each
together_next (old ∷ olds) (segment ∷ segments) (new ∷ news) [] go each alike ends =
    absurd each
together_next (old ∷ olds) (segment ∷ segments) (new ∷ news) (trace ∷ traces) go
    each alike ends =
    let end : end_of 0 (trace ++ segment ∷ []) ≡ end_of 0 trace + segment.len =
    end_of-append 0 trace (segment ∷ []) in
    let stands = (go.0.stands trace each.0).at in
    let before = ends.0 in
    let long = alike.each.0 in
    let is : at_of old + alike.len ≡ at_of new = cc in
    subst (λ (time : ℕ). EndEach time (pushed_each (trace ∷ traces) (segment ∷ segments))) is
    (end_pushed (at_of old) alike.len (trace ∷ traces) (segment ∷ segments) ends alike.each)
together_next olds segments news traces go each alike ends = absurd go

-- A refusal looks at the end of the trace and the length of the segment alone.
carried : (fault : PushFault) (trace other : List Segment) (segment next : Segment)
    → end_of 0 trace ≡ end_of 0 other → segment.len ≡ next.len
    → IsRefusedFor trace segment fault → IsRefusedFor other next fault
carried Zero trace other segment next ends long refused = sym long ∙ refused
carried (TooLate end) trace other segment next ends long refused =
    let at = refused.1 in
    (omega (arith, long, refused.0), cc, refused.2)
carried Memory trace other segment next ends long refused = record {
  long = omega (arith, long, refused.long);
  in_time = omega (arith, ends, long, refused.in_time);
}

module _ (time len : ℕ) (fault : PushFault) where
  -- Why a segment of the length is refused behind a trace that ends at the time.
  abbrev RefusesAll : Type 0
  RefusesAll = (trace : List Segment) (segment : Segment) → end_of 0 trace ≡ time
      → segment.len ≡ len → IsRefusedFor trace segment fault

  refuses_all : (sessions : List Session) (segments : List Segment)
      (traces : List (List Segment)) → IsRefusedByOne sessions segments fault
      → StandForEach sessions traces → EndEach time traces
      → AllByRecursion (λ segment. segment.len ≡ len) segments → RefusesAll
  refuses_all (session ∷ sessions) (segment ∷ segments) (trace ∷ traces) (inl one) each ends alike =
      λ other next end long.
      carried fault trace other segment next (ends.0 ∙ sym end) (alike.0 ∙ sym long)
      (one.refused trace each.0)
  refuses_all (session ∷ sessions) (segment ∷ segments) (trace ∷ traces) (inr later) each ends
      alike =
      refuses_all sessions segments traces later each.1 ends.1 alike.1
  refuses_all (session ∷ sessions) (segment ∷ segments) [] one each ends alike = absurd each
  refuses_all [] segments traces one each ends alike = absurd one
  refuses_all (session ∷ sessions) [] traces one each ends alike = absurd one

  refuse_each : (sessions : List Session) (segments : List Segment)
      (traces : List (List Segment)) → RefusesAll → length segments ≡ length sessions
      → StandForEach sessions traces → EndEach time traces
      → AllByRecursion (λ segment. segment.len ≡ len) segments
      → RefuseEach fault traces segments
  refuse_each [] [] [] all count each ends alike = tt
  refuse_each (session ∷ sessions) (segment ∷ segments) (trace ∷ traces) all count each ends alike = (
    all trace segment ends.0 alike.0,
    refuse_each sessions segments traces all (omega (arith, count)) each.1 ends.1 alike.1,
  )
  refuse_each [] (segment ∷ segments) traces all count each ends alike = absurd (omega (arith, count))
  refuse_each (session ∷ sessions) [] traces all count each ends alike = absurd (omega (arith, count))
  refuse_each [] [] (trace ∷ traces) all count each ends alike = absurd each
  refuse_each (session ∷ sessions) (segment ∷ segments) [] all count each ends alike = absurd each

-- One refuses: so there is one, and each refuses.
none_stands : (sessions : List Session) (segments : List Segment) (traces : List (List Segment))
    (fault : PushFault) → IsRefusedByOne sessions segments fault → StandForEach sessions traces
    → traces ≡ [] → ⊥
none_stands [] segments traces fault one each none = absurd one
none_stands (session ∷ sessions) segments [] fault one each none = absurd each
none_stands (session ∷ sessions) segments (trace ∷ traces) fault one each none = cc

pub refused_each : (sessions : List Session) (segments : List Segment)
    (traces : List (List Segment)) (fault : PushFault) → IsRefusedByOne sessions segments fault
    → length segments ≡ length sessions → AreAlike segments → StandForEach sessions traces
    → EndEach (first_at sessions) traces → AreRefusedFor traces segments fault
refused_each sessions segments traces fault one count alike each ends = record {
  each =
      refuse_each (first_at sessions) alike.len fault sessions segments traces
      (refuses_all (first_at sessions) alike.len fault sessions segments traces one each ends
      alike.each)
      count each ends alike.each;
  none = λ none. absurd (none_stands sessions segments traces fault one each none);
}

pub tell_last_each : (olds : List Session) (events : List ℕ) (news : List Session)
    (traces : List (List Segment)) → Become SessionCloses olds events news
    → StandForEach olds traces
    → TellLastEach (map (λ session. tree_in session) olds) traces events
    (map (λ session. ended_of session) olds) (map (λ session. ended_of session) news)
tell_last_each [] [] [] [] close each = tt
tell_last_each [] [] [] (trace ∷ traces) close each = absurd each
tell_last_each (old ∷ olds) (here ∷ events) (new ∷ news) [] close each = absurd each
tell_last_each (old ∷ olds) (here ∷ events) (new ∷ news) (trace ∷ traces) close each =
    (close.0.tells trace each.0, tell_last_each olds events news traces close.1 each.1)
tell_last_each olds events news traces close each = absurd close
