-- What becomes of a check: its verdict, and the pairs that are shown with it. It speaks of the
-- pairs of a subject. A check of two patterns has answers to them, and what may still come to be
-- one.
use Rattle.std.specs.Prelude.{ℕ, ◌<◌, ◌≤◌}
use Rattle.tre_pairs.specs.Except.{Except}
use Rattle.tre_pairs.specs.Pairs.{Pairs}
use Rattle.tre_pairs.specs.Leads.{LeadsOn}
use Rattle.tre_syntax.specs.Begun.{MayMatch}
use Rattle.tre_syntax.specs.Meaning.{Matches}
use Rattle.tre_syntax.specs.PatternTree.{PatternTree}
use Rattle.tre_trace.specs.Trace.{Timeline}
use Rattle.tre_watch.specs.declared.form.Form.{Form}
use Rattle.tre_watch.specs.declared.form.Form.TheVariants.{Plain, Never, Found, Same, Follows}
use Rattle.tre_judge.specs.declared.verdict.Verdict.{Verdict}
use Rattle.tre_judge.specs.declared.verdict.Verdict.TheVariants.{Unjudged, Passed, Failed, Waiting, Vacuous}

-- ---- of pairs

abbrev pub Nothing : Pairs
Nothing a b n = ⊥

-- Some pair of times is in the relation.
pub record HasPair (R : Pairs) : Type 0 where
  pub a : ℕ
  pub b : ℕ
  pub n : ℕ
  pub positive : 0 < n
  pub rising : a ≤ b
  pub there : R a b n

-- The pairs of the subject that R doesn't answer: they aren't in R, or none of R begins where they
-- end. Where a check has one pattern, none waits for an answer.
abbrev pub Unanswered : Form → Pairs → Pairs → Pairs
Unanswered Same subject R = Except subject R
Unanswered Follows subject R = Except subject (LeadsOn R)
Unanswered form subject R = Nothing

-- The pairs of the subject that fail: nothing may come to answer them, or there may be none.
abbrev pub Fails : Form → Pairs → Pairs → Pairs
Fails Never subject may = subject
Fails form subject may = Unanswered form subject may

-- This is the verdict where these pairs fail, and these are unanswered. Each implies that none of
-- those before it is.
abbrev pub IsFirst : Verdict → Pairs → Pairs → Pairs → Type 0
IsFirst Failed subject failing unanswered = HasPair failing
IsFirst Vacuous subject failing unanswered = ¬ HasPair subject
IsFirst Waiting subject failing unanswered = ¬ HasPair failing × HasPair unanswered
IsFirst Passed subject failing unanswered = ¬ HasPair unanswered × HasPair subject
IsFirst Unjudged subject failing unanswered = ⊥

-- This is the verdict on a check of this form.
abbrev pub IsVerdict : Form → Verdict → Pairs → Pairs → Pairs → Type 0
IsVerdict Plain Unjudged subject may answers = Unit {0}
IsVerdict Never Failed subject may answers = HasPair (Fails Never subject may)
IsVerdict Never Passed subject may answers = ¬ HasPair (Fails Never subject may)
IsVerdict Found Failed subject may answers = ¬ HasPair subject
IsVerdict Found Passed subject may answers = HasPair subject
IsVerdict Same verdict subject may answers =
    IsFirst verdict subject (Fails Same subject may) (Unanswered Same subject answers)
IsVerdict Follows verdict subject may answers =
    IsFirst verdict subject (Fails Follows subject may) (Unanswered Follows subject answers)
IsVerdict form verdict subject may answers = ⊥

-- What is shown: all pairs where there is no verdict, else those that tell why it isn't better.
abbrev pub Shown : Form → Verdict → Pairs → Pairs → Pairs → Pairs
Shown Plain verdict subject may answers = subject
Shown form Failed subject may answers = Fails form subject may
Shown form Waiting subject may answers = Unanswered form subject answers
Shown form verdict subject may answers = Nothing

-- ---- of patterns, each over its own trace

-- The verdict where the matches of the first are the subject, and those of the second answer them.
abbrev pub IsVerdictOver : Form → Verdict → PatternTree → Timeline → PatternTree → Timeline → Type 0
IsVerdictOver form verdict tree trace second other = IsVerdict form verdict
    (Matches tree trace) (MayMatch second other) (Matches second other)

abbrev pub ShownOver : Form → Verdict → PatternTree → Timeline → PatternTree → Timeline → Pairs
ShownOver form verdict tree trace second other = Shown form verdict
    (Matches tree trace) (MayMatch second other) (Matches second other)
