-- What becomes of the checks of a request over a whole input, and the text that tells it.
use Rattle.std.specs.Prelude.{◌≡◌, ℕ, ◌≤◌, ◌<◌, Bool, true, false, List, [], ◌∷◌, ◌++◌, codes, count_by, drop, flat_map, get_or, length, sum_by, IfSome, IsSomeAnd}
use Rattle.tre_decimal.specs.Decimal.{number_text}
use Rattle.tre_judge.specs.Verdicts.{IsVerdictOver, ShownOver}
use Rattle.tre_judge.specs.declared.verdict.Verdict.{Verdict}
use Rattle.tre_judge.specs.declared.verdict.Verdict.TheVariants.{Unjudged, Passed, Failed, Waiting, Vacuous}
use Rattle.tre_syntax.specs.PatternTree.{PatternTree}
use Rattle.tre_tell.specs.Blocks.{lines_with}
use Rattle.tre_tell.specs.Request.{Request, AreReadAs}
use Rattle.tre_tell.specs.Sought.{Sought}
use Rattle.tre_trace.specs.Reading.{no_names, segments_for}
use Rattle.tre_trace.specs.Trace.{Timeline, end_of}
use Rattle.tre_watch.specs.Forms.{patterns_of}
use Rattle.tre_watch.specs.declared.form.Form.{Form}
use Rattle.tre_zone.specs.declared.zone_bounds.ZoneBounds.{ZoneBounds}
use Rattle.tre_answer.specs.Wanted.{AreZonesOf}

-- A check's name, its verdict, and the zones that are shown with it.
pub record Finding : Type 0 where
  pub name : List ℕ
  pub verdict : Verdict
  pub zones : List ZoneBounds

-- This is the verdict on a check of this form, and these zones are shown with it. The second
-- pattern is asked for by a form of two patterns alone.
pub record IsJudgedSo (normal : Bool) (form : Form) (tree : PatternTree) (trace : Timeline)
    (second : PatternTree) (other : Timeline) (verdict : Verdict) (zones : List ZoneBounds)
    : Type 0 where
  pub verdict_is : IsVerdictOver form verdict tree trace second other
  pub shown : AreZonesOf normal (ShownOver form verdict tree trace second other) zones

-- The findings are those on the checks of these forms. Their patterns stand behind one another,
-- each over its own trace.
abbrev pub AreFindings : Bool → List Form → List Sought → List Timeline → List Finding → Type 0
AreFindings normal [] patterns traces [] = Unit {0}
AreFindings normal (form ∷ forms) (pattern ∷ patterns) (trace ∷ traces) (finding ∷ findings) =
    (finding.name ≡ pattern.label)
    × IsJudgedSo normal form pattern.tree trace (get_or patterns 0 pattern).tree
    (get_or traces 0 trace) finding.verdict finding.zones
    × AreFindings normal forms (drop (patterns_of form) (pattern ∷ patterns))
    (drop (patterns_of form) (trace ∷ traces)) findings
AreFindings normal forms patterns traces findings = ⊥

-- ---- the text

-- the line of a verdict; a check that asks nothing has none
abbrev pub verdict_line : Verdict → List ℕ → List ℕ
verdict_line Unjudged name = []
verdict_line Passed name = codes "pass " ++ name ++ codes "\n"
verdict_line Failed name = codes "fail " ++ name ++ codes "\n"
verdict_line Waiting name = codes "open " ++ name ++ codes "\n"
verdict_line Vacuous name = codes "vacuous " ++ name ++ codes "\n"

-- the line of the verdict, and those of the zones, each behind the name
abbrev pub finding_text : ℕ → Finding → List ℕ
finding_text scale finding =
    verdict_line finding.verdict finding.name
    ++ lines_with scale (finding.name ++ codes " ") finding.zones

unfoldable pub findings_text : ℕ → List Finding → ℕ → List ℕ
findings_text scale findings end =
    flat_map (finding_text scale) findings ++ codes "end " ++ number_text scale end ++ codes "\n"

-- ---- over an input of these bytes

pub record AreFindingsFor (request : Request) (bytes : List ℕ) (findings : List Finding) : Type 0
  where
    pub traces : List Timeline
    pub are : AreReadAs request bytes traces
    pub found : AreFindings request.job.normal request.forms request.patterns traces findings

abbrev pub is_failed : Verdict → Bool
is_failed Failed = true
is_failed verdict = false

-- how many checks fail
abbrev pub failed_in : List Finding → ℕ
failed_in findings = count_by (λ finding. is_failed finding.verdict) findings

-- how many zones all of them have together
abbrev pub zones_in : List Finding → ℕ
zones_in findings = sum_by (λ finding. length finding.zones) findings

-- The text tells what becomes of the checks, of which so many fail, with no more zones than there
-- may be.
pub record IsCheckedAnswer (request : Request) (bytes : List ℕ) (failed : ℕ) (text : List ℕ)
    : Type 0 where
  pub findings : List Finding
  pub right : AreFindingsFor request bytes findings
  pub few : IfSome request.job.max_zones (λ most. zones_in findings ≤ most)
  pub fail : failed ≡ failed_in findings
  pub printed : text ≡ findings_text request.job.scale findings
      (end_of 0 (segments_for no_names (request.recording true bytes).stretches))

-- The checks have so many zones together, and more than there may be.
pub record ChecksHaveTooMany (request : Request) (bytes : List ℕ) (count : ℕ) : Type 0 where
  pub findings : List Finding
  pub right : AreFindingsFor request bytes findings
  pub counted : zones_in findings ≡ count
  pub many : IsSomeAnd request.job.max_zones (λ most. most < count)
