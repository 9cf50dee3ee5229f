-- What the functions inside promise each other.
use Rattle.std.specs.Prelude.{◌↔◌, ℕ, ◌<◌, ◌≤◌, List}
use Rattle.tre_pairs.specs.Pairs.{Pairs}
use Rattle.tre_watch.specs.declared.form.Form.{Form}
use Rattle.tre_watch.specs.declared.form.Form.TheVariants.{Same}
use Rattle.tre_zone.specs.ZoneList.{HoldExactly, SetHolds}
use Rattle.tre_zone.specs.declared.zone_bounds.ZoneBounds.{ZoneBounds}
use Rattle.tre_judge.specs.Verdicts.{IsFirst, Nothing}
use Rattle.tre_judge.specs.declared.verdict.Verdict.{Verdict}
use Rattle.tre_judge.specs.declared.verdict.Verdict.TheVariants.{Failed, Waiting}

-- Of the pairs of the set the zones hold just those of R.
pub record HoldAmong (set zones : List ZoneBounds) (R : Pairs) : Type 0 where
  pub exact : (a b n : ℕ) → 0 < n → a ≤ b → SetHolds set a b n → SetHolds zones a b n ↔ R a b n

-- The zones hold R, as far as a check of this form asks for pairs of the set.
abbrev pub HoldFor : Form → List ZoneBounds → List ZoneBounds → Pairs → Type 0
HoldFor Same set zones R = HoldAmong set zones R
HoldFor form set zones R = HoldExactly zones R

-- what is shown with a verdict where these pairs fail, and these are unanswered
abbrev pub ShownFirst : Verdict → Pairs → Pairs → Pairs
ShownFirst Failed failing unanswered = failing
ShownFirst Waiting failing unanswered = unanswered
ShownFirst verdict failing unanswered = Nothing

pub record IsJudged (verdict : Verdict) (shown : List ZoneBounds)
    (subject failing unanswered : Pairs) : Type 0 where
  pub verdict_is : IsFirst verdict subject failing unanswered
  pub exact : HoldExactly shown (ShownFirst verdict failing unanswered)
