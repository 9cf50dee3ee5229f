-- What is shown of an ordered relation is ordered.
use Rattle.tre_pairs.proofs.Laws.{IsOrdered}
use Rattle.tre_pairs.specs.Pairs.{Pairs}
use Rattle.tre_watch.specs.declared.form.Form.{Form}
use Rattle.tre_watch.specs.declared.form.Form.TheVariants.{Plain, Never, Found, Same, Follows}
use Rattle.tre_judge.specs.Verdicts.{Nothing, Shown, Unanswered}
use Rattle.tre_judge.specs.declared.verdict.Verdict.{Verdict}
use Rattle.tre_judge.specs.declared.verdict.Verdict.TheVariants.{Failed, Waiting}

IsOrdered-Nothing : IsOrdered Nothing
IsOrdered-Nothing = record { le = λ a b n h. absurd h }

IsOrdered-Unanswered : (form : Form) (S R : Pairs) → IsOrdered S → IsOrdered (Unanswered form S R)
IsOrdered-Unanswered Plain S R ordered = IsOrdered-Nothing
IsOrdered-Unanswered Never S R ordered = IsOrdered-Nothing
IsOrdered-Unanswered Found S R ordered = IsOrdered-Nothing
IsOrdered-Unanswered Same S R ordered = record { le = λ a b n h. ordered.le a b n h.related }
IsOrdered-Unanswered Follows S R ordered = record { le = λ a b n h. ordered.le a b n h.related }

pub IsOrdered-Shown : (form : Form) (verdict : Verdict) (S M A : Pairs) → IsOrdered S
    → IsOrdered (Shown form verdict S M A)
IsOrdered-Shown Plain verdict S M A ordered = ordered
IsOrdered-Shown Never Failed S M A ordered = ordered
IsOrdered-Shown Found Failed S M A ordered = IsOrdered-Nothing
IsOrdered-Shown Same Failed S M A ordered = IsOrdered-Unanswered Same S M ordered
IsOrdered-Shown Follows Failed S M A ordered = IsOrdered-Unanswered Follows S M ordered
IsOrdered-Shown Never Waiting S M A ordered = IsOrdered-Nothing
IsOrdered-Shown Found Waiting S M A ordered = IsOrdered-Nothing
IsOrdered-Shown Same Waiting S M A ordered = IsOrdered-Unanswered Same S A ordered
IsOrdered-Shown Follows Waiting S M A ordered = IsOrdered-Unanswered Follows S A ordered
IsOrdered-Shown form verdict S M A ordered = IsOrdered-Nothing
