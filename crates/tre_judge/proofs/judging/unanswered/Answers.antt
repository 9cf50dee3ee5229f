use Rattle.std.proofs.Common.{◌≡◌, List, [], refl}
use Rattle.std.proofs.lemmas.Result.{IfOk-weaker}
use Rattle.tre_pairs.specs.Leads.{LeadsOn}
use Rattle.tre_pairs.specs.Pairs.{Pairs}
use Rattle.tre_watch.specs.declared.form.Form.{Form}
use Rattle.tre_watch.specs.declared.form.Form.TheVariants.{Plain, Never, Found, Same, Follows}
use Rattle.tre_zone.specs.ZoneList.{HoldExactly, SetHolds}
use Rattle.tre_zone.specs.declared.zone_bounds.ZoneBounds.{ZoneBounds}
use Rattle.tre_judge.specs.Verdicts.{Unanswered}
use Rattle.tre_judge.proofs.Deciding.{nothing, without_led}
use Rattle.tre_judge.proofs.judging.unanswered.Goals as goal

pub returns-in_ok-led-in-Follows : goal.returns-in_ok-led-in-Follows
returns-in_ok-led-in-Follows c =
    rw c.in-Follows.is
    (IfOk-weaker c.minus-in-Follows.result _ _
    (λ left held. without_led (SetHolds c.args.subject.now) (LeadsOn (SetHolds c.args.others.now))
    c.in_ok-led-in-Follows.led left c.in_ok-led-in-Follows.ensures held)
    c.minus-in-Follows.ensures)

-- a form of one pattern leaves nothing unanswered
none_left : (form : Form) (zones : List ZoneBounds) (S R : Pairs) → (form ≡ Same → ⊥)
    → (form ≡ Follows → ⊥) → zones ≡ [] → HoldExactly zones (Unanswered form S R)
none_left Plain zones S R same follows none = nothing zones none
none_left Never zones S R same follows none = nothing zones none
none_left Found zones S R same follows none = nothing zones none
none_left Same zones S R same follows none = absurd (same refl)
none_left Follows zones S R same follows none = absurd (follows refl)

pub returns-in_default : goal.returns-in_default
returns-in_default c = none_left c.args.form c.new.result (SetHolds c.args.subject.now)
    (SetHolds c.args.others.now) c.in_default.not-Same c.in_default.not-Follows c.new.ensures
