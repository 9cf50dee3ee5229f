-- Each form is well where its parts are.
use Rattle.std.proofs.lemmas.Result.{IfOk-weaker}
use Rattle.tests_matching.proofs.forms.+forms.Goals as goal

pub returns-in_ok-first-in-Seq : goal.returns-in_ok-first-in-Seq
returns-in_ok-first-in-Seq t c =
    IfOk-weaker c.followed_by.result _ _
    (λ whole well. well c.args.time c.in_ok-first-in-Seq.ensures) c.followed_by.ensures

pub returns-in_ok-other-in-Alt : goal.returns-in_ok-other-in-Alt
returns-in_ok-other-in-Alt t c =
    IfOk-weaker c.or.result _ _
    (λ whole built. built.well c.args.time
    (record { well = (c.in_ok-one-in-Alt.ensures.well, c.in_ok-other-in-Alt.ensures.well) }))
    c.or.ensures

pub returns-in_ok-other-in-Meet : goal.returns-in_ok-other-in-Meet
returns-in_ok-other-in-Meet t c =
    IfOk-weaker c.both_after.result _ _
    (λ whole well. well c.args.time c.in_ok-one-in-Meet.ensures c.in_ok-other-in-Meet.ensures)
    c.both_after.ensures

pub returns-in_ok-inner-in-Within : goal.returns-in_ok-inner-in-Within
returns-in_ok-inner-in-Within t c =
    IfOk-weaker c.lasting_after.result _ _
    (λ whole well. well c.args.time c.in_ok-inner-in-Within.ensures) c.lasting_after.ensures

pub returns-in_default : goal.returns-in_default
returns-in_default t c =
    IfOk-weaker c.joined.result _ _ (λ whole well. well c.args.time) c.joined.ensures
