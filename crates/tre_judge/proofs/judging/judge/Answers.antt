use Rattle.std.proofs.lemmas.Result.{IfOk-weaker}
use Rattle.tre_pairs.proofs.Laws.{IsOrdered}
use Rattle.tre_pairs.proofs.Order.{IsOrdered-Either}
use Rattle.tre_syntax.proofs.Begins.{IsOrdered-begun}
use Rattle.tre_syntax.proofs.CutMeaning.{IsOrdered-rest}
use Rattle.tre_syntax.specs.Begun.{HasBegun, MayMatch}
use Rattle.tre_syntax.specs.Meaning.{Matches}
use Rattle.tre_syntax.specs.Pattern.{pattern_tree}
use Rattle.tre_syntax.specs.PatternTree.{PatternTree}
use Rattle.tre_syntax.specs.Rest.{whole}
use Rattle.tre_trace.specs.Trace.{Timeline}
use Rattle.tre_zone.specs.ZoneList.{SetHolds}
use Rattle.tre_judge.specs.Verdicts.{Unanswered}
use Rattle.tre_judge.proofs.Alike.{Alike, Alike-set, Unanswered-alike, shown_of, verdict_of}
use Rattle.tre_judge.proofs.judging.judge.Goals as goal
use Rattle.tre_judge.proofs.judging.judge.Goals.{After-drop-subject-inside-2}

may_ordered : (tree : PatternTree) (trace : Timeline) → IsOrdered (MayMatch tree trace)
may_ordered tree trace = IsOrdered-Either (Matches tree trace) (HasBegun tree trace)
    (IsOrdered-rest tree (whole trace)) (IsOrdered-begun (whole trace) tree)

-- the sets hold the matches of the first pattern, and of the second what answers and what may
same : (c : After-drop-subject-inside-2)
    → Alike (SetHolds c.in_ok-subject.subject)
    (Matches (pattern_tree c.args.pattern.now) c.args.trace)
same c = Alike-set c.in_ok-subject.subject _ c.zones-subject.ensures.set.canonical
    (IsOrdered-rest (pattern_tree c.args.pattern.now) (whole c.args.trace))
    c.in_ok-subject.ensures.exact

failing : (c : After-drop-subject-inside-2)
    → Alike (Unanswered c.args.form (SetHolds c.in_ok-subject.subject) (SetHolds c.in_ok-may.may))
    (Unanswered c.args.form (Matches (pattern_tree c.args.pattern.now) c.args.trace)
    (MayMatch (pattern_tree c.args.second.now) c.args.other.now))
failing c = Unanswered-alike c.args.form c.in_ok-subject.subject c.in_ok-may.may _ _
    c.zones-subject.ensures.set.canonical c.zones-may.ensures.set.canonical
    (IsOrdered-rest (pattern_tree c.args.pattern.now) (whole c.args.trace))
    (may_ordered (pattern_tree c.args.second.now) c.args.other.now)
    c.in_ok-subject.ensures.exact c.in_ok-may.ensures

unanswered : (c : After-drop-subject-inside-2)
    → Alike (Unanswered c.args.form (SetHolds c.in_ok-subject.subject)
    (SetHolds c.in_ok-answers.answers))
    (Unanswered c.args.form (Matches (pattern_tree c.args.pattern.now) c.args.trace)
    (Matches (pattern_tree c.args.second.now) c.args.other.now))
unanswered c = Unanswered-alike c.args.form c.in_ok-subject.subject c.in_ok-answers.answers _ _
    c.zones-subject.ensures.set.canonical c.zones-answers.ensures.set.canonical
    (IsOrdered-rest (pattern_tree c.args.pattern.now) (whole c.args.trace))
    (IsOrdered-rest (pattern_tree c.args.second.now) (whole c.args.other.now))
    c.in_ok-subject.ensures.exact c.in_ok-answers.ensures

pub returns-clause-verdict : goal.returns-clause-verdict
returns-clause-verdict c = IfOk-weaker c.judge_sets.result _ _
    (λ judged is. verdict_of c.args.form c.requires judged.verdict c.in_ok-subject.subject
    c.in_ok-may.may c.in_ok-answers.answers judged.shown _ _ _ (same c) (failing c) (unanswered c)
    is) c.judge_sets.ensures

pub returns-clause-shown : goal.returns-clause-shown
returns-clause-shown c = IfOk-weaker c.judge_sets.result _ _
    (λ judged is. shown_of c.args.form c.requires judged.verdict c.in_ok-subject.subject
    c.in_ok-may.may c.in_ok-answers.answers judged.shown _ _ _ (same c) (failing c) (unanswered c)
    is) c.judge_sets.ensures
