-- The operator at the top is the tree's, and its parts are those of the tree.
use Rattle.std.proofs.Common.{◌≡◌, ◌∙◌, ap, refl}
use Rattle.tre_state.specs.State as states
use Rattle.std.proofs.lemmas.Result.{IfOk-weaker}
use Rattle.tre_syntax.specs.Expr.{tree_of}
use Rattle.tre_syntax.specs.PatternTree.{PatternTree, atom, empty, literal, rise, fall, event, sequence, alternation, intersection, repetition, restriction}
use Rattle.tre_offline.specs.Lengths.{IsRepetition, IsOwnIteration, Spans}
use Rattle.tre_offline.proofs.Operations.{nested_exact, iteration_exact, iterated_exact, option_exact, options_exact, spanned_exact, turned_exact, short_of_form}
use Rattle.tre_offline.proofs.matching.+matches_of.Goals as goal

pub returns-then-goes_first : goal.returns-then-goes_first
returns-then-goes_first g t c =
    let rest = g.A.Atoms.rest c.args.atoms.now in
    let left = tree_of c.deref-then-goes_first-3.result.now in
    let right = tree_of c.deref-then-goes_first.result.now in
    let tree : tree_of c.args.expr.now ≡ intersection left right =
    rw (c.deref-then-goes_first.ensures, c.deref-then-goes_first-3.ensures)
    (ap tree_of c.in-Meet.is) in
    short_of_form c.met.result c.args.longest rest tree _
    (λ zones exact. (exact c.args.longest c.longest_beside-inner.result right left rest
    (c.longest_beside-inner.ensures.all right rest c.in_ok-other-in-Meet.ensures)
    c.in_ok-other-in-Meet.ensures c.in_ok-one-in-Meet.ensures).1)
    c.met.ensures

pub returns-in_ok-other-in-Meet-2 : goal.returns-in_ok-other-in-Meet-2
returns-in_ok-other-in-Meet-2 g t c =
    let rest = g.A.Atoms.rest c.args.atoms.now in
    let left = tree_of c.deref-in-Meet-3.result.now in
    let right = tree_of c.deref-in-Meet-5.result.now in
    let tree : tree_of c.args.expr.now ≡ intersection left right =
    rw (c.deref-in-Meet-3.ensures, c.deref-in-Meet-5.ensures) (ap tree_of c.in-Meet.is) in
    short_of_form c.met-in-Meet.result c.args.longest rest tree _
    (λ zones exact. (exact c.args.longest c.longest_beside-inner-in-Meet.result left right rest
    (c.longest_beside-inner-in-Meet.ensures.all left rest c.in_ok-one-in-Meet-2.ensures)
    c.in_ok-one-in-Meet-2.ensures c.in_ok-other-in-Meet-2.ensures).0)
    c.met-in-Meet.ensures

pub returns-in-Lit-deref : goal.returns-in-Lit-deref
returns-in-Lit-deref g t c =
    let rest = g.A.Atoms.rest c.args.atoms.now in
    let part : PatternTree = atom (literal (states.tree_of c.in-Lit-deref.state)) in
    let inner : tree_of c.deref-in-Within.result.now ≡ part = ap tree_of c.in-Lit-deref.is in
    let whole : tree_of c.args.expr.now
    ≡ restriction (tree_of c.deref-in-Within.result.now) c.in-Within.interval =
    rw c.deref-in-Within.ensures (ap tree_of c.in-Within.is) in
    let tree : tree_of c.args.expr.now ≡ restriction part c.in-Within.interval =
    whole ∙ ap (λ (t : PatternTree). restriction t c.in-Within.interval) inner in
    short_of_form c.shortened-in-Lit-deref.result c.args.longest rest tree _
    (λ zones exact. exact (restriction part c.in-Within.interval) rest
    c.literal_within-within.ensures)
    c.shortened-in-Lit-deref.ensures

pub returns-in-Eps : goal.returns-in-Eps
returns-in-Eps g t c =
    let rest = g.A.Atoms.rest c.args.atoms.now in
    let part : PatternTree = atom empty in
    let tree : tree_of c.args.expr.now ≡ part = ap tree_of c.in-Eps.is in
    short_of_form c.shortened-in-Eps.result c.args.longest rest tree _
    (λ zones exact. exact part rest c.moments.ensures) c.shortened-in-Eps.ensures

pub returns-in-Lit : goal.returns-in-Lit
returns-in-Lit g t c =
    let rest = g.A.Atoms.rest c.args.atoms.now in
    let part : PatternTree = atom (literal (states.tree_of c.in-Lit.state)) in
    let tree : tree_of c.args.expr.now ≡ part = ap tree_of c.in-Lit.is in
    short_of_form c.shortened-in-Lit.result c.args.longest rest tree _
    (λ zones exact. exact part rest c.literal.ensures) c.shortened-in-Lit.ensures

pub returns-in-Rise : goal.returns-in-Rise
returns-in-Rise g t c =
    let rest = g.A.Atoms.rest c.args.atoms.now in
    let part : PatternTree = atom (rise (states.tree_of c.in-Rise.state)) in
    let tree : tree_of c.args.expr.now ≡ part = ap tree_of c.in-Rise.is in
    short_of_form c.shortened-in-Rise.result c.args.longest rest tree _
    (λ zones exact. exact part rest c.rises.ensures) c.shortened-in-Rise.ensures

pub returns-in-Fall : goal.returns-in-Fall
returns-in-Fall g t c =
    let rest = g.A.Atoms.rest c.args.atoms.now in
    let part : PatternTree = atom (fall (states.tree_of c.in-Fall.state)) in
    let tree : tree_of c.args.expr.now ≡ part = ap tree_of c.in-Fall.is in
    short_of_form c.shortened-in-Fall.result c.args.longest rest tree _
    (λ zones exact. exact part rest c.falls.ensures) c.shortened-in-Fall.ensures

pub returns-in-Event : goal.returns-in-Event
returns-in-Event g t c =
    let rest = g.A.Atoms.rest c.args.atoms.now in
    let part : PatternTree = atom (event c.in-Event.number) in
    let tree : tree_of c.args.expr.now ≡ part = ap tree_of c.in-Event.is in
    short_of_form c.shortened-in-Event.result c.args.longest rest tree _
    (λ zones exact. exact part rest c.events.ensures) c.shortened-in-Event.ensures

pub returns-in-Some : goal.returns-in-Some
returns-in-Some g t c =
    let rest = g.A.Atoms.rest c.args.atoms.now in
    short_of_form c.shortened.result c.args.longest rest refl _
    (λ zones told. told (tree_of c.args.expr.now) rest (rw c.in-Some.is at c.in_ok-found.ensures))
    c.shortened.ensures

pub returns-then-is_iterated : goal.returns-then-is_iterated
returns-then-is_iterated g t c =
    let rest = g.A.Atoms.rest c.args.atoms.now in
    let left = tree_of c.deref-then-is_iterated.result.now in
    let right = tree_of c.deref-in-Seq.result.now in
    let tree : tree_of c.args.expr.now ≡ sequence left right =
    rw (c.deref-then-is_iterated.ensures, c.deref-in-Seq.ensures) (ap tree_of c.in-Seq.is) in
    let first : IsOwnIteration left =
    rw (c.deref.ensures, ← c.deref-then-is_iterated.ensures) at
    (c.is_iterated.ensures.first c.if-is_iterated.true) in
    let second : right ≡ repetition left =
    rw (c.deref.ensures, ← c.deref-then-is_iterated.ensures) at
    (c.is_iterated.ensures.second c.if-is_iterated.true) in
    short_of_form c.matches_of.result c.args.longest rest tree _
    (λ zones exact. iterated_exact c.args.longest left right rest zones first second exact)
    c.matches_of.ensures

pub returns-then-repeats : goal.returns-then-repeats
returns-then-repeats g t c =
    let rest = g.A.Atoms.rest c.args.atoms.now in
    let left = tree_of c.deref-then-repeats.result.now in
    let right = tree_of c.deref-in-Seq-2.result.now in
    let parts : tree_of c.args.expr.now ≡ sequence left right =
    rw (c.deref-then-repeats.ensures, c.deref-in-Seq-2.ensures) (ap tree_of c.in-Seq.is) in
    let again : right ≡ repetition left =
    rw (c.deref-in-Seq-3.ensures, ← c.deref-then-repeats.ensures) at
    (c.repeats.ensures c.if-repeats.true) in
    let tree : tree_of c.args.expr.now ≡ sequence left (repetition left) =
    parts ∙ ap (λ (t : PatternTree). sequence left t) again in
    short_of_form c.iterated.result c.args.longest rest tree _
    (λ zones exact. exact left rest c.begin.ensures c.end.ensures.end c.matches_of-step.ensures)
    c.iterated.ensures

pub returns-in_ok-first-in-Seq-2 : goal.returns-in_ok-first-in-Seq-2
returns-in_ok-first-in-Seq-2 g t c =
    let rest = g.A.Atoms.rest c.args.atoms.now in
    let left = tree_of c.deref-in-Seq-5.result.now in
    let right = tree_of c.deref-in-Seq-6.result.now in
    let tree : tree_of c.args.expr.now ≡ sequence left right =
    rw (c.deref-in-Seq-5.ensures, c.deref-in-Seq-6.ensures) (ap tree_of c.in-Seq.is) in
    short_of_form c.followed-in-Seq.result c.args.longest rest tree _
    (λ zones exact. exact left right rest c.in_ok-first-in-Seq-2.ensures
    c.matches_of-second.ensures)
    c.followed-in-Seq.ensures

pub returns-then-is_eps : goal.returns-then-is_eps
returns-then-is_eps g t c =
    let rest = g.A.Atoms.rest c.args.atoms.now in
    let left = tree_of c.deref-then-is_eps.result.now in
    let right = tree_of c.deref-then-is_repetition.result.now in
    let tree : tree_of c.args.expr.now ≡ alternation left right =
    rw (c.deref-then-is_eps.ensures, c.deref-then-is_repetition.ensures)
    (ap tree_of c.in-Alt.is) in
    let nested : IsRepetition left =
    rw (c.deref-in-Alt.ensures, ← c.deref-then-is_eps.ensures) at
    (c.is_repetition.ensures c.if-is_repetition.true) in
    short_of_form c.matches_of-then-is_eps.result c.args.longest rest tree _
    (λ zones exact. option_exact c.args.longest left right rest zones nested
    (c.is_eps.ensures c.if-is_eps.true) exact)
    c.matches_of-then-is_eps.ensures

pub returns-in_ok-one-in-Alt : goal.returns-in_ok-one-in-Alt
returns-in_ok-one-in-Alt g t c =
    let rest = g.A.Atoms.rest c.args.atoms.now in
    let left = tree_of c.deref-in-Alt-2.result.now in
    let right = tree_of c.deref-in-Alt-3.result.now in
    let tree : tree_of c.args.expr.now ≡ alternation left right =
    rw (c.deref-in-Alt-2.ensures, c.deref-in-Alt-3.ensures) (ap tree_of c.in-Alt.is) in
    short_of_form c.joined.result c.args.longest rest tree _
    (λ zones exact. exact c.args.longest left right rest c.in_ok-one-in-Alt.ensures
    c.matches_of-other.ensures)
    c.joined.ensures

pub returns-then-is_repetition-2 : goal.returns-then-is_repetition-2
returns-then-is_repetition-2 g t c =
    let rest = g.A.Atoms.rest c.args.atoms.now in
    let step = tree_of c.deref-then-is_repetition-2.result.now in
    let tree : tree_of c.args.expr.now ≡ repetition step =
    rw c.deref-then-is_repetition-2.ensures (ap tree_of c.in-Star.is) in
    let nested : IsRepetition step =
    rw (c.deref-in-Star.ensures, ← c.deref-then-is_repetition-2.ensures) at
    (c.is_repetition-in-Star.ensures c.if-is_repetition-2.true) in
    short_of_form c.matches_of-then-is_repetition-2.result c.args.longest rest tree _
    (λ zones exact. nested_exact c.args.longest step rest zones nested exact)
    c.matches_of-then-is_repetition-2.ensures

pub returns-then-repeats-2 : goal.returns-then-repeats-2
returns-then-repeats-2 g t c =
    let rest = g.A.Atoms.rest c.args.atoms.now in
    let once = tree_of c.deref-in-Seq-deref-2-3.result.now in
    let more = tree_of c.deref-then-repeats-2.result.now in
    let step : tree_of c.deref-in-Star-2.result.now ≡ sequence once more =
    rw (c.deref-in-Seq-deref-2-3.ensures, c.deref-then-repeats-2.ensures)
    (ap tree_of c.in-Seq-deref-2.is) in
    let star : tree_of c.args.expr.now ≡ repetition (tree_of c.deref-in-Star-2.result.now) =
    rw c.deref-in-Star-2.ensures (ap tree_of c.in-Star.is) in
    let tree : tree_of c.args.expr.now ≡ repetition (sequence once more) =
    star ∙ ap (λ (t : PatternTree). repetition t) step in
    let again : more ≡ repetition once =
    rw (c.deref-in-Seq-deref-2-2.ensures, ← c.deref-then-repeats-2.ensures) at
    (c.repeats-in-Seq-deref-2.ensures c.if-repeats-2.true) in
    short_of_form c.matches_of-then-repeats-2.result c.args.longest rest tree _
    (λ zones exact. iteration_exact c.args.longest once more rest zones again exact)
    c.matches_of-then-repeats-2.ensures

pub returns-then-is_repetition-3 : goal.returns-then-is_repetition-3
returns-then-is_repetition-3 g t c =
    let rest = g.A.Atoms.rest c.args.atoms.now in
    let once = tree_of c.deref-then-is_repetition-3.result.now in
    let none = tree_of c.deref-in-Alt-deref.result.now in
    let step : tree_of c.deref-in-Star-3.result.now ≡ alternation once none =
    rw (c.deref-then-is_repetition-3.ensures, c.deref-in-Alt-deref.ensures)
    (ap tree_of c.in-Alt-deref.is) in
    let star : tree_of c.args.expr.now ≡ repetition (tree_of c.deref-in-Star-3.result.now) =
    rw c.deref-in-Star-3.ensures (ap tree_of c.in-Star.is) in
    let tree : tree_of c.args.expr.now ≡ repetition (alternation once none) =
    star ∙ ap (λ (t : PatternTree). repetition t) step in
    let nested : IsRepetition once =
    rw (c.deref-then-is_eps-2.ensures, ← c.deref-then-is_repetition-3.ensures) at
    (c.is_repetition-then-is_eps-2.ensures c.if-is_repetition-3.true) in
    short_of_form c.matches_of-then-is_repetition-3.result c.args.longest rest tree _
    (λ zones exact. options_exact c.args.longest once none rest zones
    (c.is_eps-in-Alt-deref.ensures c.if-is_eps-2.true)
    (nested_exact c.args.longest once rest zones nested exact))
    c.matches_of-then-is_repetition-3.ensures

pub returns-then-is_eps-2 : goal.returns-then-is_eps-2
returns-then-is_eps-2 g t c =
    let rest = g.A.Atoms.rest c.args.atoms.now in
    let once = tree_of c.deref-then-is_eps-2-2.result.now in
    let none = tree_of c.deref-in-Alt-deref.result.now in
    let step : tree_of c.deref-in-Star-3.result.now ≡ alternation once none =
    rw (c.deref-then-is_eps-2-2.ensures, c.deref-in-Alt-deref.ensures)
    (ap tree_of c.in-Alt-deref.is) in
    let star : tree_of c.args.expr.now ≡ repetition (tree_of c.deref-in-Star-3.result.now) =
    rw c.deref-in-Star-3.ensures (ap tree_of c.in-Star.is) in
    let tree : tree_of c.args.expr.now ≡ repetition (alternation once none) =
    star ∙ ap (λ (t : PatternTree). repetition t) step in
    short_of_form c.repeated.result c.args.longest rest tree _
    (λ zones exact. options_exact c.args.longest once none rest zones
    (c.is_eps-in-Alt-deref.ensures c.if-is_eps-2.true)
    (exact once rest c.begin-then-is_eps-2.ensures c.end-then-is_eps-2.ensures.end c.matches_of-once.ensures))
    c.repeated.ensures

pub returns-then-spans : goal.returns-then-spans
returns-then-spans g t c =
    let rest = g.A.Atoms.rest c.args.atoms.now in
    let step = tree_of c.deref-then-spans.result.now in
    let tree : tree_of c.args.expr.now ≡ repetition step =
    rw c.deref-then-spans.ensures (ap tree_of c.in-Star.is) in
    let spans : Spans step =
    rw (c.deref-in-Star-4.ensures, ← c.deref-then-spans.ensures) at
    (c.spans.ensures c.if-spans.true) in
    short_of_form c.joined-then-spans.result c.args.longest rest tree _
    (λ zones exact. spanned_exact c.args.longest step rest zones spans
    (exact c.args.longest (atom empty) step rest
    (c.in_ok-moments-in-Star.ensures (atom empty) rest c.moments-then-spans.ensures)
    c.matches_of-step-then-spans.ensures))
    c.joined-then-spans.ensures

pub returns-else-spans : goal.returns-else-spans
returns-else-spans g t c =
    let rest = g.A.Atoms.rest c.args.atoms.now in
    let step = tree_of c.deref-in-Star-5.result.now in
    let tree : tree_of c.args.expr.now ≡ repetition step =
    rw c.deref-in-Star-5.ensures (ap tree_of c.in-Star.is) in
    short_of_form c.repeated-in-Star.result c.args.longest rest tree _
    (λ zones exact. exact step rest c.begin-in-Star.ensures c.end-in-Star.ensures.end c.matches_of-step-in-Star.ensures)
    c.repeated-in-Star.ensures

pub returns-in_default-deref-4 : goal.returns-in_default-deref-4
returns-in_default-deref-4 g t c =
    let rest = g.A.Atoms.rest c.args.atoms.now in
    let all = tree_of c.deref-in-Within-2.result.now in
    let tree : tree_of c.args.expr.now ≡ restriction all c.in-Within.interval =
    rw c.deref-in-Within-2.ensures (ap tree_of c.in-Within.is) in
    short_of_form c.restricted.result c.args.longest rest tree _
    (λ zones exact. exact c.up_to-inner.result c.args.longest all rest c.up_to-inner.ensures.same
    c.matches_of-all.ensures)
    c.restricted.ensures

pub returns-then-comes_last : goal.returns-then-comes_last
returns-then-comes_last g t c =
    let rest = g.A.Atoms.rest c.args.atoms.now in
    let begin = tree_of c.deref-then-comes_last.result.now in
    let middle = tree_of c.deref-then-comes_last-2.result.now in
    let right = tree_of c.deref-then-comes_last-3.result.now in
    let inner : tree_of c.deref-in-Seq-4.result.now ≡ sequence begin middle =
    rw (c.deref-then-comes_last.ensures, c.deref-then-comes_last-2.ensures)
    (ap tree_of c.in-Seq-deref.is) in
    let outer : tree_of c.args.expr.now ≡ sequence (tree_of c.deref-in-Seq-4.result.now) right =
    rw (c.deref-in-Seq-4.ensures, c.deref-then-comes_last-3.ensures) (ap tree_of c.in-Seq.is) in
    let tree : tree_of c.args.expr.now ≡ sequence (sequence begin middle) right =
    outer ∙ ap (λ (t : PatternTree). sequence t right) inner in
    short_of_form c.followed.result c.args.longest rest tree _
    (λ zones exact. turned_exact c.args.longest begin middle right rest zones
    (exact begin (sequence middle right) rest c.in_ok-first-in-Seq.ensures
    (IfOk-weaker c.followed-behind.result _ _
    (λ behind told. told middle right rest c.in_ok-second-in-Seq.ensures
    c.matches_of-third.ensures)
    c.followed-behind.ensures)))
    c.followed.ensures
