-- The operator at the top is the tree's, and its parts are those of the tree.
use Rattle.std.proofs.Common.{◌≡◌, ap}
use Rattle.tre_state.specs.State as states
use Rattle.tre_pairs.specs.Pairs.{Composed}
use Rattle.tre_syntax.specs.Begun.{BegunRest}
use Rattle.tre_syntax.specs.Expr.{tree_of}
use Rattle.tre_syntax.specs.Meaning.{MatchesRest}
use Rattle.tre_syntax.specs.PatternTree.{PatternTree, atom, literal, sequence, alternation, intersection, repetition, restriction}
use Rattle.tre_offline.proofs.Beginnings.{with_end, either_exact, both_exact, cut_exact, begun_of_form}
use Rattle.tre_offline.proofs.beginning.+begun_of.Goals as goal

pub returns-in-Lit : goal.returns-in-Lit
returns-in-Lit g t c =
    let rest = g.A.Atoms.rest c.args.atoms.now in
    let part : PatternTree = atom (literal (states.tree_of c.in-Lit.state)) in
    let tree : tree_of c.args.expr.now ≡ part = ap tree_of c.in-Lit.is in
    begun_of_form c.held_to_end.result c.args.longest rest tree _
    (λ zones exact. exact (literal (states.tree_of c.in-Lit.state)) rest c.end.ensures.end
    c.literal.ensures)
    c.held_to_end.ensures

pub returns-in_ok-early-in-Seq : goal.returns-in_ok-early-in-Seq
returns-in_ok-early-in-Seq g t c =
    let rest = g.A.Atoms.rest c.args.atoms.now in
    let left = tree_of c.deref.result.now in
    let right = tree_of c.deref-in-Seq.result.now in
    let tree : tree_of c.args.expr.now ≡ sequence left right =
    rw (c.deref.ensures, c.deref-in-Seq.ensures) (ap tree_of c.in-Seq.is) in
    begun_of_form c.either_of.result c.args.longest rest tree _
    (λ zones held. either_exact c.args.longest (BegunRest left rest)
    (Composed (MatchesRest left rest) (BegunRest right rest)) c.in_ok-early-in-Seq.early
    c.in_ok-through-in-Seq.through zones
    (rw (c.deref-in-Seq-2.ensures, ← c.deref.ensures) at c.in_ok-early-in-Seq.ensures)
    (c.in_ok-through-in-Seq.ensures left right rest c.in_ok-first-in-Seq.ensures
    c.begun_of-last.ensures) held)
    c.either_of.ensures

pub returns-in_ok-other-in-Alt : goal.returns-in_ok-other-in-Alt
returns-in_ok-other-in-Alt g t c =
    let rest = g.A.Atoms.rest c.args.atoms.now in
    let left = tree_of c.deref-in-Alt.result.now in
    let right = tree_of c.deref-in-Alt-2.result.now in
    let tree : tree_of c.args.expr.now ≡ alternation left right =
    rw (c.deref-in-Alt.ensures, c.deref-in-Alt-2.ensures) (ap tree_of c.in-Alt.is) in
    begun_of_form c.either_of-in-Alt.result c.args.longest rest tree _
    (λ zones held. either_exact c.args.longest (BegunRest left rest) (BegunRest right rest)
    c.in_ok-one-in-Alt.one c.in_ok-other-in-Alt.other zones c.in_ok-one-in-Alt.ensures
    c.in_ok-other-in-Alt.ensures held)
    c.either_of-in-Alt.ensures

pub returns-in_ok-other-in-Meet : goal.returns-in_ok-other-in-Meet
returns-in_ok-other-in-Meet g t c =
    let rest = g.A.Atoms.rest c.args.atoms.now in
    let left = tree_of c.deref-in-Meet.result.now in
    let right = tree_of c.deref-in-Meet-2.result.now in
    let tree : tree_of c.args.expr.now ≡ intersection left right =
    rw (c.deref-in-Meet.ensures, c.deref-in-Meet-2.ensures) (ap tree_of c.in-Meet.is) in
    begun_of_form c.meet.result c.args.longest rest tree _
    (λ zones held. both_exact c.args.longest (BegunRest left rest) (BegunRest right rest)
    c.in_ok-one-in-Meet.one c.in_ok-other-in-Meet.other zones c.in_ok-one-in-Meet.ensures
    c.in_ok-other-in-Meet.ensures held)
    c.meet.ensures

pub returns-in_ok-turns-in-Star : goal.returns-in_ok-turns-in-Star
returns-in_ok-turns-in-Star g t c =
    let rest = g.A.Atoms.rest c.args.atoms.now in
    let step = tree_of c.deref-in-Star.result.now in
    let tree : tree_of c.args.expr.now ≡ repetition step =
    rw c.deref-in-Star.ensures (ap tree_of c.in-Star.is) in
    begun_of_form c.with_end.result c.args.longest rest tree _
    (λ zones held. with_end rest c.end-in-Star.result c.end-in-Star.ensures.end c.args.longest
    (Composed (MatchesRest (repetition step) rest) (BegunRest step rest))
    c.in_ok-turns-in-Star.turns zones
    (c.in_ok-turns-in-Star.ensures (repetition step) step rest
    (rw tree at c.in_ok-first-in-Star.ensures) c.begun_of-last-in-Star.ensures) held)
    c.with_end.ensures

pub returns-in_ok-all-in-Within : goal.returns-in_ok-all-in-Within
returns-in_ok-all-in-Within g t c =
    let rest = g.A.Atoms.rest c.args.atoms.now in
    let all = tree_of c.deref-in-Within.result.now in
    let tree : tree_of c.args.expr.now ≡ restriction all c.in-Within.interval =
    rw c.deref-in-Within.ensures (ap tree_of c.in-Within.is) in
    begun_of_form c.into_within.result c.args.longest rest tree _
    (λ zones held. cut_exact c.up_to.result c.args.longest c.in-Within.interval
    c.below_high-below.result (BegunRest all rest) c.in_ok-all-in-Within.all zones
    c.below_high-below.ensures c.up_to.ensures.same c.in_ok-all-in-Within.ensures held)
    c.into_within.ensures
