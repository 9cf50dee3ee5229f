use Rattle.std.proofs.Common.{◌≡◌, length, arith, bit_and, bit_or, rules}
use Rattle.std.proofs.lemmas.List.{with_items_is}
use Rattle.std.proofs.lemmas.Result.{IfOk-weaker}
use lib.Lanes.{zip2}
use Rattle.tre_edges.proofs.StateWords.{of_proposition, of_opposite, of_conjunction, of_disjunction}
use Rattle.tre_edges.proofs.truth_words.+truth.Goals as goal

pub returns-in_ok-plane-in-Prop : goal.returns-in_ok-plane-in-Prop
returns-in_ok-plane-in-Prop g t c =
    rw (c.in-Prop.is, c.in_ok-plane-in-Prop.ensures.items)
    (of_proposition (g.T.AnyTrace.timeline c.args.trace.now).segments c.in-Prop.number c.plane.result.now c.plane.ensures)

pub returns-in_ok-other-in-And : goal.returns-in_ok-other-in-And
returns-in_ok-other-in-And g t c =
    let words = c.in_ok-words-in-And.words in
    let other = c.in_ok-other-in-And.other in
    let new = c.and_into.new.a in
    let combined : new ≡ zip2 bit_and words.items other.items =
    rw (c.deref_mut.ensures.value, c.deref-in-And-3.ensures.value) at c.and_into.ensures in
    let same : length new ≡ words.len =
    omega (arith, c.and_into.auto.a, c.deref_mut.ensures.len) in
    rw (c.in-And.is, with_items_is words new same, combined)
    (of_conjunction (g.T.AnyTrace.timeline c.args.trace.now).segments _ _ words.items other.items
    (rw c.deref-in-And.ensures at c.in_ok-words-in-And.ensures)
    (rw c.deref-in-And-2.ensures at c.in_ok-other-in-And.ensures))

pub returns-in_ok-other-in-Or : goal.returns-in_ok-other-in-Or
returns-in_ok-other-in-Or g t c =
    let words = c.in_ok-words-in-Or.words in
    let other = c.in_ok-other-in-Or.other in
    let new = c.or_into.new.a in
    let combined : new ≡ zip2 bit_or words.items other.items =
    rw (c.deref_mut-in-Or.ensures.value, c.deref-in-Or-3.ensures.value) at c.or_into.ensures in
    let same : length new ≡ words.len =
    omega (arith, c.or_into.auto.a, c.deref_mut-in-Or.ensures.len) in
    rw (c.in-Or.is, with_items_is words new same, combined)
    (of_disjunction (g.T.AnyTrace.timeline c.args.trace.now).segments _ _ words.items other.items
    (rw c.deref-in-Or.ensures at c.in_ok-words-in-Or.ensures)
    (rw c.deref-in-Or-2.ensures at c.in_ok-other-in-Or.ensures))

pub returns-in-Yes : goal.returns-in-Yes
returns-in-Yes g t c =
    search (rules, IfOk-weaker, c.always.result, g.T.AnyTrace.timeline, c.count.ensures.count)

pub returns-in_ok-words-in-Not : goal.returns-in_ok-words-in-Not
returns-in_ok-words-in-Not g t c =
    IfOk-weaker c.complement.result _ _
    (λ opposite turned. rw c.in-Not.is
    (of_opposite (g.T.AnyTrace.timeline c.args.trace.now).segments _
    c.in_ok-words-in-Not.words.items opposite.items
    (rw c.deref.ensures at c.in_ok-words-in-Not.ensures)
    (rw (c.deref-in-Not.ensures.value, c.count-in-Not.ensures.count) at turned)))
    c.complement.ensures
