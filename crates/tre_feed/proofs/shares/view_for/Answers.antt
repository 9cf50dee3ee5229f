use Rattle.std.proofs.Common.{◌≡◌, ◌∙◌, length, ap, arith}
use Rattle.std.proofs.lemmas.List.{with_items_is}
use Rattle.tre_syntax.specs.Pattern.{names_of}
use Rattle.tre_feed.proofs.Sharing.{Keep-begun, few-begun}
use Rattle.tre_feed.proofs.shares.view_for.Goals as goal

pub returns-in-None-clause-keep : goal.returns-in-None-clause-keep
returns-in-None-clause-keep c =
    let groups = c.args.groups.now in
    let mid = c.view_among.new.groups in
    let same : length mid ≡ groups.len =
    omega (arith, c.view_among.auto.groups, c.deref_mut.ensures.len) in
    Keep-begun c.view_alone.result groups.items mid _ _ (names_of c.args.pattern.now)
    (rw c.deref_mut.ensures.value at c.view_among.ensures.keep) (with_items_is groups mid same)
    c.view_alone.ensures.groups

pub returns-in-None-clause-count : goal.returns-in-None-clause-count
returns-in-None-clause-count c =
    let groups = c.args.groups.now in
    let mid = c.view_among.new.groups in
    let same : length mid ≡ groups.len =
    omega (arith, c.view_among.auto.groups, c.deref_mut.ensures.len) in
    few-begun c.view_alone.result _ _ (names_of c.args.pattern.now) _
    (ap length (with_items_is groups mid same) ∙ same ∙ groups.ok.0) c.view_alone.ensures.groups

pub returns-in-Some-clause-view : goal.returns-in-Some-clause-view
returns-in-Some-clause-view c =
    let groups = c.args.groups.now in
    let mid = c.view_among.new.groups in
    let same : length mid ≡ groups.len =
    omega (arith, c.view_among.auto.groups, c.deref_mut.ensures.len) in
    rw (with_items_is groups mid same) (rw c.in-Some.is at c.in_ok-view.ensures.view)

pub returns-in-Some-clause-keep : goal.returns-in-Some-clause-keep
returns-in-Some-clause-keep c =
    let groups = c.args.groups.now in
    let mid = c.view_among.new.groups in
    let same : length mid ≡ groups.len =
    omega (arith, c.view_among.auto.groups, c.deref_mut.ensures.len) in
    rw (with_items_is groups mid same) (rw c.deref_mut.ensures.value at c.view_among.ensures.keep)

pub returns-in-Some-clause-count : goal.returns-in-Some-clause-count
returns-in-Some-clause-count c =
    let groups = c.args.groups.now in
    let mid = c.view_among.new.groups in
    let same : length mid ≡ groups.len =
    omega (arith, c.view_among.auto.groups, c.deref_mut.ensures.len) in
    omega (arith, ap length (with_items_is groups mid same), same, groups.ok.0)
