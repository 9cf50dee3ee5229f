use Rattle.std.proofs.Common.{◌+◌, ◌<◌, length, map, ℕ, sym, subst, arith}
use Rattle.std.proofs.lemmas.List.{length-map}
use Rattle.std.proofs.lemmas.Result.{IfOk-weaker}
use Rattle.tre_lanes.specs.Rows.{HasNone}
use Rattle.tre_zone.specs.Zone.{row_of}
use Rattle.tre_zoneset.proofs.Searching.{HoldsFirst-rest, HoldsFirst-end}
use Rattle.tre_star.proofs.Behind.{gathered_to}
use Rattle.tre_star.proofs.Looking.{After, After-additive, After-key, first_gathered}
use Rattle.tre_star.proofs.composition.gather_near.Goals as goal

pub returns-then-to-from-lt-FEW_AT_ONCE-clause-held : goal.returns-then-to-from-lt-FEW_AT_ONCE-clause-held
returns-then-to-from-lt-FEW_AT_ONCE-clause-held c =
    let longest = c.args.longest in
    let zone = c.args.zone.now in
    let second = c.args.second.now in
    let to = c.find_late-to.result in
    let less : to < c.find_first-from.result + 16 =
    omega (arith, c.if-to-from-lt-FEW_AT_ONCE.true, c.find_late-to.ensures.rising) in
    HoldsFirst-rest (After longest zone) (After-additive longest zone) c.args.found.now.items second
    c.gather_each.new.found.items c.key_after-key.result
    (After-key longest zone second _ c.requires.seconds c.key_after-key.ensures.others)
    zone to
    (subst (λ (k : ℕ). HasNone (map row_of second) c.key_after-key.result to k)
    (sym (length-map second row_of)) (c.find_late-to.ensures.none less))
    (record {
      held = first_gathered c.args.longest c.args.zone.now c.args.second.now c.args.found.now.items
          c.gather_each.new.found.items c.key_after-key.result c.find_first-from.result
          c.find_late-to.result c.requires.seconds c.key_after-key.ensures.others
          c.find_first-from.ensures.before c.find_late-to.ensures.rising
          c.in_ok-gather_each.ensures;
    })

pub returns-in-Some-clause-held : goal.returns-in-Some-clause-held
returns-in-Some-clause-held c =
    IfOk-weaker c.gather_on.result _ _
    (λ _ all. all c.args.found.now.items (first_gathered c.args.longest c.args.zone.now c.args.second.now c.args.found.now.items
    c.gather_each.new.found.items c.key_after-key.result c.find_first-from.result
    c.find_late-to.result c.requires.seconds c.key_after-key.ensures.others
    c.find_first-from.ensures.before c.find_late-to.ensures.rising c.in_ok-gather_each.ensures)) c.gather_on.ensures

pub returns-in-None-clause-held : goal.returns-in-None-clause-held
returns-in-None-clause-held c =
    let longest = c.args.longest in
    let zone = c.args.zone.now in
    let second = c.args.second.now in
    let found = c.args.found.now.items in
    let next = c.gather_each-in-None.new.found.items in
    let F = After longest zone in
    let additive = After-additive longest zone in
    IfOk-weaker c.gather_each-in-None.result _ _
    (λ _ more. HoldsFirst-end F additive found second next c.key_after-key.result
    (After-key longest zone second _ c.requires.seconds c.key_after-key.ensures.others)
    (length second) (omega arith)
    (record {
      held = gathered_to F additive found second c.find_late-to.result (length second)
          c.gather_each.new.found.items next c.find_late-to.ensures.within
          (first_gathered longest zone second found c.gather_each.new.found.items
          c.key_after-key.result c.find_first-from.result c.find_late-to.result
          c.requires.seconds c.key_after-key.ensures.others c.find_first-from.ensures.before
          c.find_late-to.ensures.rising c.in_ok-gather_each.ensures)
          more;
    }))
    c.gather_each-in-None.ensures
