use Rattle.std.proofs.Common.{Bool, Some, map, sym, ap, ◌∙◌, arith}
use Rattle.std.specs.Option.{is_some}
use Rattle.std.proofs.lemmas.List.{with_items_is}
use Rattle.tre_define.specs.Signals.{SignalDefined}
use Rattle.tre_vcd.specs.Offers.{has_first, has_other}
use Rattle.tre_vcd.specs.Signals.{offer_kept, part_read}
use Rattle.tre_vcd.specs.declared.needed.Needed.{Needed}
use Rattle.tre_vcd.proofs.Offering.{others-flagged, parts-flagged, tests-flagged}
use Rattle.tre_vcd.proofs.found.Found.declare_offered.Goals as goal

pub returns-clause-offers : goal.returns-clause-offers
returns-clause-offers c = λ all past tokens offered knows.
    let found = c.args.self.now in
    let offer = offer_kept c.args.offered.now in
    let watched : SignalDefined → Bool = λ one. is_some (part_read past (Some one)) in
    let tests = c.deref-2.ensures.value ∙ ap (λ (n : Needed). n.tests.items) c.deref.ensures in
    let again = c.deref-4.ensures.value ∙ ap (λ (n : Needed). n.tests.items) c.deref-3.ensures in
    let changes = c.deref-6.ensures.value ∙ ap (λ (n : Needed). n.changes.items) c.deref-5.ensures in
    let first = c.flag_tests.ensures (has_first past)
    (c.deref_mut.ensures.value ∙ knows.tests ∙ ap (map (has_first past)) (sym tests)) in
    let second = c.flag_others.ensures (has_other past)
    (c.deref_mut-2.ensures.value ∙ knows.others ∙ ap (map (has_other past)) (sym again)) in
    let third = c.flag_changes.ensures watched
    (c.deref_mut-3.ensures.value ∙ knows.changes ∙ ap (map watched) (sym changes)) in
    record {
      same = knows.same;
      tests =
          with_items_is found.tests c.flag_tests.new.flags
          (omega (arith, c.flag_tests.auto.flags, c.deref_mut.ensures.len))
          ∙ tests-flagged past tokens offer _ c.flag_tests.new.flags offered first
          ∙ ap (map _) tests;
      others =
          with_items_is found.others c.flag_others.new.flags
          (omega (arith, c.flag_others.auto.flags, c.deref_mut-2.ensures.len))
          ∙ others-flagged past tokens offer _ c.flag_others.new.flags offered second
          ∙ ap (map _) again;
      changes =
          with_items_is found.changes c.flag_changes.new.flags
          (omega (arith, c.flag_changes.auto.flags, c.deref_mut-3.ensures.len))
          ∙ parts-flagged past tokens offer _ c.flag_changes.new.flags offered third
          ∙ ap (map _) changes;
      names = knows.names;
      events = knows.events;
    }
