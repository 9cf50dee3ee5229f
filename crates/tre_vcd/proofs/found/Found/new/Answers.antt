use Rattle.std.proofs.Common.{◌≡◌, ◌∙◌, ◌||◌, ◌&&◌, not, Bool, List, [], ◌∷◌, map, true, false, refl, sym, ap, ap₂, subst, if◌then◌else◌}
use Rattle.std.proofs.lemmas.List.{length-map}
use Rattle.std.proofs.lemmas.Simd.{splat_is_map}
use Rattle.tre_define.specs.Signals.{SignalDefined}
use Rattle.tre_vcd.specs.Offers.{has_first, has_other, is_compared}
use Rattle.tre_vcd.specs.Sorted.{AreSorted}
use Rattle.tre_vcd.specs.VcdReading.{of_changes}
use Rattle.tre_vcd.specs.declared.needed.Needed.{Needed}
use Rattle.tre_vcd.proofs.found.Found.new.Goals as goal

pub returns-clause-knows : goal.returns-clause-knows
returns-clause-knows c =
    let one = c.deref.result.now.names.keys in
    let two = c.deref-2.result.now.events.keys in
    record {
      names = c.in_ok-names.ensures.0
          ∙ splat_is_map (map (λ name. name.items) one) c.len.result false
          (length-map one (λ name. name.items) ∙ sym c.len.ensures.len)
          ∙ ap (λ (needed : Needed). map (λ name. false) (map (λ name. name.items)
          needed.names.keys)) c.deref.ensures;
      events = c.in_ok-names.ensures.1
          ∙ splat_is_map (map (λ name. name.items) two) c.len-2.result false
          (length-map two (λ name. name.items) ∙ sym c.len-2.ensures.len)
          ∙ ap (λ (needed : Needed). map (λ name. false) (map (λ name. name.items)
          needed.events.keys)) c.deref-2.ensures;
    }

first-none : (own : List SignalDefined) → map (λ one. false) own ≡ map (has_first []) own
first-none [] = refl
first-none (one ∷ own) =
    ap₂ (λ x xs. x ∷ xs) (same (is_compared one)) (first-none own)
  where
    same : (test : Bool) → false ≡ (if test then false else false)
    same true = refl
    same false = refl

other-none : (own : List SignalDefined)
    → map (λ one. not (is_compared one)) own ≡ map (has_other []) own
other-none [] = refl
other-none (one ∷ own) =
    ap₂ (λ x xs. x ∷ xs) (same (is_compared one)) (other-none own)
  where
    same : (test : Bool) → not test ≡ (not test || (test && false))
    same true = refl
    same false = refl

pub returns-clause-offers : goal.returns-clause-offers
returns-clause-offers c =
    let needed = c.in_ok-needed.needed.value in
    let first = c.deref-3.ensures in
    let second = c.deref-4.ensures in
    record {
      same = refl;
      tests = c.in_ok-tests.ensures.0 ∙ splat_is_map c.defined_names.result.now _ false refl
          ∙ ap (map (λ one. false)) (c.defined_names.ensures.value
          ∙ ap (λ (n : Needed). n.tests.items) first)
          ∙ first-none needed.tests.items;
      others = c.in_ok-others.ensures ∙ ap (map (λ one. not (is_compared one)))
          (c.defined_names-2.ensures.value ∙ ap (λ (n : Needed). n.tests.items) c.deref-5.ensures)
          ∙ other-none needed.tests.items;
      changes = c.in_ok-tests.ensures.1 ∙ splat_is_map c.defined_events.result.now _ false refl
          ∙ ap (map (λ one. false)) (c.defined_events.ensures.value
          ∙ ap (λ (n : Needed). n.changes.items) second);
      names =
          subst (λ (n : Needed). AreSorted n.definitions.items
          (map (λ name. name.items) n.names.keys) n.tests.items) first
          c.defined_names.ensures.sorted;
      events =
          subst (λ (n : Needed). AreSorted (of_changes n.definitions.items)
          (map (λ name. name.items) n.events.keys) n.changes.items) second
          c.defined_events.ensures.sorted;
    }
