use Rattle.std.proofs.Common.{◌≡◌, ◌∙◌, ℕ, zero, suc, ◌+◌, ◌<◌, List, [], ◌∷◌, drop, get_or, length, map, string_bytes, refl, ap, sym, arith}
use Rattle.std.proofs.lemmas.List.{drop-drop, get_or-map, get_or_read, length-map, map-append}
use Rattle.std.proofs.lemmas.Slice.{between_to_end}
use Rattle.tre_watch.specs.Forms.{patterns_of}
use Rattle.tre_watch.specs.declared.form.Form.{Form}
use Rattle.tre_watch.specs.declared.form.Form.TheVariants.{Plain}
use Rattle.tre_answer.specs.Findings.{Finding}
use Rattle.tre_answer.specs.Listed.{listed_zones}
use Rattle.tre_answer.specs.Printing.{finding_of}
use Rattle.tre_answer.proofs.Rulings.{patterns_behind, so_far_all, so_far_next, so_far_none, some_patterns}
use Rattle.tre_answer.proofs.checks.check_all.Goals as goal

pub loop-form-init : goal.loop-form-init
loop-form-init c = record {
  left = refl;
  so_far = rw c.new-all.ensures.items (so_far_none c.args.normal c.args.asked.now.forms.items
      (map string_bytes c.args.asked.now.labels.items) c.args.asked.now.patterns.items
      c.args.traces.items c.requires.forms);
}

other_default : {X : Type 0} (xs : List X) (i : ℕ) (d e : X) → i < length xs
    → get_or xs i d ≡ get_or xs i e
other_default [] i d e inside = absurd (omega (arith, inside))
other_default (x ∷ xs) zero d e inside = refl
other_default (x ∷ xs) (suc i) d e inside = other_default xs i d e (omega (arith, inside))

pub loop-form-preserved : goal.loop-form-preserved
loop-form-preserved c =
    let old = c.loop-form.invariant in
    let asked = c.args.asked.now in
    let forms = asked.forms.items in
    let labels = asked.labels.items in
    let traces = c.args.traces.items in
    let place = c.loop-form.place in
    let index = c.loop-form.form-index in
    let form : Form = get_or forms index Plain in
    let inside : index < length forms =
    omega (arith, c.loop-form-test.true, c.deref-form-items.ensures.len) in
    let is : form ≡ get_or forms index form = other_default forms index Plain form inside in
    let within : place < length labels = omega (
      arith,
      c.requires.labels,
      old.so_far.behind,
      patterns_behind forms index form inside is,
      some_patterns form,
    ) in
    let count : c.patterns_of.result ≡ patterns_of form =
    rw c.deref-form-items.ensures.value at c.patterns_of.ensures in
    let ruling = c.in_ok-ruling.ruling in
    let finding : Finding = record {
      name = c.deref-in-loop-form.result.now;
      verdict = ruling.verdict;
      zones = listed_zones ruling.zones;
    } in
    let label = get_or_read labels place c.index.result.now within c.index.ensures
    c.index.result.now in
    let names = get_or-map string_bytes labels place c.index.result.now finding.name within in
    let named : finding.name ≡ get_or (map string_bytes labels) place finding.name =
    cc (c.deref-in-loop-form.ensures, label, names) in
    let behind = between_to_end asked.patterns.items place (length asked.patterns.items)
    (omega arith) in
    let next = so_far_next c.args.normal forms (map string_bytes labels) asked.patterns.items traces
    (length-map labels string_bytes ∙ c.requires.labels) index place
    (map finding_of c.loop-form.all.items) form finding old.so_far inside is named
    (rw (c.deref-form-items.ensures.value, c.deref.ensures.value, old.left, behind) at
    c.in_ok-ruling.ensures.ruling) in
    record {
      left = (rw (c.deref-form-items.ensures.value, old.left) at c.in_ok-ruling.ensures.taken)
          ∙ drop-drop (patterns_of form) place traces
          ∙ ap (λ k. drop (place + k) traces) (sym count);
      so_far = rw (
        c.in_ok-push.ensures.items,
        map-append finding_of c.loop-form.all.items (c.in_ok-named.field-0 ∷ []),
        c.in_ok-named.ensures,
        count,
      ) next;
    }

pub returns : goal.returns
returns c =
    let asked = c.args.asked.now in
    so_far_all c.args.normal asked.forms.items (map string_bytes asked.labels.items)
    asked.patterns.items c.args.traces.items c.loop-form.form-index c.loop-form.place
    (map finding_of c.loop-form.all.items) c.loop-form.invariant.so_far
    (omega (arith, c.loop-form-test.false, c.deref-form-items.ensures.len))
