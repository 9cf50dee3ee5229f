use Rattle.std.proofs.Common.{◌+◌, ◌≤◌, [], ◌++◌, inl, inr, refl, sym, ap, subst, arith, rules}
use Rattle.tre_parts.specs.Bytes.{between}
use Rattle.tre_parts.specs.Walk.{AddsPart}
use Rattle.tre_parts.proofs.Cuts.{inside-between}
use Rattle.tre_parts.proofs.Skimming.{skims-none, skims-part, skims-kept}
use Rattle.tre_text.specs.Lines.{Knows}
use Rattle.tre_text.specs.Plain.{asked_of}
use Rattle.tre_text.specs.TextReading.{fields_among, line_says}
use Rattle.tre_text.specs.Words.{stops_name}
use Rattle.tre_text.specs.declared.open_line.OpenLine.{OpenLine}
use Rattle.tre_text.proofs.Entries.{says-fields}
use Rattle.tre_text.proofs.Plains.{word-whole, front-none, open-blank, open-ends, between-same}
use Rattle.tre_text.proofs.skim.skim_lines.Goals as goal

pub loop-place-init : goal.loop-place-init
loop-place-init c =
    search (rules, skims-none, c.args.names.now, c.args.bytes.now, c.args.segments.now.items)

pub add-requires-clause-whole : goal.add-requires-clause-whole
add-requires-clause-whole c =
    let next = c.in-Some.ensures.next in
    word-whole _ (inside-between stops_name c.args.bytes.now c.loop-place.start c.in-Some.place
    next.within next.none)

pub loop-place-preserved-in-Blank : goal.loop-place-preserved-in-Blank
loop-place-preserved-in-Blank c =
    let before = c.loop-place.invariant in
    let next = c.in-Some.ensures.next in
    let bytes = c.args.bytes.now in
    let start = c.loop-place.start in
    let place = c.in-Some.place in
    let open_is = before.open_is in
    record {
      skims = before.skims;
      open_is = record {
        fields = open_is.fields ++ fields_among (between bytes start place);
        front_is = open-blank bytes c.loop-place.done.bytes start place open_is.fields
            before.behind next.behind next.within open_is.front_is
            (inside-between stops_name bytes start place next.within next.none)
            c.in-Blank.ensures;
        opened = c.add.ensures open_is.fields open_is.opened c.if-not-add.false;
      };
      marks = c.in-Some.ensures.marks;
      few = before.few;
      behind = omega (arith, before.behind, next.behind);
    }

pub returns-then-not-end-clause-skims : goal.returns-then-not-end-clause-skims
returns-then-not-end-clause-skims c = λ events past knows.
    let before = c.loop-place.invariant in
    let open_is = before.open_is in
    let skims = before.skims events past knows in
    let kept = c.if-not-end.ensures c.args.names.now events (open_is.fields ++ fields_among
    (between c.args.bytes.now c.loop-place.start c.in-Some.place)) c.args.scale skims.now
    c.requires.distinct skims.is_held
    (c.add.ensures open_is.fields open_is.opened c.if-not-add.false) in
    skims-kept skims kept.0 kept.1

pub loop-place-preserved : goal.loop-place-preserved
loop-place-preserved c =
    let before = c.loop-place.invariant in
    let next = c.in-Some.ensures.next in
    let names = c.args.names.now in
    let scale = c.args.scale in
    let bytes = c.args.bytes.now in
    let from = c.loop-place.done.bytes in
    let start = c.loop-place.start in
    let place = c.in-Some.place in
    let end = c.in-End.end in
    let ends = c.in-End.ensures in
    let old = c.loop-place.segments.items in
    let new = c.end.new.segments.items in
    let part = between bytes from end in
    let open_is = before.open_is in
    let fields = open_is.fields ++ fields_among (between bytes start place) in
    let behind : from ≤ end = elim ends.1.1 [
      | inl same ↦ omega (arith, same, before.behind, next.behind)
      | inr later ↦ omega (arith, later.1, before.behind, next.behind)
    ] in
    let at = c.with_part-done.ensures.is before.few behind in
    let whole = open-ends bytes from start place end open_is.fields before.behind next.behind
    next.within open_is.front_is
    (inside-between stops_name bytes start place next.within next.none) ends in
    record {
      skims = λ events past knows.
          let skims = before.skims events past knows in
          let asked = asked_of names events in
          let adds = c.if-not-end.ensures names events fields scale skims.now c.requires.distinct
          skims.is_held (c.add.ensures open_is.fields open_is.opened c.if-not-add.false) in
          let added : AddsPart asked (line_says scale skims.now part)
          (Knows events c.end.new.known) old new =
          subst (λ said. AddsPart asked said (Knows events c.end.new.known) old new)
          (sym (says-fields scale skims.now part fields whole.are)) adds in
          rw at (skims-part skims end behind ends.1.0 c.requires.short whole.unbroken ends.0
          added.goes_on added.added);
      open_is = record {
        fields = [];
        front_is = rw (at, between-same bytes (end + 1)) front-none;
        opened = inl (record {
          none = refl;
          len = ap (λ (line : OpenLine). line.len) c.new-line-in-End.ensures;
          val = ap (λ (line : OpenLine). line.val) c.new-line-in-End.ensures;
        });
      };
      marks = c.goes_on.ensures c.if-not-goes_on.false;
      few = rw at (omega (arith, before.few, behind));
      behind = rw at (omega arith);
    }
