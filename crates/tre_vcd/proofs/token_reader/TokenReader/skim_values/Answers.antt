use Rattle.std.proofs.Common.{◌≡◌, ◌≤◌, ◌+◌, drop, refl, ap, subst, ◌∙◌, arith, rules}
use Rattle.tre_parts.specs.Bytes.{between}
use Rattle.tre_parts.specs.declared.skimmed.Skimmed.{Skimmed}
use Rattle.tre_parts.proofs.Skimming.{skims-none}
use Rattle.tre_vcd.specs.VcdReading.{vector, goes_to, value_says, vcd_format}
use Rattle.tre_vcd.specs.Sections.{Holds, asked_of_reader, terms_kept}
use Rattle.tre_vcd.proofs.Skimming.{taken-next, taken-none, vector-next}
use Rattle.tre_vcd.proofs.token_reader.TokenReader.skim_values.Goals as goal

pub loop-place-init : goal.loop-place-init
loop-place-init c = record {
  skims = λ place holds.
      skims-none (asked_of_reader c.args.self.now) (vcd_format (terms_kept c.args.self.now))
      (Holds c.args.self.now) place c.args.bytes.now c.args.segments.now.items holds;
  marks = c.of-marks.ensures;
  few = omega arith;
  among = c.requires.among;
  same_terms = refl;
  same_names = refl;
}

pub loop-place-preserved-in-Whole : goal.loop-place-preserved-in-Whole
loop-place-preserved-in-Whole c =
    search (rules, taken-next, c.loop-place.invariant, c.in-Some.ensures.next, c.args.self.now)

pub loop-place-preserved : goal.loop-place-preserved
loop-place-preserved c =
    let before = c.loop-place.invariant in
    let next = c.in-Some.ensures.next in
    let last = c.in-Some-next_from.ensures.next in
    let reader = c.args.self.now in
    let end = c.in-Some-next_from.end in
    let token = between c.args.bytes.now c.loop-place.done.bytes c.in-Some.place in
    let one = c.with_part.ensures.is before.few next.behind in
    let few : c.with_part.result.parts ≤ c.with_part.result.bytes =
    rw one (omega (arith, before.few, next.behind)) in
    let at = c.with_part-done-in-Vector.ensures.is few (rw one last.behind)
    ∙ ap (λ (done : Skimmed). record { bytes = end + 1; parts = done.parts + 1 }) one in
    record {
      skims = λ place holds.
          rw at
          (vector-next (terms_kept reader) (before.skims place holds) next last c.requires.short
          before.among (c.skim_vector.ensures.some c.if-not-skim_vector.false)
          (λ past held defined.
          let taken = c.in-Vector.ensures.taken past held defined in (
            subst (λ terms. value_says terms past token ≡ goes_to past (vector (drop 1 token)))
                before.same_terms taken.0,
            c.if-not-skim_vector.ensures.holds past taken.1 defined,
            taken.2,
          )));
      marks = rw at c.in-Some-next_from.ensures.marks;
      few = rw at (omega (arith, before.few, next.behind, last.behind));
      among = (
        c.skim_vector.ensures.stays.0 ∙ c.skim_token.ensures.stays.0 ∙ before.among.0,
        c.skim_vector.ensures.stays.1 ∙ c.skim_token.ensures.stays.1 ∙ before.among.1,
      );
      same_terms = c.skim_vector.ensures.same_terms ∙ c.skim_token.ensures.same_terms
          ∙ before.same_terms;
      same_names = c.skim_vector.ensures.same_names ∙ c.skim_token.ensures.same_names
          ∙ before.same_names;
    }

pub returns-in_default-next_from-clause-skims : goal.returns-in_default-next_from-clause-skims
returns-in_default-next_from-clause-skims c = λ place holds.
    let before = c.loop-place.invariant in
    taken-none (terms_kept c.args.self.now) (before.skims place holds) before.among
    (λ past held defined.
    let taken = c.in-Vector.ensures.taken past held defined in (taken.1, taken.2))

pub returns-then-not-skim_vector-clause-skims : goal.returns-then-not-skim_vector-clause-skims
returns-then-not-skim_vector-clause-skims c = λ place holds.
    let before = c.loop-place.invariant in
    taken-none (terms_kept c.args.self.now) (before.skims place holds) before.among
    (λ past held defined.
    let taken = c.in-Vector.ensures.taken past held defined in
    (c.if-not-skim_vector.ensures.holds past taken.1 defined, taken.2))

pub returns-in-Not-clause-skims : goal.returns-in-Not-clause-skims
returns-in-Not-clause-skims c = λ place holds.
    let before = c.loop-place.invariant in
    taken-none (terms_kept c.args.self.now) (before.skims place holds) before.among
    (λ past held defined. c.in-Not.ensures.taken past held defined)
