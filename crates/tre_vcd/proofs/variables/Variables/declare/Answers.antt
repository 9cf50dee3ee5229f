use Rattle.std.proofs.Common.{◌≡◌, ◌<◌, [], get_or, length, ap, sym, ◌∙◌, subst, arith, Some}
use Rattle.std.specs.Str.{bytes_eq}
use Rattle.std.specs.Option.{option_or}
use Rattle.tre_state.specs.Sieve.{MayBe}
use Rattle.tre_vcd.specs.Kept.{KeepsNames, identifier_kept}
use Rattle.tre_vcd.proofs.Knowing.{known-other, known-set}
use Rattle.tre_vcd.proofs.Naming.{named-at, named-none}
use Rattle.tre_vcd.proofs.Valuing.{sieve-set}
use Rattle.tre_vcd.proofs.variables.Variables.declare.Goals as goal

pub returns-in_ok-declare : goal.returns-in_ok-declare
returns-in_ok-declare c = λ identified keeps.
    let names = c.args.names.now in
    let identifier = c.args.identifier.now in
    let bytes = c.args.name.now in
    let kept = c.fill.new.self in
    let filled : KeepsNames identified names kept = c.in_ok-fill.ensures.known identified keeps in
    let len : length kept.list.items ≡ length names = c.in_ok-fill.ensures.len identified keeps in
    let place = c.in-Some.place in
    let named = named-at names bytes place c.in-Some.ensures.list.distinct c.in-Some.ensures.place in
    let number = c.from-number.result in
    let at : number ≡ place = c.from-number.ensures in
    let old = c.index_mut.result.now in
    let below : number < length kept.list.items = omega (arith, at, len, named.within) in
    let made : identifier_kept c.declare.new.self
    ≡ option_or (identifier_kept (get_or kept.list.items number old)) (Some identifier) =
    c.in_ok-declare.ensures
    ∙ ap (λ variable. option_or (identifier_kept variable) (Some identifier))
    c.index_mut.ensures.value in
    record {
      known =
          known-set identified bytes identifier names kept.list.items number old
          c.declare.new.self below
          (ap (λ k. bytes_eq (get_or names k []) bytes) at ∙ named.found)
          (λ k within apart. named.alone k within (λ e. apart (e ∙ sym at))) made filled.known;
      sieve =
          sieve-set kept.list.items number old c.declare.new.self identifier kept.sieve
          c.add.new.self below made filled.sieve
          (subst (λ k. MayBe c.add.new.self identifier k) (sym at) c.add.ensures.added)
          c.add.ensures.kept;
    }

pub returns-in_default : goal.returns-in_default
returns-in_default c = λ identified keeps.
    let filled = c.in_ok-fill.ensures.known identified keeps in
    record {
      known =
          known-other identified c.args.name.now c.args.identifier.now c.args.names.now
          c.fill.new.self.list.items
          (named-none c.args.names.now c.args.name.now c.in_default.ensures.place) filled.known;
      sieve = filled.sieve;
    }
