use Rattle.std.proofs.Common.{rules, ◌≡◌, w64, true, None, subst, sym, ap, ◌∙◌}
use Rattle.std.specs.Result.{is_ok}
use Rattle.std.proofs.lemmas.Int.{to_z-of_z}
use mir.Val.{of_z, to_z}
use Rattle.tre_num.specs.Definitions.{Spells}
use Rattle.tre_num.specs.Rows.{definition_of}
use Rattle.tre_define.proofs.Defining.{none-mapped}
use Rattle.tre_num.proofs.definitions.add_definition.Goals as goal

pub returns-clause-added : goal.returns-clause-added
returns-clause-added c =
    let good : is_ok c.push.result ≡ true = search rules in
    let items = rw good at c.push.ensures.items in
    let same = rw (c.in_ok-name.ensures.ok, c.in_ok-column.ensures.ok) at c.new-definition.ensures
    in
    let value = c.in-Some.parts.value in
    let kept : to_z w64 (of_z w64 value) ≡ value = to_z-of_z w64 value (search rules) in
    let spelt = subst (λ number. Spells c.args.part.now (record {
      name = c.in-Some.parts.name.now;
      column = c.in-Some.parts.column.now;
      comparison = c.in-Some.parts.comparison;
      value = number;
    })) (sym kept) c.in-Some.ensures.some in
    let definitions = c.args.definitions.now.items in
    let name = c.in-Some.parts.name.now in
    let fresh : definition_of definitions name ≡ None =
    ap (λ all. definition_of all name) (sym c.deref.ensures.value)
    ∙ sym c.definition_of.ensures
    ∙ none-mapped (λ found. found.now) c.definition_of.result
    (sym c.is_some.ensures ∙ c.if-is_some.false) in (
      c.new-definition.result,
      items,
      subst (λ defined. Spells c.args.part.now defined) (sym same) spelt,
      ap (λ defined. definition_of definitions defined.name) same ∙ fresh,
    )
