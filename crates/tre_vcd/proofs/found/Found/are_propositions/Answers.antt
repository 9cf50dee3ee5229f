use Rattle.std.proofs.Common.{◌≡◌, ◌&&◌, Bool, false, map, true, sym, ap, ap₂, ◌∙◌}
use Rattle.std.specs.List.{list_all}
use Rattle.tre_vcd.proofs.Offering.{signals-declared}
use Rattle.tre_vcd.proofs.found.Found.are_propositions.Goals as goal

abbrev are : Bool → Bool
are flag = flag

pub returns-then-are_set : goal.returns-then-are_set
returns-then-are_set c = λ all past knows offers.
    let found = c.args.self.now in
    let needed = found.needed.value in
    let first : (list_all are found.names.items && list_all are found.tests.items) ≡ true =
    ap₂ (λ a b. list_all are a && list_all are b) (sym c.deref.ensures.value)
    (sym c.deref-2.ensures.value) ∙ sym c.are_set.ensures ∙ c.if-are_set.true in
    c.all_set.ensures ∙ ap (list_all are) c.deref-then-are_set.ensures.value
    ∙ ap (λ b. b && list_all are found.others.items) (sym first)
    ∙ signals-declared all past (map (λ name. name.items) needed.names.keys) needed.tests.items
    found.names.items found.tests.items found.others.items offers.names knows.names offers.tests
    offers.others

pub returns-else-are_set : goal.returns-else-are_set
returns-else-are_set c = λ all past knows offers.
    let found = c.args.self.now in
    let needed = found.needed.value in
    let first : (list_all are found.names.items && list_all are found.tests.items) ≡ false =
    ap₂ (λ a b. list_all are a && list_all are b) (sym c.deref.ensures.value)
    (sym c.deref-2.ensures.value) ∙ sym c.are_set.ensures ∙ c.if-are_set.false in
    c.if-are_set.false ∙ ap (λ b. b && list_all are found.others.items) (sym first)
    ∙ signals-declared all past (map (λ name. name.items) needed.names.keys) needed.tests.items
    found.names.items found.tests.items found.others.items offers.names knows.names offers.tests
    offers.others
