use Rattle.std.proofs.Common.{refl, sym, ap, ◌∙◌}
use Rattle.std.proofs.lemmas.List.{take_rest}
use Rattle.tre_define.specs.Named.{range_in}
use Rattle.tre_define.proofs.Ranges.{only-at}
use Rattle.tre_define.proofs.named.split_range.Goals as goal

pub returns-in-Some : goal.returns-in-Some
returns-in-Some c =
    let name = c.args.name.now in
    let place = c.range_place-place.result in
    let here = ap range_in (sym (take_rest name place)) ∙ sym c.in-Some.ensures in
    rw (only-at name place c.range_place-place.ensures.only, here) refl

pub returns-in-None : goal.returns-in-None
returns-in-None c =
    let name = c.args.name.now in
    let place = c.range_place-place.result in
    let here = ap range_in (sym (take_rest name place)) ∙ sym c.in-None.ensures in
    rw (only-at name place c.range_place-place.ensures.only, here, c.counted.ensures) refl
