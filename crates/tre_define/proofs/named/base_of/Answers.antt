use Rattle.std.proofs.Common.{refl, sym, ap, ◌∙◌}
use Rattle.std.proofs.lemmas.List.{take_rest}
use Rattle.tre_define.specs.Named.{range_in}
use Rattle.tre_define.proofs.Bases.{base-front}
use Rattle.tre_define.proofs.Ranges.{only-at}
use Rattle.tre_define.proofs.named.base_of.Goals as goal

pub returns-in-Some-clause-base : goal.returns-in-Some-clause-base
returns-in-Some-clause-base c =
    let name = c.args.name.now in
    let place = c.range_place-place.result in
    let here = ap range_in (sym (take_rest name place)) ∙ sym c.in-Some.ensures in
    rw (only-at name place c.range_place-place.ensures.only, here) refl

pub returns-in-None-clause-base : goal.returns-in-None-clause-base
returns-in-None-clause-base c =
    let name = c.args.name.now in
    let place = c.range_place-place.result in
    let here = ap range_in (sym (take_rest name place)) ∙ sym c.in-None.ensures in
    rw (only-at name place c.range_place-place.ensures.only, here) refl

pub returns-in-Some-clause-front : goal.returns-in-Some-clause-front
returns-in-Some-clause-front c = λ text. base-front text c.args.name.now

pub returns-in-None-clause-front : goal.returns-in-None-clause-front
returns-in-None-clause-front c = λ text. base-front text c.args.name.now
