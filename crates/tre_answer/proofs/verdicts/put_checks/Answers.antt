use Rattle.std.proofs.Common.{◌∙◌, ◌+◌, ◌++◌, List, ℕ, flat_map, take, drop, ap, sym, arith}
use Rattle.std.proofs.lemmas.List.{take_all}
use Rattle.std.proofs.lemmas.Result.{err_from_is_err_and}
use Rattle.tre_answer.specs.Findings.{finding_text}
use Rattle.tre_answer.specs.Printing.{finding_of}
use Rattle.tre_answer.specs.declared.checks.Checked.{Checked}
use Rattle.tre_answer.proofs.Named.{flat_map-map, texts_around}
use Rattle.tre_answer.proofs.TextPieces.{EndsPutting-cut}
use Rattle.tre_answer.proofs.verdicts.put_checks.Goals as goal

pub returns-in_err-put_check : goal.returns-in_err-put_check
returns-in_err-put_check g c =
    let p = err_from_is_err_and c.from_residual.result c.from_residual.ensures.1 in
    let checks = c.args.checks.now in
    let place = c.loop-place.place in
    let text = λ (checked : Checked). finding_text c.args.scale (finding_of checked) in
    rw (p.1, p.2) (EndsPutting-cut _ _ _ _ _ c.loop-place.invariant _ _
    (flat_map-map (finding_text c.args.scale) finding_of checks
    ∙ texts_around text checks place c.index-checks-place.result
    (omega (arith, c.loop-place-test.true))
    ∙ ap (λ (checked : Checked). flat_map text (take place checks)
    ++ (text checked ++ flat_map text (drop (place + 1) checks))) (sym c.index-checks-place.is)) _
    c.in_err-put_check.ensures)

pub returns : goal.returns
returns g c = rw (flat_map-map (finding_text c.args.scale) finding_of c.args.checks.now)
    (rw (take_all c.loop-place.place c.args.checks.now (omega (arith, c.loop-place-test.false))) at
    c.loop-place.invariant)
