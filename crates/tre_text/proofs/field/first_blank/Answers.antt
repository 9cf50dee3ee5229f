use Rattle.std.proofs.Common.{length, sym, ◌∙◌, arith}
use Rattle.std.proofs.lemmas.List.Sums.{position_or_len_is}
use Rattle.tre_text.specs.TextReading.{is_blank}
use Rattle.tre_text.proofs.field.first_blank.Goals as goal

pub returns-then-is_blank-clause-place : goal.returns-then-is_blank-clause-place
returns-then-is_blank-clause-place c =
    sym (position_or_len_is is_blank c.args.bytes.now c.loop-place.place 0 (omega arith)
    c.loop-place.invariant
    (λ _. sym c.is_blank.ensures ∙ c.if-is_blank.true))

pub returns-clause-place : goal.returns-clause-place
returns-clause-place c =
    let bytes = c.args.bytes.now in
    sym (position_or_len_is is_blank bytes (length bytes) 0 (omega arith)
    (λ k below. c.loop-place.invariant k (omega (arith, below, c.loop-place-test.false)))
    (λ past. absurd (omega (arith, past))))
