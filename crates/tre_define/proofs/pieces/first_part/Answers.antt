use Rattle.std.proofs.Common.{◌+◌, subst, sym, arith, rules}
use Rattle.std.specs.Str.{IsUtf8}
use Rattle.std.proofs.lemmas.List.{take_rest}
use Rattle.std.proofs.lemmas.Str.{IsCharBoundary-after_ascii, IsCharBoundary-before_ascii, IsUtf8-drop, IsUtf8-take}
use Rattle.tre_define.specs.Texts.{is_semicolon}
use Rattle.tre_define.proofs.Defining.{last-part, next-part}
use Rattle.tre_define.proofs.pieces.first_part.Goals as goal

pub returns-then-byte-eq59-clause-parts : goal.returns-then-byte-eq59-clause-parts
returns-then-byte-eq59-clause-parts c =
    search (rules, next-part, is_semicolon, take_rest, c.args.bytes.now, c.loop-place.place)

pub returns-clause-parts : goal.returns-clause-parts
returns-clause-parts c =
    last-part c.args.bytes.now
    (λ k below. c.loop-place.invariant k (omega (arith, below, c.loop-place-test.false)))

pub returns-then-byte-eq59-clause-text : goal.returns-then-byte-eq59-clause-text
returns-then-byte-eq59-clause-text c text =
    search (rules, IsUtf8-take, IsCharBoundary-before_ascii, c.args.bytes.now, c.loop-place.place)

pub returns-then-byte-eq59-clause-rest_text : goal.returns-then-byte-eq59-clause-rest_text
returns-then-byte-eq59-clause-rest_text c text =
    let bytes = c.args.bytes.now in
    let place = c.loop-place.place in
    subst IsUtf8 (sym (take_rest bytes (place + 1)))
    (IsUtf8-drop bytes (place + 1) text (IsCharBoundary-after_ascii bytes place text
    c.loop-place-test.true (omega (arith, c.if-byte-eq59.true))))
