use Rattle.std.proofs.Common.{◌≡◌, ◌∙◌, sym, arith}
use Rattle.std.proofs.lemmas.List.{length-take-le}
use Rattle.tre_trace.specs.Words.{AreWordsOf, words_at}
use Rattle.tre_trace.proofs.Words.{blank_plane, enough_of, plane_of}
use Rattle.tre_trace.proofs.planes.Planes.plane.Goals as goal

pub slice_bounds-result-end : goal.slice_bounds-result-end
slice_bounds-result-end c =
    let some = c.requires.beside.1 in
    sym (length-take-le c.div_ceil-words.result c.words.result.now
    (rw c.words.ensures
    (omega (arith, c.div_ceil-words.ensures, some.same, some.beside.blank_enough))))

pub slice_bounds-result-end-2 : goal.slice_bounds-result-end-2
slice_bounds-result-end-2 c =
    let some = c.requires.beside.1 in
    let is : c.words_of-own.result.now ≡ words_at c.args.self.now.own.items c.args.number =
    rw (c.deref.ensures.value, c.from.ensures) at c.words_of-own.ensures in
    let enough = enough_of c.args.number some.segments c.words_of-own.result.now
    (rw is (some.beside.own c.args.number c.requires.number))
    (sym c.is_empty.ensures ∙ c.if-is_empty.false) in
    sym (length-take-le c.div_ceil-words.result c.words_of-own.result.now
    (omega (arith, c.div_ceil-words.ensures, some.same, enough)))

pub returns-then-is_empty : goal.returns-then-is_empty
returns-then-is_empty c = λ segments same beside.
    let is : c.words_of-own.result.now ≡ words_at c.args.self.now.own.items c.args.number =
    rw (c.deref.ensures.value, c.from.ensures) at c.words_of-own.ensures in
    blank_plane c.args.number c.div_ceil-words.result segments c.words_of-own.result.now
    c.words.result.now
    (omega (arith, c.div_ceil-words.ensures, same))
    (rw is (beside.own c.args.number c.requires.number))
    (sym c.is_empty.ensures ∙ c.if-is_empty.true)
    (rw c.words.ensures beside.blank_enough) (rw c.words.ensures beside.blank_bits)

pub returns : goal.returns
returns c = λ segments same beside.
    let is : c.words_of-own.result.now ≡ words_at c.args.self.now.own.items c.args.number =
    rw (c.deref.ensures.value, c.from.ensures) at c.words_of-own.ensures in
    let are : AreWordsOf c.args.number segments c.words_of-own.result.now =
    rw is (beside.own c.args.number c.requires.number) in
    plane_of c.args.number c.div_ceil-words.result segments c.words_of-own.result.now
    (omega (arith, c.div_ceil-words.ensures, same))
    (enough_of c.args.number segments c.words_of-own.result.now are
    (sym c.is_empty.ensures ∙ c.if-is_empty.false)) are.bits
