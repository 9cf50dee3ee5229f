use Rattle.std.proofs.Common.{◌≡◌, ◌<◌, length, get_or, true, sym, ◌∙◌, arith}
use Rattle.std.proofs.lemmas.Bool.Decides.{nat_tests}
use Rattle.tre_state.specs.Name.{starts_name}
use Rattle.tre_text.proofs.Words.{word_alone, word_to_stop, word_whole}
use Rattle.tre_text.proofs.word.word_end.Goals as goal

pub returns-then-len-eq1 : goal.returns-then-len-eq1
returns-then-len-eq1 c =
    word_alone c.args.rest.now c.if-len-eq1.true
    (sym c.starts_name.ensures ∙ c.if-not-starts_name.false)

pub returns-in-Some : goal.returns-in-Some
returns-in-Some c =
    let rest = c.args.rest.now in
    let some : 0 < length rest = grind (arith, nat_tests) in
    let starts : starts_name (get_or rest 0 0) ≡ true =
    sym c.starts_name.ensures ∙ c.if-not-starts_name.false in
    word_to_stop c.args.line.now rest c.in-Some.end c.requires (c.type_inv.rest 0).fits some starts
    c.in-Some.ensures.first

pub returns-in-None : goal.returns-in-None
returns-in-None c =
    let rest = c.args.rest.now in
    let some : 0 < length rest = grind (arith, nat_tests) in
    let starts : starts_name (get_or rest 0 0) ≡ true =
    sym c.starts_name.ensures ∙ c.if-not-starts_name.false in
    word_whole c.args.line.now rest c.requires (c.type_inv.rest 0).fits some starts
    c.in-None.ensures.none
