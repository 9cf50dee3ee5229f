use Rattle.std.proofs.Common.{◌∙◌}
use Rattle.tre_parse.specs.Scan.{vocabulary_in}
use Rattle.tre_parse.specs.Answers.{text_tokens_in}
use Rattle.tre_parse.proofs.Judging.{is_whole, none_empty, is_buildable, expr_is, expr_some, pattern_some, spelt_outcome}
use Rattle.tre_parse.proofs.parser.build.Goals as goal

pub unreachable-requires : goal.unreachable-requires
unreachable-requires c =
    let of = c.requires.text in
    let scale = of.scale in
    let text = of.text in
    let read = of.read in
    let r = of.tokens in
    let scan = c.args.scan in
    let whole = c.args.whole in
    let tokens = text_tokens_in scan in
    let below = c.requires.small scale text read r in
    let w = is_whole scale text read tokens r whole c.requires.whole in
    let none = none_empty scale text read tokens r whole below c.requires.unkept
    c.requires.judged.kept in
    let b = is_buildable scale text read tokens r whole below w none c.requires.judged.named
    c.requires.judged.small c.requires.numbered in
    expr_some (vocabulary_in scan) whole w.tree c.into_tree.result b
    c.into_tree.ensures c.requires.judged.small c.in_default.is

pub unreachable-requires-in_default-new : goal.unreachable-requires-in_default-new
unreachable-requires-in_default-new c =
    let of = c.requires.text in
    let scale = of.scale in
    let text = of.text in
    let read = of.read in
    let r = of.tokens in
    let scan = c.args.scan in
    let whole = c.args.whole in
    let tokens = text_tokens_in scan in
    let below = c.requires.small scale text read r in
    let w = is_whole scale text read tokens r whole c.requires.whole in
    let none = none_empty scale text read tokens r whole below c.requires.unkept
    c.requires.judged.kept in
    let b = is_buildable scale text read tokens r whole below w none c.requires.judged.named
    c.requires.judged.small c.requires.numbered in
    let e = expr_is (vocabulary_in scan) whole w.tree c.into_tree.result
    c.in-Some.expr b c.into_tree.ensures c.in-Some.is in
    let never = c.in_default-new.ensures.some.1
    (pattern_some (vocabulary_in scan) whole w.tree c.in-Some.expr b e) in
    (cc)

pub returns : goal.returns
returns c = λ scale text read r.
    let scan = c.args.scan in
    let whole = c.args.whole in
    let tokens = text_tokens_in scan in
    let below = c.requires.small scale text read r in
    let w = is_whole scale text read tokens r whole c.requires.whole in
    let none = none_empty scale text read tokens r whole below c.requires.unkept
    c.requires.judged.kept in
    let b = is_buildable scale text read tokens r whole below w none c.requires.judged.named
    c.requires.judged.small c.requires.numbered in
    let e = expr_is (vocabulary_in scan) whole w.tree c.into_tree.result
    c.in-Some.expr b c.into_tree.ensures c.in-Some.is in
    spelt_outcome scale text read tokens r whole _ _ below w none c.requires.judged.named
    c.requires.judged.small (c.in-Some-new.ensures.tree ∙ e) c.in-Some-new.ensures.names
