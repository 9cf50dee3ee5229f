use Rattle.std.proofs.Common.{◌≡◌, refl, sym, subst, string_bytes}
use Rattle.tre_state.specs.Names.{IsNameList}
use Rattle.tre_syntax.specs.Pattern.{pattern_tree, names_of}
use Rattle.tre_show.specs.PatternText.{expression_text}
use Rattle.tre_show.specs.Intervals.{HasIntervals}
use Rattle.tre_show.proofs.Outcomes.{IsTextOf, text_of_tree}
use Rattle.tre_show.proofs.Written.{WritesNumbers}
use Rattle.tre_show.proofs.pattern.pattern_text.Goals as goal

pub returns : goal.returns
returns c =
    let scale = c.args.scale in
    let tree = pattern_tree c.args.pattern.now in
    let names = names_of c.args.pattern.now in
    let text : string_bytes c.push_operand.new.text ≡ expression_text scale names tree =
    rw (c.in_ok-push_operand.ensures.text, c.new-text.ensures.bytes, c.expr.ensures.tree) refl in
    let writes : WritesNumbers scale = record {
      read_back = c.written_is_read.ensures scale;
      digits = c.last_digits_are_digits.ensures.digits scale;
      count = c.last_digits_are_digits.ensures.count scale;
      begins = c.begins_with_a_digit.ensures scale;
    } in
    let read = text_of_tree scale writes names tree
    (subst IsNameList c.names.ensures.names c.len-names.ensures.list)
    (subst IsNameList c.events.ensures.events c.len-events.ensures.list) c.expr.ensures.pattern
    (subst HasIntervals c.expr.ensures.tree c.in_ok-push_operand.ensures.intervals) in
    let is = subst (λ bytes. IsTextOf scale bytes tree names) (sym text) read in
    record { text = text; spelling = is.spelling; outcome = is.outcome }
