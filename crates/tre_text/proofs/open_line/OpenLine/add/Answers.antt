use Rattle.std.proofs.Common.{sym, ◌∙◌}
use Rattle.tre_text.proofs.Plains.{word-one}
use Rattle.tre_text.proofs.open_line.OpenLine.add.Goals as goal

pub returns-then-self-gt0 : goal.returns-then-self-gt0
returns-then-self-gt0 c = λ fields opened yes.
    rw (word-one c.args.word.now (sym c.is_empty.ensures ∙ c.if-is_empty.false) c.requires.whole)
    (c.add_name.ensures fields c.args.scale c.args.known.end opened yes)

pub returns : goal.returns
returns c = λ fields opened yes.
    rw (word-one c.args.word.now (sym c.is_empty.ensures ∙ c.if-is_empty.false) c.requires.whole)
    (c.add_length.ensures c.args.names.now fields opened yes)
