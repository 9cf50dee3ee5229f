use Rattle.std.specs.Char.{is_newline}
use Rattle.tre_text.proofs.Fields.{ends-in_front}
use Rattle.tre_text.proofs.line_end.near_line_end.Goals as goal

pub returns-in-Some : goal.returns-in-Some
returns-in-Some c = ends-in_front is_newline _ _ _ c.requires c.in-Some.ensures.first
