use Rattle.std.proofs.Common.{ap, ◌∙◌}
use Rattle.std.specs.Str.{bytes_eq}
use Rattle.tre_state.proofs.Places.{has_these, has_none}
use Rattle.tre_state.proofs.names.Names.has_bytes.Goals as goal

pub returns-in-Some : goal.returns-in-Some
returns-in-Some c =
    has_these _ c.args.bytes.now c.in-Some.name.now _ c.in-Some.ensures
    (c.eq.ensures ∙ ap (bytes_eq c.args.bytes.now) c.as_bytes.ensures.value)

pub returns-in-None : goal.returns-in-None
returns-in-None c = has_none _ c.args.bytes.now c.in-None.ensures
