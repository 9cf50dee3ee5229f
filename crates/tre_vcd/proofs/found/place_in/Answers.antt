use Rattle.std.proofs.Common.{◌∙◌, sym}
use Rattle.std.specs.Str.{bytes_eq}
use Rattle.tre_state.proofs.Places.{position-map}
use Rattle.tre_vcd.proofs.Gathering.{keys-differ}
use Rattle.tre_vcd.proofs.found.place_in.Goals as goal

pub returns-clause-place : goal.returns-clause-place
returns-clause-place c =
    c.get_index_of.ensures.index
    ∙ sym (position-map _ (bytes_eq c.args.path.now) c.args.names.now.keys)

pub returns-clause-distinct : goal.returns-clause-distinct
returns-clause-distinct c = keys-differ _ c.args.names.now.keys c.len.ensures.unique
