use Rattle.std.proofs.Common.{◌∙◌, ap, refl, []}
use Rattle.tre_syntax.specs.PatternTree.{atom}
use Rattle.tre_mark.specs.MarkTree.{mark_of, atom_mark}
use Rattle.tre_mark.proofs.Starts.{start_atom, start_moved}
use Rattle.tre_mark.proofs.start.atom_at.Goals as goal

pub returns : goal.returns
returns c time x ends =
    let zones = c.args.zones.now in
    start_moved time zones (atom_mark zones []) (mark_of c.atom.result) (atom x) (atom x)
    (c.atom.ensures ∙ ap (λ here. atom_mark here c.new.result.items) (c.in_ok-here.ensures ∙ c.zones.ensures.same)
    ∙ ap (λ begun. atom_mark zones begun) c.new.ensures.items)
    refl (start_atom time zones ends x)
