use Rattle.std.proofs.Common.{◌∙◌, ap, refl, []}
use Rattle.tre_syntax.specs.PatternTree.{atom}
use Rattle.tre_mark.specs.MarkTree.{mark_of, atom_mark}
use Rattle.tre_mark.proofs.Starts.{unbegun_atom, unbegun_moved}
use Rattle.tre_mark.proofs.empty.no_atom.Goals as goal

pub returns : goal.returns
returns c x =
    unbegun_moved (atom_mark [] []) (mark_of c.atom.result) (atom x) (atom x)
    (c.atom.ensures ∙ ap (λ here. atom_mark here c.new-2.result.items) c.new.ensures.items
    ∙ ap (λ begun. atom_mark [] begun) c.new-2.ensures.items)
    refl (unbegun_atom x)
