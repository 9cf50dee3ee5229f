-- Marks seen as trees.
use Rattle.std.specs.Prelude.{ℕ, List, [], ◌∷◌}
use Rattle.tre_zone.specs.declared.zone_bounds.ZoneBounds.{ZoneBounds}
use Rattle.tre_mark.specs.declared.mark.Mark.{Mark, Atom, Seq', Alt', Star', Meet', Within'}

-- What a mark is made of, where each set is seen as the list of its zones: one form for each form
-- of an expression, and of an intersection and of a restriction two, as it has begun or not.
pub data MarkTree : Type 0 where
  atom_mark : (here begun : List ZoneBounds) → MarkTree
  sequence_mark : (left right : MarkTree) → MarkTree
  alternation_mark : (left right : MarkTree) → MarkTree
  repetition_mark : (here : List ZoneBounds) (body : MarkTree) → MarkTree
  intersection_none : MarkTree
  intersection_one : (to : ℕ) (outer : List ZoneBounds) (left right : MarkTree) → MarkTree
  restriction_none : MarkTree
  restriction_one : (to : ℕ) (outer : List ZoneBounds) (body : MarkTree) → MarkTree

-- An intersection and a restriction that began behind these pairs: where there are none, it has not
-- begun.
abbrev pub intersection_of : ℕ → List ZoneBounds → MarkTree → MarkTree → MarkTree
intersection_of to [] one other = intersection_none
intersection_of to (zone ∷ zones) one other = intersection_one to (zone ∷ zones) one other

abbrev pub restriction_of : ℕ → List ZoneBounds → MarkTree → MarkTree
restriction_of to [] body = restriction_none
restriction_of to (zone ∷ zones) body = restriction_one to (zone ∷ zones) body

-- The mark of the program as a tree, without its boxes and without the room that a step works in.
abbrev pub mark_of : Mark → MarkTree
mark_of (Atom here begun room) = atom_mark here.items begun.items
mark_of (Seq' box left box' right room) = sequence_mark (mark_of left) (mark_of right)
mark_of (Alt' box left box' right) = alternation_mark (mark_of left) (mark_of right)
mark_of (Star' here box body room) = repetition_mark here.items (mark_of body)
mark_of (Meet' to outer box left box' right room) =
    intersection_of to outer.items (mark_of left) (mark_of right)
mark_of (Within' to outer box body room) = restriction_of to outer.items (mark_of body)
