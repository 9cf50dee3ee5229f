-- The text of an expression, over the names of its propositions and events. The ends of its
-- intervals are units of a scale.
use Rattle.std.specs.Prelude.{ℕ, nat_lt, List, ◌++◌, codes}
use Rattle.tre_trace.specs.Reading.{Vocabulary}
use Rattle.tre_syntax.specs.PatternTree.{Atom, empty, literal, rise, fall, event}
use Rattle.tre_syntax.specs.PatternTree.{PatternTree, atom, sequence, alternation, intersection}
use Rattle.tre_syntax.specs.PatternTree.{repetition, restriction}
use Rattle.tre_show.specs.declared.pattern.TheConstants.{ALTERNATION, INTERSECTION, SEQUENCE}
use Rattle.tre_show.specs.declared.pattern.TheConstants.{POSTFIX}
use Rattle.tre_show.specs.Interval.{interval_text}
use Rattle.tre_show.specs.StateText.{in_parens, name_text, state_text, literal_text}

abbrev pub atom_text : Vocabulary → Atom → List ℕ
atom_text names empty = codes "eps"
atom_text names (literal state) = literal_text names.names state
atom_text names (rise state) = codes "rise(" ++ state_text names.names state ++ codes ")"
atom_text names (fall state) = codes "fall(" ++ state_text names.names state ++ codes ")"
atom_text names (event number) = codes "event(" ++ name_text names.events number ++ codes ")"

-- The text of an expression as an operand: in parentheses where its operator binds less than
-- `least`. From the loosest, operators are `|`, `&`, `;`, and then the signs behind an operand.
abbrev pub operand_text : ℕ → ℕ → Vocabulary → PatternTree → List ℕ
operand_text scale least names (atom x) = atom_text names x
operand_text scale least names (sequence e f) =
    in_parens (nat_lt SEQUENCE least)
    (operand_text scale SEQUENCE names e ++ codes ";" ++ operand_text scale POSTFIX names f)
operand_text scale least names (intersection e f) =
    in_parens (nat_lt INTERSECTION least)
    (operand_text scale INTERSECTION names e ++ codes " & " ++ operand_text scale SEQUENCE names f)
operand_text scale least names (alternation e f) =
    in_parens (nat_lt ALTERNATION least)
    (operand_text scale ALTERNATION names e ++ codes " | "
    ++ operand_text scale INTERSECTION names f)
operand_text scale least names (repetition e) = operand_text scale POSTFIX names e ++ codes "*"
operand_text scale least names (restriction e ends) =
    operand_text scale POSTFIX names e ++ codes " % " ++ interval_text scale ends

abbrev pub expression_text : ℕ → Vocabulary → PatternTree → List ℕ
expression_text scale names tree = operand_text scale ALTERNATION names tree
