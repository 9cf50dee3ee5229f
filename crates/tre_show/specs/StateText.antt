-- The text of a state, over the names of its propositions.
use Rattle.std.specs.Prelude.{ℕ, Bool, true, false, nat_lt, slice_get, unwrap_or}
use Rattle.std.specs.Prelude.{List, [], ◌++◌, codes}
use Rattle.tre_state.specs.StateTree.{StateTree, always, proposition, negation}
use Rattle.tre_state.specs.StateTree.{conjunction, disjunction}
use Rattle.tre_show.specs.declared.state.TheConstants.{DISJUNCTION, CONJUNCTION, NEGATION}

abbrev pub in_parens : Bool → List ℕ → List ℕ
in_parens true text = codes "(" ++ text ++ codes ")"
in_parens false text = text

-- The name of a number. For a number past the names nothing is written.
abbrev pub name_text : List (List ℕ) → ℕ → List ℕ
name_text names number = unwrap_or (slice_get names number) []

-- The text of a state as an operand: in parentheses where its operator binds less than `least`.
abbrev pub state_operand_text : ℕ → List (List ℕ) → StateTree → List ℕ
state_operand_text least names always = codes "true"
state_operand_text least names (proposition i) = name_text names i
state_operand_text least names (negation s) = codes "!" ++ state_operand_text NEGATION names s
state_operand_text least names (conjunction s t) =
    in_parens (nat_lt CONJUNCTION least)
    (state_operand_text CONJUNCTION names s ++ codes " && " ++ state_operand_text NEGATION names t)
state_operand_text least names (disjunction s t) =
    in_parens (nat_lt DISJUNCTION least)
    (state_operand_text DISJUNCTION names s ++ codes " || "
    ++ state_operand_text CONJUNCTION names t)

abbrev pub state_text : List (List ℕ) → StateTree → List ℕ
state_text names state = state_operand_text DISJUNCTION names state

-- The text of a state that holds throughout: in braces where it is joined of two.
abbrev pub literal_text : List (List ℕ) → StateTree → List ℕ
literal_text names always = codes "true"
literal_text names (proposition i) = name_text names i
literal_text names (negation s) = codes "!" ++ literal_text names s
literal_text names state = codes "{" ++ state_text names state ++ codes "}"
