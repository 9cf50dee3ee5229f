-- What is made of states and expressions that are read.
use Rattle.std.specs.Prelude.{◌≡◌, ℕ, ◌≤◌, ◌<◌, zero, suc, Bool, true, false, Option, None}
use Rattle.tre_state.specs.StateTree.{StateTree, negation, conjunction, disjunction}
use Rattle.tre_syntax.specs.PatternTree.{PatternTree, literal, rise, fall, atom, sequence, alternation, intersection}
use Rattle.tre_syntax.specs.declared.pattern.TheConstants.{NODES_MAX}
use Rattle.tre_parse.specs.declared.token.Token.{Token}
use Rattle.tre_parse.specs.declared.token.Token.TheVariants.{LeftParen, RightParen, LeftBrace, RightBrace, Semicolon, Bar, DoubleBar, Ampersand, DoubleAmpersand, Rise, Fall}
use Rattle.tre_parse.specs.Grammar.{StateRule, state, conj, unary, Rule, expr, meet, seq}
use Rattle.tre_parse.specs.declared.connective.Connective.{Connective}
use Rattle.tre_parse.specs.declared.connective.Connective.TheVariants.{And, Or}
use Rattle.tre_parse.specs.declared.connective.Join.{Join}
use Rattle.tre_parse.specs.declared.connective.Join.TheVariants.{Sequence, Intersection, Alternation}

abbrev pub connected : Connective → StateTree → StateTree → StateTree
connected And s t = conjunction s t
connected Or s t = disjunction s t

-- The sign between two states that are joined so, and the rule for both together.
abbrev pub connective_sign : Connective → Token
connective_sign And = DoubleAmpersand
connective_sign Or = DoubleBar

abbrev pub connected_rule : Connective → StateRule
connected_rule And = conj
connected_rule Or = state

-- An operand of a state: in braces a literal.
abbrev pub operand_in : Bool → StateRule
operand_in true = unary false
operand_in false = unary true

abbrev pub joined_by : Join → PatternTree → PatternTree → PatternTree
joined_by Sequence e f = sequence e f
joined_by Intersection e f = intersection e f
joined_by Alternation e f = alternation e f

-- The same of two expressions.
abbrev pub join_sign : Join → Token
join_sign Sequence = Semicolon
join_sign Intersection = Ampersand
join_sign Alternation = Bar

abbrev pub joined_rule : Join → Rule
joined_rule Sequence = seq
joined_rule Intersection = meet
joined_rule Alternation = expr

-- `rise` or `fall`.
abbrev pub edge_sign : Bool → Token
edge_sign true = Rise
edge_sign false = Fall

-- The brackets around a state in an operand: in a literal, braces.
abbrev pub brackets_of : Bool → Token × Token
brackets_of true = (LeftBrace, RightBrace)
brackets_of false = (LeftParen, RightParen)

-- So many negations of the state.
abbrev pub negated : ℕ → StateTree → StateTree
negated zero s = s
negated (suc n) s = negation (negated n s)

abbrev pub edge_of : Bool → StateTree → PatternTree
edge_of true s = atom (rise s)
edge_of false s = atom (fall s)

-- A literal, after `<:` or not, and `:>` after it or not.
abbrev pub plain_literal : Bool → StateTree → PatternTree
plain_literal true s = sequence (atom (rise s)) (atom (literal s))
plain_literal false s = atom (literal s)

abbrev pub edged_literal : Bool → Bool → StateTree → PatternTree
edged_literal begins true s = sequence (plain_literal begins s) (atom (fall s))
edged_literal begins false s = plain_literal begins s

-- What was built is kept where it has no more than so many nodes as a pattern may have, and let go
-- elsewhere.
pub record Keeps {A : Type 0} (nodes : ℕ) (whole kept : Option A) : Type 0 where
  pub small : nodes ≤ NODES_MAX → kept ≡ whole
  pub large : NODES_MAX < nodes → kept ≡ None
