-- What each function of the parser promises: it does what the grammar's own function does, and what
-- it makes stands for what is read.
use Rattle.std.specs.Prelude.{◌≡◌, ◌≢◌, Bool, true, false, Option, Some, None, Result, Ok, Err, List, ◌∷◌, length}
use Rattle.tre_parse.specs.declared.token.Token.{Token}
use Rattle.tre_parse.specs.declared.token.Token.TheVariants.{LeftParen, Eps, Rise, Fall, Event}
use Rattle.tre_parse.specs.declared.cursor.Stop.{Stop}
use Rattle.tre_parse.specs.declared.cursor.Stop.TheVariants.{Syntax, Memory}
use Rattle.tre_parse.specs.Front.{front, tail}
use Rattle.tre_parse.specs.Operands.{Formula, Operand, RepresentsState, Represents}
use Rattle.tre_parse.specs.Reader.{Reading, got, stop, StateTask, PatternTask, read_state, read_pattern}

-- What was made stands for a tree, with which the reading goes on.
pub record ReadingGoes {A Tree Whole : Type 0} (StandsFor : A → Tree → Type 0) (x : A)
    (reading : Reading Whole) (next : Tree → Reading Whole) : Type 0 where
  pub tree : Tree
  pub stands : StandsFor x tree
  pub goes : reading ≡ next tree

-- The reading stops where these tokens are left. Want of memory may come at any point.
abbrev pub Stops : {Tree : Type 0} → Reading Tree → Stop → List Token → Type 0
Stops reading Memory rest = Unit {0}
Stops reading (Syntax left) rest = (left ≡ length rest) × (reading ≡ stop rest)

-- The answer is what is read.
abbrev pub IsReadAs : {A Tree : Type 0} → (A → Tree → Type 0) → Reading Tree → Result A Stop →
    List Token → Type 0
IsReadAs StandsFor reading (Ok x) rest = ReadingGoes StandsFor x reading (λ tree. got tree rest)
IsReadAs StandsFor reading (Err fault) rest = Stops reading fault rest

abbrev pub ReadsState : StateTask → Result Formula Stop → List Token → List Token → Type 0
ReadsState task result old new = IsReadAs RepresentsState (read_state task old) result new

abbrev pub Reads : PatternTask → Result Operand Stop → List Token → List Token → Type 0
Reads task result old new = IsReadAs Represents (read_pattern task old) result new

-- The next token says this, and is passed; or it says nothing, and stays.
abbrev pub IsReadPart : {A : Type 0} → (Token → Option A) → Result A Stop → List Token → List Token
    →
    Type 0
IsReadPart says (Ok x) old new = (says (front old) ≡ Some x) × (new ≡ tail old)
IsReadPart says (Err fault) old new =
    (says (front old) ≡ None) × (new ≡ old) × (fault ≡ Syntax (length old))

-- The token begins no operand but a literal, with `<:` before it or not.
abbrev pub BeginsLiteral : Token → Type 0
BeginsLiteral Eps = ⊥
BeginsLiteral LeftParen = ⊥
BeginsLiteral Rise = ⊥
BeginsLiteral Fall = ⊥
BeginsLiteral Event = ⊥
BeginsLiteral _ = Unit {0}

-- A token that may be next.
abbrev pub Accepts : Token → Bool → List Token → List Token → Type 0
Accepts token true old new = old ≡ token ∷ new
Accepts token false old new = (new ≡ old) × (front old ≢ token)

-- A token that is expected.
abbrev pub Passes : Token → Result Unit Stop → List Token → List Token → Type 0
Passes token (Ok x) old new = old ≡ token ∷ new
Passes token (Err fault) old new =
    (fault ≡ Syntax (length old)) × (new ≡ old) × (front old ≢ token)
