-- From the readings of the functions that are called to the reading of the one that calls them.
use Rattle.std.proofs.Common.{◌≡◌, ◌+◌, List, [], ◌∷◌, length, refl, sym, ◌∙◌, ap, subst, arith, rules}
use Rattle.tre_parse.specs.declared.token.Token.{Token}
use Rattle.tre_parse.specs.declared.token.Token.TheVariants.{EndOfText}
use Rattle.tre_parse.specs.declared.cursor.Stop.{Stop}
use Rattle.tre_parse.specs.declared.cursor.Stop.TheVariants.{Syntax, Memory}
use Rattle.tre_parse.specs.Front.{front, tail}
use Rattle.tre_parse.specs.Reader.{Reading, got, stop, and_then}
use Rattle.tre_parse.specs.Reading.{ReadingGoes, Stops}

-- ---- tokens

-- Going past the next token.
pub goes_past : (ts new : List Token) (t : Token) → t ≡ front ts → (t ≡ EndOfText → ⊥) → new
    ≡ tail ts → ts ≡ t ∷ new
goes_past [] new t e n same = absurd (n e)
goes_past (x ∷ rest) new t e n same = ap (λ u. u ∷ rest) (sym e) ∙ ap (λ l. t ∷ l) (sym same)

pub one_shorter : (ts new : List Token) (t : Token) → ts ≡ t ∷ new → length ts ≡ length new + 1
one_shorter ts new t e = let n = ap length e in omega (arith, n)

-- ---- readings that go on

pub goes_here : {A Tree : Type 0} {R : A → Tree → Type 0} (x : A) (t : Tree) (q : Reading Tree)
    (rest : List Token) → q ≡ got t rest → R x t → ReadingGoes R x q (λ s. got s rest)
goes_here x t q rest e h = record { tree = t; stands = h; goes = e }

-- Behind a first part.
pub goes_first : {A Tree Whole : Type 0} {R : A → Tree → Type 0} {x : A} {o : Reading Tree}
    {rest : List Token} (q : Reading Whole) (next : Tree → List Token → Reading Whole) →
    q ≡ and_then o next → ReadingGoes R x o (λ t. got t rest) → ReadingGoes R x q (λ t. next t rest)
goes_first q next e h = search rules

-- What was made is turned into something else.
pub goes_turned : {A B Tree Made Whole : Type 0} {R : A → Tree → Type 0} {S : B → Made → Type 0}
    {x : A} {q : Reading Whole} {f : Tree → Reading Whole} (y : B) (g : Made → Reading Whole)
    (make : Tree → Made) → ReadingGoes R x q f → ((t : Tree) → R x t → S y (make t)) →
    ((t : Tree) → f t ≡ g (make t)) → ReadingGoes S y q g
goes_turned y g make h turn same = search rules

-- Nothing was made of it since.
pub goes_on : {A Tree Whole : Type 0} {R : A → Tree → Type 0} {x : A} {q : Reading Whole}
    {f : Tree → Reading Whole} (g : Tree → Reading Whole) → ReadingGoes R x q f →
    ((t : Tree) → f t ≡ g t) → ReadingGoes R x q g
goes_on g h same = record { tree = h.tree; stands = h.stands; goes = h.goes ∙ same h.tree }

-- A second part behind the first.
pub goes_joined : {A B C Tree Other Made Whole : Type 0} {R : A → Tree → Type 0}
    {S : B → Other → Type 0} {T : C → Made → Type 0} {x : A} {y : B} {q : Reading Whole}
    {o : Reading Other} {f : Tree → Reading Whole} {rest : List Token} (z : C)
    (g : Made → Reading Whole) (join : Tree → Other → Made)
    (next : Tree → Other → List Token → Reading Whole) → ReadingGoes R x q f →
    ReadingGoes S y o (λ u. got u rest) → ((t : Tree) (u : Other) → R x t → S y u → T z (join t u)) →
    ((t : Tree) → f t ≡ and_then o (next t)) →
    ((t : Tree) (u : Other) → next t u rest ≡ g (join t u)) → ReadingGoes T z q g
goes_joined z g join next h k both same then = search rules

-- ---- readings that stop

pub stops_here : {Whole : Type 0} (q : Reading Whole) (fault : Stop) (rest : List Token)
    → fault ≡ Syntax (length rest) → q ≡ stop rest → Stops q fault rest
stops_here q fault rest e h = let P = λ (s : Stop). Stops q s rest in subst P (sym e) (refl, h)

pub stops_first : {Tree Whole : Type 0} (o : Reading Tree) (q : Reading Whole) (fault : Stop)
    (rest : List Token) (next : Tree → List Token → Reading Whole) → q ≡ and_then o next →
    Stops o fault rest → Stops q fault rest
stops_first o q Memory rest next e h = tt
stops_first o q (Syntax left) rest next e h = (h.0, e ∙ ap (λ r. and_then r next) h.1)

pub stops_joined : {A Tree Other Whole : Type 0} {R : A → Tree → Type 0} {x : A}
    {q : Reading Whole} {f : Tree → Reading Whole} (o : Reading Other) (fault : Stop)
    (rest : List Token) (next : Tree → Other → List Token → Reading Whole) → ReadingGoes R x q f →
    ((t : Tree) → f t ≡ and_then o (next t)) → Stops o fault rest → Stops q fault rest
stops_joined {q = q} o fault rest next h same k = search rules

pub stops_at : {A Tree Whole : Type 0} {R : A → Tree → Type 0} {x : A} {q : Reading Whole}
    {f : Tree → Reading Whole} (fault : Stop) (rest : List Token) → ReadingGoes R x q f →
    fault ≡ Syntax (length rest) → ((t : Tree) → f t ≡ stop rest) → Stops q fault rest
stops_at {q = q} fault rest h e same = stops_here q fault rest e (h.goes ∙ same h.tree)
