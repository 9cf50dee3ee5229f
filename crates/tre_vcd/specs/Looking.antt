-- Which of all decides, said without looking back.
use Rattle.std.specs.Prelude.{◌≡◌, List, [], ◌∷◌, ◌++◌, Option, None, Some}

-- None of these says anything, before the rest.
abbrev pub Silent : {X Y : Type 0} → (X → List X → Option Y) → List X → List X → Type 0
Silent says [] rest = Unit {0}
Silent says (x ∷ later) rest = (says x (later ++ rest) ≡ None) × Silent says later rest

-- This says it, and nothing newer says anything.
pub record Latest {X Y : Type 0} (says : X → List X → Option Y) (past : List X) (y : Y) : Type 0
  where
    pub later : List X
    pub one : X
    pub earlier : List X
    pub parts : past ≡ later ++ one ∷ earlier
    pub here : says one earlier ≡ Some y
    pub silent : Silent says later (one ∷ earlier)
