-- States as trees, and when one holds on a valuation (FORMATS 2014, section 2: Boolean combinations
-- of propositions).
use Rattle.std.specs.Prelude.{ℕ, ◌+◌, ◌<◌, ◌⊎◌, IsBitSet, List, [], ◌∷◌, ◌++◌}

-- A Boolean combination of propositions, which go by their numbers.
pub data StateTree : Type 0 where
  always : StateTree
  proposition : ℕ → StateTree
  negation : StateTree → StateTree
  conjunction : StateTree → StateTree → StateTree
  disjunction : StateTree → StateTree → StateTree

-- The state holds on a valuation, whose bit i is the value of proposition i.
abbrev pub HoldsOn : StateTree → ℕ → Type 0
HoldsOn always valuation = Unit {0}
HoldsOn (proposition number) valuation = IsBitSet valuation number
HoldsOn (negation state) valuation = ¬ HoldsOn state valuation
HoldsOn (conjunction left right) valuation = HoldsOn left valuation × HoldsOn right valuation
HoldsOn (disjunction left right) valuation = HoldsOn left valuation ⊎ HoldsOn right valuation

-- Every proposition that the state names has a number below the bound.
abbrev pub NumbersBelow : ℕ → StateTree → Type 0
NumbersBelow bound always = Unit {0}
NumbersBelow bound (proposition number) = number < bound
NumbersBelow bound (negation state) = NumbersBelow bound state
NumbersBelow bound (conjunction left right) = NumbersBelow bound left × NumbersBelow bound right
NumbersBelow bound (disjunction left right) = NumbersBelow bound left × NumbersBelow bound right

-- The numbers of the propositions that the state names, from the left, each as often as it stands
-- there.
abbrev pub numbers_of : StateTree → List ℕ
numbers_of always = []
numbers_of (proposition number) = number ∷ []
numbers_of (negation state) = numbers_of state
numbers_of (conjunction left right) = numbers_of left ++ numbers_of right
numbers_of (disjunction left right) = numbers_of left ++ numbers_of right

abbrev pub node_count : StateTree → ℕ
node_count always = 1
node_count (proposition number) = 1
node_count (negation state) = 1 + node_count state
node_count (conjunction left right) = 1 + node_count left + node_count right
node_count (disjunction left right) = 1 + node_count left + node_count right
