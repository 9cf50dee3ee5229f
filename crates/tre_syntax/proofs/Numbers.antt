-- The numbers of a pattern's propositions and events are below the count of its names.
use Rattle.std.proofs.Common.{ℕ, ◌<◌, ◌≤◌, List, [], ◌∷◌, ◌++◌, rules}
use Rattle.std.specs.Prelude.{All}
use Rattle.std.proofs.lemmas.List.Elements.{All-nil, All-cons, All-head, All-tail, All-weaker}
use Rattle.tre_state.specs.StateTree as state
use Rattle.tre_state.specs.declared.names.TheConstants.{NAMES_MAX}
use Rattle.tre_state.specs.StateTree.{StateTree, always, proposition, negation, conjunction, disjunction}
use Rattle.tre_syntax.specs.declared.name_kind.NameKind.{NameKind}
use Rattle.tre_syntax.specs.declared.name_kind.NameKind.TheVariants.{Proposition, Event}
use Rattle.tre_syntax.specs.PatternTree.{PatternTree, Atom, empty, literal, rise, fall, event, atom, sequence, alternation, intersection, repetition, restriction, numbers_of, numbers_of_atom, NumbersBelow, AtomNumbersBelow, IsNumbered}
use Rattle.tre_syntax.proofs.FirstUses.{all_seen}

module _ (bound : ℕ) where
  abbrev IsBelow : ℕ → Type 0
  IsBelow i = i < bound

  front_below : (xs ys : List ℕ) → All IsBelow (xs ++ ys) → All IsBelow xs
  front_below [] ys h = All-nil IsBelow
  front_below (x ∷ xs) ys h =
      All-cons IsBelow x xs (All-head IsBelow x (xs ++ ys) h)
      (front_below xs ys (All-tail IsBelow x (xs ++ ys) h))

  back_below : (xs ys : List ℕ) → All IsBelow (xs ++ ys) → All IsBelow ys
  back_below [] ys h = h
  back_below (x ∷ xs) ys h = back_below xs ys (All-tail IsBelow x (xs ++ ys) h)

  state_below : (s : StateTree) → All IsBelow (state.numbers_of s) → state.NumbersBelow bound s
  state_below always h = tt
  state_below (proposition i) h = All-head IsBelow i [] h
  state_below (negation s) h = state_below s h
  state_below (conjunction s t) h = (
    state_below s (front_below (state.numbers_of s) (state.numbers_of t) h),
    state_below t (back_below (state.numbers_of s) (state.numbers_of t) h),
  )
  state_below (disjunction s t) h = (
    state_below s (front_below (state.numbers_of s) (state.numbers_of t) h),
    state_below t (back_below (state.numbers_of s) (state.numbers_of t) h),
  )

  atom_below : (x : Atom) → ((kind : NameKind) → All IsBelow (numbers_of_atom kind x))
      → AtomNumbersBelow bound x
  atom_below empty h = tt
  atom_below (literal s) h = state_below s (h Proposition)
  atom_below (rise s) h = state_below s (h Proposition)
  atom_below (fall s) h = state_below s (h Proposition)
  atom_below (event i) h = All-head IsBelow i [] (h Event)

  tree_below : (e : PatternTree) → ((kind : NameKind) → All IsBelow (numbers_of kind e))
      → NumbersBelow bound e
  tree_below (atom x) h = atom_below x h
  tree_below (sequence e f) h = (
    tree_below e (λ kind. front_below (numbers_of kind e) (numbers_of kind f) (h kind)),
    tree_below f (λ kind. back_below (numbers_of kind e) (numbers_of kind f) (h kind)),
  )
  tree_below (alternation e f) h = (
    tree_below e (λ kind. front_below (numbers_of kind e) (numbers_of kind f) (h kind)),
    tree_below f (λ kind. back_below (numbers_of kind e) (numbers_of kind f) (h kind)),
  )
  tree_below (intersection e f) h = (
    tree_below e (λ kind. front_below (numbers_of kind e) (numbers_of kind f) (h kind)),
    tree_below f (λ kind. back_below (numbers_of kind e) (numbers_of kind f) (h kind)),
  )
  tree_below (repetition e) h = tree_below e h
  tree_below (restriction e ends) h = tree_below e h

numbers_few : (kind : NameKind) (e : PatternTree) (count : ℕ) → IsNumbered kind e count
    → count ≤ NAMES_MAX → All (λ i. i < NAMES_MAX) (numbers_of kind e)
numbers_few kind e count numbered few = search (rules, All-weaker, numbers_of, all_seen)

module _ (e : PatternTree) (names events : ℕ) (numbered : IsNumbered Proposition e names)
    (events_numbered : IsNumbered Event e events) (few : names ≤ NAMES_MAX)
    (few_events : events ≤ NAMES_MAX) where
  both_few : (kind : NameKind) → All (λ i. i < NAMES_MAX) (numbers_of kind e)
  both_few Proposition = numbers_few Proposition e names numbered few
  both_few Event = numbers_few Event e events events_numbered few_events

  pub numbered_below : NumbersBelow NAMES_MAX e
  numbered_below = tree_below NAMES_MAX e both_few
