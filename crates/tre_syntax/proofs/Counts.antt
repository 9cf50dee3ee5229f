-- The count of nodes, and what is read of a list of numbers in the order of their first use.
use Rattle.std.proofs.Common.{◌≡◌, ◌↔◌, ℕ, ◌+◌, ◌<◌, Bool, true, false, List, [], ◌∷◌, ◌++◌, Option, Some, None, IsTrue, refl, sym, ap, ◌∙◌, arith, rules}
use Rattle.std.specs.Prelude.{nat_lt, ◌==◌, if◌then◌else◌}
use Rattle.tre_state.specs.StateTree as state
use Rattle.tre_state.specs.StateTree.{StateTree, always, proposition, negation, conjunction, disjunction}
use Rattle.tre_syntax.specs.PatternTree.{PatternTree, Atom, empty, literal, rise, fall, event, atom, sequence, alternation, intersection, repetition, restriction, node_count, atom_node_count, seen_after}

-- a tree has a node
pub state_node_count-positive : (s : StateTree) → 0 < state.node_count s
state_node_count-positive always = omega arith
state_node_count-positive (proposition i) = omega arith
state_node_count-positive (negation s) = omega arith
state_node_count-positive (conjunction s t) = omega arith
state_node_count-positive (disjunction s t) = omega arith

atom_node_count-positive : (x : Atom) → 0 < atom_node_count x
atom_node_count-positive empty = omega arith
atom_node_count-positive (literal s) = omega arith
atom_node_count-positive (rise s) = omega arith
atom_node_count-positive (fall s) = omega arith
atom_node_count-positive (event i) = omega arith

pub node_count-positive : (e : PatternTree) → 0 < node_count e
node_count-positive (atom x) = atom_node_count-positive x
node_count-positive (sequence e f) = omega arith
node_count-positive (alternation e f) = omega arith
node_count-positive (intersection e f) = omega arith
node_count-positive (repetition e) = omega arith
node_count-positive (restriction e ends) = omega arith

-- where one choice among two and none comes out as r, so does another choice by the same tests
chosen : (b d : Bool) (p q p' q' r r' : Option ℕ) → (p ≡ r → p' ≡ r') → (q ≡ r → q' ≡ r')
    → (None ≡ r → None ≡ r')
    → (if b then p else (if d then q else None)) ≡ r
    → (if b then p' else (if d then q' else None)) ≡ r'
chosen true d p q p' q' r r' f g h e = f e
chosen false true p q p' q' r r' f g h e = g e
chosen false false p q p' q' r r' f g h e = h e

-- what is read after one list and then another
pub seen_after_both : (seen : ℕ) (xs ys : List ℕ) (m : ℕ) → seen_after seen xs ≡ Some m
    → seen_after seen (xs ++ ys) ≡ seen_after m ys
seen_after_both seen [] ys m e = let same : seen ≡ m = cc in ap (λ k. seen_after k ys) same
seen_after_both seen (i ∷ xs) ys m e =
    chosen (nat_lt i seen) (i == seen) _ _ _ _ (Some m) (seen_after m ys)
    (seen_after_both seen xs ys m) (seen_after_both (seen + 1) xs ys m) (λ none. cc) e

pub seen_after_none : (seen : ℕ) (xs ys : List ℕ) → seen_after seen xs ≡ None
    → seen_after seen (xs ++ ys) ≡ None
seen_after_none seen [] ys e = cc
seen_after_none seen (i ∷ xs) ys e =
    chosen (nat_lt i seen) (i == seen) _ _ _ _ None None (seen_after_none seen xs ys)
    (seen_after_none (seen + 1) xs ys) (λ none. none) e

-- a list that is read through is read through in its front and then in its back
parted : (seen : ℕ) (xs ys : List ℕ) (m : ℕ) (r : Option ℕ) → seen_after seen xs ≡ r
    → seen_after seen (xs ++ ys) ≡ Some m
    → (k : ℕ) × (seen_after seen xs ≡ Some k) × (seen_after k ys ≡ Some m)
parted seen xs ys m None e all = let none = seen_after_none seen xs ys e in let no : None ≡ Some m =
    cc in absurd (cc)
parted seen xs ys m (Some k) e all = (k, e, sym (seen_after_both seen xs ys k e) ∙ all)

pub seen_after_parts : (seen : ℕ) (xs ys : List ℕ) (m : ℕ) → seen_after seen (xs ++ ys) ≡ Some m
    → (k : ℕ) × (seen_after seen xs ≡ Some k) × (seen_after k ys ≡ Some m)
seen_after_parts seen xs ys m all = parted seen xs ys m (seen_after seen xs) refl all

-- a list that is not read through has no count
pub none_is_no_count : (seen : Option ℕ) (count : ℕ) → seen ≡ None
    → IsTrue false ↔ (seen ≡ Some count)
none_is_no_count seen count none = search rules
