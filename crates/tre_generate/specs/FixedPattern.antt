-- The pattern that is matched: `(<:p:>;(!p % [1,2]))+`, where p is proposition 0.
use Rattle.std.specs.Prelude.{[], ◌∷◌, Some, true, codes}
use Rattle.tre_state.specs.StateTree.{proposition, negation}
use Rattle.tre_syntax.specs.PatternTree.{PatternTree, atom, literal, rise, fall, sequence, repetition, restriction}
use Rattle.tre_trace.specs.Reading.{Vocabulary}

-- A pulse of p: it rises, holds for some time, and falls.
abbrev pub pulse : PatternTree
pulse =
    sequence (sequence (atom (rise (proposition 0))) (atom (literal (proposition 0))))
    (atom (fall (proposition 0)))

-- A pause: p is false for one tick, for two, or for any time between.
abbrev pub pause : PatternTree
pause =
    restriction (atom (literal (negation (proposition 0))))
    (record { low = 1; low_weak = true; high = Some 2; high_weak = true })

abbrev pub fixed_tree : PatternTree
fixed_tree = sequence (sequence pulse pause) (repetition (sequence pulse pause))

-- Its one name. It names no event.
abbrev pub fixed_vocabulary : Vocabulary
fixed_vocabulary = record { names = codes "p" ∷ []; events = [] }
