-- A text has one outcome: each refusal has one cause, and no two come first.
use Rattle.std.proofs.Common.{◌≡◌, ℕ, ◌<◌, Option, Some, List, length, refl, sym, ◌∙◌, ap, arith}
use Rattle.std.specs.Prelude.{slice_index_or, min, map}
use Rattle.tre_syntax.specs.PatternTree.{node_count}
use Rattle.tre_parse.specs.declared.limits.TheConstants.{COUNT_MAX}
use Rattle.tre_parse.specs.declared.fault.ParseFault.{ParseFault}
use Rattle.tre_parse.specs.declared.fault.ParseFault.TheVariants.{TooLong, BadByte, Number as TooBig, TooDeep, Syntax, EmptyInterval, TooManyNames, TooLarge, Memory}
use Rattle.tre_parse.specs.Words.{names_among}
use Rattle.tre_parse.specs.Outcome.{Read, words, IsFirst, FirstAt, HasCause, rank, Outcome, spelt, refused, ComesFirst, IsOutcome}
use Rattle.tre_parse.proofs.Whole.{spelt_once}
use Rattle.tre_parse.proofs.Agreement.{scanned, scanned_outcome}

-- There is one first place.
place_once : (Is : ℕ → Type 0) (i j : ℕ) → IsFirst Is i → IsFirst Is j → i ≡ j
place_once Is i j f g =
    let left : i < j → ⊥ = λ lt. g.1 i lt f.0 in
    let right : j < i → ⊥ = λ lt. f.1 j lt g.0 in
    omega (arith, left, right)

found_once : (found : Option ℕ) (i j : ℕ) → found ≡ Some i → found ≡ Some j → i ≡ j
found_once found i j e q = cc

module _ (scale : ℕ) (text : List ℕ) (read : Read scale text) where
  at_once : (Is : ℕ → Type 0) (i j : ℕ) → FirstAt read Is i → FirstAt read Is j → i ≡ j
  at_once Is i j h k =
      h.2 ∙ ap (λ place. slice_index_or (map (λ (one : ℕ × List ℕ). one.0) read.placed) place
      (length text)) (place_once Is h.0 k.0 h.1 k.1) ∙ sym k.2

  cause_once : (one other : ParseFault) → HasCause read one → HasCause read other
      → rank one ≡ rank other → one ≡ other
  cause_once TooLong TooLong h k e = refl
  cause_once (BadByte i) (BadByte j) h k e =
      ap (λ at. BadByte at) (found_once read.bad i j h k)
  cause_once (TooBig i) (TooBig j) h k e = ap (λ at. TooBig at) (at_once _ i j h k)
  cause_once (TooDeep i) (TooDeep j) h k e = ap (λ at. TooDeep at) (at_once _ i j h k)
  cause_once (Syntax i) (Syntax j) h k e = ap (λ at. Syntax at) (at_once _ i j h.1 k.1)
  cause_once (EmptyInterval i) (EmptyInterval j) h k e =
      ap (λ at. EmptyInterval at) (at_once _ i j h k)
  cause_once (TooManyNames i) (TooManyNames j) h k e =
      ap (λ at. TooManyNames at) (at_once _ i j h k)
  cause_once (TooLarge n) (TooLarge m) h k e =
      ap (λ nodes. TooLarge nodes) (h.3 ∙ ap (λ tree. min (node_count tree) COUNT_MAX)
      (spelt_once scale (names_among (words read)) (words read) h.0 k.0 h.1 k.1) ∙ sym k.3)
  cause_once Memory other h k e = absurd h
  cause_once one Memory h k e = absurd k
  cause_once one other h k e = absurd (omega (arith, e))

  pub first_once : (o q : Outcome) → ComesFirst read o → ComesFirst read q → o ≡ q
  first_once (spelt tree names) (spelt other others) h k =
      let same = spelt_once scale (names_among (words read)) (words read) tree other h.1 k.1 in
      let all = h.0 ∙ sym k.0 in
      cc
  first_once (spelt tree names) (refused fault) h k = absurd (h.2 fault k.0)
  first_once (refused fault) (spelt tree names) h k = absurd (k.2 fault h.0)
  first_once (refused one) (refused other) h k =
      let less = h.1 other k.0 in
      let more = k.1 one h.0 in
      ap (λ fault. refused fault) (cause_once one other h.0 k.0 (omega (arith, less, more)))

pub outcome_once : (scale : ℕ) (text : List ℕ) (o q : Outcome) → IsOutcome scale text o
    → IsOutcome scale text q → o ≡ q
outcome_once scale text o q h k =
    first_once scale text (scanned scale text) o q (scanned_outcome scale text o h)
    (scanned_outcome scale text q k)
