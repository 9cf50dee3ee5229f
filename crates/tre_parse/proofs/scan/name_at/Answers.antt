use Rattle.std.proofs.Common.{◌≡◌, ℕ, ◌+◌, ◌-◌, ◌<◌, ◌≤◌, zero, suc, List, take, drop, length, get_or, ◌∙◌, subst, arith}
use Rattle.std.specs.Str.{IsCharBoundary}
use Rattle.std.proofs.lemmas.List.{get_or-take, get_or-drop}
use Rattle.std.proofs.lemmas.Str.{IsCharBoundary-before_ascii, IsCharBoundary-after_ascii}
use Rattle.tre_state.specs.Name.{IsName, IsWord}
use Rattle.tre_parse.proofs.Words.{word_ascii}
use Rattle.tre_parse.proofs.scan.name_at.Goals as goal

some_word : (len : ℕ) (bytes : List ℕ) → IsWord (take len bytes) → 0 < len
some_word zero bytes h = absurd h
some_word (suc n) bytes h = omega arith

-- Each byte of a name is below 128.
byte_below : (text : List ℕ) (at len k : ℕ) → IsName (take len (drop at text)) → k < len
    → get_or text (at + k) 0 < 128
byte_below text at len k h lt =
    let same = get_or-take len (drop at text) k 0 lt ∙ get_or-drop at text k 0 in
    subst (λ b. b < 128) same (word_ascii (take len (drop at text)) h.0 k)

begins : (text : List ℕ) (at len : ℕ) → IsName (take len (drop at text)) → at + len ≤ length text
    → IsCharBoundary text at
begins text at len h le =
    let some = some_word len (drop at text) h.0 in
    let first : at + 0 ≡ at = omega arith in
    IsCharBoundary-before_ascii text at (omega (arith, some, le))
    (subst (λ i. get_or text i 0 < 128) first (byte_below text at len 0 h some))

pub range-requires-clause-start_boundary : goal.range-requires-clause-start_boundary
range-requires-clause-start_boundary c = λ _.
    begins c.args.text.now c.args.at c.args.len c.requires.name c.requires.within

pub range-requires-clause-end_boundary : goal.range-requires-clause-end_boundary
range-requires-clause-end_boundary c =
    let text = c.args.text.now in let at = c.args.at in let len = c.args.len in
    let some = some_word len (drop at text) c.requires.name.0 in
    let last : at + (len - 1) + 1 ≡ at + len = omega (arith, some) in
    subst (IsCharBoundary text) last
    (IsCharBoundary-after_ascii text (at + (len - 1)) c.utf8.text
    (omega (arith, some, c.requires.within))
    (byte_below text at len (len - 1) c.requires.name (omega (arith, some))))
