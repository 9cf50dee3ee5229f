-- The words of a text are those that are scanned, so it is read in one way.
use Rattle.std.proofs.Common.{◌≡◌, ℕ, ◌≤◌, Option, None, List, length, refl, sym, ◌∙◌, ap, subst}
use Rattle.std.specs.Prelude.{map, position}
use Rattle.tre_trace.specs.Reading.{Vocabulary}
use Rattle.tre_parse.specs.declared.limits.TheConstants.{TEXT_MAX}
use Rattle.tre_parse.specs.Words.{AreWords, names_among}
use Rattle.tre_parse.specs.TokenWords.{WordAt}
use Rattle.tre_parse.specs.Scanned.{raw_tokens_of, bad_byte, tokens_of}
use Rattle.tre_parse.specs.Limits.{is_past}
use Rattle.tre_syntax.specs.PatternTree.{PatternTree}
use Rattle.tre_parse.specs.Outcome.{Read, Outcome, words, SpellsAll, ComesFirst, IsOutcome, IsSpelling}
use Rattle.tre_parse.specs.ScannedOutcome.{text_tokens_of, NoneBelow, AreTokensOf}
use Rattle.tre_parse.proofs.Meant.{one_list, some_words}
use Rattle.tre_parse.proofs.Named.{placed_of, text_read, offsets_run}
use Rattle.tre_parse.proofs.Past.{past_of_text, names_run}

pub one_list_of_words : (text : List ℕ) (placed : List WordAt) (bad : Option ℕ)
    → AreWords 0 text placed bad → (placed ≡ placed_of text) × (bad ≡ bad_byte text)
one_list_of_words text placed bad are =
    let one = sym (one_list 0 text placed bad are) in
    (ap (λ (p : List WordAt × Option ℕ). p.0) one, ap (λ (p : List WordAt × Option ℕ). p.1) one)

-- The text as it is scanned.
abbrev pub scanned : (scale : ℕ) (text : List ℕ) → Read scale text
scanned scale text = record { placed = placed_of text; bad = bad_byte text; are = some_words text }

-- It has the tokens that are scanned, where no refusal of bytes has a cause.
pub scanned_tokens : (scale : ℕ) (text : List ℕ) → NoneBelow scale text (scanned scale text) 2
    → AreTokensOf scale text (scanned scale text) (text_tokens_of scale text)
scanned_tokens scale text below =
    let read = text_read scale text in
    record {
      pieces = read.pieces;
      written = read.written;
      same = read.same;
      theirs = read.theirs;
      offsets = offsets_run (raw_tokens_of text);
      size = refl;
      past = past_of_text scale text;
      names = names_run scale text;
      below = below;
    }

-- An outcome of a text is one of it as it is scanned.
pub scanned_outcome : (scale : ℕ) (text : List ℕ) (outcome : Outcome)
    → IsOutcome scale text outcome → ComesFirst (scanned scale text) outcome
scanned_outcome scale text outcome h =
    let read = h.0 in
    let one = one_list_of_words text read.placed read.bad read.are in
    let Of = λ (placed : List WordAt) (bad : Option ℕ). (are : AreWords 0 text placed bad)
    → ComesFirst {scale = scale} {text = text} (record { placed = placed; bad = bad; are = are }) outcome in
    subst (λ bad. Of (placed_of text) bad) one.1
    (subst (λ placed. Of placed read.bad) one.0 (λ are. h.1)) (some_words text)

-- The names and the tree of a spelling are those of the text as it is scanned.
pub scanned_spelling : (scale : ℕ) (text : List ℕ) (tree : PatternTree) (names : Vocabulary)
    → IsSpelling scale text tree names
    → SpellsAll (scanned scale text) tree × (names ≡ names_among (words (scanned scale text)))
scanned_spelling scale text tree names h =
    let one = one_list_of_words text h.read.placed h.read.bad h.read.are in
    let Of = λ (placed : List WordAt). (are : AreWords 0 text placed h.read.bad)
    → SpellsAll {scale = scale} {text = text} (record { placed = placed; bad = h.read.bad; are = are }) tree
    × (names ≡ names_among (map (λ (w : WordAt). w.1) placed)) in
    subst Of one.0 (λ are. (h.spells, h.numbered))
    (subst (λ bad. AreWords 0 text (placed_of text) bad) (sym one.1) (some_words text))
