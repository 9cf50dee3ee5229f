-- A text that goes out piece by piece, where a piece fails.
use Rattle.std.proofs.Common.{ℕ, suc, ◌+◌, ◌<◌, ◌≤◌, List, [], ◌∷◌, ◌++◌, length, get_or, take, drop, drop-cons, take-append-drop, sym, refl, codes, decimal, Option, None, Some, Result, Ok, Err, OnErr, ap, ◌∙◌, ◌≡◌, flat_map, arith, length-append}
use Rattle.std.specs.Io.KnownBytes.{Appends}
use Rattle.std.proofs.KnownBytes.{Appends-trans}
use Rattle.std.proofs.lemmas.List.{take-append-le}
use Rattle.std.proofs.lemmas.List.Concat.{flat_map-append}
use Rattle.std.proofs.Math.Seq.{take-append-add}
use Rattle.tre_io.specs.Written.{AppendsPart}
use Rattle.tre_parse.specs.declared.fault.ParseFault.{ParseFault}
use Rattle.tre_parse.specs.declared.fault.ParseFault.TheVariants.{TooLong, BadByte, Number, TooDeep, Syntax, EmptyInterval, TooManyNames, TooLarge, Memory as ParseMemory}
use Rattle.tre_tool.specs.Parts.{fault_words, fault_number}
use Rattle.tre_tool.specs.Status.{refusal_words}

-- a part of a text is a part of a longer one
AppendsPart-longer : {a b : Option (List ℕ)} {xs : List ℕ} → AppendsPart a b xs → (ys : List ℕ)
    → AppendsPart a b (xs ++ ys)
AppendsPart-longer {a} {b} {xs} part ys =
    let within : part.count ≤ length xs = omega (arith, part.short) in
    record {
      count = part.count;
      short = omega (arith, part.short, length-append xs ys);
      appends = rw take-append-le part.appends;
    }

-- all of a text, and then a part of what follows
pub AppendsPart-after : (a b c : Option (List ℕ)) (xs ys : List ℕ) → Appends a b xs
    → AppendsPart b c ys → AppendsPart a c (xs ++ ys)
AppendsPart-after a b c xs ys first part = record {
  count = length xs + part.count;
  short = omega (arith, part.short, length-append xs ys);
  appends = rw (take-append-add xs ys part.count) (Appends-trans a b c xs _ first part.appends);
}

split_around : {X : Type 0} (xs : List X) (k : ℕ) (d : X) → k < length xs
    → xs ≡ take k xs ++ get_or xs k d ∷ drop (suc k) xs
split_around xs k d below =
    sym (take-append-drop k xs) ∙ ap (λ rest. take k xs ++ rest) (drop-cons xs k d below)

text_around : {X : Type 0} (text : X → List ℕ) (pieces : List X) (i : ℕ) (d : X)
    → i < length pieces
    → flat_map text pieces ≡ flat_map text (take i pieces) ++ (text
    (get_or pieces i d) ++ flat_map text (drop (suc i) pieces))
text_around text pieces i d below =
    ap (flat_map text) (split_around pieces i d below)
    ∙ flat_map-append text (take i pieces) (get_or pieces i d ∷ drop (suc i) pieces)

-- the pieces before this one, and a part of it, are a part of all
pub AppendsPart-piece : {X : Type 0} (text : X
    → List ℕ) (pieces : List X) (i : ℕ) (d : X) (a b c : Option (List ℕ)) → i < length pieces
    → Appends a b (flat_map text (take i pieces)) → AppendsPart b c (text (get_or pieces i d))
    → AppendsPart a c (flat_map text pieces)
AppendsPart-piece text pieces i d a b c below before part =
    rw (text_around text pieces i d below) (AppendsPart-after a b c _ _ before
    (AppendsPart-longer part (flat_map text (drop (suc i) pieces))))

pub OnErr-always : {T E : Type 0} (result : Result T E) (A : Type 0) → A → OnErr result A
OnErr-always (Ok value) A holds = tt
OnErr-always (Err fault) A holds = holds

-- ---- a refused pattern

-- a number in digits, where there is one
abbrev pub digits_of : Option ℕ → List ℕ
digits_of None = []
digits_of (Some n) = decimal n

-- the words on it are those before its number, its number, and the line's end
pub refusal_pieces : (fault : ParseFault) → refusal_words fault
    ≡ fault_words fault ++ (digits_of (fault_number fault) ++ codes "\n")
refusal_pieces TooLong = refl
refusal_pieces (BadByte at) = refl
refusal_pieces (Number at) = refl
refusal_pieces (TooDeep at) = refl
refusal_pieces (Syntax at) = refl
refusal_pieces (EmptyInterval at) = refl
refusal_pieces (TooManyNames at) = refl
refusal_pieces (TooLarge nodes) = refl
refusal_pieces ParseMemory = refl
