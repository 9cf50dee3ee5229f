-- A text is cut into its parts in one way.
use Rattle.std.proofs.Common.{◌≡◌, ℕ, zero, suc, ◌+◌, ◌<◌, Bool, true, false, cond, Option, Some, None, List, [], ◌∷◌, ◌++◌, length, take, drop, replicate, refl, sym, ap, ◌∙◌, arith, rules}
use Rattle.std.specs.Prelude.{◌==◌, ◌&&◌, if◌then◌else◌}
use Rattle.std.specs.List.{list_all, prefix_len}
use Rattle.std.specs.Str.{IsAscii}
use Rattle.std.proofs.lemmas.List.Sums.{list_all-from_AllPass}
use Rattle.std.proofs.lemmas.Bool.{false≢true}
use Rattle.std.proofs.lemmas.Bool.Decides.{nat_tests}
use Rattle.std.proofs.lemmas.List.{append-nil, drop_at, take-append-drop, take_at}
use Rattle.tre_state.specs.Name.{continues_name, starts_name, IsWord}
use Rattle.tre_define.specs.declared.comparison.Comparison.{Comparison}
use Rattle.tre_define.specs.declared.comparison.Comparison.TheVariants.{Less, AtMost, Greater, AtLeast, Equal, Unequal}
use Rattle.tre_define.specs.Texts.{IsSpaced, is_space, sign_text}
use Rattle.tre_define.specs.Pieces.{Signed, behind_equals, behind_piece, past_spaces, piece, sign_in, single_sign}

-- ---- the longest run

-- the bytes begin with none that passes
abbrev pub Stops : (ℕ → Bool) → List ℕ → Type 0
Stops test [] = Unit {0}
Stops test (byte ∷ bytes) = test byte ≡ false

pub first : (a b : Bool) → (a && b) ≡ true → a ≡ true
first true b e = refl
first false b e = e

pub second : (a b : Bool) → (a && b) ≡ true → b ≡ true
second true b e = e
second false b e = absurd (false≢true e)

pub run-length : (test : ℕ → Bool) (run rest : List ℕ) → list_all test run ≡ true → Stops test rest
    → prefix_len test (run ++ rest) ≡ length run
run-length test [] [] all stops = refl
run-length test [] (byte ∷ bytes) all stops = search rules
run-length test (byte ∷ run) rest all stops =
    let here = first (test byte) (list_all test run) all in
    let more = run-length test run rest (second (test byte) (list_all test run) all) stops in
    ap (λ t. cond t (1 + prefix_len test (run ++ rest)) 0) here ∙ omega (arith, more)

pub run-taken : (test : ℕ → Bool) (run rest : List ℕ) → list_all test run ≡ true → Stops test rest
    → take (prefix_len test (run ++ rest)) (run ++ rest) ≡ run
run-taken test run rest all stops = search (rules, run-length, take_at)

pub run-dropped : (test : ℕ → Bool) (run rest : List ℕ) → list_all test run ≡ true → Stops test rest
    → drop (prefix_len test (run ++ rest)) (run ++ rest) ≡ rest
run-dropped test run rest all stops = search (rules, run-length, drop_at)

abbrev pub spaces : ℕ → List ℕ
spaces count = replicate count 32

spaces-pass : (count : ℕ) → list_all is_space (spaces count) ≡ true
spaces-pass zero = refl
spaces-pass (suc count) = spaces-pass count

pub spaces-past : (count : ℕ) (rest : List ℕ) → Stops is_space rest
    → past_spaces (spaces count ++ rest) ≡ rest
spaces-past count rest stops =
    run-dropped is_space (spaces count) rest (spaces-pass count) stops

-- the longest run of spaces is spaces
pub spaces-taken : (bytes : List ℕ) → take (prefix_len is_space bytes) bytes
    ≡ spaces (prefix_len is_space bytes)
spaces-taken [] = refl
spaces-taken (byte ∷ bytes) = by (byte == 32) refl (spaces-taken bytes) where
  by : (space : Bool) → (byte == 32) ≡ space
      → take (prefix_len is_space bytes) bytes ≡ spaces (prefix_len is_space bytes)
      → take (cond space (1 + prefix_len is_space bytes) 0) (byte ∷ bytes)
      ≡ spaces (cond space (1 + prefix_len is_space bytes) 0)
  by true e rest =
      let n = prefix_len is_space bytes in
      let more : 1 + n ≡ suc n = omega arith in
      let same : byte ≡ 32 = grind (arith, nat_tests) in
      ap (λ k. take k (byte ∷ bytes)) more
      ∙ ap (λ b. b ∷ take n bytes) same
      ∙ ap (λ xs. 32 ∷ xs) rest
      ∙ sym (ap spaces more)
  by false e rest = refl

-- ---- a part and the spaces round it

pub starts-run : (test : ℕ → Bool) (run rest : List ℕ) → test 32 ≡ false → list_all test run ≡ true
    → 0 < length run → Stops is_space (run ++ rest)
starts-run test [] rest never all some = absurd (omega arith)
starts-run test (byte ∷ run) rest never all some = search rules

pub stops-spaces : (test : ℕ → Bool) (count : ℕ) (rest : List ℕ) → test 32 ≡ false
    → Stops test rest → Stops test (spaces count ++ rest)
stops-spaces test zero rest never stops = stops
stops-spaces test (suc count) rest never stops = never

-- A part is the run that is written, and what follows the spaces behind it stands behind it.
pub record IsPiece (test : ℕ → Bool) (bytes run rest : List ℕ) : Type 0 where
  pub run_is : piece test bytes ≡ run
  pub rest_is : behind_piece test bytes ≡ rest

pub piece-is : (test : ℕ → Bool) (gap after : ℕ) (run rest : List ℕ) → test 32 ≡ false
    → list_all test run ≡ true → 0 < length run → Stops test rest → Stops is_space rest
    → IsPiece test (spaces gap ++ (run ++ (spaces after ++ rest))) run rest
piece-is test gap after run rest never all some stops begins =
    let tail = spaces after ++ rest in
    let past = spaces-past gap (run ++ tail) (starts-run test run tail never all some) in
    let ends = stops-spaces test after rest never stops in
    record {
      run_is = ap (λ t. take (prefix_len test t) t) past ∙ run-taken test run tail all ends;
      rest_is = ap (λ t. past_spaces (drop (prefix_len test t) t)) past
          ∙ ap past_spaces (run-dropped test run tail all ends)
          ∙ spaces-past after rest begins;
    }

-- The bytes are a part with spaces round it, and what stands behind it.
pub record IsCut (test : ℕ → Bool) (bytes : List ℕ) : Type 0 where
  pub gap : ℕ
  pub after : ℕ
  pub is : bytes ≡ spaces gap ++ (piece test bytes ++ (spaces after ++ behind_piece test bytes))

pub split-spaces : (bytes : List ℕ)
    → bytes ≡ spaces (prefix_len is_space bytes) ++ past_spaces bytes
split-spaces bytes =
    sym (take-append-drop (prefix_len is_space bytes) bytes)
    ∙ ap (λ front. front ++ past_spaces bytes) (spaces-taken bytes)

pub piece-cuts : (test : ℕ → Bool) (bytes : List ℕ) → IsCut test bytes
piece-cuts test bytes =
    let text = past_spaces bytes in
    let tail = drop (prefix_len test text) text in
    record {
      gap = prefix_len is_space bytes;
      after = prefix_len is_space tail;
      is = split-spaces bytes
          ∙ ap (λ rest. spaces (prefix_len is_space bytes) ++ rest)
          (sym (take-append-drop (prefix_len test text) text)
          ∙ ap (λ rest. piece test bytes ++ rest) (split-spaces tail));
    }

-- ---- signs

pub other : {A : Type 0} (test : Bool) (x y : A) → test ≡ false → (if test then x else y) ≡ y
other true x y e = absurd (false≢true (sym e))
other false x y e = refl

-- a choice of signs by the first byte
choice : (byte sign : ℕ) (rest : List ℕ) (one : Signed) (others : Option Signed)
    (signed : Signed) → (sign ∷ rest ≡ sign_text one.comparison ++ one.rest)
    → (others ≡ Some signed → byte ∷ rest ≡ sign_text signed.comparison ++ signed.rest)
    → (if byte == sign then Some one else others) ≡ Some signed
    → byte ∷ rest ≡ sign_text signed.comparison ++ signed.rest
choice byte sign rest one others signed here more is = search rules

pub never : (signed : Signed) → None ≡ Some signed → ⊥
never signed e = cc

single : (byte : ℕ) (rest : List ℕ) (signed : Signed) → single_sign byte rest ≡ Some signed
    → byte ∷ rest ≡ sign_text signed.comparison ++ signed.rest
single byte rest signed is = search rules

pub sign-is : (comparison : Comparison) (tail : List ℕ) → Stops (λ byte. byte == 61) tail
    → sign_in (sign_text comparison ++ tail)
    ≡ Some (record { comparison = comparison; rest = tail })
sign-is Less [] stops = refl
sign-is Less (byte ∷ tail) stops = other (byte == 61) _ _ stops
sign-is Greater [] stops = refl
sign-is Greater (byte ∷ tail) stops = other (byte == 61) _ _ stops
sign-is AtMost tail stops = refl
sign-is AtLeast tail stops = refl
sign-is Equal tail stops = refl
sign-is Unequal tail stops = refl

pub sign-splits : (bytes : List ℕ) (signed : Signed) → sign_in bytes ≡ Some signed
    → bytes ≡ sign_text signed.comparison ++ signed.rest
sign-splits [] signed is = cc
sign-splits (byte ∷ []) signed is = single byte [] signed is
sign-splits (byte ∷ next ∷ rest) signed is = search rules

-- ---- the bytes of names and numbers

pub start-continues : (byte : ℕ) → starts_name byte ≡ true → continues_name byte ≡ true
start-continues byte starts = grind (arith, nat_tests)

pub word-passes : (word : List ℕ) → IsWord word
    → (list_all continues_name word ≡ true) × (0 < length word)
word-passes [] is = absurd is
word-passes (byte ∷ bytes) is =
    search (rules, start-continues, is, list_all-from_AllPass, continues_name)

-- a sign begins with no byte of a name and no space
pub sign-stops : (comparison : Comparison) (rest : List ℕ)
    → Stops continues_name (sign_text comparison ++ rest)
    × Stops is_space (sign_text comparison ++ rest)
sign-stops Less rest = (refl, refl)
sign-stops AtMost rest = (refl, refl)
sign-stops Greater rest = (refl, refl)
sign-stops AtLeast rest = (refl, refl)
sign-stops Equal rest = (refl, refl)
sign-stops Unequal rest = (refl, refl)

pub equals-is : (bytes behind : List ℕ) → behind_equals bytes ≡ Some behind → bytes ≡ 61 ∷ behind
equals-is [] behind is = cc
equals-is (byte ∷ rest) behind is = search rules

pub empty : (bytes : List ℕ) → (length bytes == 0) ≡ true → bytes ≡ []
empty [] none = refl
empty (byte ∷ bytes) none = search rules

pub some-same : {A : Type 0} (x y : A) → Some x ≡ Some y → x ≡ y
some-same x y e = cc

-- ---- one part alone

-- the text is one part, with spaces round it
pub record IsAlone (test : ℕ → Bool) (text run : List ℕ) : Type 0 where
  pub run_is : piece test text ≡ run
  pub end : behind_piece test text ≡ []

pub alone-is : (test : ℕ → Bool) (text run : List ℕ) → test 32 ≡ false → list_all test run ≡ true
    → 0 < length run → IsSpaced (run ∷ []) text → IsAlone test text run
alone-is test text run never all some is =
    let at_end = is.3 in
    let text_is = is.2
    ∙ ap (λ end. spaces is.0 ++ (run ++ end)) (at_end.1 ∙ sym (append-nil (spaces at_end.0))) in
    let cut = piece-is test is.0 at_end.0 run [] never all some tt tt in
    record {
      run_is = ap (piece test) text_is ∙ cut.run_is;
      end = ap (behind_piece test) text_is ∙ cut.rest_is;
    }

pub spaced-alone : (test : ℕ → Bool) (text : List ℕ) → behind_piece test text ≡ []
    → IsSpaced (piece test text ∷ []) text
spaced-alone test text end =
    let cut = piece-cuts test text in (
      cut.gap,
      spaces cut.after ++ behind_piece test text,
      cut.is,
      (
        cut.after,
        ap (λ rest. spaces cut.after ++ rest) end ∙ append-nil (spaces cut.after),
      ),
    )

-- ---- names are ASCII

ascii : (bytes : List ℕ) → list_all continues_name bytes ≡ true → IsAscii bytes
ascii [] all i = omega arith
ascii (byte ∷ bytes) all zero = search rules
ascii (byte ∷ bytes) all (suc i) =
    ascii bytes (second (continues_name byte) (list_all continues_name bytes) all) i

pub word-ascii : (word : List ℕ) → IsWord word → IsAscii word
word-ascii word is = ascii word (word-passes word is).0
