-- A definition of a name by a signal is cut into its parts in one way.
use Rattle.std.proofs.Common.{◌≡◌, ◌⊎◌, ℕ, zero, suc, ◌<◌, ◌≤◌, true, List, [], ◌∷◌, ◌++◌, append_assoc, length, take, drop, inl, inr, refl, sym, ap, subst, ◌∙◌, arith}
use Rattle.std.specs.Prelude.{nat_lt}
use Rattle.std.specs.Str.{IsAscii, IsUtf8, IsCharBoundary}
use Rattle.std.specs.List.{list_all, prefix_len}
use Rattle.std.proofs.lemmas.Bool.{cases_lt}
use Rattle.std.proofs.lemmas.Bool.Decides.{nat_tests}
use Rattle.std.proofs.lemmas.List.{append-nil, drop_at, take_at}
use Rattle.std.proofs.lemmas.Str.{IsCharBoundary-after_ascii, IsCharBoundary-before_ascii, IsCharBoundary-end, IsUtf8-drop, IsUtf8-nil, IsUtf8-take}
use Rattle.tre_state.specs.Name.{continues_name, IsName, IsWord}
use Rattle.tre_define.specs.declared.comparison.Comparison.{Comparison}
use Rattle.tre_define.specs.declared.comparison.Comparison.TheVariants.{Less, AtMost, Greater, AtLeast, Equal, Unequal}
use Rattle.tre_define.specs.declared.reads.Reads.{Reads}
use Rattle.tre_define.specs.declared.reads.Reads.TheVariants.{Beside, Bit, Changes, Compared, Has}
use Rattle.tre_define.specs.Pieces.{behind_piece, past_spaces, piece}
use Rattle.tre_define.specs.Signals.{IsReadBehind, IsSignal, SignalDefined, Spells, signal_len}
use Rattle.tre_define.specs.Texts.{IsSpaced, is_space, sign_text}
use Rattle.tre_define.proofs.Cutting.{first, piece-cuts, piece-is, second, spaces, spaces-past, split-spaces, word-ascii, word-passes}
use Rattle.tre_define.proofs.SignalLength.{len-within, signal-ends, signal-starts, stops-ascii}

-- The parts of a definition, as they are cut.
pub record AreParts (text : List ℕ) (defined : SignalDefined) : Type 0 where
  pub after : List ℕ
  pub behind : List ℕ
  pub name : piece continues_name text ≡ defined.name
  pub equals : behind_piece continues_name text ≡ 61 ∷ after
  pub rest : past_spaces after ≡ defined.signal ++ behind
  pub signal : IsSignal defined.signal behind
  pub read : IsReadBehind defined.reads defined.other behind

regroup : (a b c d tail : List ℕ) → (a ++ (b ++ (c ++ (61 ∷ d)))) ++ tail
    ≡ a ++ (b ++ (c ++ (61 ∷ (d ++ tail))))
regroup a b c d tail =
    append_assoc a (b ++ (c ++ (61 ∷ d))) tail
    ∙ ap (λ x. a ++ x) (append_assoc b (c ++ (61 ∷ d)) tail
    ∙ ap (λ x. b ++ x) (append_assoc c (61 ∷ d) tail))

pub parts-are : (text : List ℕ) (defined : SignalDefined) → Spells text defined
    → AreParts text defined
parts-are text defined is =
    let tail = defined.signal ++ is.behind in
    let name = word-passes defined.name is.name.0 in
    let at_name = is.spaced in
    let at_equals = at_name.3 in
    let at_end = at_equals.3 in
    let after = spaces at_end.0 ++ tail in
    let front_is : is.front
    ≡ spaces at_name.0 ++ (defined.name ++ (spaces at_equals.0 ++ (61 ∷ spaces at_end.0))) =
    at_name.2 ∙ ap (λ rest. spaces at_name.0 ++ (defined.name ++ rest)) (at_equals.2
    ∙ ap (λ end. spaces at_equals.0 ++ (61 ∷ end)) at_end.1) in
    let text_is = is.split ∙ ap (λ front. front ++ tail) front_is
    ∙ regroup (spaces at_name.0) defined.name (spaces at_equals.0) (spaces at_end.0) tail in
    let one = piece-is continues_name at_name.0 at_equals.0 defined.name (61 ∷ after) refl name.0
    name.1 refl refl in
    record {
      after = after;
      behind = is.behind;
      name = ap (piece continues_name) text_is ∙ one.run_is;
      equals = ap (behind_piece continues_name) text_is ∙ one.rest_is;
      rest = spaces-past at_end.0 tail (signal-starts defined.signal is.behind is.signal);
      signal = is.signal;
      read = is.read;
    }

pub parts-spell : (text : List ℕ) (defined : SignalDefined) → AreParts text defined
    → IsName defined.name → Spells text defined
parts-spell text defined parts name =
    let one = piece-cuts continues_name text in
    let count = prefix_len is_space parts.after in
    let tail = defined.signal ++ parts.behind in
    let after_is : parts.after ≡ spaces count ++ tail =
    split-spaces parts.after ∙ ap (λ rest. spaces count ++ rest) parts.rest in
    let word = piece continues_name text in
    let text_is : text
    ≡ spaces one.gap ++ (word ++ (spaces one.after ++ (61 ∷ (spaces count ++ tail)))) =
    one.is ∙ ap (λ rest. spaces one.gap ++ (word ++ (spaces one.after ++ rest)))
    (parts.equals ∙ ap (λ rest. 61 ∷ rest) after_is) in
    let front = spaces one.gap ++ (defined.name ++ (spaces one.after ++ (61 ∷ spaces count))) in
    record {
      front = front;
      behind = parts.behind;
      split = text_is
          ∙ ap (λ run. spaces one.gap ++ (run ++ (spaces one.after
          ++ (61 ∷ (spaces count ++ tail))))) parts.name
          ∙ sym (regroup (spaces one.gap) defined.name (spaces one.after) (spaces count) tail);
      spaced = (
        one.gap,
        spaces one.after ++ (61 ∷ spaces count),
        refl,
        (one.after, spaces count, refl, (count, refl)),
      );
      name = name;
      signal = parts.signal;
      read = parts.read;
    }

-- ---- the signal's text is taken at its length

-- A signal's text and what stands behind it, in front of which its length was taken.
pub record IsCutAt (rest signal behind : List ℕ) : Type 0 where
  pub front : take (signal_len rest) rest ≡ signal
  pub back : drop (signal_len rest) rest ≡ behind

pub cut-at : (rest signal behind : List ℕ) → rest ≡ signal ++ behind → IsSignal signal behind
    → IsCutAt rest signal behind
cut-at rest signal behind is signals =
    let len : signal_len rest ≡ length signal = ap signal_len is ∙ signals.all in
    record {
      front = ap (λ n. take n rest) len ∙ ap (take (length signal)) is
          ∙ take_at signal behind (length signal) refl;
      back = ap (λ n. drop n rest) len ∙ ap (drop (length signal)) is
          ∙ drop_at signal behind (length signal) refl;
    }

-- ---- a signal's text is text

behind-ascii : (front rest : List ℕ) → IsAscii front → IsUtf8 (front ++ rest) → IsUtf8 rest
behind-ascii [] rest ascii is = is
behind-ascii (byte ∷ front) rest ascii is =
    behind-ascii front rest (λ i. ascii (suc i))
    (IsUtf8-drop (byte ∷ (front ++ rest)) 1 is
    (IsCharBoundary-after_ascii (byte ∷ (front ++ rest)) 0 is (omega arith) (ascii 0)))

spaces-ascii : (count : ℕ) → IsAscii (spaces count)
spaces-ascii zero i = omega arith
spaces-ascii (suc count) zero = omega arith
spaces-ascii (suc count) (suc i) = spaces-ascii count i

equals-ascii : IsAscii (61 ∷ [])
equals-ascii zero = omega arith
equals-ascii (suc i) = omega arith

rest-text : (text after : List ℕ) → IsUtf8 text → IsWord (piece continues_name text)
    → behind_piece continues_name text ≡ 61 ∷ after → IsUtf8 (past_spaces after)
rest-text text after is word equals =
    let one = piece-cuts continues_name text in
    let count = prefix_len is_space after in
    let name = piece continues_name text in
    let text_is : text
    ≡ spaces one.gap ++ (name ++ (spaces one.after
    ++ ((61 ∷ []) ++ (spaces count ++ past_spaces after)))) =
    one.is ∙ ap (λ rest. spaces one.gap ++ (name ++ (spaces one.after ++ rest)))
    (equals ∙ ap (λ rest. 61 ∷ rest) (split-spaces after)) in
    behind-ascii (spaces count) (past_spaces after) (spaces-ascii count)
    (behind-ascii (61 ∷ []) _ equals-ascii
    (behind-ascii (spaces one.after) _ (spaces-ascii one.after)
    (behind-ascii name _ (word-ascii name word)
    (behind-ascii (spaces one.gap) _ (spaces-ascii one.gap) (subst IsUtf8 text_is is)))))

boundary : (bytes : List ℕ) → IsCharBoundary bytes (signal_len bytes)
boundary bytes = by (cases_lt (signal_len bytes) (length bytes)) where
  by : (signal_len bytes < length bytes) ⊎ (length bytes ≤ signal_len bytes)
      → IsCharBoundary bytes (signal_len bytes)
  by (inl below) =
      IsCharBoundary-before_ascii bytes (signal_len bytes) below (stops-ascii bytes below)
  by (inr past) =
      let all : length bytes ≡ signal_len bytes = omega (arith, past, len-within bytes) in
      subst (IsCharBoundary bytes) all (IsCharBoundary-end bytes)

pub signal-text : (text after : List ℕ) → IsUtf8 text → IsWord (piece continues_name text)
    → behind_piece continues_name text ≡ 61 ∷ after
    → IsUtf8 (take (signal_len (past_spaces after)) (past_spaces after))
signal-text text after is word equals =
    IsUtf8-take (past_spaces after) (signal_len (past_spaces after))
    (rest-text text after is word equals) (boundary (past_spaces after))

-- ---- so is that of another signal

pub behind-text : (text after : List ℕ) → IsUtf8 text → IsWord (piece continues_name text)
    → behind_piece continues_name text ≡ 61 ∷ after
    → IsUtf8 (drop (signal_len (past_spaces after)) (past_spaces after))
behind-text text after is word equals =
    IsUtf8-drop (past_spaces after) (signal_len (past_spaces after))
    (rest-text text after is word equals) (boundary (past_spaces after))

sign-ascii : (comparison : Comparison) → IsAscii (sign_text comparison)
sign-ascii comparison = by (sign_text comparison) (small comparison) where
  by : (bytes : List ℕ) → list_all (λ byte. nat_lt byte 128) bytes ≡ true → IsAscii bytes
  by [] all i = omega arith
  by (byte ∷ bytes) all zero =
      let here = first (nat_lt byte 128) (list_all (λ byte. nat_lt byte 128) bytes) all in
      grind (arith, nat_tests)
  by (byte ∷ bytes) all (suc i) =
      by bytes (second (nat_lt byte 128) (list_all (λ byte. nat_lt byte 128) bytes) all) i

  small : (comparison : Comparison)
      → list_all (λ byte. nat_lt byte 128) (sign_text comparison) ≡ true
  small Less = refl
  small AtMost = refl
  small Greater = refl
  small AtLeast = refl
  small Equal = refl
  small Unequal = refl

beside-text : (behind other : List ℕ) (comparison : Comparison) → IsUtf8 behind
    → IsSignal other [] → IsSpaced (sign_text comparison ∷ other ∷ []) behind → IsUtf8 other
beside-text behind other comparison text signal is =
    let sign = sign_text comparison in
    let last = is.3 in
    let end = last.3 in
    let tail = other ++ spaces end.0 in
    let behind_is : behind ≡ spaces is.0 ++ (sign ++ (spaces last.0 ++ tail)) =
    is.2 ∙ ap (λ rest. spaces is.0 ++ (sign ++ rest)) (last.2
    ∙ ap (λ rest. spaces last.0 ++ (other ++ rest)) end.1) in
    let whole : IsUtf8 tail =
    behind-ascii (spaces last.0) tail (spaces-ascii last.0)
    (behind-ascii sign _ (sign-ascii comparison)
    (behind-ascii (spaces is.0) _ (spaces-ascii is.0) (subst IsUtf8 behind_is text))) in
    let len : signal_len tail ≡ length other =
    signal-ends other end.0 (ap signal_len (sym (append-nil other)) ∙ signal.all) in
    subst IsUtf8 (ap (λ n. take n tail) len ∙ take_at other (spaces end.0) (length other) refl)
    (IsUtf8-take tail (signal_len tail) whole (boundary tail))

no-text : (other : List ℕ) → other ≡ [] → IsUtf8 other
no-text other none = subst IsUtf8 (sym none) (IsUtf8-nil)

pub other-text : (behind : List ℕ) (reads : Reads) (other : List ℕ) → IsUtf8 behind
    → IsReadBehind reads other behind → IsUtf8 other
other-text behind Bit other text is = no-text other is.0
other-text behind (Compared comparison number) other text is = no-text other is.0
other-text behind Changes other text is = no-text other is.0
other-text behind (Has letter) other text is = no-text other is.0
other-text behind (Beside comparison) other text is =
    beside-text behind other comparison text is.0 is.2
