-- What a word is where `clap` has no fault of it: a setting's, the text, or `--`.
use Rattle.std.proofs.Common.{◌≡◌, ◌∙◌, ◌++◌, ◌==◌, ◌⊎◌, inl, inr, ◌&&◌, ◌||◌, ◌+◌, suc, take, arith, cond, not, ℕ, Bool, true, false, List, ◌∷◌, [], Option, None, Some, refl, sym, ap, subst, codes, true≢false}
use Rattle.std.proofs.lemmas.List.{append-nil, append_assoc}
use Rattle.std.proofs.lemmas.Bool.Decides.{nat_tests}
use Rattle.std.proofs.lemmas.Slice.Eq.{bytes_eq-Decides}
use Rattle.std.proofs.lemmas.Str.{IsUtf8-past_char, encodes-chars}
use Rattle.std.specs.Prelude.{is_some, drop}
use Rattle.std.specs.List.{before_first, after_first}
use Rattle.std.specs.Str.{bytes_eq, chars, IsUtf8, encode_utf8_all}
use Rattle.clap.specs.Lexer.{has_byte, long_of}
use Rattle.clap.specs.Walk.{Rule, Row, Text, arg_by_long, arg_by_short, has_long}
use Rattle.clap.specs.Kinds.{Kinds}
use Rattle.clap.specs.Faults.{bundle_fault, flag_word_fault, long_fault}
use Rattle.clap.proofs.OnLiterals.{clap_on_literals}
use Rattle.tre_words.specs.CommandLine.{command_line}
use Rattle.tre_words.specs.Settings.{IsPlain, flags, is_among, options}
use Rattle.tre_words.proofs.Settings.{Pending, flag_named, held, rules}

pub data Seen (word : Text) : Type 0 where
  seen_flag : (name : Text) → is_among flags name ≡ true → word ≡ codes "--" ++ name → Seen word
  seen_joined : (name value : Text) → is_among options name ≡ true
      → word ≡ codes "--" ++ name ++ codes "=" ++ value → Seen word
  seen_apart : (name : Text) → is_among options name ≡ true → word ≡ codes "--" ++ name → Seen word
  seen_plain : IsPlain word → Seen word
  seen_end : word ≡ codes "--" → Seen word

-- ---- the name behind `--`

abbrev Long : Text → Type 0
Long name = (is_among flags name ≡ true) ⊎ (is_among options name ≡ true)

abbrev is_long : Rule → Text → Bool
is_long rule name = not (is_some rule.index) && has_long rule name

abbrev AreKnown : List Rule → Type 0
AreKnown [] = Unit {0}
AreKnown (rule ∷ rest) = ((name : Text) → is_long rule name ≡ true → Long name) × AreKnown rest

known : (rest : List Rule) → AreKnown rest → (name : Text)
    → (arg_by_long rest name ≡ None) ⊎ Long name
known [] are name = inl refl
known (rule ∷ rest) are name = go (is_long rule name) refl (known rest are.1 name)
  where
    go : (b : Bool) → is_long rule name ≡ b → (arg_by_long rest name ≡ None) ⊎ Long name
        → (cond b (Some rule) (arg_by_long rest name) ≡ None) ⊎ Long name
    go true e later = inr (are.0 name e)
    go false e later = later

named : (all : List Text) (one name : Text) → is_among all one ≡ true
    → (bytes_eq one name || false) ≡ true → is_among all name ≡ true
named all one name is e = go (bytes_eq one name) refl e
  where
    go : (b : Bool) → bytes_eq one name ≡ b → (b || false) ≡ true → is_among all name ≡ true
    go true same e = subst (λ (name : Text). is_among all name ≡ true)
        ((bytes_eq-Decides one name).0 same) is
    go false same e = absurd (true≢false (sym e))

rules_known : AreKnown rules
unfolding command_line clap_on_literals
rules_known = (
  (λ name e. inl (named flags (codes "online") name refl e)),
  (
    (λ name e. inl (named flags (codes "show") name refl e)),
    (
      (λ name e. inr (named options (codes "format") name refl e)),
      (
        (λ name e. inr (named options (codes "input") name refl e)),
        (
          (λ name e. inr (named options (codes "max-bytes") name refl e)),
          (
            (λ name e. inr (named options (codes "scale") name refl e)),
            (
              (λ name e. inl (named flags (codes "normal") name refl e)),
              (
                (λ name e. inr (named options (codes "max-zones") name refl e)),
                (
                  (λ name e. inr (named options (codes "minus") name refl e)),
                  (
                    (λ name e. inr (named options (codes "let") name refl e)),
                    (
                      (λ name e. inr (named options (codes "define") name refl e)),
                      (
                        (λ name e. inr (named options (codes "unit") name refl e)),
                        ((λ name e. cc), tt),
                      ),
                    ),
                  ),
                ),
              ),
            ),
          ),
        ),
      ),
    ),
  ),
)

-- ---- the value behind `=`

abbrev is_equals : ℕ → Bool
is_equals byte = byte == 61

record Cut (text : Text) (has : Bool) : Type 0 where
  is : has_byte 61 text ≡ has
  parts : text ≡ before_first is_equals text
      ++ cond has (61 ∷ after_first is_equals text) []

later : (n x : ℕ) (xs : Text) (has : Bool)
    → xs ≡ take n xs ++ cond has (61 ∷ drop (n + 1) xs) []
    → x ∷ xs ≡ take (1 + n) (x ∷ xs) ++ cond has (61 ∷ drop ((1 + n) + 1) (x ∷ xs)) []
later n x xs has parts =
    let once : 1 + n ≡ suc n = omega arith in
    let twice : (1 + n) + 1 ≡ suc (n + 1) = omega arith in
    rw (twice, once) (ap (λ (more : Text). x ∷ more) parts)

cut : (text : Text) → (Cut text true) ⊎ (Cut text false)
cut [] = inr (record { is = refl; parts = refl })
cut (x ∷ xs) = go (is_equals x) refl (cut xs)
  where
    go : (b : Bool) → is_equals x ≡ b → (Cut xs true) ⊎ (Cut xs false)
        → (Cut (x ∷ xs) true) ⊎ (Cut (x ∷ xs) false)
    go true e rest = inl (record {
      is = rw e refl;
      parts = let same : x ≡ 61 = grind (arith, nat_tests) in rw same refl;
    })
    go false e (inl rest) = inl (record {
      is = rw e rest.is;
      parts = rw e (later _ x xs true rest.parts);
    })
    go false e (inr rest) = inr (record {
      is = rw e rest.is;
      parts = rw e (later _ x xs false rest.parts);
    })

-- ---- words

-- what `clap` finds wrong with a word that is neither the value of a positional nor `--`
abbrev pub wrong : Text → List Row → Pending → Kinds
wrong word rows pending = cond (bytes_eq word (codes "--")) []
    (flag_word_fault rules false (long_of word) word (held rows pending))

-- a name that takes no value has none, and one that isn't known has a fault
flag_alone : (name : Text) → is_among flags name ≡ true → (value : Text) (rows : List Row)
    (pending : Pending) → long_fault rules false (arg_by_long rules name) (Some value)
    (held rows pending) ≡ [] → ⊥
flag_alone name is value rows pending e =
    let it = sym (ap (λ (found : Option Rule).
    long_fault rules false found (Some value) (held rows pending)) (flag_named name is).0) ∙ e in cc

unknown : (found : Option Rule) (value : Option Text) (rows : List Row) (pending : Pending)
    → found ≡ None → long_fault rules false found value (held rows pending) ≡ [] → ⊥
unknown found value rows pending none e = let it = rw none at e in cc

no_short : (x : ℕ) → arg_by_short rules x ≡ None
unfolding command_line clap_on_literals
no_short x = refl

-- a word with one hyphen is a bundle of short options, of which there is none
short_wrong : (y : ℕ) (ys : Text) (rows : List Row) (pending : Pending)
    → IsUtf8 (45 ∷ y ∷ ys) → (y == 45) ≡ false → wrong (45 ∷ y ∷ ys) rows pending ≡ [] → ⊥
unfolding command_line clap_on_literals
short_wrong y ys rows pending utf8 other none =
    let once = rw other at none in
    let twice = rw other at once in
    go (chars (y ∷ ys)) refl twice
  where
    go : (all : List ℕ) → chars (y ∷ ys) ≡ all
        → bundle_fault rules false (y ∷ ys) (held rows pending) ≡ [] → ⊥
    go [] e clean = let later = IsUtf8-past_char (45 ∷ y ∷ ys) (y ∷ ys) 45 utf8 refl in
        let same : encode_utf8_all [] ≡ y ∷ ys =
        ap encode_utf8_all (sym e) ∙ encodes-chars (y ∷ ys) later in cc
    go (one ∷ more) e clean = let it = rw e at clean in cc

-- one with two
abbrev value_behind : Bool → Text → Option Text
value_behind has text = cond has (Some (after_first is_equals text)) None

long_wrong : (z : ℕ) (zs : Text) (rows : List Row) (pending : Pending)
    → wrong (45 ∷ 45 ∷ z ∷ zs) rows pending
    ≡ long_fault rules false (arg_by_long rules (before_first is_equals (z ∷ zs)))
    (value_behind (has_byte 61 (z ∷ zs)) (z ∷ zs)) (held rows pending)
long_wrong z zs rows pending = refl

long_seen : (z : ℕ) (zs : Text) (rows : List Row) (pending : Pending)
    → wrong (45 ∷ 45 ∷ z ∷ zs) rows pending ≡ [] → Seen (45 ∷ 45 ∷ z ∷ zs)
long_seen z zs rows pending none =
    go (cut (z ∷ zs)) (known rules rules_known name) (sym (long_wrong z zs rows pending) ∙ none)
  where
    name : Text
    name = before_first is_equals (z ∷ zs)

    go : (Cut (z ∷ zs) true) ⊎ (Cut (z ∷ zs) false)
        → (arg_by_long rules name ≡ None) ⊎ Long name
        → long_fault rules false (arg_by_long rules name)
        (value_behind (has_byte 61 (z ∷ zs)) (z ∷ zs)) (held rows pending) ≡ []
        → Seen (45 ∷ 45 ∷ z ∷ zs)
    go either (inl missing) clean = absurd (unknown _ _ rows pending missing clean)
    go (inl with) (inr (inl is)) clean =
        absurd (flag_alone name is _ rows pending (rw with.is at clean))
    go (inl with) (inr (inr is)) clean =
        seen_joined name (after_first is_equals (z ∷ zs)) is
        (ap (λ (text : Text). 45 ∷ 45 ∷ text)
        (with.parts ∙ sym (append_assoc name (61 ∷ []) _)))
    go (inr without) (inr (inl is)) clean =
        seen_flag name is (ap (λ (text : Text). 45 ∷ 45 ∷ text)
        (without.parts ∙ append-nil name))
    go (inr without) (inr (inr is)) clean =
        seen_apart name is (ap (λ (text : Text). 45 ∷ 45 ∷ text)
        (without.parts ∙ append-nil name))

hyphen_seen : (xs : Text) (rows : List Row) (pending : Pending) → IsUtf8 (45 ∷ xs)
    → wrong (45 ∷ xs) rows pending ≡ [] → Seen (45 ∷ xs)
hyphen_seen [] rows pending utf8 none = seen_plain (inl refl)
hyphen_seen (y ∷ ys) rows pending utf8 none = go (y == 45) refl ys utf8 none
  where
    two : (ys : Text) → wrong (45 ∷ 45 ∷ ys) rows pending ≡ [] → Seen (45 ∷ 45 ∷ ys)
    two [] none = seen_end refl
    two (z ∷ zs) none = long_seen z zs rows pending none

    go : (b : Bool) → (y == 45) ≡ b → (ys : Text) → IsUtf8 (45 ∷ y ∷ ys)
        → wrong (45 ∷ y ∷ ys) rows pending ≡ [] → Seen (45 ∷ y ∷ ys)
    go false e ys utf8 none = absurd (short_wrong y ys rows pending utf8 e none)
    go true e ys utf8 none = let same : y ≡ 45 = grind (arith, nat_tests) in
        rw same (two ys (rw same at none))

pub seen : (word : Text) (rows : List Row) (pending : Pending) → IsUtf8 word
    → wrong word rows pending ≡ [] → Seen word
seen [] rows pending utf8 none = seen_plain (inr (λ rest e. cc))
seen (x ∷ xs) rows pending utf8 none = go (x == 45) refl
  where
    go : (b : Bool) → (x == 45) ≡ b → Seen (x ∷ xs)
    go false e = seen_plain (inr (λ rest same. let first : x ≡ 45 = cc in
        absurd (true≢false (ap (λ (byte : ℕ). byte == 45) (sym first) ∙ e))))
    go true e = let same : x ≡ 45 = grind (arith, nat_tests) in
        rw same (hyphen_seen xs rows pending (rw same at utf8) (rw same at none))
