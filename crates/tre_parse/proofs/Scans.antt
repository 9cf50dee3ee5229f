-- Steps of a scan: what is read from an offset on, once the word there is read.
use Rattle.std.proofs.Common.{◌≡◌, ℕ, ◌+◌, ◌-◌, ◌<◌, ◌≤◌, zero, suc, List, [], ◌∷◌, ◌++◌, length, drop, take, get_or, sym, ◌∙◌, ap, arith, append_assoc, add-one, drop-cons, rules}
use Rattle.std.proofs.lemmas.List.{drop-drop, length-drop}
use Rattle.tre_parse.specs.declared.token.Token.{Token}
use Rattle.tre_parse.specs.declared.lexeme.Lexeme.TheVariants.{Blank, Name, Number, Sign}
use Rattle.tre_parse.specs.declared.scan.Scan.{Scan}
use Rattle.tre_parse.specs.Lexeme.{lexeme_of}
use Rattle.tre_parse.specs.Tokens.{RawToken, name, number, sign}
use Rattle.tre_parse.specs.Scanned.{RawTokens, raw_tokens_from, scanned, with_raw_token}
use Rattle.tre_parse.specs.Known.{known_after, names_from}
use Rattle.tre_parse.specs.Scan.{rest_from, known_in, placed, placed_from, TakesToken, LeadsTo}

-- The bytes of a word are passed over.
pub raw_tokens_skip : (k at : ℕ) (bytes : List ℕ) → k ≤ length bytes → raw_tokens_from k at bytes
    ≡ raw_tokens_from 0 (at + k) (drop k bytes)
raw_tokens_skip zero at bytes h = search rules
raw_tokens_skip (suc k) at [] h = absurd (omega arith)
raw_tokens_skip (suc k) at (b ∷ bs) h =
    let e : at + 1 + k ≡ at + suc k = omega arith in
    raw_tokens_skip k (at + 1) bs (omega arith) ∙ ap (λ n. raw_tokens_from 0 n (drop k bs)) e

raw_tokens_first : (b : ℕ) (xs bs : List ℕ) (at : ℕ) → xs ≡ b ∷ bs → raw_tokens_from 0 at xs
    ≡ scanned (lexeme_of xs) at xs (λ skip. raw_tokens_from skip (at + 1) bs)
raw_tokens_first b xs bs at e = search rules

rest_first : (bytes : List ℕ) (at : ℕ) → at < length bytes → rest_from bytes at
    ≡ scanned (lexeme_of (drop at bytes)) at (drop at bytes)
    (λ skip. raw_tokens_from skip (at + 1) (drop (at + 1) bytes))
rest_first bytes at h =
    let e = rw (← add-one) at (drop-cons bytes at 0 h) in
    raw_tokens_first (get_or bytes at 0) (drop at bytes) (drop (at + 1) bytes) at e

-- What follows a word of so many bytes.
rest_after : (bytes : List ℕ) (at len : ℕ) → 0 < len → len ≤ length (drop at bytes)
    → raw_tokens_from (len - 1) (at + 1) (drop (at + 1) bytes) ≡ rest_from bytes (at + len)
rest_after bytes at len p h =
    search (rules, length-drop, raw_tokens_skip, raw_tokens_from, drop-drop)

pub rest_blank : (bytes : List ℕ) (at : ℕ) → at < length bytes → lexeme_of (drop at bytes) ≡ Blank
    → rest_from bytes at ≡ rest_from bytes (at + 1)
rest_blank bytes at h e = search (rules, rest_first, scanned, raw_tokens_from)

pub rest_name : (bytes : List ℕ) (at len : ℕ) → at < length bytes → 0 < len
    → len ≤ length (drop at bytes) → lexeme_of (drop at bytes) ≡ Name len →
    rest_from bytes at ≡ with_raw_token at (name (take len (drop at bytes)))
    (rest_from bytes (at + len))
rest_name bytes at len h p q e =
    search (rules, rest_first, scanned, raw_tokens_from, with_raw_token, name, rest_after)

pub rest_number : (bytes : List ℕ) (at len : ℕ) → at < length bytes → 0 < len
    → len ≤ length (drop at bytes) → lexeme_of (drop at bytes) ≡ Number len →
    rest_from bytes at ≡ with_raw_token at (number (take len (drop at bytes)))
    (rest_from bytes (at + len))
rest_number bytes at len h p q e =
    search (rules, rest_first, scanned, raw_tokens_from, with_raw_token, number, rest_after)

pub rest_sign : (bytes : List ℕ) (at len : ℕ) (token : Token) → at < length bytes → 0 < len
    → len ≤ length (drop at bytes) → lexeme_of (drop at bytes) ≡ Sign token len →
    rest_from bytes at ≡ with_raw_token at (sign token) (rest_from bytes (at + len))
rest_sign bytes at len token h p q e =
    search (rules, rest_first, scanned, raw_tokens_from, with_raw_token, sign, rest_after)

-- A word that the scan takes leads to what follows it.
pub leads_word : (bytes : List ℕ) (old new : Scan) (at next : ℕ) (word : RawToken)
    → TakesToken old new at word →
    rest_from bytes at ≡ with_raw_token at word (rest_from bytes next)
    → LeadsTo bytes old at new next
leads_word bytes old new at next word t e =
    let rest = (rest_from bytes next).raw_tokens in
    let raw_tokens = ap (λ (l : RawTokens). l.raw_tokens) e in
    record {
      tokens = ap (λ s. old.tokens.items ++ placed_from old.scale (known_in old) s) raw_tokens
          ∙ sym (append_assoc old.tokens.items (placed old.scale (known_in old) at word ∷ [])
          (placed_from old.scale (known_after (known_in old) word) rest))
          ∙ ap (λ l. l ++ placed_from old.scale (known_after (known_in old) word) rest)
          (sym t.tokens)
          ∙ ap (λ k. new.tokens.items ++ placed_from old.scale k rest) (sym t.known)
          ∙ ap (λ n. new.tokens.items ++ placed_from n (known_in new) rest) (sym t.same_scale);
      names = ap (λ s. names_from (known_in old) s) raw_tokens
          ∙ ap (λ k. names_from k rest) (sym t.known);
      bad = ap (λ (l : RawTokens). l.bad) e;
      size = t.size;
      same_scale = t.same_scale;
    }

pub same_bytes : (word : List ℕ → RawToken) (old new : Scan) (at : ℕ) (xs ys : List ℕ) → xs ≡ ys
    → TakesToken old new at (word ys) → TakesToken old new at (word xs)
same_bytes word old new at xs ys e t = search rules

pub leads_same : (bytes : List ℕ) (scan : Scan) (at next : ℕ) → rest_from bytes at
    ≡ rest_from bytes next → LeadsTo bytes scan at scan next
leads_same bytes scan at next e = search rules
