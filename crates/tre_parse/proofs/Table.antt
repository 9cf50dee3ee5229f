-- The table of signs as the code has it: the longest sign is taken, and nothing else.
use Rattle.std.proofs.Common.{◌≡◌, ℕ, Bool, true, false, cond, List, [], ◌∷◌, ◌++◌, length, take, refl, subst, arith, codes, rules}
use Rattle.std.specs.Prelude.{nat_eq}
use Rattle.std.specs.List.{starts_with}
use Rattle.tre_parse.specs.declared.lexeme.TheConstants.{SIGNS}
use Rattle.std.specs.Cmp.Lexicographic.{same_text}
use Rattle.std.proofs.lemmas.Bool.Decides.{nat_tests}
use Rattle.tre_parse.specs.declared.token.Token.{Token}
use Rattle.tre_parse.specs.declared.token.Token.TheVariants.{Bar, Ampersand}
use Rattle.tre_parse.specs.declared.lexeme.Lexeme.TheVariants.{Sign}
use Rattle.tre_parse.specs.Lexeme.{lexeme_of, first_sign, sign_lexeme}
use Rattle.tre_parse.specs.Signs.{IsSign, left_paren, right_paren, left_bracket, right_bracket, left_brace, right_brace, comma, semicolon, bar, double_bar, ampersand, double_ampersand, bang, star, plus, question, percent, begins, ends, TakesSign}

-- A sign that no other goes on with.
alone : (spelling rest : List ℕ) (token : Token) → IsSign spelling token
    → lexeme_of (spelling ++ rest) ≡ Sign token (length spelling)
    → TakesSign (spelling ++ rest) (length spelling)
alone spelling rest token s e = search rules

same_byte : (b n : ℕ) → nat_eq n b ≡ true → b ≡ n
same_byte b n e = grind (arith, nat_tests)

bar_by : (b : ℕ) (rest : List ℕ) (is : Bool) → nat_eq 124 b ≡ is → TakesSign (124 ∷ b ∷ rest) 1
bar_by b rest true e = search (rules, same_byte, double_bar)
bar_by b rest false e = search (rules, bar)

ampersand_by : (b : ℕ) (rest : List ℕ) (is : Bool) → nat_eq 38 b ≡ is → TakesSign (38 ∷ b ∷ rest) 1
ampersand_by b rest true e = search (rules, same_byte, double_ampersand)
ampersand_by b rest false e = search (rules, ampersand)

pub longest : (spelling rest : List ℕ) (token : Token) → IsSign spelling token
    → TakesSign (spelling ++ rest) (length spelling)
longest _ [] _ bar = alone (codes "|") [] Bar bar refl
longest _ (b ∷ rest) _ bar = bar_by b rest (nat_eq 124 b) refl
longest _ [] _ ampersand = alone (codes "&") [] Ampersand ampersand refl
longest _ (b ∷ rest) _ ampersand = ampersand_by b rest (nat_eq 38 b) refl
longest _ rest _ left_paren = alone (codes "(") rest _ left_paren refl
longest _ rest _ right_paren = alone (codes ")") rest _ right_paren refl
longest _ rest _ left_bracket = alone (codes "[") rest _ left_bracket refl
longest _ rest _ right_bracket = alone (codes "]") rest _ right_bracket refl
longest _ rest _ left_brace = alone (codes "{") rest _ left_brace refl
longest _ rest _ right_brace = alone (codes "}") rest _ right_brace refl
longest _ rest _ comma = alone (codes ",") rest _ comma refl
longest _ rest _ semicolon = alone (codes ";") rest _ semicolon refl
longest _ rest _ double_bar = alone (codes "||") rest _ double_bar refl
longest _ rest _ double_ampersand = alone (codes "&&") rest _ double_ampersand refl
longest _ rest _ bang = alone (codes "!") rest _ bang refl
longest _ rest _ star = alone (codes "*") rest _ star refl
longest _ rest _ plus = alone (codes "+") rest _ plus refl
longest _ rest _ question = alone (codes "?") rest _ question refl
longest _ rest _ percent = alone (codes "%") rest _ percent refl
longest _ rest _ begins = alone (codes "<:") rest _ begins refl
longest _ rest _ ends = alone (codes ":>") rest _ ends refl

-- ---- what is found in a table

-- So it is of each entry.
abbrev pub Each : {A : Type 0} → (A → Type 0) → List A → Type 0
Each P [] = Unit {0}
Each P (x ∷ xs) = P x × Each P xs

module _ {A : Type 0} (text : A → List ℕ) (token : A → Token) where
  pub first_is : (signs : List A) (bytes : List ℕ) (t : Token) (len : ℕ)
      → Each (λ x. IsSign (text x) (token x)) signs → first_sign text token signs bytes ≡ Sign t len
      →
      IsSign (take len bytes) t
  first_is [] bytes t len h e = absurd (cc)
  first_is (x ∷ xs) bytes t len h e = by (first_is xs bytes t len h.1)
      (starts_with nat_eq bytes (text x)) refl e
    where
      by : (first_sign text token xs bytes ≡ Sign t len → IsSign (take len bytes) t) → (is : Bool)
          → is ≡ starts_with nat_eq bytes (text x) →
          cond is (Sign (token x) (length (text x))) (first_sign text token xs bytes) ≡ Sign t len →
          IsSign (take len bytes) t
      by more true q e =
          let same : token x ≡ t = cc in
          let size : length (text x) ≡ len = cc in
          let front = same_text (text x) (take (length (text x)) bytes) q in
          let P = λ (u : Token). IsSign (take len bytes) u in
          let Q = λ (bs : List ℕ). IsSign bs (token x) in
          let R = λ (n : ℕ). IsSign (take n bytes) (token x) in
          subst P same (subst R size (subst Q front h.0))
      by more false q e = more e

pub only_signs : (bytes : List ℕ) (token : Token) (len : ℕ) → sign_lexeme bytes ≡ Sign token len
    → IsSign (take len bytes) token
only_signs bytes token len e =
    first_is (λ sign. sign.0.now) (λ sign. sign.1) SIGNS bytes token len (
      double_bar,
      (
        double_ampersand,
        (
          begins,
          (
            ends,
            (
              left_paren,
              (
                right_paren,
                (
                  left_bracket,
                  (
                    right_bracket,
                    (
                      left_brace,
                      (
                        right_brace,
                        (
                          comma,
                          (
                            semicolon,
                            (
                              bar,
                              (
                                ampersand,
                                (bang, (star, (plus, (question, (percent, tt))))),
                              ),
                            ),
                          ),
                        ),
                      ),
                    ),
                  ),
                ),
              ),
            ),
          ),
        ),
      ),
    ) e
