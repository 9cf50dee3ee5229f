-- What stands on a line, from the words in front of it.
use Rattle.std.proofs.Common.{◌≡◌, ℕ, ◌+◌, Bool, true, false, ◌&&◌, MatchBool, None, Some, List, [], ◌∷◌, length, codes, ◌==◌, if◌then◌else◌, take, drop, refl, sym, ap, subst, ◌∙◌, arith}
use Rattle.std.proofs.lemmas.Option.{none-some, same_Some}
use Rattle.std.specs.List.{list_all, starts_with}
use Rattle.std.specs.Str.{IsAscii}
use Rattle.tre_watch.specs.declared.form.Form.{Form}
use Rattle.tre_watch.specs.declared.form.Form.TheVariants.{Plain, Never, Found, Same, Follows}
use Rattle.tre_watch.specs.Forms.{arrow_of, has_arrow, has_verdict, word_of}
use Rattle.tre_watch.specs.Lines.{AreTexts, IsCheck, IsDefinition, IsFirstArrow, IsNamed, IsOpened, Said, Says, Stands, begins_word, behind_word, blanked, check, content_of, definition, form_at, is_of_definition, is_silent, mistake, silence, word_in}
use Rattle.tre_watch.specs.Steps.{IsLet, IsWorded, may_define}
use Rattle.tre_watch.proofs.Saying.{other_word}

pub and_parts : (a b : Bool) → (a && b) ≡ true → (a ≡ true) × (b ≡ true)
and_parts true b e = (refl, e)
and_parts false b e = absurd (cc)

both_hold : (a b : Bool) → a ≡ true → b ≡ true → (a && b) ≡ true
both_hold true b e f = f
both_hold false b e f = absurd (cc)

-- ---- a check

pub plain_check : (content name text : List ℕ) → IsAscii content → IsNamed content name text
    → IsCheck content Plain name (text ∷ [])
plain_check content name text ascii named = record {
  ascii = ascii;
  rest = content;
  opened = refl;
  text = text;
  named = named;
  are = refl;
}

opened_by : (form : Form) (content : List ℕ) → has_verdict form ≡ true
    → word_in content ≡ word_of form → IsOpened (word_of form) content (behind_word content)
opened_by Plain content verdict word = absurd (cc)
opened_by Never content verdict word = (word, refl)
opened_by Found content verdict word = (word, refl)
opened_by Same content verdict word = (word, refl)
opened_by Follows content verdict word = (word, refl)

pub worded_check : (content : List ℕ) (form : Form) (name : List ℕ) (texts : List (List ℕ))
    → IsAscii content → IsWorded (word_in content) (behind_word content) form name texts
    → IsCheck content form name texts
worded_check content form name texts ascii is = record {
  ascii = ascii;
  rest = behind_word content;
  opened = opened_by form content is.verdict is.is_word;
  text = is.text;
  named = is.named;
  are = is.are;
}

worded_by : (form : Form) (content name rest text : List ℕ) (texts : List (List ℕ))
    → has_verdict form ≡ true → (word_in content ≡ word_of form) × (behind_word content ≡ rest)
    → IsNamed rest name text → AreTexts form text texts
    → IsWorded (word_in content) (behind_word content) form name texts
worded_by form content name rest text texts verdict opened named are = record {
  verdict = verdict;
  is_word = opened.0;
  text = text;
  named = subst (λ bytes. IsNamed bytes name text) (sym opened.1) named;
  are = are;
}

-- No check stands where none does without a word, and none behind one.
pub no_check : (content : List ℕ) → ((name text : List ℕ) → ¬ IsNamed content name text)
    → ((form : Form) (name : List ℕ) (texts : List (List ℕ))
    → ¬ IsWorded (word_in content) (behind_word content) form name texts)
    → (form : Form) (name : List ℕ) (texts : List (List ℕ)) → ¬ IsCheck content form name texts
no_check content unnamed unworded Plain name texts is =
    unnamed name is.text (subst (λ bytes. IsNamed bytes name is.text) (sym is.opened) is.named)
no_check content unnamed unworded Never name texts is =
    unworded Never name texts
    (worded_by Never content name is.rest is.text texts refl is.opened is.named is.are)
no_check content unnamed unworded Found name texts is =
    unworded Found name texts
    (worded_by Found content name is.rest is.text texts refl is.opened is.named is.are)
no_check content unnamed unworded Same name texts is =
    unworded Same name texts
    (worded_by Same content name is.rest is.text texts refl is.opened is.named is.are)
no_check content unnamed unworded Follows name texts is =
    unworded Follows name texts
    (worded_by Follows content name is.rest is.text texts refl is.opened is.named is.are)

-- ---- a definition

let_word : (form : Form) → has_verdict form ≡ true → codes "let" ≡ word_of form → ⊥
let_word Plain verdict same = cc
let_word Never verdict same = other_word _ _ same (omega arith)
let_word Found verdict same = other_word _ _ same (omega arith)
let_word Same verdict same = other_word _ _ same (omega arith)
let_word Follows verdict same = other_word _ _ same (omega arith)

pub let_unworded : (content : List ℕ) → word_in content ≡ codes "let" → (form : Form)
    (name : List ℕ) (texts : List (List ℕ))
    → ¬ IsWorded (word_in content) (behind_word content) form name texts
let_unworded content word form name texts is =
    let_word form is.verdict (sym word ∙ is.is_word)

pub a_definition : (content : List ℕ) → IsAscii content → word_in content ≡ codes "let"
    → may_define (behind_word content) ≡ true → IsDefinition content (behind_word content)
a_definition content ascii word may =
    let both = and_parts (begins_word (behind_word content))
    (list_all is_of_definition (behind_word content)) may in
    record { ascii = ascii; opened = (word, refl); begins = both.0; one = both.1 }

pub no_definition : (content : List ℕ) → may_define (behind_word content) ≡ false
    → (text : List ℕ) → ¬ IsDefinition content text
no_definition content never text is =
    let may : may_define text ≡ true =
    both_hold (begins_word text) (list_all is_of_definition text) is.begins is.one in
    let same : behind_word content ≡ text = is.opened.1 in
    let may' : may_define (behind_word content) ≡ true =
    subst (λ bytes. may_define bytes ≡ true) (sym same) may in
    absurd (cc)

pub no_definition-word : (content : List ℕ) → (word_in content ≡ codes "let" → ⊥)
    → (text : List ℕ) → ¬ IsDefinition content text
no_definition-word content other text is = other is.opened.0

-- ---- an arrow

arrow_found : (a b : Bool) (form : Form)
    → (if a then Some Same else (if b then Some Follows else None)) ≡ Some form
    → has_arrow form ≡ true
arrow_found true b form e = ap has_arrow (sym (same_Some Same form e))
arrow_found false true form e = ap has_arrow (sym (same_Some Follows form e))
arrow_found false false form e = absurd (none-some form e)

-- What begins with an arrow has a form that has one.
pub has_arrow-at : (bytes : List ℕ) (form : Form) → form_at bytes ≡ Some form
    → has_arrow form ≡ true
has_arrow-at bytes form e =
    arrow_found (starts_with ◌==◌ bytes (codes "=>")) (starts_with ◌==◌ bytes (codes "|->")) form e

pub has_verdict-arrow : (form : Form) → has_arrow form ≡ true → has_verdict form ≡ true
has_verdict-arrow Plain has = absurd (cc)
has_verdict-arrow Never has = refl
has_verdict-arrow Found has = refl
has_verdict-arrow Same has = refl
has_verdict-arrow Follows has = refl

pub word_of-arrow : (form : Form) → has_arrow form ≡ true → codes "each" ≡ word_of form
word_of-arrow Plain has = absurd (cc)
word_of-arrow Never has = absurd (cc)
word_of-arrow Found has = absurd (cc)
word_of-arrow Same has = refl
word_of-arrow Follows has = refl

pub paired_texts : (form : Form) (text : List ℕ) (place : ℕ) → has_arrow form ≡ true
    → IsFirstArrow form text place
    → AreTexts form text
    (take place text ∷ blanked (place + length (arrow_of form)) text ∷ [])
paired_texts Plain text place has is = absurd (cc)
paired_texts Never text place has is = absurd (cc)
paired_texts Found text place has is = absurd (cc)
paired_texts Same text place has is = (place, is, refl)
paired_texts Follows text place has is = (place, is, refl)

pub no_arrow : (form : Form) (text : List ℕ) (texts : List (List ℕ)) → has_arrow form ≡ true
    → ((place : ℕ) → form_at (drop place text) ≡ None) → AreTexts form text texts → ⊥
no_arrow Plain text texts has none are = cc
no_arrow Never text texts has none are = cc
no_arrow Found text texts has none are = cc
no_arrow Same text texts has none are = none-some Same (sym (none are.0) ∙ are.1.here)
no_arrow Follows text texts has none are = none-some Follows (sym (none are.0) ∙ are.1.here)

pub each_has_arrow : (form : Form) → has_verdict form ≡ true → codes "each" ≡ word_of form
    → has_arrow form ≡ true
each_has_arrow Plain verdict word = absurd (cc)
each_has_arrow Never verdict word = absurd (other_word _ _ word (omega arith))
each_has_arrow Found verdict word = absurd (other_word _ _ word (omega arith))
each_has_arrow Same verdict word = refl
each_has_arrow Follows verdict word = refl

pub other_words : (form : Form) (word : List ℕ) → (word ≡ codes "never" → ⊥)
    → (word ≡ codes "some" → ⊥) → (word ≡ codes "each" → ⊥) → has_verdict form ≡ true
    → word ≡ word_of form → ⊥
other_words Plain word never some each verdict is = cc
other_words Never word never some each verdict is = never is
other_words Found word never some each verdict is = some is
other_words Same word never some each verdict is = each is
other_words Follows word never some each verdict is = each is

-- ---- a line

pub plain_stands : (content name text : List ℕ) → IsAscii content → IsNamed content name text
    → Stands content (check Plain name (text ∷ []))
plain_stands = plain_check

let_by : (t : Bool) (content : List ℕ) (said : _) → may_define (behind_word content) ≡ t
    → IsAscii content → ((name text : List ℕ) → ¬ IsNamed content name text)
    → word_in content ≡ codes "let"
    → MatchBool t (said ≡ definition (behind_word content)) (said ≡ mistake)
    → Stands content said
let_by true content said e ascii unnamed word is =
    subst (λ s. Stands content s) (sym is) (a_definition content ascii word e)
let_by false content said e ascii unnamed word is =
    subst (λ s. Stands content s) (sym is)
    (no_check content unnamed (let_unworded content word), no_definition content e)

-- behind the word of definitions
pub let_stands : (content : List ℕ) (said : _) → IsAscii content
    → ((name text : List ℕ) → ¬ IsNamed content name text) → word_in content ≡ codes "let"
    → IsLet (behind_word content) said → Stands content said
let_stands content said ascii unnamed word is =
    let_by (may_define (behind_word content)) content said refl ascii unnamed word is

pub none_stands : (content : List ℕ) → ((name text : List ℕ) → ¬ IsNamed content name text)
    → (word_in content ≡ codes "let" → ⊥)
    → ((form : Form) (name : List ℕ) (texts : List (List ℕ))
    → ¬ IsWorded (word_in content) (behind_word content) form name texts)
    → Stands content mistake
none_stands content unnamed other unworded =
    (no_check content unnamed unworded, no_definition-word content other)

pub not_ascii : (content : List ℕ) → (IsAscii content → ⊥) → Stands content mistake
not_ascii content never = (λ form name texts is. never is.ascii, λ text is. never is.ascii)

by_speech : (silent : Bool) (content : List ℕ) (said : Said) → silent ≡ false
    → Stands content said → MatchBool silent (said ≡ silence) (Stands content said)
by_speech true content said e stands = absurd (cc)
by_speech false content said e stands = stands

pub says_spoken : (line : List ℕ) (said : Said) → is_silent (content_of line) ≡ false
    → Stands (content_of line) said → Says line said
says_spoken line said spoken stands =
    by_speech (is_silent (content_of line)) (content_of line) said spoken stands
