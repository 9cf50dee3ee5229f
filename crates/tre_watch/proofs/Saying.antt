-- A line says one thing.
use Rattle.std.proofs.Common.{◌≡◌, ◌≢◌, ℕ, ◌+◌, Bool, true, false, MatchBool, List, [], ◌∷◌, length, get_or, take, drop, refl, sym, ap, subst, ◌∙◌, ⊎_elim, arith}
use Rattle.std.proofs.lemmas.Bool.{cases_lt}
use Rattle.std.proofs.lemmas.Option.{none-some, same_Some}
use Rattle.tre_state.specs.Name.{IsName}
use Rattle.tre_watch.specs.declared.form.Form.{Form}
use Rattle.tre_watch.specs.declared.form.Form.TheVariants.{Plain, Never, Found, Same, Follows}
use Rattle.tre_watch.specs.Forms.{arrow_of, word_of}
use Rattle.tre_watch.specs.Lines.{AreTexts, IsCheck, IsDefinition, IsFirstArrow, IsNamed, IsOpened, Said, Says, Stands, begins_word, behind_word, blanked, check, content_of, definition, form_at, is_silent, mistake, silence}

-- ---- the parts of a line

pub named_once : (bytes name text other others : List ℕ) → IsNamed bytes name text
    → IsNamed bytes other others → (name ≡ other) × (text ≡ others)
named_once bytes name text other others one two =
    let same : 61 ∷ text ≡ 61 ∷ others = sym one.behind ∙ two.behind in
    (sym one.word ∙ two.word, cc)

-- No name begins with `=`.
unnamed : (text name others : List ℕ) → IsNamed (61 ∷ text) name others → ⊥
unnamed text name others is =
    let none : [] ≡ name = is.word in
    let named = subst IsName (sym none) is.is_name in
    named.0

arrow_once : (form other : Form) (text : List ℕ) (place later : ℕ) → IsFirstArrow form text place
    → IsFirstArrow other text later → (place ≡ later) × (form ≡ other)
arrow_once form other text place later one two =
    let same : place ≡ later =
    ⊎_elim
    (λ lt. absurd (none-some form (sym (two.none place lt) ∙ one.here)))
    (λ le. ⊎_elim
    (λ lt. absurd (none-some other (sym (one.none later lt) ∙ two.here)))
    (λ other. omega (arith, le, other))
    (cases_lt later place))
    (cases_lt place later) in
    (same, same_Some form other (sym one.here ∙ (ap (λ n. form_at (drop n text)) same ∙ two.here)))

paired_once : (form : Form) (text : List ℕ) (texts others : List (List ℕ)) (place later : ℕ)
    → place ≡ later
    → texts ≡ take place text ∷ blanked (place + length (arrow_of form)) text ∷ []
    → others ≡ take later text ∷ blanked (later + length (arrow_of form)) text ∷ []
    → texts ≡ others
paired_once form text texts others place later same one two =
    one ∙ (ap (λ n. take n text ∷ blanked (n + length (arrow_of form)) text ∷ []) same ∙ sym two)

-- Two words with other first letters.
pub other_word : (word other : List ℕ) → word ≡ other → get_or word 0 0 ≢ get_or other 0 0 → ⊥
other_word word other same apart = apart (ap (λ bytes. get_or bytes 0 0) same)

-- By its word, a check has one form and its texts.
pub texts_once : (form other : Form) (text : List ℕ) (texts others : List (List ℕ))
    → word_of form ≡ word_of other → AreTexts form text texts → AreTexts other text others
    → (form ≡ other) × (texts ≡ others)
texts_once Plain Plain text texts others word one two = (refl, one ∙ sym two)
texts_once Never Never text texts others word one two = (refl, one ∙ sym two)
texts_once Found Found text texts others word one two = (refl, one ∙ sym two)
texts_once Same Same text texts others word one two =
    let arrow = arrow_once Same Same text one.0 two.0 one.1 two.1 in
    (refl, paired_once Same text texts others one.0 two.0 arrow.0 one.2 two.2)
texts_once Follows Follows text texts others word one two =
    let arrow = arrow_once Follows Follows text one.0 two.0 one.1 two.1 in
    (refl, paired_once Follows text texts others one.0 two.0 arrow.0 one.2 two.2)
texts_once Same Follows text texts others word one two =
    let arrow = arrow_once Same Follows text one.0 two.0 one.1 two.1 in
    let same = arrow.1 in
    absurd (cc)
texts_once Follows Same text texts others word one two =
    let arrow = arrow_once Follows Same text one.0 two.0 one.1 two.1 in
    let same = arrow.1 in
    absurd (cc)
texts_once form other text texts others word one two = absurd (other_word _ _ word (omega arith))

-- A check begins with one word.
opened_once : (word another content rest others name text other texts : List ℕ)
    → IsOpened word content rest → IsNamed rest name text → IsOpened another content others
    → IsNamed others other texts → (word ≡ another) × (rest ≡ others)
opened_once [] [] content rest others name text other texts one named two named' =
    (refl, sym one ∙ two)
opened_once [] (byte ∷ another) content rest others name text other texts one named two named' =
    let same : others ≡ 61 ∷ text = sym two.1 ∙ (ap behind_word one ∙ named.behind) in
    absurd (unnamed text other texts (subst (λ bytes. IsNamed bytes other texts) same named'))
opened_once (byte ∷ word) [] content rest others name text other texts one named two named' =
    let same : rest ≡ 61 ∷ texts = sym one.1 ∙ (ap behind_word two ∙ named'.behind) in
    absurd (unnamed texts name text (subst (λ bytes. IsNamed bytes name text) same named))
opened_once (byte ∷ word) (byte' ∷ another) content rest others name text other texts one named two
    named' =
    (sym one.0 ∙ two.0, sym one.1 ∙ two.1)

pub check_once : (content : List ℕ) (form other : Form) (name another : List ℕ)
    (texts others : List (List ℕ)) → IsCheck content form name texts
    → IsCheck content other another others → check form name texts ≡ check other another others
check_once content form other name another texts others one two =
    let opened = opened_once (word_of form) (word_of other) content one.rest two.rest name one.text
    another two.text one.opened one.named two.opened two.named in
    let named = named_once two.rest name one.text another two.text
    (subst (λ bytes. IsNamed bytes name one.text) opened.1 one.named) two.named in
    let parts = texts_once form other two.text texts others opened.0
    (subst (λ text. AreTexts form text texts) named.1 one.are) two.are in
    ap (λ f. check f name texts) parts.0
    ∙ (ap (λ n. check other n texts) named.0 ∙ ap (λ t. check other another t) parts.1)

-- It begins with no word of definitions.
apart_from_let : (form : Form) (content rest name text let_text : List ℕ)
    → IsOpened (word_of form) content rest → IsNamed rest name text
    → IsDefinition content let_text → ⊥
apart_from_let Plain content rest name text let_text opened named is =
    let same : let_text ≡ 61 ∷ text =
    sym is.opened.1 ∙ (ap behind_word opened ∙ named.behind) in
    let begins : begins_word (61 ∷ text) ≡ true =
    subst (λ bytes. begins_word bytes ≡ true) same is.begins in
    absurd (cc)
apart_from_let Never content rest name text let_text opened named is =
    other_word _ _ (sym opened.0 ∙ is.opened.0) (omega arith)
apart_from_let Found content rest name text let_text opened named is =
    other_word _ _ (sym opened.0 ∙ is.opened.0) (omega arith)
apart_from_let Same content rest name text let_text opened named is =
    other_word _ _ (sym opened.0 ∙ is.opened.0) (omega arith)
apart_from_let Follows content rest name text let_text opened named is =
    other_word _ _ (sym opened.0 ∙ is.opened.0) (omega arith)

-- ---- at most one

stands_once : (content : List ℕ) (one other : Said) → Stands content one → Stands content other
    → one ≡ other
stands_once content mistake mistake one two = refl
stands_once content mistake (check form name texts) one two = absurd (one.0 form name texts two)
stands_once content mistake (definition text) one two = absurd (one.1 text two)
stands_once content (check form name texts) mistake one two = absurd (two.0 form name texts one)
stands_once content (definition text) mistake one two = absurd (two.1 text one)
stands_once content (check form name texts) (check other another others) one two =
    check_once content form other name another texts others one two
stands_once content (check form name texts) (definition let_text) one two =
    absurd (apart_from_let form content one.rest name one.text let_text one.opened one.named two)
stands_once content (definition let_text) (check form name texts) one two =
    absurd (apart_from_let form content two.rest name two.text let_text two.opened two.named one)
stands_once content (definition text) (definition other) one two =
    ap definition (sym one.opened.1 ∙ two.opened.1)
stands_once content silence _ one two = absurd one
stands_once content _ silence one two = absurd two

by_silence : (silent : Bool) (content : List ℕ) (one other : Said)
    → MatchBool silent (one ≡ silence) (Stands content one)
    → MatchBool silent (other ≡ silence) (Stands content other) → one ≡ other
by_silence true content one other first second = first ∙ sym second
by_silence false content one other first second = stands_once content one other first second

pub says_once : (line : List ℕ) (one other : Said) → Says line one → Says line other → one ≡ other
says_once line one other first second =
    by_silence (is_silent (content_of line)) (content_of line) one other first second
