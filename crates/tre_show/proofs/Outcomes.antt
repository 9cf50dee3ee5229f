-- What becomes of the text of a pattern: it is read back.
use Rattle.std.proofs.Common.{◌≡◌, ℕ, ◌+◌, ◌<◌, ◌≤◌, ◌^◌, Bool, false, Option, Some, None, List, [], ◌∷◌, ◌++◌, length, inl, inr, ⊎_elim, refl, sym, ap, ◌∙◌, subst, arith, rules, append-nil}
use Rattle.std.specs.Prelude.{min, unwrap_or, position, if◌then◌else◌}
use Rattle.std.specs.List.{position_or_len}
use Rattle.std.specs.Option.{option_map}
use Rattle.std.proofs.lemmas.Bool.{cond_above}
use Rattle.std.proofs.lemmas.Bool.Decides.{nat_tests}
use Rattle.std.proofs.lemmas.List.{take_all}
use Rattle.tre_state.specs.declared.names.TheConstants.{NAMES_MAX}
use Rattle.tre_state.specs.Names.{IsNameList, place_of}
use Rattle.tre_state.specs.StateTree.{StateTree, always, proposition, negation, conjunction, disjunction}
use Rattle.tre_trace.specs.Reading.{Vocabulary}
use Rattle.tre_syntax.specs.Pattern.{IsPattern}
use Rattle.tre_syntax.specs.declared.name_kind.NameKind.TheVariants.{Proposition, Event}
use Rattle.tre_syntax.specs.PatternTree.{Atom, empty, literal, rise, fall, event, PatternTree, atom, sequence, alternation, intersection, repetition, restriction, node_count, seen_after, numbers_of_state, numbers_of_atom, numbers_of}
use Rattle.tre_parse.specs.declared.token.Token.{Token}
use Rattle.tre_parse.specs.declared.token.Token.TheVariants.{Name, EventName, Number, Percent}
use Rattle.tre_parse.specs.declared.before.Before.{Before}
use Rattle.tre_parse.specs.declared.before.Before.TheVariants.{Other}
use Rattle.tre_parse.specs.declared.fault.ParseFault.{ParseFault}
use Rattle.tre_parse.specs.declared.fault.ParseFault.TheVariants.{TooLong, BadByte, Number as TooBig, TooDeep, Syntax, EmptyInterval, TooManyNames, TooLarge, Memory}
use Rattle.tre_parse.specs.Words.{Words, is_number, place_in, units_within, names_among}
use Rattle.tre_parse.specs.Grammar.{expr, Spells}
use Rattle.tre_parse.specs.Tokens.{name as raw_name, number as raw_number}
use Rattle.tre_parse.specs.TokenWords.{known_as, before_word, token_as, tokens_for, tokens_as, words_by}
use Rattle.tre_parse.specs.Scanned.{raw_tokens_from, tokens_of}
use Rattle.tre_parse.specs.Known.{kind_behind, names_of_kind, numbered, before_sign, nothing_known}
use Rattle.tre_parse.specs.Limits.{is_above, is_past}
use Rattle.tre_parse.specs.Unkept.{NoneEmpty, Finds}
use Rattle.tre_parse.specs.Outcome.{Read, words, is_big, SpellsAll, HasCause, Outcome, spelt, refused, ComesFirst, IsOutcome, IsSpelling}
use Rattle.tre_parse.specs.ScannedOutcome.{offset_of, text_tokens_of, IsPastAt}
use Rattle.tre_parse.specs.Reader.{got}
use Rattle.tre_parse.proofs.Plain.{good_name}
use Rattle.tre_parse.proofs.Spelt.{number_no_name}
use Rattle.tre_parse.proofs.Prefixes.{pattern_whole}
use Rattle.tre_parse.proofs.Whole.{read_whole, spelt_once, spelt_read}
use Rattle.tre_parse.proofs.Unkept.{IsFound, or_none, finds_first}
use Rattle.tre_parse.proofs.Pieces.{same_big}
use Rattle.tre_parse.proofs.Agreement.{scanned, scanned_outcome}
use Rattle.tre_parse.proofs.Named.{words_of, next_before, text_read}
use Rattle.tre_parse.proofs.Past.{PastOf, past_of_text, past_run, names_run}
use Rattle.tre_decimal.specs.Decimal.{number_text}
use Rattle.tre_show.specs.StateText.{name_text}
use Rattle.tre_show.specs.Intervals.{HasIntervals}
use Rattle.tre_show.specs.PatternText.{expression_text}
use Rattle.tre_show.specs.ReadBack.{IsReadBack}
use Rattle.tre_show.proofs.TreeTokens.{written, words_for, IsOwn, AreCounted, NamedState, NamedAtom, NamedTree, StandsHere, StandFrom, Stand, tree_prints}
use Rattle.tre_show.proofs.Written.{WritesNumbers, units_read, number_begins}
use Rattle.tre_show.proofs.ReadBack.{first_number, seen_grows, name_at, held, AreRead, all_read}

-- ---- the names of a pattern have their numbers

abbrev AllBelow : ℕ → List ℕ → Type 0
AllBelow m [] = Unit {0}
AllBelow m (x ∷ xs) = (x < m) × AllBelow m xs

seen_below : (xs : List ℕ) (seen m : ℕ) → seen_after seen xs ≡ Some m → AllBelow m xs
seen_below [] seen m e = tt
seen_below (x ∷ xs) seen m e = ⊎_elim
    (λ old. let more = seen_grows xs seen m old.1 in
    (omega (arith, old.0, more), seen_below xs seen m old.1))
    (λ new. let more = seen_grows xs (seen + 1) m new.1 in
    (omega (arith, new.0, more), seen_below xs (seen + 1) m new.1))
    (first_number seen x xs m e)

left_below : (m : ℕ) (xs ys : List ℕ) → AllBelow m (xs ++ ys) → AllBelow m xs
left_below m [] ys h = tt
left_below m (x ∷ xs) ys h = (h.0, left_below m xs ys h.1)

right_below : (m : ℕ) (xs ys : List ℕ) → AllBelow m (xs ++ ys) → AllBelow m ys
right_below m [] ys h = h
right_below m (x ∷ xs) ys h = right_below m xs ys h.1

own_name : (names : List (List ℕ)) → IsNameList names → (i : ℕ) → i < length names → IsOwn names i
own_name names list i below =
    let few = list.few in
    let less : min i NAMES_MAX ≡ i = omega (arith, below, few) in
    let place : place_of names (name_text names i) ≡ Some i =
    ap (λ l. place_of l (name_text names i)) (sym (take_all (length names) names (omega arith)))
    ∙ held names list i (length names) below (omega arith) in (
      good_name (name_text names i) (name_at names list i below),
      ap (λ (o : Option ℕ). min (unwrap_or o NAMES_MAX) NAMES_MAX) place ∙ less,
    )

module _ (names : Vocabulary) (list : IsNameList names.names) (events : IsNameList names.events) where
  abbrev Ours : List ℕ → Type 0
  Ours xs = AllBelow (length names.names) xs

  named_state : (s : StateTree) → Ours (numbers_of_state Proposition s) → NamedState names s
  named_state always h = tt
  named_state (proposition i) h = own_name names.names list i h.0
  named_state (negation s) h = named_state s h
  named_state (conjunction s t) h = (
    named_state s (left_below _ (numbers_of_state Proposition s) (numbers_of_state Proposition t) h),
    named_state t (right_below _ (numbers_of_state Proposition s) (numbers_of_state Proposition t) h),
  )
  named_state (disjunction s t) h = (
    named_state s (left_below _ (numbers_of_state Proposition s) (numbers_of_state Proposition t) h),
    named_state t (right_below _ (numbers_of_state Proposition s) (numbers_of_state Proposition t) h),
  )

  named_atom : (x : Atom) → Ours (numbers_of_atom Proposition x)
      → AllBelow (length names.events) (numbers_of_atom Event x) → NamedAtom names x
  named_atom empty h k = tt
  named_atom (literal s) h k = named_state s h
  named_atom (rise s) h k = named_state s h
  named_atom (fall s) h k = named_state s h
  named_atom (event i) h k = own_name names.events events i k.0

  named_tree : (e : PatternTree) → Ours (numbers_of Proposition e)
      → AllBelow (length names.events) (numbers_of Event e) → NamedTree names e
  named_tree (atom x) h k = named_atom x h k
  named_tree (sequence e f) h k = (
    named_tree e (left_below _ (numbers_of Proposition e) (numbers_of Proposition f) h)
        (left_below _ (numbers_of Event e) (numbers_of Event f) k),
    named_tree f (right_below _ (numbers_of Proposition e) (numbers_of Proposition f) h)
        (right_below _ (numbers_of Event e) (numbers_of Event f) k),
  )
  named_tree (alternation e f) h k = (
    named_tree e (left_below _ (numbers_of Proposition e) (numbers_of Proposition f) h)
        (left_below _ (numbers_of Event e) (numbers_of Event f) k),
    named_tree f (right_below _ (numbers_of Proposition e) (numbers_of Proposition f) h)
        (right_below _ (numbers_of Event e) (numbers_of Event f) k),
  )
  named_tree (intersection e f) h k = (
    named_tree e (left_below _ (numbers_of Proposition e) (numbers_of Proposition f) h)
        (left_below _ (numbers_of Event e) (numbers_of Event f) k),
    named_tree f (right_below _ (numbers_of Proposition e) (numbers_of Proposition f) h)
        (right_below _ (numbers_of Event e) (numbers_of Event f) k),
  )
  named_tree (repetition e) h k = named_tree e h k
  named_tree (restriction e ends) h k = named_tree e h k

-- ---- what stands among the tokens

one_small : (token : Token) (rest : List Token) → is_above token ≡ false
    → position_or_len is_above rest ≡ length rest
    → position_or_len is_above (token ∷ rest) ≡ length (token ∷ rest)
one_small token rest fails more = search rules

module _ (scale : ℕ) (names : Vocabulary) (counts : AreCounted scale) where
  token_here : (before : Before) (rest : List Token) (token : Token)
      → StandsHere scale names before rest token
      → token_as scale names before (written scale names token) ≡ token
  token_here before rest (Name i) h =
      let text = name_text names.names i in
      ap (λ (yes : Bool). if yes then numbered (kind_behind before)
      (place_in (names_of_kind (kind_behind before) names) text)
      else (if is_number text then Number (units_within scale text) else known_as text)) h.2.0
      ∙ ap (λ kind. numbered kind (place_in (names_of_kind kind names) text)) h.1
      ∙ ap (λ n. Name n) h.2.1
  token_here before rest (EventName i) h =
      let text = name_text names.events i in
      ap (λ (yes : Bool). if yes then numbered (kind_behind before)
      (place_in (names_of_kind (kind_behind before) names) text)
      else (if is_number text then Number (units_within scale text) else known_as text)) h.2.0
      ∙ ap (λ kind. numbered kind (place_in (names_of_kind kind names) text)) h.1
      ∙ ap (λ n. EventName n) h.2.1
  token_here before rest (Number n) h =
      let text = number_text scale n in
      let c = counts n h.0 in
      ap (λ (yes : Bool). if yes then numbered (kind_behind before)
      (place_in (names_of_kind (kind_behind before) names) text)
      else (if is_number text then Number (units_within scale text) else known_as text))
      (number_no_name scale names text c.0)
      ∙ ap (λ (yes : Bool). if yes then Number (units_within scale text) else known_as text) c.0
      ∙ ap (λ k. Number k) c.1
  token_here before rest _ h = refl

  before_here : (before : Before) (rest : List Token) (token : Token)
      → StandsHere scale names before rest token
      → before_sign before token ≡ before_word before (written scale names token)
  before_here before rest (Name i) h = next_before before (raw_name (name_text names.names i)) h.2.0
  before_here before rest (EventName i) h =
      next_before before (raw_name (name_text names.events i)) h.2.0
  before_here before rest (Number n) h =
      next_before before (raw_number (number_text scale n)) (counts n h.0).0
  before_here before rest _ h = refl

  theirs : (before : Before) (tokens : List Token) → StandFrom scale names before tokens
      → tokens_for scale names before (words_for scale names tokens) ≡ tokens
  theirs before [] h = refl
  theirs before (token ∷ rest) h =
      ap (λ t. t ∷ tokens_for scale names (before_word before (written scale names token))
      (words_for scale names rest)) (token_here before rest token h.0)
      ∙ ap (λ b. token ∷ tokens_for scale names b (words_for scale names rest))
      (sym (before_here before rest token h.0))
      ∙ ap (λ ts. token ∷ ts) (theirs (before_sign before token) rest h.1)

  here_above : (before : Before) (rest : List Token) (token : Token)
      → StandsHere scale names before rest token → is_above token ≡ false
  here_above before rest (Number n) h = let within = h.0 in grind (arith, nat_tests)
  here_above before rest (Name i) h = refl
  here_above before rest (EventName i) h = refl
  here_above before rest _ h = refl

  none_above_len : (before : Before) (tokens : List Token) → StandFrom scale names before tokens
      → position_or_len is_above tokens ≡ length tokens
  none_above_len before [] stand = refl
  none_above_len before (token ∷ rest) stand =
      one_small token rest (here_above before rest token stand.0)
      (none_above_len (before_sign before token) rest stand.1)

  none_above : (before : Before) (tokens : List Token) → StandFrom scale names before tokens
      → position is_above tokens ≡ None
  none_above before tokens stand = search (rules, none_above_len, cond_above)

  -- behind each `%` an interval stands that can be kept
  none_found : (before : Before) (tokens : List Token) → StandFrom scale names before tokens
      → Finds tokens None
  none_found before [] stand = refl
  none_found before (Percent ∷ rest) stand =
      inr (stand.0, none_found (before_sign before Percent) rest stand.1)
  none_found before (token ∷ rest) stand =
      none_found (before_sign before token) rest stand.1

-- ---- the outcome

-- Of words that spell the tree, and of which nothing is refused but the length and the brackets.
module _ (scale : ℕ) (text : List ℕ) (read : Read scale text) (tree : PatternTree)
    (names : Vocabulary) (spells : SpellsAll read tree) (good : read.bad ≡ None)
    (small : position (is_big scale) (words read) ≡ None)
    (lasting : NoneEmpty scale (names_among (words read)) (words read))
    (few : (place : ℕ) → IsPastAt scale text read place → ⊥) (fits : node_count tree ≤ 1000) where
  refused_back : (fault : ParseFault) → HasCause read fault
      → IsReadBack tree names (refused fault)
  refused_back TooLong is = inr (inl refl)
  refused_back (BadByte at) is = absurd (cc)
  refused_back (TooBig at) is = let some = is.1.0 in absurd (cc)
  refused_back (TooDeep at) is = inr (inr (at, refl))
  refused_back (Syntax at) is = absurd (is.0 tree spells)
  refused_back (EmptyInterval at) is = absurd (lasting is.0 is.1.0)
  refused_back (TooManyNames at) is = absurd (few is.0 is.1.0)
  refused_back (TooLarge nodes) is =
      let same = ap node_count (spelt_once scale (names_among (words read)) (words read) tree is.0
      spells is.1) in
      let large = is.2 in
      absurd (omega (arith, same, large, fits))
  refused_back Memory is = absurd is

  read_back : names ≡ names_among (words read) → (outcome : Outcome) → ComesFirst read outcome
      → IsReadBack tree names outcome
  read_back same (refused fault) is = refused_back fault is.0
  read_back same (spelt other others) is =
      let one = spelt_once scale (names_among (words read)) (words read) other tree is.1 spells in
      let all = is.0 ∙ sym same in
      inl (cc)

none_mapped : {A B : Type 0} (f : A → B) (o : Option A) → option_map f o ≡ None → o ≡ None
none_mapped f None e = refl
none_mapped f (Some x) e = absurd (cc)

-- What is so of the text of a pattern at a scale.
pub record IsTextOf (scale : ℕ) (text : List ℕ) (tree : PatternTree) (names : Vocabulary)
    : Type 0 where
  pub spelling : IsSpelling scale text tree names
  pub outcome : (outcome : Outcome) → IsOutcome scale text outcome → IsReadBack tree names outcome

pub text_of_tree : (scale : ℕ) → WritesNumbers scale → (names : Vocabulary) (tree : PatternTree)
    → IsNameList names.names → IsNameList names.events → IsPattern tree names → HasIntervals tree
    → IsTextOf scale (expression_text scale names tree) tree names
text_of_tree scale writes names tree list events pattern fine =
    let text = expression_text scale names tree in
    let counts : AreCounted scale = λ n low. (number_begins scale n writes low, units_read scale n writes low) in
    let own = named_tree names list events tree
    (seen_below (numbers_of Proposition tree) 0 (length names.names) pattern.numbered)
    (seen_below (numbers_of Event tree) 0 (length names.events) pattern.events_numbered) in
    let printed = tree_prints scale names counts tree fine own 0 in
    let tokens = printed.tokens in
    let says = printed.says in
    let stand : Stand scale names tokens =
    subst (Stand scale names) (append-nil tokens) (says.stand [] tt tt) in
    let numbered = ap (seen_after 0) (says.numbers_same Proposition) ∙ pattern.numbered in
    let events_numbered = ap (seen_after 0) (says.numbers_same Event) ∙ pattern.events_numbered in
    let is : AreRead scale names nothing_known tokens (raw_tokens_from 0 0 text) =
    subst (λ t. AreRead scale names nothing_known tokens (raw_tokens_from 0 0 t)) says.text_same
    (all_read scale writes names list events tokens 0 0 Other 0 stand (omega arith) (omega arith)
    numbered events_numbered) in
    let read = scanned scale text in
    let known = names_among (words_of text) in
    let r = text_read scale text in
    let same = sym r.same ∙ is.tokens_same in
    let goes = ap (λ ts. read_whole ts) (same ∙ sym (theirs scale names counts Other tokens stand))
    ∙ pattern_whole scale names expr (words_for scale names tokens) tree printed.spells in
    let spells : SpellsAll read tree =
    subst (λ (ws : Words). Spells scale known expr ws tree) (sym r.written)
    (spelt_read scale known r.pieces tree goes) in
    let big : position (is_big scale) (words_of text) ≡ None =
    ap (position (is_big scale)) r.written ∙ same_big scale known r.pieces
    ∙ ap (position is_above) same ∙ none_above scale names counts Other tokens stand in
    let past : position is_past (tokens_of scale text) ≡ None =
    none_mapped (offset_of (text_tokens_of scale text)) (position is_past (tokens_of scale text))
    (past_run scale text ∙ is.few) in
    let never = subst (PastOf (words_of text)) past (past_of_text scale text) in
    let lasting : NoneEmpty scale known (words_of text) =
    subst (λ (ws : Words). NoneEmpty scale known ws) (sym r.written)
    (finds_first scale known r.pieces r.theirs None
    (ap (position (is_big scale)) (sym r.written) ∙ big)
    (λ later none. subst (λ ts. Finds ts later) (sym same)
    (subst (Finds tokens) (sym none) (none_found scale names counts Other tokens stand)))) in
    let all = sym is.names_same ∙ names_run scale text past in
    record {
      spelling = record { read = read; good = is.good; spells = spells; numbered = all };
      outcome = λ outcome said. read_back scale text read tree names spells is.good big
          lasting never pattern.small all outcome (scanned_outcome scale text outcome said);
    }
