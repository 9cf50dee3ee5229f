-- Settings as the walk of `clap` reads them, and what it has at the end.
use Rattle.std.proofs.Common.{◌≡◌, ◌∙◌, ◌⊎◌, inl, inr, ◌++◌, ◌||◌, cond, ℕ, Bool, true, false, List, ◌∷◌, [], map, Option, None, Some, refl, sym, ap, subst, codes, true≢false}
use Rattle.std.proofs.lemmas.List.{append-nil, append_assoc}
use Rattle.std.proofs.lemmas.List.Sums.{fold-append}
use Rattle.std.proofs.lemmas.List.Folds.{list_any-append}
use Rattle.std.proofs.lemmas.Slice.Eq.{bytes_eq-Decides}
use Rattle.std.specs.List.{flat_map, fold}
use Rattle.std.specs.Str.{bytes_eq}
use Rattle.clap.specs.Faults.{settle_fault, turn_fault, walk_fault}
use Rattle.clap.specs.Kinds.{Kinds, or_else}
use Rattle.clap.specs.Walk.{Row, Rule, Text, Walk, has_row, idle, reading_by, settled_rows, used, walked}
use Rattle.tre_words.specs.Settings.{Setting, flag, joined, apart, name_of_setting, value_of, words_of_setting, value_in, AreTyped, IsPlain, IsTyped, Types, among, behind}
use Rattle.tre_words.proofs.Settings.{Pending, held, standing, state, shape, rules, names, flag_of, option_of, text_rule, flag_named, option_named, new_row, adds, text_adds, once, flag_walks, flag_faults, joined_walks, joined_faults, apart_walks, apart_faults, used_clean, option_settles, option_pending, text_settles, text_pending, value_walks, value_faults, text_walks, text_faults, end_walks, end_faults, trail_walks, trail_faults}

abbrev pub rule_of : Setting → Rule
rule_of (flag name) = flag_of name
rule_of (joined name value) = option_of name []
rule_of (apart name value) = option_of name []

abbrev pub row_of : Setting → Row
row_of setting = new_row (name_of_setting setting) (reading_by (rule_of setting)) (value_of setting)

abbrev pub text_row : Text → Row
text_row text = new_row (codes "EXPR") (reading_by text_rule) text

-- The walk goes over the words without a fault, and has found these rows then.
pub record Walks (words : List Text) (rows : List Row) (pending : Pending) (from : ℕ)
    (found : List Row) (to : ℕ) : Type 0 where
  pub now : List Row
  pub left : Pending
  pub walks : fold (walked rules names) (state rows pending idle from) words ≡ state now left idle to
  pub settles : settled_rows rules left now ≡ found
  pub clean : settle_fault rules false (held now left) ≡ []
  pub faultless : (rest : List Text) → walk_fault shape names (state rows pending idle from)
      (words ++ rest) ≡ walk_fault shape names (state now left idle to) rest

turned : (before after : Walk) (word : Text) (rest : List Text)
    → turn_fault shape names before word ≡ [] → walked rules names before word ≡ after
    → walk_fault shape names before (word ∷ rest) ≡ walk_fault shape names after rest
unfolding walk_fault
turned before after word rest clean walks =
    λ i. or_else (clean i) (walk_fault shape names (walks i) rest)

-- ---- one setting

one : (setting : Setting) (rows : List Row) (pending : Pending) (from : ℕ) (found : List Row)
    → settled_rows rules pending rows ≡ found → settle_fault rules false (held rows pending) ≡ []
    → IsTyped setting → has_row (name_of_setting setting) found ≡ false
    → Walks (words_of_setting setting) rows pending from (found ++ row_of setting ∷ []) from
one (flag name) rows pending from found settles clean typed none =
    let fresh : has_row name (settled_rows rules pending rows) ≡ false =
    ap (has_row name) settles ∙ none in
    let walks = flag_walks name typed rows pending idle from in
    record {
      now = used (flag_of name) [] (settled_rows rules pending rows);
      left = None;
      walks = walks;
      settles = adds name _ (codes "true") _ fresh
          ∙ ap (λ (more : List Row). more ++ row_of (flag name) ∷ []) settles;
      clean = refl;
      faultless = λ rest. turned _ _ _ rest
          (flag_faults name typed rows pending idle from ∙ used_clean name rows pending clean fresh)
          walks;
    }
one (joined name value) rows pending from found settles clean typed none =
    let fresh : has_row name (settled_rows rules pending rows) ≡ false =
    ap (has_row name) settles ∙ none in
    let walks = joined_walks name value typed rows pending idle from in
    record {
      now = used (option_of name []) (value ∷ []) (settled_rows rules pending rows);
      left = None;
      walks = walks;
      settles = adds name _ value _ fresh
          ∙ ap (λ (more : List Row). more ++ row_of (joined name value) ∷ []) settles;
      clean = refl;
      faultless = λ rest. turned _ _ _ rest (joined_faults name value typed rows pending idle from
          ∙ used_clean name rows pending clean fresh) walks;
    }
one (apart name value) rows pending from found settles clean typed none =
    let fresh : has_row name (settled_rows rules pending rows) ≡ false =
    ap (has_row name) settles ∙ none in
    let first = apart_walks name typed.0 rows pending idle from in
    let second = value_walks name value typed.0 typed.1 (settled_rows rules pending rows) from in
    record {
      now = settled_rows rules pending rows;
      left = Some (name, value ∷ []);
      walks = ap (λ (walk : Walk). walked rules names walk value) first ∙ second;
      settles = option_settles name value typed.0 _ ∙ (adds name _ value _ fresh
          ∙ ap (λ (more : List Row). more ++ row_of (apart name value) ∷ []) settles);
      clean = option_pending name value typed.0 _ ∙ once _ fresh;
      faultless = λ rest. turned _ _ _ (value ∷ rest)
          (apart_faults name typed.0 rows pending idle from
          ∙ ap (λ (kinds : Kinds). or_else kinds []) clean) first
          ∙ turned _ _ _ rest (value_faults name value typed.1 _ from) second;
    }

-- ---- the text

told : (text : Text) (rows : List Row) (pending : Pending) (found : List Row)
    → settled_rows rules pending rows ≡ found → settle_fault rules false (held rows pending) ≡ []
    → IsPlain text → has_row (codes "EXPR") found ≡ false
    → Walks (text ∷ []) rows pending 1 (found ++ text_row text ∷ []) 2
told text rows pending found settles clean plain none =
    let fresh : has_row (codes "EXPR") (settled_rows rules pending rows) ≡ false =
    ap (has_row (codes "EXPR")) settles ∙ none in
    let walks = text_walks text plain rows pending in
    record {
      now = settled_rows rules pending rows;
      left = Some (codes "EXPR", text ∷ []);
      walks = walks;
      settles = text_settles text _ ∙ (text_adds text _ fresh
          ∙ ap (λ (more : List Row). more ++ text_row text ∷ []) settles);
      clean = text_pending text _ ∙ once _ fresh;
      faultless = λ rest. turned _ _ _ rest (text_faults text plain rows pending ∙ clean) walks;
    }

-- ---- one after another

then : (words more : List Text) (rows : List Row) (pending : Pending) (from : ℕ)
    (middle : List Row) (at : ℕ) (found : List Row) (to : ℕ)
    → (first : Walks words rows pending from middle at)
    → Walks more first.now first.left at found to
    → Walks (words ++ more) rows pending from found to
then words more rows pending from middle at found to first second = record {
  now = second.now;
  left = second.left;
  walks = fold-append (walked rules names) _ words more
      ∙ (ap (λ (walk : Walk). fold (walked rules names) walk more) first.walks ∙ second.walks);
  settles = second.settles;
  clean = second.clean;
  faultless = λ rest.
      ap (walk_fault shape names (state rows pending idle from)) (append_assoc words more rest)
      ∙ (first.faultless (more ++ rest) ∙ second.faultless rest);
}

-- none of the settings has a row
abbrev pub Fresh : List Row → List Setting → Type 0
Fresh found [] = Unit {0}
Fresh found (setting ∷ settings) = (has_row (name_of_setting setting) found ≡ false) × Fresh found settings

fresh_first : (settings : List Setting) → Fresh [] settings
fresh_first [] = tt
fresh_first (setting ∷ settings) = (refl, fresh_first settings)

absent : {X : Type 0} (b : Bool) (x : X) (o : Option X) → cond b (Some x) o ≡ None
    → (b ≡ false) × (o ≡ None)
absent true x o e = absurd cc
absent false x o e = (refl, e)

pub flipped : (text other : Text) → bytes_eq text other ≡ false → bytes_eq other text ≡ false
flipped text other differ = go (bytes_eq other text) refl
  where
    go : (b : Bool) → bytes_eq other text ≡ b → b ≡ false
    go false e = refl
    go true e = absurd (true≢false
        (sym ((bytes_eq-Decides text other).1 (sym ((bytes_eq-Decides other text).0 e)))
        ∙ differ))

pub or_none : (a b : Bool) → a ≡ false → b ≡ false → (a || (b || false)) ≡ false
or_none a b none none' = rw (none, none') refl

fresh_more : (found : List Row) (row : Row) (settings : List Setting) → Fresh found settings
    → value_in row.id settings ≡ None → Fresh (found ++ row ∷ []) settings
fresh_more found row [] fresh none = tt
fresh_more found row (setting ∷ settings) fresh none =
    let here = absent (bytes_eq (name_of_setting setting) row.id) (value_of setting)
    (value_in row.id settings) none in (
      list_any-append (λ (other : Row). bytes_eq other.id (name_of_setting setting)) found (row ∷ [])
          ∙ or_none _ _ fresh.0 (flipped (name_of_setting setting) row.id here.0),
      fresh_more found row settings fresh.1 here.1,
    )

pub record AreLeft (found : List Row) (settings : List Setting) : Type 0 where
  pub fresh : Fresh found settings
  pub typed : AreTyped settings

left_after : (settings more : List Setting) (found : List Row) → AreLeft found (settings ++ more)
    → AreLeft (found ++ map row_of settings) more
left_after [] more found left =
    subst (λ (rows : List Row). AreLeft rows more) (sym (append-nil found)) left
left_after (setting ∷ settings) more found left =
    subst (λ (rows : List Row). AreLeft rows more)
    (append_assoc found (row_of setting ∷ []) (map row_of settings))
    (left_after settings more (found ++ row_of setting ∷ []) (record {
      fresh = fresh_more found (row_of setting) (settings ++ more) left.fresh.1 left.typed.1;
      typed = left.typed.2;
    }))

all : (settings more : List Setting) (rows : List Row) (pending : Pending) (from : ℕ)
    (found : List Row) → settled_rows rules pending rows ≡ found
    → settle_fault rules false (held rows pending) ≡ [] → AreLeft found (settings ++ more)
    → Walks (flat_map words_of_setting settings) rows pending from (found ++ map row_of settings) from
all [] more rows pending from found settles clean left = record {
  now = rows;
  left = pending;
  walks = refl;
  settles = settles ∙ sym (append-nil found);
  clean = clean;
  faultless = λ rest. refl;
}
all (setting ∷ settings) more rows pending from found settles clean left =
    let first = one setting rows pending from found settles clean left.typed.0 left.fresh.0 in
    let second = all settings more first.now first.left from (found ++ row_of setting ∷ [])
    first.settles first.clean (record {
      fresh = fresh_more found (row_of setting) (settings ++ more) left.fresh.1 left.typed.1;
      typed = left.typed.2;
    }) in
    subst (λ (more : List Row). Walks (words_of_setting setting ++ flat_map words_of_setting settings) rows pending
    from more from) (append_assoc found (row_of setting ∷ []) (map row_of settings))
    (then (words_of_setting setting) (flat_map words_of_setting settings) rows pending from _ from _ from first
    second)

pub setting_not : (setting : Setting) → IsTyped setting
    → bytes_eq (name_of_setting setting) (codes "EXPR") ≡ false
setting_not (flag name) typed = (flag_named name typed).7
setting_not (joined name value) typed = (option_named name typed).1.7
setting_not (apart name value) typed = (option_named name typed.0).1.7

no_text : (settings : List Setting) → AreTyped settings → value_in (codes "EXPR") settings ≡ None
no_text [] typed = refl
no_text (setting ∷ settings) typed =
    ap (λ (b : Bool). cond b (Some (value_of setting)) (value_in (codes "EXPR") settings))
    (setting_not setting typed.0) ∙ no_text settings typed.2

no_row : (settings more : List Setting) → AreTyped (settings ++ more)
    → has_row (codes "EXPR") (map row_of settings) ≡ false
no_row [] more typed = refl
no_row (setting ∷ settings) more typed =
    ap (λ (b : Bool). b || has_row (codes "EXPR") (map row_of settings)) (setting_not setting typed.0)
    ∙ no_row settings more typed.2

abbrev pub found_rows : List Setting → Text → List Setting → List Row
found_rows before text after = map row_of before ++ text_row text ∷ map row_of after

whole : (before after : List Setting) (text : Text) → AreTyped (before ++ after) → IsPlain text
    → Walks (flat_map words_of_setting before ++ (text ∷ flat_map words_of_setting after)) [] None 1
    (found_rows before text after) 2
whole before after text typed plain =
    let left : AreLeft [] (before ++ after) = record {
      fresh = fresh_first (before ++ after);
      typed = typed;
    } in
    let first = all before after [] None 1 [] refl refl left in
    let rest = left_after before after [] left in
    let second = told text first.now first.left (map row_of before) first.settles first.clean
    plain (no_row before after typed) in
    let third = all after [] second.now second.left 2 (map row_of before ++ text_row text ∷ [])
    second.settles second.clean
    (subst (AreLeft (map row_of before ++ text_row text ∷ [])) (sym (append-nil after)) (record {
      fresh = fresh_more (map row_of before) (text_row text) after rest.fresh (no_text after rest.typed);
      typed = rest.typed;
    })) in
    subst (λ (found : List Row). Walks
    (flat_map words_of_setting before ++ (text ∷ flat_map words_of_setting after)) [] None 1 found 2)
    (append_assoc (map row_of before) (text_row text ∷ []) (map row_of after))
    (then (flat_map words_of_setting before) (text ∷ [] ++ flat_map words_of_setting after) [] None 1 _ 1 _ 2 first
    (then (text ∷ []) (flat_map words_of_setting after) first.now first.left 1 _ 2 _ 2 second third))

-- ---- `--`

-- The walk goes over all the words without a fault, and has found these rows then.
pub record Ended (words : List Text) (found : List Row) : Type 0 where
  pub now : List Row
  pub left : Pending
  pub trailing : Bool
  pub position : ℕ
  pub walks : fold (walked rules names) (state [] None idle 1) words
      ≡ standing trailing now left idle position
  pub settles : settled_rows rules left now ≡ found
  pub clean : settle_fault rules false (held now left) ≡ []
  pub faultless : walk_fault shape names (state [] None idle 1) words ≡ []

nothing_left : (walk : Walk) → walk_fault shape names walk [] ≡ []
unfolding walk_fault
nothing_left walk = refl

ended : (first end : List Text) (found : List Row) (to : ℕ) → Walks first [] None 1 found to
    → (end ≡ []) ⊎ (end ≡ codes "--" ∷ []) → Ended (first ++ end) found
ended first end found to walks (inl none) =
    subst (λ (end : List Text). Ended (first ++ end) found) (sym none) (record {
      now = walks.now;
      left = walks.left;
      trailing = false;
      position = to;
      walks = ap (fold (walked rules names) (state [] None idle 1)) (append-nil first) ∙ walks.walks;
      settles = walks.settles;
      clean = walks.clean;
      faultless = walks.faultless [] ∙ nothing_left _;
    })
ended first end found to walks (inr marked) =
    subst (λ (end : List Text). Ended (first ++ end) found) (sym marked) (record {
      now = walks.now;
      left = walks.left;
      trailing = true;
      position = to;
      walks = fold-append (walked rules names) _ first (codes "--" ∷ [])
          ∙ (ap (λ (walk : Walk). walked rules names walk (codes "--")) walks.walks
          ∙ end_walks walks.now walks.left idle to);
      settles = walks.settles;
      clean = walks.clean;
      faultless = walks.faultless (codes "--" ∷ [])
          ∙ (turned _ _ _ [] (end_faults walks.now walks.left idle to)
          (end_walks walks.now walks.left idle to) ∙ nothing_left _);
    })

ended_behind : (settings : List Setting) (text : Text) → AreTyped settings
    → Ended (flat_map words_of_setting settings ++ (codes "--" ∷ text ∷ []))
    (found_rows settings text [])
ended_behind settings text typed =
    let first = all settings [] [] None 1 [] refl refl
    (subst (AreLeft []) (sym (append-nil settings))
    (record { fresh = fresh_first settings; typed = typed })) in
    let marked = end_walks first.now first.left idle 1 in
    let last = trail_walks first.now first.left idle text in
    let found = settled_rows rules first.left first.now in
    let none : has_row (codes "EXPR") found ≡ false =
    ap (has_row (codes "EXPR")) first.settles ∙ no_row settings []
    (subst AreTyped (sym (append-nil settings)) typed) in
    record {
      now = found;
      left = Some (codes "EXPR", text ∷ []);
      trailing = true;
      position = 2;
      walks = fold-append (walked rules names) _ (flat_map words_of_setting settings) (codes "--" ∷ text ∷ [])
          ∙ (ap (λ (walk : Walk). walked rules names (walked rules names walk (codes "--")) text)
          first.walks ∙ (ap (λ (walk : Walk). walked rules names walk text) marked ∙ last));
      settles = text_settles text found ∙ (text_adds text found none
          ∙ ap (λ (rows : List Row). rows ++ text_row text ∷ []) first.settles);
      clean = text_pending text found ∙ once _ none;
      faultless = first.faultless (codes "--" ∷ text ∷ [])
          ∙ (turned _ _ _ (text ∷ []) (end_faults first.now first.left idle 1) marked
          ∙ (turned _ _ _ [] (trail_faults first.now first.left idle text ∙ first.clean)
          last ∙ nothing_left _));
    }

pub record Reached (words : List Text) (settings : List Setting) (text : Text) : Type 0 where
  pub before : List Setting
  pub after : List Setting
  pub same : settings ≡ before ++ after
  pub bare : has_row (codes "EXPR") (map row_of before) ≡ false
  pub ended : Ended words (found_rows before text after)

pub reached : (words : List Text) (settings : List Setting) (text : Text) → AreTyped settings
    → Types words settings text → Reached words settings text
reached words settings text typed (among before after end same plain ends are) = record {
  before = before;
  after = after;
  same = same;
  bare = no_row before after (subst AreTyped same typed);
  ended = subst (λ (all : List Text). Ended all (found_rows before text after))
      (append_assoc (flat_map words_of_setting before) (text ∷ flat_map words_of_setting after) end
      ∙ sym are)
      (ended _ end _ 2 (whole before after text (subst AreTyped same typed) plain) ends);
}
reached words settings text typed (behind are) = record {
  before = settings;
  after = [];
  same = sym (append-nil settings);
  bare = no_row settings [] (subst AreTyped (sym (append-nil settings)) typed);
  ended = subst (λ (all : List Text). Ended all (found_rows settings text [])) (sym are)
      (ended_behind settings text typed);
}
