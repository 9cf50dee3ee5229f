-- What `clap` finds in settings, and that it has no fault of them.
use Rattle.std.proofs.Common.{◌≡◌, ◌≢◌, ◌∙◌, ◌++◌, ◌||◌, cond, ℕ, Bool, true, false, List, ◌∷◌, [], map, Option, None, Some, refl, sym, ap, subst, codes, true≢false}
use Rattle.std.proofs.lemmas.List.{append-nil, append_assoc}
use Rattle.std.proofs.lemmas.Slice.Eq.{bytes_eq-Decides}
use Rattle.std.specs.Prelude.{find, is_some, option_and_then, slice_get}
use Rattle.std.specs.List.{fold}
use Rattle.std.specs.Option.{option_map_or, option_or}
use Rattle.std.specs.Str.{bytes_eq}
use Rattle.clap.specs.Facts.{explicit_source}
use Rattle.clap.specs.Faults.{check_fault, defaults_fault, entered_fault, given_default_fault, settle_fault, walk_fault}
use Rattle.clap.specs.Kinds.{Kinds, or_else}
use Rattle.clap.specs.Simple.{built, entered}
use Rattle.clap.specs.Takes.{is_given}
use Rattle.clap.specs.Walk.{Row, Rule, Text, Walk, default_rows, finished, first_of, has_row, idle, is_empty, more_values, reading_by, settled, settled_rows, walked, with_default}
use Rattle.clap.specs.Words.{fault_of, matches_of}
use Rattle.clap.specs.declared.builder.value_parser.Reading.{Reading}
use Rattle.clap.specs.declared.parser.matches.ValueSource.TheVariants.{DefaultValue}
use Rattle.clap.proofs.OnLiterals.{clap_on_literals}
use Rattle.tre_words.specs.CommandLine.{command_line}
use Rattle.tre_words.specs.Settings.{Setting, name_of_setting, value_of, value_in, default_of, said, AreTyped, Types}
use Rattle.tre_words.proofs.Settings.{held, state, shape, rules, names, at_none}
use Rattle.tre_words.proofs.Typing.{row_of, text_row, found_rows, Ended, reached}

-- ---- the rows at the end

-- the rows, and others behind them
record Behind (rows later : List Row) : Type 0 where
  more : List Row
  is : later ≡ rows ++ more

same_rows : (rows : List Row) → Behind rows rows
same_rows rows = record { more = []; is = sym (append-nil rows) }

default_behind : (id : Text) (how : Reading) (values : List Text) (rows : List Row) (b : Bool)
    → has_row id rows ≡ b → Behind rows (cond b rows (default_rows id how values rows))
default_behind id how values rows true has = same_rows rows
default_behind id how [] rows false has = same_rows rows
default_behind id how (value ∷ values) rows false has = record {
  more = _;
  is = at_none id (more_values DefaultValue (value ∷ values)) _ rows has;
}

all_behind : (rest : List Rule) (rows : List Row) → Behind rows (fold with_default rows rest)
all_behind [] rows = same_rows rows
all_behind (rule ∷ rest) rows =
    let first = default_behind rule.id (reading_by rule) rule.defaults rows (has_row rule.id rows)
    refl in
    let second = all_behind rest (with_default rows rule) in
    record {
      more = first.more ++ second.more;
      is = second.is ∙ (ap (λ (more : List Row). more ++ second.more) first.is
          ∙ append_assoc rows first.more second.more);
    }

-- ---- the text

-- what is found behind rows of which none has the name
pub found_behind : (rows more : List Row) (name : Text) → has_row name rows ≡ false
    → find (λ (row : Row). bytes_eq row.id name) (rows ++ more)
    ≡ find (λ (row : Row). bytes_eq row.id name) more
found_behind [] more name none = refl
found_behind (row ∷ rows) more name none =
    go (bytes_eq row.id name) none (found_behind rows more name)
  where
    go : (b : Bool) → (b || has_row name rows) ≡ false
        → (has_row name rows ≡ false → find (λ (row : Row). bytes_eq row.id name) (rows ++ more)
        ≡ find (λ (row : Row). bytes_eq row.id name) more)
        → cond b (Some row) (find (λ (row : Row). bytes_eq row.id name) (rows ++ more))
        ≡ find (λ (row : Row). bytes_eq row.id name) more
    go true none rest = absurd (true≢false none)
    go false none rest = rest none

text_given : (rows : List Row) (text : Text) (more : List Row)
    → has_row (codes "EXPR") rows ≡ false
    → is_given (codes "EXPR") (rows ++ text_row text ∷ more) ≡ true
text_given rows text more none =
    ap (λ (found : Option Row). option_map_or (λ (row : Row). explicit_source row.source) found false)
    (found_behind rows (text_row text ∷ more) (codes "EXPR") none)

text_found : (rows : List Row) (text : Text) (more : List Row)
    → has_row (codes "EXPR") rows ≡ false
    → first_of (codes "EXPR") (rows ++ text_row text ∷ more) ≡ Some text
text_found rows text more none =
    ap (option_and_then (λ (row : Row). slice_get row.values 0))
    (found_behind rows (text_row text ∷ more) (codes "EXPR") none)

-- ---- values

values_found : (settings : List Setting) (rows : List Row) (name : Text)
    → first_of name (map row_of settings ++ rows)
    ≡ option_or (value_in name settings) (first_of name rows)
values_found [] rows name = refl
values_found (setting ∷ settings) rows name =
    go (bytes_eq (name_of_setting setting) name) (values_found settings rows name)
  where
    go : (b : Bool) → first_of name (map row_of settings ++ rows)
        ≡ option_or (value_in name settings) (first_of name rows)
        → option_and_then (λ (row : Row). slice_get row.values 0) (cond b (Some (row_of setting))
        (find (λ (row : Row). bytes_eq row.id name) (map row_of settings ++ rows)))
        ≡ option_or (cond b (Some (value_of setting)) (value_in name settings))
        (first_of name rows)
    go true rest = refl
    go false rest = rest

value_in-append : (before after : List Setting) (name : Text)
    → value_in name (before ++ after) ≡ option_or (value_in name before) (value_in name after)
value_in-append [] after name = refl
value_in-append (setting ∷ before) after name =
    go (bytes_eq (name_of_setting setting) name) (value_in-append before after name)
  where
    go : (b : Bool)
        → value_in name (before ++ after) ≡ option_or (value_in name before) (value_in name after)
        → cond b (Some (value_of setting)) (value_in name (before ++ after))
        ≡ option_or (cond b (Some (value_of setting)) (value_in name before)) (value_in name after)
    go true rest = refl
    go false rest = rest

past_text : (text name : Text) (rows : List Row) → name ≢ codes "EXPR"
    → first_of name (text_row text ∷ rows) ≡ first_of name rows
past_text text name rows other = go (bytes_eq (codes "EXPR") name) refl
  where
    go : (b : Bool) → bytes_eq (codes "EXPR") name ≡ b
        → option_and_then (λ (row : Row). slice_get row.values 0)
        (cond b (Some (text_row text)) (find (λ (row : Row). bytes_eq row.id name) rows))
        ≡ first_of name rows
    go true e = absurd (other (sym ((bytes_eq-Decides (codes "EXPR") name).0 e)))
    go false e = refl

-- each row has a value
abbrev AreValued : List Row → Type 0
AreValued [] = Unit {0}
AreValued (row ∷ rows) = (is_some (slice_get row.values 0) ≡ true) × AreValued rows

settings_valued : (settings : List Setting) (rows : List Row) → AreValued rows
    → AreValued (map row_of settings ++ rows)
settings_valued [] rows valued = valued
settings_valued (setting ∷ settings) rows valued = (refl, settings_valued settings rows valued)

valued_more : (rows more : List Row) → AreValued rows → AreValued more → AreValued (rows ++ more)
valued_more [] more valued valued' = valued'
valued_more (row ∷ rows) more valued valued' =
    (valued.0, valued_more rows more valued.1 valued')

some_value : (rows : List Row) (name : Text) → AreValued rows → has_row name rows ≡ true
    → is_some (first_of name rows) ≡ true
some_value [] name valued has = absurd (true≢false (sym has))
some_value (row ∷ rows) name valued has =
    go (bytes_eq row.id name) has (λ more. some_value rows name valued.1 more)
  where
    go : (b : Bool) → (b || has_row name rows) ≡ true
        → (has_row name rows ≡ true → is_some (first_of name rows) ≡ true)
        → is_some (option_and_then (λ (row : Row). slice_get row.values 0)
        (cond b (Some row) (find (λ (row : Row). bytes_eq row.id name) rows))) ≡ true
    go true has rest = valued.0
    go false has rest = rest has

found_first : (rows more : List Row) (name : Text) → AreValued rows
    → first_of name (rows ++ more) ≡ option_or (first_of name rows) (first_of name more)
found_first [] more name valued = refl
found_first (row ∷ rows) more name valued =
    go (bytes_eq row.id name) (found_first rows more name valued.1)
    (λ value. kept (slice_get row.values 0) valued.0)
  where
    kept : (value : Option Text) → is_some value ≡ true
        → value ≡ option_or value (first_of name more)
    kept None is = absurd (true≢false (sym is))
    kept (Some text) is = refl

    go : (b : Bool)
        → first_of name (rows ++ more) ≡ option_or (first_of name rows) (first_of name more)
        → (ℕ → slice_get row.values 0 ≡ option_or (slice_get row.values 0) (first_of name more))
        → option_and_then (λ (row : Row). slice_get row.values 0)
        (cond b (Some row) (find (λ (row : Row). bytes_eq row.id name) (rows ++ more)))
        ≡ option_or (option_and_then (λ (row : Row). slice_get row.values 0)
        (cond b (Some row) (find (λ (row : Row). bytes_eq row.id name) rows))) (first_of name more)
    go true rest here = here 0
    go false rest here = rest

-- the first default of a rule with the name, or else this
abbrev default_or : Text → Text → List Text → Option Text → Option Text
default_or name id [] rest = rest
default_or name id (value ∷ values) rest = cond (bytes_eq id name) (Some value) rest

abbrev defaulted : Text → List Rule → Option Text
defaulted name [] = None
defaulted name (rule ∷ rest) = default_or name rule.id rule.defaults (defaulted name rest)

kept_first : {X : Type 0} (o p q : Option X) → is_some o ≡ true → option_or o p ≡ option_or o q
kept_first None p q is = absurd (true≢false (sym is))
kept_first (Some x) p q is = refl

or_assoc : {X : Type 0} (o p q : Option X)
    → option_or (option_or o p) q ≡ option_or o (option_or p q)
or_assoc None p q = refl
or_assoc (Some x) p q = refl

default_found : (id : Text) (how : Reading) (values : List Text) (rows : List Row) (name : Text)
    (rest : Option Text) (b : Bool) → has_row id rows ≡ b → AreValued rows
    → option_or (first_of name (cond b rows (default_rows id how values rows))) rest
    ≡ option_or (first_of name rows) (default_or name id values rest)
default_found id how [] rows name rest true has valued = refl
default_found id how [] rows name rest false has valued = refl
default_found id how (value ∷ values) rows name rest true has valued =
    go (bytes_eq id name) refl
  where
    go : (b : Bool) → bytes_eq id name ≡ b → option_or (first_of name rows) rest
        ≡ option_or (first_of name rows) (cond b (Some value) rest)
    go false e = refl
    go true e = kept_first (first_of name rows) rest (Some value) (some_value rows name valued
        (subst (λ (text : Text). has_row text rows ≡ true) ((bytes_eq-Decides id name).0 e) has))
default_found id how (value ∷ values) rows name rest false has valued =
    ap (λ (more : List Row). option_or (first_of name more) rest)
    (at_none id (more_values DefaultValue (value ∷ values)) _ rows has)
    ∙ (ap (λ (o : Option Text). option_or o rest) (found_first rows _ name valued)
    ∙ (or_assoc (first_of name rows) _ rest ∙ go (bytes_eq id name)))
  where
    go : (b : Bool) → option_or (first_of name rows) (option_or (option_and_then
        (λ (row : Row). slice_get row.values 0) (cond b (Some (record {
          id = id;
          values = value ∷ values;
          count = None;
          source = Some DefaultValue;
          reading = how;
        })) None)) rest) ≡ option_or (first_of name rows) (cond b (Some value) rest)
    go true = refl
    go false = refl

default_valued : (id : Text) (how : Reading) (values : List Text) (rows : List Row) (b : Bool)
    → has_row id rows ≡ b → AreValued rows
    → AreValued (cond b rows (default_rows id how values rows))
default_valued id how values rows true has valued = valued
default_valued id how [] rows false has valued = valued
default_valued id how (value ∷ values) rows false has valued =
    subst AreValued (sym (at_none id (more_values DefaultValue (value ∷ values)) _ rows has))
    (valued_more rows _ valued (refl, tt))

defaults_found : (rest : List Rule) (rows : List Row) (name : Text) → AreValued rows
    → first_of name (fold with_default rows rest)
    ≡ option_or (first_of name rows) (defaulted name rest)
defaults_found [] rows name valued = or_none (first_of name rows)
  where
    or_none : (o : Option Text) → o ≡ option_or o None
    or_none None = refl
    or_none (Some text) = refl
defaults_found (rule ∷ rest) rows name valued =
    defaults_found rest (with_default rows rule) name
    (default_valued rule.id (reading_by rule) rule.defaults rows (has_row rule.id rows) refl valued)
    ∙ default_found rule.id (reading_by rule) rule.defaults rows name (defaulted name rest)
    (has_row rule.id rows) refl valued

default_is : (name : Text) → defaulted name rules ≡ default_of name
unfolding command_line clap_on_literals
default_is name = refl

-- ---- no fault

pub parts : (one other : Kinds) → or_else one other ≡ [] → (one ≡ []) × (other ≡ [])
parts [] other e = (refl, e)
parts (kind ∷ kinds) other e = cc

abbrev faults_of : List Rule → Kinds
faults_of [] = []
faults_of (rule ∷ rest) = or_else (given_default_fault rule rule.defaults) (faults_of rest)

defaults_clean : (rest : List Rule) (rows : List Row) → faults_of rest ≡ []
    → defaults_fault rows rest ≡ []
unfolding defaults_fault
defaults_clean [] rows clean = refl
defaults_clean (rule ∷ rest) rows clean =
    let both = parts (given_default_fault rule rule.defaults) (faults_of rest) clean in
    go (has_row rule.id rows || is_empty rule.defaults) _ _ both.0
    (defaults_clean rest (with_default rows rule) both.1)
  where
    go : (b : Bool) (kinds more : Kinds) → kinds ≡ [] → more ≡ []
        → or_else (cond b [] kinds) more ≡ []
    go true kinds more none none' = none'
    go false kinds more none none' = ap (λ (k : Kinds). or_else k more) none ∙ none'

rules_clean : faults_of rules ≡ []
unfolding command_line clap_on_literals
rules_clean = refl

check_clean : (rows : List Row) → is_given (codes "EXPR") rows ≡ true
    → check_fault shape rows false ≡ []
unfolding command_line clap_on_literals
check_clean rows given = rw given refl

-- what is found wrong behind the last word
abbrev pub fault_behind : Walk → Kinds
fault_behind walk = or_else (entered_fault (built command_line) walk.stopped)
    (or_else (settle_fault rules false walk.held)
    (or_else (defaults_fault (settled rules walk.held).rows rules)
    (check_fault shape (finished rules walk.held)
    (is_some (entered (built command_line) walk.stopped)))))

pub fault_is : (words : List Text) → fault_of command_line words
    ≡ or_else (walk_fault shape names (state [] None idle 1) words)
    (fault_behind (fold (walked rules names) (state [] None idle 1) words))
unfolding command_line
fault_is words = refl

matches_are : (words : List Text) → matches_of command_line words
    ≡ finished rules (fold (walked rules names) (state [] None idle 1) words).held
unfolding command_line
matches_are words = refl

rows_are : (words : List Text) (found : List Row) → Ended words found
    → matches_of command_line words ≡ fold with_default found rules
rows_are words found ended =
    matches_are words ∙ (ap (λ (walk : Walk). finished rules walk.held) ended.walks
    ∙ ap (λ (rows : List Row). fold with_default rows rules) ended.settles)

given_at_end : (before after : List Setting) (text : Text)
    → has_row (codes "EXPR") (map row_of before) ≡ false
    → is_given (codes "EXPR") (fold with_default (found_rows before text after) rules) ≡ true
given_at_end before after text bare =
    let behind = all_behind rules (found_rows before text after) in
    subst (λ (rows : List Row). is_given (codes "EXPR") rows ≡ true)
    (sym (behind.is
    ∙ append_assoc (map row_of before) (text_row text ∷ map row_of after) behind.more))
    (text_given (map row_of before) text (map row_of after ++ behind.more) bare)

pub settings_faultless : (words : List Text) (settings : List Setting) (text : Text)
    → AreTyped settings → Types words settings text → fault_of command_line words ≡ []
settings_faultless words settings text typed types =
    let last = reached words settings text typed types in
    let ended = last.ended in
    let found = found_rows last.before text last.after in
    let rows : finished rules (held ended.now ended.left) ≡ fold with_default found rules =
    ap (λ (rows : List Row). fold with_default rows rules) ended.settles in
    let checked : check_fault shape (finished rules (held ended.now ended.left)) false ≡ [] =
    check_clean (finished rules (held ended.now ended.left))
    (subst (λ (rows : List Row). is_given (codes "EXPR") rows ≡ true) (sym rows)
    (given_at_end last.before last.after text last.bare)) in
    let settled_well = defaults_clean rules (settled_rows rules ended.left ended.now) rules_clean in
    fault_is words
    ∙ (ap (λ (k : Kinds). or_else k
    (fault_behind (fold (walked rules names) (state [] None idle 1) words))) ended.faultless
    ∙ (ap fault_behind ended.walks
    ∙ (ap (λ (k : Kinds). or_else k (or_else (defaults_fault
    (settled_rows rules ended.left ended.now) rules)
    (check_fault shape (finished rules (held ended.now ended.left)) false))) ended.clean
    ∙ (ap (λ (k : Kinds). or_else k
    (check_fault shape (finished rules (held ended.now ended.left)) false)) settled_well
    ∙ checked))))

pub settings_text : (words : List Text) (settings : List Setting) (text : Text)
    → AreTyped settings → Types words settings text
    → first_of (codes "EXPR") (matches_of command_line words) ≡ Some text
settings_text words settings text typed types =
    let last = reached words settings text typed types in
    let behind = all_behind rules (found_rows last.before text last.after) in
    ap (first_of (codes "EXPR")) (rows_are words _ last.ended ∙ (behind.is
    ∙ append_assoc (map row_of last.before) (text_row text ∷ map row_of last.after) behind.more))
    ∙ text_found (map row_of last.before) text (map row_of last.after ++ behind.more) last.bare

pub settings_values : (words : List Text) (settings : List Setting) (text : Text)
    → AreTyped settings → Types words settings text → (name : Text) → name ≢ codes "EXPR"
    → first_of name (matches_of command_line words) ≡ said settings name
settings_values words settings text typed types name other =
    let last = reached words settings text typed types in
    let before = last.before in
    let after = last.after in
    let valued : AreValued (found_rows before text after) =
    settings_valued before (text_row text ∷ map row_of after)
    (refl, subst AreValued (append-nil (map row_of after)) (settings_valued after [] tt)) in
    let behind : first_of name (text_row text ∷ map row_of after) ≡ value_in name after =
    past_text text name (map row_of after) other
    ∙ (ap (first_of name) (sym (append-nil (map row_of after)))
    ∙ (values_found after [] name ∙ none_behind (value_in name after))) in
    ap (first_of name) (rows_are words _ last.ended)
    ∙ (defaults_found rules (found_rows before text after) name valued
    ∙ (ap (option_or (first_of name (found_rows before text after))) (default_is name)
    ∙ ap (λ (o : Option Text). option_or o (default_of name))
    (values_found before (text_row text ∷ map row_of after) name
    ∙ (ap (option_or (value_in name before)) behind ∙ (sym (value_in-append before after name)
    ∙ ap (value_in name) (sym last.same))))))
  where
    none_behind : (o : Option Text) → option_or o None ≡ o
    none_behind None = refl
    none_behind (Some text) = refl
