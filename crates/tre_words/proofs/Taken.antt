-- Words of which `clap` has no fault are settings with a text.
use Rattle.std.proofs.Common.{◌≡◌, ◌∙◌, ◌++◌, ◌⊎◌, inl, inr, ◌||◌, cond, ℕ, Bool, true, false, List, ◌∷◌, [], Option, None, Some, refl, sym, ap, subst, codes, true≢false}
use Rattle.std.proofs.lemmas.List.{append-nil, append_assoc}
use Rattle.std.proofs.lemmas.List.Folds.{list_any-append}
use Rattle.std.proofs.lemmas.Str.{IsUtf8-string_bytes}
use Rattle.std.specs.Prelude.{String, find, map, string_bytes}
use Rattle.std.specs.List.{flat_map, fold}
use Rattle.std.specs.Option.{option_map_or}
use Rattle.std.specs.Str.{bytes_eq, IsUtf8}
use Rattle.clap.specs.Facts.{explicit_source}
use Rattle.clap.specs.Faults.{check_fault, defaults_fault, settle_fault, turn_fault, walk_fault}
use Rattle.clap.specs.Kinds.{or_else}
use Rattle.clap.specs.Words.{fault_of}
use Rattle.clap.specs.Takes.{is_given}
use Rattle.clap.specs.Walk.{Row, Rule, Waiting, Walk, default_rows, finished, has_row, idle, more_values, option, positional, reading_by, settled_rows, used, walked, with_default}
use Rattle.clap.specs.declared.builder.value_parser.Reading.{Reading}
use Rattle.clap.specs.declared.parser.matches.ValueSource.TheVariants.{DefaultValue}
use Rattle.clap.proofs.OnLiterals.{clap_on_literals}
use Rattle.tre_words.specs.CommandLine.{command_line}
use Rattle.tre_words.specs.Settings.{Setting, Text, flag, joined, apart, name_of_setting, value_of, words_of_setting, value_in, IsPlain, IsTyped, Types, among, behind, flags, is_among, options}
use Rattle.tre_words.proofs.Settings.{Pending, held, standing, state, shape, rules, names, flag_of, option_of, at_none, again, adds, text_adds, never_twice, never_settles, option_settles, option_pending, text_settles, used_behind, flag_walks, flag_faults, joined_walks, joined_faults, apart_walks, apart_faults, value_walks, text_walks, text_faults, no_second, no_second_behind, end_walks, trail_walks, trail_faults}
use Rattle.tre_words.proofs.Typing.{row_of, text_row, AreLeft, Fresh, flipped, or_none, setting_not}
use Rattle.tre_words.proofs.Ending.{fault_behind, fault_is, found_behind, parts}
use Rattle.tre_words.proofs.Seen.{Seen, seen, seen_flag, seen_joined, seen_apart, seen_plain, seen_end, wrong}

-- The walk goes on over the words, and nothing is wrong, also behind the last.
record Runs (walk : Walk) (words : List Text) : Type 0 where
  faultless : walk_fault shape names walk words ≡ []
  behind : fault_behind (fold (walked rules names) walk words) ≡ []

run_on : (walk : Walk) (word : Text) (words : List Text) → Runs walk (word ∷ words)
    → (turn_fault shape names walk word ≡ []) × Runs (walked rules names walk word) words
unfolding walk_fault
run_on walk word words runs =
    let both = parts (turn_fault shape names walk word)
    (walk_fault shape names (walked rules names walk word) words) runs.faultless in
    (both.0, record { faultless = both.1; behind = runs.behind })

-- ---- what is wrong with a word

turn_wrong : (word : Text) (rows : List Row) (pending : Pending) (waiting : Waiting) (position : ℕ)
    → turn_fault shape names (state rows pending waiting position) word ≡ []
    → wrong word rows pending ≡ []
unfolding command_line
turn_wrong word rows pending idle position clean = (parts _ _ clean).0
turn_wrong word rows pending (option name) position clean = (parts _ _ clean).0
turn_wrong word rows pending positional position clean = (parts _ _ clean).0

abbrev Settles : List Row → Pending → Type 0
Settles rows pending = settle_fault rules false (held rows pending) ≡ []

-- a use that isn't wrong
used_well : (name : Text) (rows : List Row) (pending : Pending) → used_behind name rows pending ≡ []
    → Settles rows pending × (has_row name (settled_rows rules pending rows) ≡ false)
used_well name rows pending clean =
    let given = has_row name (settled_rows rules pending rows) in
    let both = parts (settle_fault rules false (held rows pending)) (again given)
    (parts (or_else (settle_fault rules false (held rows pending)) (again given)) [] clean).0 in
    (both.0, never_twice given both.1)

-- ---- behind the last word

abbrev default_row : Text → Reading → List Text → Row
default_row id how values = record {
  id = id;
  values = values;
  count = None;
  source = Some DefaultValue;
  reading = how;
}

not_default : (rows : List Row) (id name : Text) (how : Reading) (values : List Text)
    → is_given name rows ≡ false → is_given name (rows ++ default_row id how values ∷ []) ≡ false
not_default [] id name how values none = go (bytes_eq id name)
  where
    go : (b : Bool) → option_map_or (λ (row : Row). explicit_source row.source)
        (cond b (Some (default_row id how values)) None) false ≡ false
    go true = refl
    go false = refl
not_default (row ∷ rows) id name how values none =
    go (bytes_eq row.id name) none (not_default rows id name how values)
  where
    go : (b : Bool) → option_map_or (λ (row : Row). explicit_source row.source)
        (cond b (Some row) (find (λ (row : Row). bytes_eq row.id name) rows)) false ≡ false
        → (is_given name rows ≡ false → is_given name (rows ++ default_row id how values ∷ []) ≡ false)
        → option_map_or (λ (row : Row). explicit_source row.source)
        (cond b (Some row) (find (λ (row : Row). bytes_eq row.id name) (rows ++ default_row id how values ∷ []))) false ≡ false
    go true none rest = none
    go false none rest = rest none

default_not : (id name : Text) (how : Reading) (values : List Text) (rows : List Row) (b : Bool)
    → has_row id rows ≡ b → is_given name rows ≡ false
    → is_given name (cond b rows (default_rows id how values rows)) ≡ false
default_not id name how values rows true has none = none
default_not id name how [] rows false has none = none
default_not id name how (value ∷ values) rows false has none =
    subst (λ (more : List Row). is_given name more ≡ false)
    (sym (at_none id (more_values DefaultValue (value ∷ values)) _ rows has))
    (not_default rows id name how (value ∷ values) none)

defaults_not : (rest : List Rule) (rows : List Row) (name : Text) → is_given name rows ≡ false
    → is_given name (fold with_default rows rest) ≡ false
defaults_not [] rows name none = none
defaults_not (rule ∷ rest) rows name none = defaults_not rest (with_default rows rule) name
    (default_not rule.id name (reading_by rule) rule.defaults rows (has_row rule.id rows) refl none)

none_given : (rows : List Row) (name : Text) → has_row name rows ≡ false
    → is_given name rows ≡ false
none_given rows name none =
    ap (λ (found : Option Row). option_map_or (λ (row : Row). explicit_source row.source) found false)
    (ap (find (λ (row : Row). bytes_eq row.id name)) (sym (append-nil rows))
    ∙ found_behind rows [] name none)

check_given : (rows : List Row) → check_fault shape rows false ≡ []
    → is_given (codes "EXPR") rows ≡ false → ⊥
unfolding command_line clap_on_literals
check_given rows clean none = let it = rw none at clean in cc

record Ends (rows : List Row) (pending : Pending) : Type 0 where
  clean : Settles rows pending
  has : has_row (codes "EXPR") (settled_rows rules pending rows) ≡ false → ⊥

ends : (trailing : Bool) (rows : List Row) (pending : Pending) (waiting : Waiting) (position : ℕ)
    → Runs (standing trailing rows pending waiting position) [] → Ends rows pending
ends trailing rows pending waiting position runs =
    let all : or_else (settle_fault rules false (held rows pending))
    (or_else (defaults_fault (settled_rows rules pending rows) rules)
    (check_fault shape (finished rules (held rows pending)) false)) ≡ [] = runs.behind in
    let first = parts (settle_fault rules false (held rows pending))
    (or_else (defaults_fault (settled_rows rules pending rows) rules)
    (check_fault shape (finished rules (held rows pending)) false)) all in
    let second = parts (defaults_fault (settled_rows rules pending rows) rules)
    (check_fault shape (finished rules (held rows pending)) false) first.1 in
    record {
      clean = first.0;
      has = λ none. check_given (finished rules (held rows pending)) second.1
          (defaults_not rules (settled_rows rules pending rows) (codes "EXPR")
          (none_given (settled_rows rules pending rows) (codes "EXPR") none));
    }

-- ---- behind `--`

-- the text stands at place 1, and none behind it
abbrev position_of : Bool → ℕ
position_of false = 1
position_of true = 2

abbrev Trail : Bool → List Text → Type 0
Trail true words = words ≡ []
Trail false words = (text : Text) × (words ≡ text ∷ [])

abbrev NoText : Bool → List Row → Type 0
NoText told found = told ≡ false → has_row (codes "EXPR") found ≡ false

trailed : (told : Bool) (rows : List Row) (pending : Pending) (waiting : Waiting) (words : List Text)
    → Runs (standing true rows pending waiting (position_of told)) words
    → Settles rows pending × (NoText told (settled_rows rules pending rows) → Trail told words)
trailed true rows pending waiting [] runs = ((ends true rows pending waiting 2 runs).clean, λ none. refl)
trailed true rows pending waiting (text ∷ words) runs =
    absurd (no_second_behind rows pending waiting text (run_on _ text words runs).0)
trailed false rows pending waiting [] runs =
    let last = ends true rows pending waiting 1 runs in
    (last.clean, λ none. absurd (last.has (none refl)))
trailed false rows pending waiting (text ∷ words) runs =
    let first = run_on (standing true rows pending waiting 1) text words runs in (
      sym (trail_faults rows pending waiting text) ∙ first.0,
      λ none. go words (subst (λ (walk : Walk). Runs walk words)
          (trail_walks rows pending waiting text) first.1),
    )
  where
    go : (more : List Text)
        → Runs (standing true (settled_rows rules pending rows) (Some (codes "EXPR", text ∷ [])) idle 2) more
        → (one : Text) × (text ∷ more ≡ one ∷ [])
    go [] runs = (text, refl)
    go (other ∷ more) runs = absurd (no_second_behind (settled_rows rules pending rows)
        (Some (codes "EXPR", text ∷ [])) idle other (run_on (standing true
        (settled_rows rules pending rows) (Some (codes "EXPR", text ∷ [])) idle 2) other more runs).0)

-- ---- what the words are

abbrev IsEnd : List Text → Type 0
IsEnd end = (end ≡ []) ⊎ (end ≡ codes "--" ∷ [])

pub record After (found : List Row) (words : List Text) : Type 0 where
  pub settings : List Setting
  pub end : List Text
  pub ends : IsEnd end
  pub are : words ≡ flat_map words_of_setting settings ++ end
  pub left : AreLeft found settings

pub record Before (found : List Row) (words : List Text) : Type 0 where
  pub settings : List Setting
  pub text : Text
  pub types : Types words settings text
  pub left : AreLeft found settings

abbrev Rest : Bool → List Row → List Text → Type 0
Rest true = After
Rest false = Before

either_false : (a b : Bool) → (a || (b || false)) ≡ false → (a ≡ false) × (b ≡ false)
either_false true b e = absurd (true≢false e)
either_false false true e = absurd (true≢false e)
either_false false false e = (refl, refl)

fresh_less : (found : List Row) (row : Row) (settings : List Setting)
    → Fresh (found ++ row ∷ []) settings → Fresh found settings × (value_in row.id settings ≡ None)
fresh_less found row [] fresh = (tt, refl)
fresh_less found row (setting ∷ settings) fresh =
    let here = either_false (has_row (name_of_setting setting) found)
    (bytes_eq row.id (name_of_setting setting))
    (sym (list_any-append (λ (other : Row). bytes_eq other.id (name_of_setting setting)) found (row ∷ []))
    ∙ fresh.0) in
    let rest = fresh_less found row settings fresh.1 in (
      (here.0, rest.0),
      ap (λ (b : Bool). cond b (Some (value_of setting)) (value_in row.id settings))
          (flipped row.id (name_of_setting setting) here.1) ∙ rest.1,
    )

left_less : (found : List Row) (row : Row) (settings : List Setting)
    → AreLeft (found ++ row ∷ []) settings → AreLeft found settings
left_less found row settings left = record {
  fresh = (fresh_less found row settings left.fresh).0;
  typed = left.typed;
}

left_with : (setting : Setting) (found : List Row) (settings : List Setting)
    → has_row (name_of_setting setting) found ≡ false → IsTyped setting
    → AreLeft (found ++ row_of setting ∷ []) settings → AreLeft found (setting ∷ settings)
left_with setting found settings none typed left =
    let less = fresh_less found (row_of setting) settings left.fresh in record {
      fresh = (none, less.0);
      typed = (typed, less.1, left.typed);
    }

types_more : (setting : Setting) (settings : List Setting) (text : Text) (words : List Text)
    → Types words settings text
    → Types (words_of_setting setting ++ words) (setting ∷ settings) text
types_more setting settings text words (among before after end same plain ends are) =
    among (setting ∷ before) after end (ap (λ (more : List Setting). setting ∷ more) same) plain ends
    (ap (λ (more : List Text). words_of_setting setting ++ more) are
    ∙ sym (append_assoc (words_of_setting setting) (flat_map words_of_setting before)
    (text ∷ (flat_map words_of_setting after ++ end))))
types_more setting settings text words (behind are) =
    behind (ap (λ (more : List Text). words_of_setting setting ++ more) are
    ∙ sym (append_assoc (words_of_setting setting) (flat_map words_of_setting settings)
    (codes "--" ∷ text ∷ [])))

with_setting : (setting : Setting) (told : Bool) (found : List Row) (words : List Text)
    → has_row (name_of_setting setting) found ≡ false → IsTyped setting
    → Rest told (found ++ row_of setting ∷ []) words
    → Rest told found (words_of_setting setting ++ words)
with_setting setting true found words none typed rest = record {
  settings = setting ∷ rest.settings;
  end = rest.end;
  ends = rest.ends;
  are = ap (λ (more : List Text). words_of_setting setting ++ more) rest.are
      ∙ sym (append_assoc (words_of_setting setting) (flat_map words_of_setting rest.settings) rest.end);
  left = left_with setting found rest.settings none typed rest.left;
}
with_setting setting false found words none typed rest = record {
  settings = setting ∷ rest.settings;
  text = rest.text;
  types = types_more setting rest.settings rest.text words rest.types;
  left = left_with setting found rest.settings none typed rest.left;
}

-- ---- one word after another

-- what words are between two settings, and behind an option that waits for its value
abbrev Idle : List Text → Type 0
Idle words = (told : Bool) (rows : List Row) (pending : Pending)
    → Runs (state rows pending idle (position_of told)) words
    → Settles rows pending × (NoText told (settled_rows rules pending rows)
    → Rest told (settled_rows rules pending rows) words)

record Valued (told : Bool) (name : Text) (found : List Row) (words : List Text) : Type 0 where
  value : Text
  more : List Text
  are : words ≡ value ∷ more
  plain : IsPlain value
  none : has_row name found ≡ false
  rest : NoText told found → Rest told (found ++ row_of (apart name value) ∷ []) more

abbrev Waits : List Text → Type 0
Waits words = (told : Bool) (name : Text) → is_among options name ≡ true → (rows : List Row)
    → Runs (state rows (Some (name, [])) (option name) (position_of told)) words
    → Valued told name rows words

no_text_with : (setting : Setting) (told : Bool) (found : List Row) → IsTyped setting
    → NoText told found → NoText told (found ++ row_of setting ∷ [])
no_text_with setting told found typed none is =
    list_any-append (λ (row : Row). bytes_eq row.id (codes "EXPR")) found (row_of setting ∷ [])
    ∙ or_none (has_row (codes "EXPR") found) (bytes_eq (name_of_setting setting) (codes "EXPR"))
    (none is) (setting_not setting typed)

-- a setting that is used at once
used_now : (setting : Setting) (told : Bool) (found rows : List Row) (words : List Text)
    → Idle words → IsTyped setting → has_row (name_of_setting setting) found ≡ false
    → rows ≡ found ++ row_of setting ∷ [] → NoText told found
    → Runs (state rows None idle (position_of told)) words
    → Rest told found (words_of_setting setting ++ words)
used_now setting told found rows words later typed fresh are none runs =
    with_setting setting told found words fresh typed
    (subst (λ (more : List Row). Rest told more words) are
    ((later told rows None runs).1 (λ is. ap (has_row (codes "EXPR")) are
    ∙ no_text_with setting told found typed none is)))

-- what the words come to where this one stands first
abbrev Reads : List Text → Bool → List Row → Pending → Text → Type 0
Reads words told rows pending text =
    Runs (state rows pending idle (position_of told)) (text ∷ words)
    → Settles rows pending × (NoText told (settled_rows rules pending rows)
    → Rest told (settled_rows rules pending rows) (text ∷ words))

flag_reads : (name : Text) → is_among flags name ≡ true → (words : List Text) → Idle words
    → (told : Bool) (rows : List Row) (pending : Pending)
    → Reads words told rows pending (codes "--" ++ name)
flag_reads name is words later told rows pending runs =
    let first = run_on _ (codes "--" ++ name) words runs in
    let well = used_well name rows pending
    (sym (flag_faults name is rows pending idle (position_of told)) ∙ first.0) in (
      well.0,
      λ none. used_now (flag name) told (settled_rows rules pending rows)
          (used (flag_of name) [] (settled_rows rules pending rows)) words later is well.1
          (adds name _ (codes "true") _ well.1) none
          (subst (λ (walk : Walk). Runs walk words)
          (flag_walks name is rows pending idle (position_of told)) first.1),
    )

joined_reads : (name value : Text) → is_among options name ≡ true → (words : List Text)
    → Idle words → (told : Bool) (rows : List Row) (pending : Pending)
    → Reads words told rows pending (codes "--" ++ name ++ codes "=" ++ value)
joined_reads name value is words later told rows pending runs =
    let first = run_on _ (codes "--" ++ name ++ codes "=" ++ value) words runs in
    let well = used_well name rows pending
    (sym (joined_faults name value is rows pending idle (position_of told)) ∙ first.0) in (
      well.0,
      λ none. used_now (joined name value) told (settled_rows rules pending rows)
          (used (option_of name []) (value ∷ []) (settled_rows rules pending rows)) words later is
          well.1 (adds name _ value _ well.1) none
          (subst (λ (walk : Walk). Runs walk words)
          (joined_walks name value is rows pending idle (position_of told)) first.1),
    )

apart_reads : (name : Text) → is_among options name ≡ true → (words : List Text) → Waits words
    → (told : Bool) (rows : List Row) (pending : Pending)
    → Reads words told rows pending (codes "--" ++ name)
apart_reads name is words later told rows pending runs =
    let first = run_on _ (codes "--" ++ name) words runs in
    let clean = (parts (settle_fault rules false (held rows pending)) []
    (sym (apart_faults name is rows pending idle (position_of told)) ∙ first.0)).0 in
    let next = later told name is (settled_rows rules pending rows)
    (subst (λ (walk : Walk). Runs walk words)
    (apart_walks name is rows pending idle (position_of told)) first.1) in (
      clean,
      λ none. subst (λ (more : List Text). Rest told (settled_rows rules pending rows)
          ((codes "--" ++ name) ∷ more)) (sym next.are)
          (with_setting (apart name next.value) told (settled_rows rules pending rows) next.more
          next.none (is, next.plain) (next.rest none)),
    )

text_reads : (text : Text) (words : List Text) → Idle words → IsPlain text → (told : Bool)
    (rows : List Row) (pending : Pending) → Reads words told rows pending text
text_reads text words later plain true rows pending runs =
    absurd (no_second text plain rows pending (run_on _ text words runs).0)
text_reads text words later plain false rows pending runs =
    let first = run_on _ text words runs in
    let found = settled_rows rules pending rows in
    let second = later true found (Some (codes "EXPR", text ∷ []))
    (subst (λ (walk : Walk). Runs walk words) (text_walks text plain rows pending) first.1) in (
      sym (text_faults text plain rows pending) ∙ first.0,
      λ none. go (subst (λ (more : List Row). After more words)
          (text_settles text found ∙ text_adds text found (none refl))
          (second.1 (λ is. absurd (true≢false is)))),
    )
  where
    go : After (settled_rows rules pending rows ++ text_row text ∷ []) words
        → Before (settled_rows rules pending rows) (text ∷ words)
    go rest = record {
      settings = rest.settings;
      text = text;
      types = among [] rest.settings rest.end refl plain rest.ends
          (ap (λ (more : List Text). text ∷ more) rest.are);
      left = left_less (settled_rows rules pending rows) (text_row text) rest.settings rest.left;
    }

end_reads : (words : List Text) (told : Bool) (rows : List Row)
    (pending : Pending) → Runs (state rows pending idle (position_of told))
    (codes "--" ∷ words) → Settles rows pending × (NoText told (settled_rows rules pending rows)
    → Rest told (settled_rows rules pending rows) (codes "--" ∷ words))
end_reads words told rows pending runs =
    let first = run_on _ (codes "--") words runs in
    let rest = trailed told rows pending idle words (subst (λ (walk : Walk). Runs walk words)
    (end_walks rows pending idle (position_of told)) first.1) in
    (rest.0, λ none. go told (rest.1 none))
  where
    go : (told : Bool) → Trail told words
        → Rest told (settled_rows rules pending rows) (codes "--" ∷ words)
    go true none = record {
      settings = [];
      end = codes "--" ∷ [];
      ends = inr refl;
      are = ap (λ (more : List Text). codes "--" ∷ more) none;
      left = record { fresh = tt; typed = tt };
    }
    go false text = record {
      settings = [];
      text = text.0;
      types = behind (ap (λ (more : List Text). codes "--" ∷ more) text.1);
      left = record { fresh = tt; typed = tt };
    }

value_reads : (value : Text) (words : List Text) → Idle words → IsPlain value → (told : Bool)
    (name : Text) → is_among options name ≡ true → (rows : List Row)
    → Runs (state rows (Some (name, [])) (option name) (position_of told)) (value ∷ words)
    → Valued told name rows (value ∷ words)
value_reads value words later plain told name is rows runs =
    let first = run_on _ value words runs in
    let next = later told rows (Some (name, value ∷ []))
    (subst (λ (walk : Walk). Runs walk words)
    (value_walks name value is plain rows (position_of told)) first.1) in
    let fresh = never_twice _ (sym (option_pending name value is rows) ∙ next.0) in
    let adds : settled_rows rules (Some (name, value ∷ [])) rows
    ≡ rows ++ row_of (apart name value) ∷ [] =
    option_settles name value is rows ∙ adds name _ value rows fresh in
    record {
      value = value;
      more = words;
      are = refl;
      plain = plain;
      none = fresh;
      rest = λ none. subst (λ (found : List Row). Rest told found words) adds
          (next.1 (λ at. ap (has_row (codes "EXPR")) adds
          ∙ no_text_with (apart name value) told rows (is, plain) none at));
    }

waits_for : (word : Text) (words : List Text) → Idle words → IsUtf8 word → Waits (word ∷ words)
waits_for word words later utf8 told name is rows runs =
    go (seen word rows (Some (name, [])) utf8
    (turn_wrong word rows (Some (name, [])) (option name) (position_of told) turn))
  where
    turn : turn_fault shape names (state rows (Some (name, [])) (option name) (position_of told)) word ≡ []
    turn = (run_on _ word words runs).0

    turned : (text : Text) → word ≡ text → turn_fault shape names
        (state rows (Some (name, [])) (option name) (position_of told)) text ≡ []
    turned text same = subst (λ (text : Text). turn_fault shape names
        (state rows (Some (name, [])) (option name) (position_of told)) text ≡ []) same turn

    go : Seen word → Valued told name rows (word ∷ words)
    go (seen_flag one listed same) = absurd (never_settles name is rows
        (used_well one rows (Some (name, []))
        (sym (flag_faults one listed rows (Some (name, [])) (option name) (position_of told))
        ∙ turned _ same)).0)
    go (seen_joined one value listed same) = absurd (never_settles name is rows
        (used_well one rows (Some (name, []))
        (sym (joined_faults one value listed rows (Some (name, [])) (option name) (position_of told))
        ∙ turned _ same)).0)
    go (seen_apart one listed same) = absurd (never_settles name is rows
        (parts (settle_fault rules false (held rows (Some (name, [])))) []
        (sym (apart_faults one listed rows (Some (name, [])) (option name) (position_of told))
        ∙ turned _ same)).0)
    go (seen_plain plain) = value_reads word words later plain told name is rows runs
    go (seen_end same) = absurd (never_settles name is rows
        (trailed told rows (Some (name, [])) (option name) words
        (subst (λ (walk : Walk). Runs walk words)
        (end_walks rows (Some (name, [])) (option name) (position_of told))
        (run_on _ (codes "--") words (subst (λ (text : Text). Runs (state rows (Some (name, []))
        (option name) (position_of told)) (text ∷ words)) same runs)).1)).0)

idles : (word : Text) (words : List Text) → Idle words → Waits words → IsUtf8 word
    → Idle (word ∷ words)
idles word words later waits utf8 told rows pending runs =
    go (seen word rows pending utf8
    (turn_wrong word rows pending idle (position_of told) (run_on _ word words runs).0)) runs
  where
    go : Seen word → Reads words told rows pending word
    go (seen_flag name is same) = subst (Reads words told rows pending) (sym same)
        (flag_reads name is words later told rows pending)
    go (seen_joined name value is same) = subst (Reads words told rows pending) (sym same)
        (joined_reads name value is words later told rows pending)
    go (seen_apart name is same) = subst (Reads words told rows pending) (sym same)
        (apart_reads name is words waits told rows pending)
    go (seen_plain plain) = text_reads word words later plain told rows pending
    go (seen_end same) = subst (Reads words told rows pending) (sym same)
        (end_reads words told rows pending)

idle_end : Idle []
idle_end true rows pending runs = (
  (ends false rows pending idle 2 runs).clean,
  λ none. record {
    settings = [];
    end = [];
    ends = inl refl;
    are = refl;
    left = record { fresh = tt; typed = tt };
  },
)
idle_end false rows pending runs = let last = ends false rows pending idle 1 runs in
    (last.clean, λ none. absurd (last.has (none refl)))

waits_end : Waits []
waits_end told name is rows runs = absurd (never_settles name is rows
    (ends false rows (Some (name, [])) (option name) (position_of told) runs).clean)

abbrev pub AreUtf8 : List Text → Type 0
AreUtf8 [] = Unit {0}
AreUtf8 (word ∷ words) = IsUtf8 word × AreUtf8 words

pub words_utf8 : {Z : Type 0} (words : List (String Z)) → AreUtf8 (map string_bytes words)
words_utf8 [] = tt
words_utf8 (word ∷ words) = (IsUtf8-string_bytes word, words_utf8 words)

reads : (words : List Text) → AreUtf8 words → Idle words × Waits words
reads [] utf8 = (idle_end, waits_end)
reads (word ∷ words) utf8 =
    let later = reads words utf8.1 in
    (idles word words later.0 later.1 utf8.0, waits_for word words later.0 utf8.0)

-- words of which `clap` has no fault are settings with a text
pub taken : (words : List Text) → AreUtf8 words → fault_of command_line words ≡ []
    → Before [] words
taken words utf8 none =
    let both = parts (walk_fault shape names (state [] None idle 1) words)
    (fault_behind (fold (walked rules names) (state [] None idle 1) words))
    (sym (fault_is words) ∙ none) in
    ((reads words utf8).0 false [] None
    (record { faultless = both.0; behind = both.1 })).1 (λ is. refl)
