-- A text that is told of patterns with labels is that of one list of blocks for each.
use Rattle.std.proofs.Common.{◌≡◌, ◌≢◌, ◌∙◌, ℕ, zero, suc, ◌+◌, ◌<◌, ◌≤◌, ◌^◌, Bool, true, false, None, Some, List, [], ◌∷◌, ◌++◌, length, map, flat_map, get_or, IsTrue, refl, sym, subst, arith, ap, append_assoc}
use Rattle.std.specs.Char.{is_ascii_digit}
use Rattle.std.specs.List.{AllPairs, AllByRecursion}
use Rattle.std.specs.Prelude.{codes, if◌then◌else◌}
use Rattle.std.proofs.lemmas.List.{ext_get_or}
use Rattle.std.proofs.lemmas.List.Elements.{recursion_from_All}
use Rattle.tre_decimal.specs.Decimal.{number_text, units_of}
use Rattle.tre_pairs.specs.declared.TheConstants.{TIME_MAX}
use Rattle.tre_show.specs.Interval.{interval_text, upper_text}
use Rattle.tre_show.specs.Line.{line_of}
use Rattle.tre_state.specs.Name.{IsName, starts_name, continues_name}
use Rattle.tre_trace.specs.Trace.{end_of}
use Rattle.tre_trace.specs.declared.segment.Segment.{Segment}
use Rattle.tre_trace.proofs.Segments.{end_of-le}
use Rattle.tre_zone.specs.Ranges.{begin_range, end_range, duration_range}
use Rattle.tre_zone.specs.Zone.{IsCanonical}
use Rattle.tre_zone.specs.ZoneList.{AreCanonical}
use Rattle.tre_zone.specs.declared.zone_bounds.ZoneBounds.{ZoneBounds}
use Rattle.tre_tell.specs.Blocks.{lines_with, block_of, blocks_from, blocks_text, ending_text}
use Rattle.tre_tell.specs.OnlineText.{AreCanonicalBlocks, AreBlocksOf, IsLabel, AreWatched, AreWatchedSoFar}
use Rattle.tre_tell.specs.Transcript.{Account}
use Rattle.tre_tell.proofs.Stretches.{lengths_of}

-- ---- words before a space

abbrev IsSpaceless : List ℕ → Type 0
IsSpaceless [] = Unit {0}
IsSpaceless (byte ∷ bytes) = (byte ≢ 32) × IsSpaceless bytes

word_once : (xs ys rest other : List ℕ) → IsSpaceless xs → IsSpaceless ys
    → xs ++ (32 ∷ rest) ≡ ys ++ (32 ∷ other) → (xs ≡ ys) × (rest ≡ other)
word_once [] [] rest other p q e = (refl, cc)
word_once [] (y ∷ ys) rest other p q e = let here : y ≡ 32 = cc in absurd (q.0 here)
word_once (x ∷ xs) [] rest other p q e = let here : x ≡ 32 = cc in absurd (p.0 here)
word_once (x ∷ xs) (y ∷ ys) rest other p q e =
    let here : x ≡ y = cc in
    let behind : xs ++ (32 ∷ rest) ≡ ys ++ (32 ∷ other) = cc in
    let more = word_once xs ys rest other p.1 q.1 behind in
    let same : xs ≡ ys = more.0 in
    (cc, more.1)

no_space_goes_on : (byte : ℕ) → continues_name byte ≡ true → byte ≢ 32
no_space_goes_on byte goes is =
    let fails : continues_name 32 ≡ false = refl in
    let passes : continues_name 32 ≡ true = subst (λ (x : ℕ). continues_name x ≡ true) is goes in
    let wrong : false ≡ true = sym fails ∙ passes in
    absurd cc

rest_spaceless : (bytes : List ℕ) → AllByRecursion (λ byte. continues_name byte ≡ true) bytes
    → IsSpaceless bytes
rest_spaceless [] all = tt
rest_spaceless (byte ∷ bytes) all =
    (no_space_goes_on byte all.0, rest_spaceless bytes all.1)

name_spaceless : (name : List ℕ) → IsName name → IsSpaceless name
name_spaceless [] is = absurd is.0
name_spaceless (byte ∷ bytes) is = (
  (λ e.
      let wrong : false ≡ true = subst (λ (x : ℕ). IsTrue (starts_name x)) e is.0.0 in
      absurd cc),
  rest_spaceless bytes
      (recursion_from_All (λ byte. continues_name byte ≡ true) bytes is.0.1),
)

-- ---- a number, and a line

-- A line begins with a bracket, which is no digit.
no_bracket : (weak : Bool) (byte : ℕ) (bytes xs ys : List ℕ) → is_ascii_digit byte ≡ true
    → byte ∷ bytes ++ xs ≡ (if weak then codes "[" else codes "(") ++ ys → ⊥
no_bracket true byte bytes xs ys digit e =
    let here : byte ≡ 91 = cc in
    let wrong : false ≡ true =
    subst (λ (x : ℕ). is_ascii_digit x ≡ true) here digit in
    absurd cc
no_bracket false byte bytes xs ys digit e =
    let here : byte ≡ 40 = cc in
    let wrong : false ≡ true =
    subst (λ (x : ℕ). is_ascii_digit x ≡ true) here digit in
    absurd cc

-- What the laws of decimals say of a text that is a number of units.
pub record DigitsTell (scale : ℕ) : Type 0 where
  pub read : (units : ℕ) → units < 2 ^ 64 → units_of scale (number_text scale units) ≡ Some units
  pub digit : (byte units : ℕ) (bytes : List ℕ) → units_of scale (byte ∷ bytes) ≡ Some units
      → is_ascii_digit byte ≡ true

number_apart : (scale units : ℕ) (text : List ℕ) (zone : ZoneBounds) (xs ys : List ℕ)
    → DigitsTell scale → units_of scale text ≡ Some units
    → text ++ xs ≡ line_of scale zone ++ ys → ⊥
number_apart scale units [] zone xs ys tells is e = absurd cc
number_apart scale units (byte ∷ bytes) zone xs ys tells is e =
    let range = begin_range zone in
    let low = number_text scale range.low ++ codes "," in
    let high = upper_text scale range.high range.high_weak in
    let rest = codes " " ++ interval_text scale (end_range zone) ++ codes " "
    ++ interval_text scale (duration_range zone) ++ codes "\n" in
    let left = if range.low_weak then codes "[" else codes "(" in
    let cut : line_of scale zone ++ ys ≡ left ++ (low ++ high ++ rest ++ ys) = simp append_assoc in
    no_bracket range.low_weak byte bytes xs (low ++ high ++ rest ++ ys)
    (tells.digit byte units bytes is) (e ∙ cut)

-- ---- rows of a label and a zone

record Row : Type 0 where
  pub label : List ℕ
  pub zone : ZoneBounds

abbrev AreRows : List Row → Type 0
AreRows [] = Unit {0}
AreRows (row ∷ rows) = IsLabel row.label × IsCanonical row.zone × AreRows rows

abbrev IsElsewhere : List ℕ → List Row → Type 0
IsElsewhere label [] = Unit {0}
IsElsewhere label (row ∷ rows) = (label ≢ row.label) × IsElsewhere label rows

abbrev row_of : List ℕ → ZoneBounds → Row
row_of label zone = record { label = label; zone = zone }

-- the rows of zones with one label
abbrev rows_with : List ℕ → List ZoneBounds → List Row
rows_with label [] = []
rows_with label (zone ∷ zones) = row_of label zone ∷ rows_with label zones

row_more : (row next : Row) (rows others : List Row) → row.label ≡ next.label
    → row.zone ≡ next.zone → rows ≡ others → row ∷ rows ≡ next ∷ others
row_more row next rows others label zone same =
    ap (λ (name : List ℕ). row_of name row.zone ∷ rows) label
    ∙ ap (λ (bounds : ZoneBounds). row_of next.label bounds ∷ rows) zone
    ∙ ap (λ (list : List Row). next ∷ list) same

-- the first zone of some rows, and the rows behind
abbrev zone_at : ZoneBounds → List Row → ZoneBounds
zone_at zone [] = zone
zone_at zone (row ∷ rows) = row.zone

abbrev rows_behind : List Row → List Row
rows_behind [] = []
rows_behind (row ∷ rows) = rows

-- Rows with a label, before others without it, are those of one list of zones.
split_once : (label : List ℕ) (zones others : List ZoneBounds) (rows rest : List Row)
    → IsElsewhere label rows → IsElsewhere label rest
    → rows_with label zones ++ rows ≡ rows_with label others ++ rest
    → (zones ≡ others) × (rows ≡ rest)
split_once label [] [] rows rest p q e = (refl, e)
split_once label [] (zone ∷ others) rows rest p q e =
    absurd ((subst (IsElsewhere label) e p).0 refl)
split_once label (zone ∷ zones) [] rows rest p q e =
    absurd ((subst (IsElsewhere label) (sym e) q).0 refl)
split_once label (zone ∷ zones) (other ∷ others) rows rest p q e =
    let first : zone ≡ other = ap (λ (list : List Row). zone_at zone list) e in
    let behind : rows_with label zones ++ rows ≡ rows_with label others ++ rest =
    ap (λ (list : List Row). rows_behind list) e in
    let more = split_once label zones others rows rest p q behind in
    let later : zones ≡ others = more.0 in
    (cc, more.1)

-- the label of each account is none of a later one
abbrev AreDistinct : List Account → Type 0
AreDistinct [] = Unit {0}
AreDistinct (account ∷ accounts) =
    AllByRecursion (λ other. account.pattern.label ≢ other.pattern.label) accounts
    × AreDistinct accounts

-- what of each account is told in a block
module _ (told : Account → List ZoneBounds) where
  abbrev rows_of : List Account → List Row
  rows_of [] = []
  rows_of (account ∷ accounts) =
      rows_with account.pattern.label (told account) ++ rows_of accounts

  elsewhere_with : (label other : List ℕ) (zones : List ZoneBounds) (rows : List Row)
      → label ≢ other → IsElsewhere label rows → IsElsewhere label (rows_with other zones ++ rows)
  elsewhere_with label other [] rows differ p = p
  elsewhere_with label other (zone ∷ zones) rows differ p =
      (differ, elsewhere_with label other zones rows differ p)

  elsewhere_of : (label : List ℕ) (accounts : List Account)
      → AllByRecursion (λ account. label ≢ account.pattern.label) accounts
      → IsElsewhere label (rows_of accounts)
  elsewhere_of label [] differ = tt
  elsewhere_of label (account ∷ accounts) differ =
      elsewhere_with label account.pattern.label (told account) (rows_of accounts) differ.0
      (elsewhere_of label accounts differ.1)

  -- Where the labels differ, the rows tell what is told of each account.
  told_once : (accounts others : List Account)
      → map (λ account. account.pattern.label) accounts
      ≡ map (λ account. account.pattern.label) others
      → AreDistinct accounts → AreDistinct others → rows_of accounts ≡ rows_of others
      → map told accounts ≡ map told others
  told_once [] [] labels p q e = refl
  told_once [] (other ∷ others) labels p q e = cc
  told_once (account ∷ accounts) [] labels p q e = cc
  told_once (account ∷ accounts) (other ∷ others) labels p q e =
      let label = account.pattern.label in
      let same : label ≡ other.pattern.label = cc in
      let rest : map (λ account. account.pattern.label) accounts
      ≡ map (λ account. account.pattern.label) others = cc in
      let split = split_once label (told account) (told other) (rows_of accounts) (rows_of others)
      (elsewhere_of label accounts p.0)
      (subst (λ (name : List ℕ). IsElsewhere name (rows_of others)) (sym same)
      (elsewhere_of other.pattern.label others q.0))
      (e ∙ ap (λ (name : List ℕ). rows_with name (told other) ++ rows_of others) (sym same)) in
      let first : told account ≡ told other = split.0 in
      let later : map told accounts ≡ map told others =
      told_once accounts others rest p.1 q.1 split.1 in
      cc

-- ---- their text

module _ (scale : ℕ) where
  -- What the laws of lines and numbers say.
  pub record RowTells : Type 0 where
    pub line : (zone other : ZoneBounds) (xs ys : List ℕ) → IsCanonical zone → IsCanonical other
        → line_of scale zone ++ xs ≡ line_of scale other ++ ys → (zone ≡ other) × (xs ≡ ys)
    pub number : (number other : ℕ) (xs ys : List ℕ) → number < 2 ^ 64 → other < 2 ^ 64
        → number_text scale number ++ (10 ∷ xs) ≡ number_text scale other ++ (10 ∷ ys)
        → (number ≡ other) × (xs ≡ ys)
    pub apart : (number : ℕ) (zone : ZoneBounds) (xs ys : List ℕ) → number < 2 ^ 64
        → number_text scale number ++ xs ≡ line_of scale zone ++ ys → ⊥

  pub tells_of : ((zone other : ZoneBounds) (xs ys : List ℕ) → IsCanonical zone
      → IsCanonical other → line_of scale zone ++ xs ≡ line_of scale other ++ ys
      → (zone ≡ other) × (xs ≡ ys))
      → ((number other : ℕ) (xs ys : List ℕ) → number < 2 ^ 64 → other < 2 ^ 64
      → number_text scale number ++ (10 ∷ xs) ≡ number_text scale other ++ (10 ∷ ys)
      → (number ≡ other) × (xs ≡ ys))
      → DigitsTell scale → RowTells
  tells_of line number digits = record {
    line = line;
    number = number;
    apart = λ units zone xs ys small e. number_apart scale units (number_text scale units) zone xs
        ys digits (digits.read units small) e;
  }

  -- a word, and a number that fills its line, and what follows
  abbrev tail_of : List ℕ → ℕ → List ℕ → List ℕ
  tail_of word number xs = word ++ (32 ∷ (number_text scale number ++ (10 ∷ xs)))

  abbrev text_of : List Row → List ℕ → List ℕ
  text_of [] xs = xs
  text_of (row ∷ rows) xs = row.label ++ (line_of scale row.zone ++ text_of rows xs)

  row_bytes : (row : Row) (is : IsLabel row.label) (xs : List ℕ)
      → row.label ++ xs ≡ is.name ++ (32 ∷ xs)
  row_bytes row is xs =
      ap (λ (label : List ℕ). label ++ xs) is.is ∙ append_assoc is.name (32 ∷ []) xs

  record IsOneTail (rows others : List Row) (word last : List ℕ) (number other : ℕ)
      (xs ys : List ℕ) : Type 0 where
    pub rows_same : rows ≡ others
    pub word_same : word ≡ last
    pub number_same : number ≡ other
    pub rest_same : xs ≡ ys

  -- The text of rows and a tail is of one list of rows and of one tail.
  rows_once : RowTells → (rows others : List Row) (word last : List ℕ) (number other : ℕ)
      (xs ys : List ℕ) → AreRows rows → AreRows others → IsSpaceless word → IsSpaceless last
      → number < 2 ^ 64 → other < 2 ^ 64
      → text_of rows (tail_of word number xs) ≡ text_of others (tail_of last other ys)
      → IsOneTail rows others word last number other xs ys
  rows_once tells [] [] word last number other xs ys p q u v small small' e =
      let words = word_once word last _ _ u v e in
      let numbers = tells.number number other xs ys small small' words.1 in
      record {
        rows_same = refl;
        word_same = words.0;
        number_same = numbers.0;
        rest_same = numbers.1;
      }
  rows_once tells [] (row ∷ others) word last number other xs ys p q u v small small' e =
      let words = word_once word q.0.name _ _ u (name_spaceless q.0.name q.0.is_name)
      (e ∙ row_bytes row q.0 _) in
      absurd (tells.apart number row.zone _ _ small words.1)
  rows_once tells (row ∷ rows) [] word last number other xs ys p q u v small small' e =
      let words = word_once last p.0.name _ _ v (name_spaceless p.0.name p.0.is_name)
      (sym e ∙ row_bytes row p.0 _) in
      absurd (tells.apart other row.zone _ _ small' words.1)
  rows_once tells (row ∷ rows) (next ∷ others) word last number other xs ys p q u v small small'
      e =
      let words = word_once p.0.name q.0.name _ _ (name_spaceless p.0.name p.0.is_name)
      (name_spaceless q.0.name q.0.is_name)
      (sym (row_bytes row p.0 _) ∙ e ∙ row_bytes next q.0 _) in
      let label : row.label ≡ next.label =
      p.0.is ∙ ap (λ (name : List ℕ). name ++ (32 ∷ [])) words.0 ∙ sym q.0.is in
      let line = tells.line row.zone next.zone _ _ p.1 q.1 words.1 in
      let zone : row.zone ≡ next.zone = line.0 in
      let more = rows_once tells rows others word last number other xs ys p.2 q.2 u v small small'
      line.1 in
      record {
        rows_same = row_more row next rows others label zone more.rows_same;
        word_same = more.word_same;
        number_same = more.number_same;
        rest_same = more.rest_same;
      }

  -- ---- the text of accounts

  text_of-append : (rows others : List Row) (xs : List ℕ)
      → text_of (rows ++ others) xs ≡ text_of rows (text_of others xs)
  text_of-append [] others xs = refl
  text_of-append (row ∷ rows) others xs =
      ap (λ (rest : List ℕ). row.label ++ (line_of scale row.zone ++ rest))
      (text_of-append rows others xs)

  text_with : (label : List ℕ) (zones : List ZoneBounds) (xs : List ℕ)
      → lines_with scale label zones ++ xs ≡ text_of (rows_with label zones) xs
  text_with label [] xs = refl
  text_with label (zone ∷ zones) xs =
      append_assoc (label ++ line_of scale zone) (lines_with scale label zones) xs
      ∙ append_assoc label (line_of scale zone) (lines_with scale label zones ++ xs)
      ∙ ap (λ (rest : List ℕ). label ++ (line_of scale zone ++ rest)) (text_with label zones xs)

  module _ (told : Account → List ZoneBounds) where
    abbrev lines_told : List Account → List ℕ
    lines_told accounts =
        flat_map (λ account. lines_with scale account.pattern.label (told account)) accounts

    text_told : (accounts : List Account) (xs : List ℕ)
        → lines_told accounts ++ xs ≡ text_of (rows_of told accounts) xs
    text_told [] xs = refl
    text_told (account ∷ accounts) xs =
        let label = account.pattern.label in
        append_assoc (lines_with scale label (told account)) (lines_told accounts) xs
        ∙ text_with label (told account) (lines_told accounts ++ xs)
        ∙ ap (text_of (rows_with label (told account))) (text_told accounts xs)
        ∙ sym (text_of-append (rows_with label (told account)) (rows_of told accounts) xs)

    rows_are_with : (label : List ℕ) (zones : List ZoneBounds) (rows : List Row) → IsLabel label
        → AreCanonical zones → AreRows rows → AreRows (rows_with label zones ++ rows)
    unfolding AreCanonical
    rows_are_with label [] rows is canonical all = all
    rows_are_with label (zone ∷ zones) rows is canonical all =
        (is, canonical.0, rows_are_with label zones rows is canonical.1 all)

    rows_are : (accounts : List Account)
        → AllByRecursion (λ account. IsLabel account.pattern.label) accounts
        → AllByRecursion (λ account. AreCanonical (told account)) accounts
        → AreRows (rows_of told accounts)
    rows_are [] labels canonical = tt
    rows_are (account ∷ accounts) labels canonical =
        rows_are_with account.pattern.label (told account) (rows_of told accounts) labels.0
        canonical.0 (rows_are accounts labels.1 canonical.1)

  -- ---- blocks and what closes them

  abbrev at_word : List ℕ
  at_word = 97 ∷ 116 ∷ []

  abbrev end_word : List ℕ
  end_word = 101 ∷ 110 ∷ 100 ∷ []

  at_spaceless : IsSpaceless at_word
  at_spaceless = ((λ e. absurd (omega (arith, e))), ((λ e. absurd (omega (arith, e))), tt))

  end_spaceless : IsSpaceless end_word
  end_spaceless = (
    (λ e. absurd (omega (arith, e))),
    ((λ e. absurd (omega (arith, e))), ((λ e. absurd (omega (arith, e))), tt)),
  )

  words_differ : at_word ≡ end_word → ⊥
  words_differ same = absurd (omega (arith, ap length same))

  -- what is told in the block at a place
  abbrev told_at : ℕ → Account → List ZoneBounds
  told_at i account = get_or account.blocks i []

  block_bytes : (accounts : List Account) (i end : ℕ) (xs : List ℕ)
      → block_of scale accounts i end ++ xs
      ≡ text_of (rows_of (told_at i) accounts) (tail_of at_word end xs)
  block_bytes accounts i end xs =
      let lines = lines_told (told_at i) accounts in
      let cut : block_of scale accounts i end ++ xs ≡ lines ++ tail_of at_word end xs =
      simp append_assoc in
      cut ∙ text_told (told_at i) accounts (tail_of at_word end xs)

  abbrev ending : List Account → ℕ → List ℕ
  ending accounts end =
      lines_told (λ account. account.closing) accounts
      ++ codes "end " ++ number_text scale end ++ codes "\n"

  ending_bytes : (accounts : List Account) (end : ℕ) → ending accounts end
      ≡ text_of (rows_of (λ account. account.closing) accounts) (tail_of end_word end [])
  ending_bytes accounts end =
      let closing : Account → List ZoneBounds = λ account. account.closing in
      let cut : ending accounts end ≡ lines_told closing accounts ++ tail_of end_word end [] =
      simp append_assoc in
      cut ∙ text_told closing accounts (tail_of end_word end [])

  record IsCanonicalAccount (account : Account) : Type 0 where
    pub blocks : AreCanonicalBlocks account.blocks
    pub closing : AreCanonical account.closing

  canonical_at : (blocks : List (List ZoneBounds)) (i : ℕ) → AreCanonicalBlocks blocks
      → AreCanonical (get_or blocks i [])
  unfolding AreCanonical
  canonical_at [] i all = tt
  canonical_at (zones ∷ blocks) zero all = all.0
  canonical_at (zones ∷ blocks) (suc i) all = canonical_at blocks i all.1

  canonical_each : (accounts : List Account) (i : ℕ) → AllByRecursion IsCanonicalAccount accounts
      → AllByRecursion (λ account. AreCanonical (told_at i account)) accounts
  canonical_each [] i all = tt
  canonical_each (account ∷ accounts) i all =
      (canonical_at account.blocks i all.0.blocks, canonical_each accounts i all.1)

  closing_each : (accounts : List Account) → AllByRecursion IsCanonicalAccount accounts
      → AllByRecursion (λ account. AreCanonical account.closing) accounts
  closing_each [] all = tt
  closing_each (account ∷ accounts) all = (all.0.closing, closing_each accounts all.1)

  -- The first block, and the others.
  here_or_later : (accounts others : List Account) (i k : ℕ) (trace : List Segment)
      → map (told_at i) accounts ≡ map (told_at i) others → k < suc (length trace)
      → ((k : ℕ) → k < length trace
      → map (told_at (suc i + k)) accounts ≡ map (told_at (suc i + k)) others)
      → map (told_at (i + k)) accounts ≡ map (told_at (i + k)) others
  here_or_later accounts others i zero trace here less rest =
      let none : i + 0 ≡ i = omega arith in
      rw none here
  here_or_later accounts others i (suc k) trace here less rest =
      let next : i + suc k ≡ suc i + k = omega arith in
      rw next (rest k (omega (arith, less)))

  -- A block is not what closes a text.
  not_both : RowTells → (accounts others : List Account)
      → AllByRecursion (λ account. IsLabel account.pattern.label) accounts
      → AllByRecursion (λ account. IsLabel account.pattern.label) others
      → (i end at : ℕ) (xs : List ℕ) → AllByRecursion IsCanonicalAccount accounts
      → AllByRecursion IsCanonicalAccount others → end ≤ TIME_MAX → at ≤ TIME_MAX
      → block_of scale accounts i end ++ xs ≡ ending others at → ⊥
  not_both tells accounts others named named' i end at xs canonical canonical' small small' e =
      let closing : Account → List ZoneBounds = λ account. account.closing in
      let same = rows_once tells (rows_of (told_at i) accounts) (rows_of closing others) at_word
      end_word end at xs []
      (rows_are (told_at i) accounts named (canonical_each accounts i canonical))
      (rows_are closing others named' (closing_each others canonical'))
      at_spaceless end_spaceless (omega (arith, small)) (omega (arith, small'))
      (sym (block_bytes accounts i end xs) ∙ e ∙ ending_bytes others at) in
      absurd (words_differ same.word_same)

  module _ (accounts others : List Account)
      (labels : map (λ account. account.pattern.label) accounts
      ≡ map (λ account. account.pattern.label) others)
      (named : AllByRecursion (λ account. IsLabel account.pattern.label) accounts)
      (named' : AllByRecursion (λ account. IsLabel account.pattern.label) others)
      (distinct : AreDistinct accounts) (distinct' : AreDistinct others)
      (canonical : AllByRecursion IsCanonicalAccount accounts)
      (canonical' : AllByRecursion IsCanonicalAccount others) (tells : RowTells) where
    -- What the texts from a place on tell.
    record IsOneWatch (i : ℕ) (trace other : List Segment) : Type 0 where
      pub lengths_same : lengths_of trace ≡ lengths_of other
      pub blocks_same : (k : ℕ) → k < length trace
          → map (told_at (i + k)) accounts ≡ map (told_at (i + k)) others
      pub closings_same : map (λ account. account.closing) accounts
          ≡ map (λ account. account.closing) others

    rows_at : (told : Account → List ZoneBounds) (word last : List ℕ) (number other : ℕ)
        (xs ys : List ℕ) → AllByRecursion (λ account. AreCanonical (told account)) accounts
        → AllByRecursion (λ account. AreCanonical (told account)) others
        → IsSpaceless word → IsSpaceless last → number ≤ TIME_MAX → other ≤ TIME_MAX
        → text_of (rows_of told accounts) (tail_of word number xs)
        ≡ text_of (rows_of told others) (tail_of last other ys)
        → IsOneTail (rows_of told accounts) (rows_of told others) word last number other xs ys
    rows_at told word last number other xs ys p q u v small small' e =
        rows_once tells (rows_of told accounts) (rows_of told others) word last number other xs ys
        (rows_are told accounts named p) (rows_are told others named' q) u v
        (omega (arith, small)) (omega (arith, small')) e

    walk : (i start at at' : ℕ) (trace other : List Segment) → end_of start trace ≤ TIME_MAX
        → end_of start other ≤ TIME_MAX → at ≤ TIME_MAX → at' ≤ TIME_MAX
        → blocks_from scale accounts i start trace ++ ending accounts at
        ≡ blocks_from scale others i start other ++ ending others at'
        → IsOneWatch i trace other
    walk i start at at' [] [] small small' last last' e =
        let closing : Account → List ZoneBounds = λ account. account.closing in
        let same = rows_at closing end_word end_word at at' [] []
        (closing_each accounts canonical) (closing_each others canonical')
        end_spaceless end_spaceless last last'
        (sym (ending_bytes accounts at) ∙ e ∙ ending_bytes others at') in
        record {
          lengths_same = refl;
          blocks_same = λ k less. absurd (omega (arith, less));
          closings_same = told_once closing accounts others labels distinct distinct'
              same.rows_same;
        }
    walk i start at at' [] (next ∷ other) small small' last last' e =
        let m' = start + next.len in
        absurd (not_both tells others accounts named' named i m' at
        (blocks_from scale others (suc i) m' other ++ ending others at') canonical' canonical
        (omega (arith, small', end_of-le m' other)) last
        (sym (append_assoc (block_of scale others i m')
        (blocks_from scale others (suc i) m' other) (ending others at')) ∙ sym e))
    walk i start at at' (segment ∷ trace) [] small small' last last' e =
        let m = start + segment.len in
        absurd (not_both tells accounts others named named' i m at'
        (blocks_from scale accounts (suc i) m trace ++ ending accounts at) canonical canonical'
        (omega (arith, small, end_of-le m trace)) last'
        (sym (append_assoc (block_of scale accounts i m)
        (blocks_from scale accounts (suc i) m trace) (ending accounts at)) ∙ e))
    walk i start at at' (segment ∷ trace) (next ∷ other) small small' last last' e =
        let m = start + segment.len in
        let m' = start + next.len in
        let xs = blocks_from scale accounts (suc i) m trace ++ ending accounts at in
        let ys = blocks_from scale others (suc i) m' other ++ ending others at' in
        let same = rows_at (told_at i) at_word at_word m m' xs ys
        (canonical_each accounts i canonical) (canonical_each others i canonical')
        at_spaceless at_spaceless (omega (arith, small, end_of-le m trace))
        (omega (arith, small', end_of-le m' other))
        (sym (block_bytes accounts i m xs)
        ∙ sym (append_assoc (block_of scale accounts i m)
        (blocks_from scale accounts (suc i) m trace) (ending accounts at))
        ∙ e
        ∙ append_assoc (block_of scale others i m')
        (blocks_from scale others (suc i) m' other) (ending others at')
        ∙ block_bytes others i m' ys) in
        let ends : m ≡ m' = same.number_same in
        let rest = walk (suc i) m at at' trace other small
        (subst (λ (t : ℕ). end_of t other ≤ TIME_MAX) (sym ends) small') last last'
        (subst (λ (t : ℕ). xs ≡ blocks_from scale others (suc i) t other ++ ending others at')
        (sym ends) same.rest_same) in
        let length_same : segment.len ≡ next.len = omega (arith, ends) in
        let lengths : lengths_of trace ≡ lengths_of other = rest.lengths_same in
        let here : map (told_at i) accounts ≡ map (told_at i) others =
        told_once (told_at i) accounts others labels distinct distinct' same.rows_same in
        record {
          lengths_same = cc;
          blocks_same = λ k less. here_or_later accounts others i k trace here less
              rest.blocks_same;
          closings_same = rest.closings_same;
        }

  -- ---- blocks that no end follows

  module _ (accounts others : List Account)
      (labels : map (λ account. account.pattern.label) accounts
      ≡ map (λ account. account.pattern.label) others)
      (named : AllByRecursion (λ account. IsLabel account.pattern.label) accounts)
      (named' : AllByRecursion (λ account. IsLabel account.pattern.label) others)
      (distinct : AreDistinct accounts) (distinct' : AreDistinct others)
      (canonical : (i : ℕ) → AllByRecursion (λ account. AreCanonical (told_at i account)) accounts)
      (canonical' : (i : ℕ) → AllByRecursion (λ account. AreCanonical (told_at i account)) others)
      (tells : RowTells) where
    record IsOneFront (i : ℕ) (trace other : List Segment) : Type 0 where
      pub lengths_same : lengths_of trace ≡ lengths_of other
      pub blocks_same : (k : ℕ) → k < length trace
          → map (told_at (i + k)) accounts ≡ map (told_at (i + k)) others

    -- a block has a text
    no_block : {X : Type 0} (lines xs number line ys : List ℕ)
        → [] ≡ (((lines ++ (97 ∷ xs)) ++ number) ++ line) ++ ys → X
    no_block [] xs number line ys e = cc
    no_block (byte ∷ lines) xs number line ys e = cc

    walk_front : (i start : ℕ) (trace other : List Segment) → end_of start trace ≤ TIME_MAX
        → end_of start other ≤ TIME_MAX
        → blocks_from scale accounts i start trace ≡ blocks_from scale others i start other
        → IsOneFront i trace other
    walk_front i start [] [] small small' e = record {
      lengths_same = refl;
      blocks_same = λ k less. absurd (omega (arith, less));
    }
    walk_front i start [] (next ∷ other) small small' e =
        let m' = start + next.len in
        no_block
        (flat_map (λ account. lines_with scale account.pattern.label (get_or account.blocks i []))
        others) (116 ∷ 32 ∷ []) (number_text scale m') (10 ∷ [])
        (blocks_from scale others (suc i) m' other) e
    walk_front i start (segment ∷ trace) [] small small' e =
        let m = start + segment.len in
        no_block
        (flat_map (λ account. lines_with scale account.pattern.label (get_or account.blocks i []))
        accounts) (116 ∷ 32 ∷ []) (number_text scale m) (10 ∷ [])
        (blocks_from scale accounts (suc i) m trace) (sym e)
    walk_front i start (segment ∷ trace) (next ∷ other) small small' e =
        let m = start + segment.len in
        let m' = start + next.len in
        let xs = blocks_from scale accounts (suc i) m trace in
        let ys = blocks_from scale others (suc i) m' other in
        let same = rows_once tells (rows_of (told_at i) accounts) (rows_of (told_at i) others)
        at_word at_word m m' xs ys (rows_are (told_at i) accounts named (canonical i))
        (rows_are (told_at i) others named' (canonical' i)) at_spaceless at_spaceless
        (omega (arith, small, end_of-le m trace)) (omega (arith, small', end_of-le m' other))
        (sym (block_bytes accounts i m xs) ∙ e ∙ block_bytes others i m' ys) in
        let ends : m ≡ m' = same.number_same in
        let rest = walk_front (suc i) m trace other small
        (subst (λ (t : ℕ). end_of t other ≤ TIME_MAX) (sym ends) small')
        (subst (λ (t : ℕ). xs ≡ blocks_from scale others (suc i) t other) (sym ends)
        same.rest_same) in
        let length_same : segment.len ≡ next.len = omega (arith, ends) in
        let lengths : lengths_of trace ≡ lengths_of other = rest.lengths_same in
        let here : map (told_at i) accounts ≡ map (told_at i) others =
        told_once (told_at i) accounts others labels distinct distinct' same.rows_same in
        record {
          lengths_same = cc;
          blocks_same = λ k less. here_or_later accounts others i k trace here less
              rest.blocks_same;
        }

-- Lists of blocks that are alike at each place are the same.
blocks_same : (n m : ℕ) (accounts others : List Account) → n ≡ m
    → AllByRecursion (λ account. length account.blocks ≡ n) accounts
    → AllByRecursion (λ account. length account.blocks ≡ m) others
    → length accounts ≡ length others
    → ((k : ℕ) → k < n → map (λ account. get_or account.blocks k []) accounts
    ≡ map (λ account. get_or account.blocks k []) others)
    → map (λ account. account.blocks) accounts ≡ map (λ account. account.blocks) others
blocks_same n m [] [] same p q many each = refl
blocks_same n m [] (other ∷ others) same p q many each = absurd (omega (arith, many))
blocks_same n m (account ∷ accounts) [] same p q many each = absurd (omega (arith, many))
blocks_same n m (account ∷ accounts) (other ∷ others) same p q many each =
    let first : account.blocks ≡ other.blocks =
    ext_get_or [] account.blocks other.blocks (p.0 ∙ same ∙ sym q.0)
    (λ k less. let both = each k (subst (λ (most : ℕ). k < most) p.0 less) in cc) in
    let later : map (λ account. account.blocks) accounts ≡ map (λ account. account.blocks) others =
    blocks_same n m accounts others same p.1 q.1 (omega (arith, many))
    (λ k less. let both = each k less in cc) in
    cc

distinct_of : (accounts : List Account)
    → AllPairs (λ one other. one.pattern.label ≢ other.pattern.label) accounts
    → AreDistinct accounts
distinct_of [] pairs = tt
distinct_of (account ∷ accounts) pairs = (
  recursion_from_All (λ other. account.pattern.label ≢ other.pattern.label) accounts
      (λ j d less. pairs 0 (suc j) d (omega arith) (omega (arith, less))),
  distinct_of accounts (λ i j d before less. pairs (suc i) (suc j) d (omega (arith, before))
      (omega (arith, less))),
)

length_same : (trace other : List Segment) → lengths_of trace ≡ lengths_of other
    → length trace ≡ length other
length_same [] [] same = refl
length_same [] (segment ∷ other) same = cc
length_same (segment ∷ trace) [] same = cc
length_same (segment ∷ trace) (next ∷ other) same =
    let rest : lengths_of trace ≡ lengths_of other = cc in
    ap suc (length_same trace other rest)

labels_many : (accounts others : List Account)
    → map (λ account. account.pattern.label) accounts
    ≡ map (λ account. account.pattern.label) others → length accounts ≡ length others
labels_many [] [] same = refl
labels_many [] (other ∷ others) same = cc
labels_many (account ∷ accounts) [] same = cc
labels_many (account ∷ accounts) (other ∷ others) same =
    let rest : map (λ account. account.pattern.label) accounts
    ≡ map (λ account. account.pattern.label) others = cc in
    ap suc (labels_many accounts others rest)

-- each of some accounts, from what is known of it
each_of : (P Q : Account → Type 0) → ((account : Account) → P account → Q account)
    → (accounts : List Account) → AllByRecursion P accounts → AllByRecursion Q accounts
each_of P Q law [] all = tt
each_of P Q law (account ∷ accounts) all = (law account all.0, each_of P Q law accounts all.1)

pub record IsOneWatchText (accounts others : List Account) (segments seconds : List Segment)
    : Type 0 where
  pub blocks_same : map (λ account. account.blocks) accounts
      ≡ map (λ account. account.blocks) others
  pub closings_same : map (λ account. account.closing) accounts
      ≡ map (λ account. account.closing) others
  pub lengths_same : lengths_of segments ≡ lengths_of seconds

pub watch_once : (scale : ℕ) → RowTells scale → (accounts others : List Account)
    (segments seconds : List Segment) → AreWatched accounts segments → AreWatched others seconds
    → map (λ account. account.pattern.label) accounts
    ≡ map (λ account. account.pattern.label) others
    → blocks_text scale accounts segments ++ ending_text scale accounts segments
    ≡ blocks_text scale others seconds ++ ending_text scale others seconds
    → IsOneWatchText accounts others segments seconds
unfolding blocks_text ending_text
watch_once scale tells accounts others segments seconds are are' labels e =
    let small = are.is_trace.in_time in
    let small' = are'.is_trace.in_time in
    let P : List Segment → Account → Type 0 =
    λ trace account. AreBlocksOf account.blocks (Some account.closing) trace in
    let known = recursion_from_All (P segments) accounts are.blocks in
    let known' = recursion_from_All (P seconds) others are'.blocks in
    let named = recursion_from_All (λ account. IsLabel account.pattern.label) accounts are.labels in
    let named' = recursion_from_All (λ account. IsLabel account.pattern.label) others are'.labels in
    let canonical = each_of (P segments) (IsCanonicalAccount scale)
    (λ account is. record { blocks = is.canonical; closing = is.closed }) accounts known in
    let canonical' = each_of (P seconds) (IsCanonicalAccount scale)
    (λ account is. record { blocks = is.canonical; closing = is.closed }) others known' in
    let is = walk scale accounts others labels named named' (distinct_of accounts are.distinct)
    (distinct_of others are'.distinct) canonical canonical' tells 0 0 (end_of 0 segments)
    (end_of 0 seconds) segments seconds small small' small small' e in
    let count : length segments ≡ length seconds = length_same segments seconds is.lengths_same in
    let many : length accounts ≡ length others = labels_many accounts others labels in
    record {
      blocks_same = blocks_same (length segments) (length seconds) accounts others count
          (each_of (P segments) (λ account. length account.blocks ≡ length segments)
          (λ account is. is.count) accounts known)
          (each_of (P seconds) (λ account. length account.blocks ≡ length seconds)
          (λ account is. is.count) others known')
          many (λ k less.
          let place : 0 + k ≡ k = omega arith in
          subst (λ (i : ℕ). map (λ account. get_or account.blocks i []) accounts
          ≡ map (λ account. get_or account.blocks i []) others) place (is.blocks_same k less));
      closings_same = is.closings_same;
      lengths_same = is.lengths_same;
    }

pub record IsOneFrontText (accounts others : List Account) (segments seconds : List Segment)
    : Type 0 where
  pub blocks_same : map (λ account. account.blocks) accounts
      ≡ map (λ account. account.blocks) others
  pub lengths_same : lengths_of segments ≡ lengths_of seconds

-- each block has canonical bounds, at each place
fronts_canonical : (scale : ℕ) (segments : List Segment) (accounts : List Account) (i : ℕ)
    → AllByRecursion (λ account. AreBlocksOf account.blocks None segments) accounts
    → AllByRecursion (λ account. AreCanonical (get_or account.blocks i [])) accounts
fronts_canonical scale segments [] i all = tt
fronts_canonical scale segments (account ∷ accounts) i all = (
  canonical_at scale account.blocks i all.0.canonical,
  fronts_canonical scale segments accounts i all.1,
)

pub front_once : (scale : ℕ) → RowTells scale → (accounts others : List Account)
    (segments seconds : List Segment) → AreWatchedSoFar accounts segments
    → AreWatchedSoFar others seconds
    → map (λ account. account.pattern.label) accounts
    ≡ map (λ account. account.pattern.label) others
    → blocks_text scale accounts segments ≡ blocks_text scale others seconds
    → IsOneFrontText accounts others segments seconds
unfolding blocks_text
front_once scale tells accounts others segments seconds are are' labels e =
    let P : List Segment → Account → Type 0 =
    λ trace account. AreBlocksOf account.blocks None trace in
    let known = recursion_from_All (P segments) accounts are.blocks in
    let known' = recursion_from_All (P seconds) others are'.blocks in
    let named = recursion_from_All (λ account. IsLabel account.pattern.label) accounts are.labels in
    let named' = recursion_from_All (λ account. IsLabel account.pattern.label) others are'.labels in
    let is = walk_front scale accounts others labels named named'
    (distinct_of accounts are.distinct) (distinct_of others are'.distinct)
    (λ i. fronts_canonical scale segments accounts i known)
    (λ i. fronts_canonical scale seconds others i known') tells 0 0 segments seconds
    are.is_trace.in_time are'.is_trace.in_time e in
    let count : length segments ≡ length seconds = length_same segments seconds is.lengths_same in
    let many : length accounts ≡ length others = labels_many accounts others labels in
    record {
      blocks_same = blocks_same (length segments) (length seconds) accounts others count
          (each_of (P segments) (λ account. length account.blocks ≡ length segments)
          (λ account is. is.count) accounts known)
          (each_of (P seconds) (λ account. length account.blocks ≡ length seconds)
          (λ account is. is.count) others known')
          many (λ k less.
          let place : 0 + k ≡ k = omega arith in
          subst (λ (i : ℕ). map (λ account. get_or account.blocks i []) accounts
          ≡ map (λ account. get_or account.blocks i []) others) place (is.blocks_same k less));
      lengths_same = is.lengths_same;
    }
