-- What names read that compare two signals.
use Rattle.std.specs.Global.{Vec}
use Rattle.std.proofs.Common.{◌≡◌, ◌≢◌, ℕ, zero, suc, ◌+◌, ◌<◌, ◌≤◌, min, max, ◌||◌, bit_and, Bool, true, false, List, [], ◌∷◌, ◌++◌, length, map, get_or, set, Option, None, Some, inl, inr, refl, sym, ap, ap₂, ◌∙◌, subst, arith, if◌then◌else◌, rules}
use Rattle.std.specs.List.{slice_get}
use Rattle.std.specs.Option.{is_some, option_and_then, option_map, option_map_or, option_or}
use Rattle.std.specs.Int.{bit_at}
use Rattle.std.specs.Int.Bits.{bit_or}
use Rattle.std.specs.Str.{bytes_eq}
use Rattle.std.proofs.lemmas.Bool.{false≢true}
use Rattle.std.proofs.lemmas.List.{length-map, length-append, length-set, map-append, get_or-set_same}
use Rattle.std.proofs.lemmas.Nat.Bits.{bit_at_or, bit_at_and, bit_at-zero, same_from_bits}
use Rattle.std.proofs.lemmas.Option.{slice_get-get_or, slice_get_within}
use Rattle.tre_define.specs.Signals.{SignalDefined, part_of_text, signal_definition_of}
use Rattle.tre_define.specs.Values.{compares_known, number_of_part}
use Rattle.tre_define.specs.declared.comparison.Comparison.{Comparison}
use Rattle.tre_define.specs.declared.part.Part.{Part}
use Rattle.tre_define.specs.declared.reads.Reads.{Reads}
use Rattle.tre_define.specs.declared.reads.Reads.TheVariants.{Beside, Bit, Changes, Compared, Has}
use Rattle.tre_state.specs.Sieve.{MayBe}
use Rattle.tre_trace.specs.Reading.{bits_of}
use Rattle.tre_vcd.specs.VcdReading.{Form, Statement, var, definitions, time, change, is_defined, scopes_at, Offer, offer_in, Asked, asked_in, part_in, first_read, letters_at, number_at, pair_by, pair_holds, pair_read, tested_at, compared_at, true_at}
use Rattle.tre_vcd.specs.Kept.{IsQuiet, mask_from}
use Rattle.tre_vcd.specs.Pairs.{KnowsPairAt, KnowsPaired, KnowsPairs, KnowsSide, SamePaired, compared_by, comparison_of, compares_by, holds, letters_of, number_of, one_text, only_compared, other_text, reads_at, reads_pair, side_asked, side_read, text_of}
use Rattle.tre_vcd.specs.Signals.{AreDefined, asked_of_part, bit_of, has_at, letters_kept, reads_part}
use Rattle.tre_vcd.specs.declared.pairs.Paired.{Paired}
use Rattle.tre_vcd.specs.declared.pairs.Pairs.{Pairs}
use Rattle.tre_vcd.specs.declared.side.Side.{Side}
use Rattle.tre_vcd.proofs.MaskBits.{passes_at, bit_in}
use Rattle.tre_vcd.proofs.Masks.{mask-bits}
use Rattle.tre_vcd.proofs.Testing.{bits-push, defined-push}

-- ---- one of two signals, where the same is said

letters-alike : (past now : List Statement)
    → ((identifier : List ℕ) → letters_at now identifier ≡ letters_at past identifier)
    → (asked : Option (Asked Part)) → letters_of now asked ≡ letters_of past asked
letters-alike past now letters None = refl
letters-alike past now letters (Some own) = letters own.identifier

pub side-alike : (past now : List Statement) (text : Option (List ℕ)) (side : Side)
    → side_read now text ≡ side_read past text
    → ((identifier : List ℕ) → letters_at now identifier ≡ letters_at past identifier)
    → KnowsSide past text side → KnowsSide now text side
side-alike past now text side reads letters knows = record {
  asked = knows.asked ∙ sym reads;
  letters = knows.letters ∙ sym (letters-alike past now letters (side_asked side));
}

pub paired-alike : (past now : List Statement) (paired : Option Paired) (value : ℕ)
    → ((text : Option (List ℕ)) → side_read now text ≡ side_read past text)
    → ((identifier : List ℕ) → letters_at now identifier ≡ letters_at past identifier)
    → KnowsPairAt past paired value → KnowsPairAt now paired value
paired-alike past now None value reads letters knows = knows
paired-alike past now (Some paired) value reads letters knows = (
  record {
    one = side-alike past now _ paired.one (reads _) letters knows.0.one;
    other = side-alike past now _ paired.other (reads _) letters knows.0.other;
  },
  knows.1,
)

pub pairs-alike : (past now : List Statement) (all : List SignalDefined) (names : List (List ℕ))
    (sieve : List ℕ) (kept : Pairs)
    → ((text : Option (List ℕ)) → side_read now text ≡ side_read past text)
    → ((identifier : List ℕ) → letters_at now identifier ≡ letters_at past identifier)
    → (is_defined now ≡ true → is_defined past ≡ true) → KnowsPairs all names sieve kept past
    → KnowsPairs all names sieve kept now
pairs-alike past now all names sieve kept reads letters ended knows = record {
  few = knows.few;
  definitions = knows.definitions;
  each = λ k. paired-alike past now _ _ reads letters (knows.each k);
  sifted = λ e. knows.sifted (ended e);
  compared = knows.compared;
}

read-timed : (past : List Statement) (ticks : ℕ) (text : Option (List ℕ))
    → side_read (time ticks ∷ past) text ≡ side_read past text
read-timed past ticks None = refl
read-timed past ticks (Some text) = refl

-- a time changes no value
pub pairs-timed : (past : List Statement) (ticks : ℕ) (all : List SignalDefined)
    (names : List (List ℕ)) (sieve : List ℕ) (kept : Pairs)
    → KnowsPairs all names sieve kept past → KnowsPairs all names sieve kept (time ticks ∷ past)
pairs-timed past ticks all names sieve kept knows =
    pairs-alike past (time ticks ∷ past) all names sieve kept (read-timed past ticks)
    (λ identifier. refl) (λ e. e) knows

-- ---- declarations

letters-quiet : (past : List Statement) → IsQuiet past → (asked : Option (Asked Part))
    → letters_of past asked ≡ None
letters-quiet past quiet None = refl
letters-quiet past quiet (Some own) = quiet.values own.identifier

quiet-var : (past : List Statement) (tokens : List (List ℕ)) → IsQuiet past
    → IsQuiet (var tokens ∷ past)
quiet-var past tokens quiet = record { values = quiet.values; events = quiet.events }

pub side-declared : (past : List Statement) (tokens : List (List ℕ)) (offer : Offer)
    (text : List ℕ) (old new : Side) (part : Option Part) → IsQuiet past
    → offer_in (scopes_at past) tokens ≡ Some offer
    → part ≡ part_of_text text offer.full_name offer.size
    → side_asked new ≡ option_or (side_asked old)
    (option_map (λ own. record { identifier = offer.identifier; asks = own }) part)
    → new.latest ≡ old.latest → KnowsSide past (Some text) old
    → KnowsSide (var tokens ∷ past) (Some text) new
side-declared past tokens offer text old new part quiet is part_is asks same knows = record {
  asked = asks ∙ ap₂ (λ own it. option_or own (option_map
      (λ one. record { identifier = offer.identifier; asks = one }) it)) knows.asked part_is
      ∙ sym (ap (λ found. option_or (first_read (part_in text) past)
      (option_and_then (asked_in (part_of_text text)) found)) is);
  letters = ap letters_kept same ∙ knows.letters ∙ letters-quiet past quiet (side_asked old)
      ∙ sym (letters-quiet (var tokens ∷ past) (quiet-var past tokens quiet) (side_asked new));
}

text-some : (comparison : Option Comparison) (text : List ℕ) → is_some comparison ≡ true
    → text_of comparison text ≡ Some text
text-some None text some = absurd (false≢true some)
text-some (Some comparison) text some = refl

pub paired-declared : (past : List Statement) (tokens : List (List ℕ)) (offer : Offer)
    (paired : Paired) (definition : SignalDefined) (one other : Side) (first second : Option Part)
    → IsQuiet past → offer_in (scopes_at past) tokens ≡ Some offer
    → paired.definition ≡ Some definition
    → is_some (comparison_of definition.reads) ≡ true
    → first ≡ part_of_text definition.signal offer.full_name offer.size
    → second ≡ part_of_text definition.other offer.full_name offer.size
    → side_asked one ≡ option_or (side_asked paired.one)
    (option_map (λ own. record { identifier = offer.identifier; asks = own }) first)
    → one.latest ≡ paired.one.latest
    → side_asked other ≡ option_or (side_asked paired.other)
    (option_map (λ own. record { identifier = offer.identifier; asks = own }) second)
    → other.latest ≡ paired.other.latest → KnowsPaired past paired
    → KnowsPaired (var tokens ∷ past) (record paired { one = one; other = other })
paired-declared past tokens offer paired definition one other first second quiet offered is some
    first_is second_is asks same others_ask others_same knows =
    let text : one_text paired.definition ≡ Some definition.signal =
    ap one_text is ∙ text-some (comparison_of definition.reads) definition.signal some in
    let last : other_text paired.definition ≡ Some definition.other =
    ap other_text is ∙ text-some (comparison_of definition.reads) definition.other some in
    record {
      one = subst (λ own. KnowsSide (var tokens ∷ past) own one) (sym text)
          (side-declared past tokens offer definition.signal paired.one one first quiet offered
          first_is asks same (subst (λ own. KnowsSide past own paired.one) text knows.one));
      other = subst (λ own. KnowsSide (var tokens ∷ past) own other) (sym last)
          (side-declared past tokens offer definition.other paired.other other second quiet offered
          second_is others_ask others_same
          (subst (λ own. KnowsSide past own paired.other) last knows.other));
    }

-- where no text is read
pub side-none : (past now : List Statement) (side : Side) → KnowsSide past None side
    → KnowsSide now None side
side-none past now side knows = record {
  asked = knows.asked;
  letters = knows.letters ∙ ap (letters_of past) knows.asked
      ∙ sym (ap (letters_of now) knows.asked);
}

number-unsaid : (asked : Option (Asked Part)) → number_of asked None ≡ None
number-unsaid None = refl
number-unsaid (Some own) = refl

compares-unknown : (comparison : Option Comparison) (other : Option ℕ)
    → compares_by comparison None other ≡ false
compares-unknown None other = refl
compares-unknown (Some comparison) other = refl

-- nothing holds before the first values
quiet-holds : (past : List Statement) (paired : Paired) → IsQuiet past → KnowsPaired past paired
    → holds paired ≡ false
quiet-holds past paired quiet knows =
    let none : letters_kept paired.one.latest ≡ None =
    knows.one.letters ∙ letters-quiet past quiet (side_asked paired.one) in
    let unknown = ap (number_of (side_asked paired.one)) none
    ∙ number-unsaid (side_asked paired.one) in
    ap (λ one. compares_by (compared_by paired.definition) one
    (number_of (side_asked paired.other) (letters_kept paired.other.latest))) unknown
    ∙ compares-unknown (compared_by paired.definition) _

pub value-declared : (past : List Statement) (tokens : List (List ℕ)) (old new : Paired)
    (value : ℕ) → IsQuiet past → KnowsPaired past old → value ≡ bit_of (holds old)
    → KnowsPaired (var tokens ∷ past) new → value ≡ bit_of (holds new)
value-declared past tokens old new value quiet was is now =
    is ∙ ap bit_of (quiet-holds past old quiet was
    ∙ sym (quiet-holds (var tokens ∷ past) new (quiet-var past tokens quiet) now))

only-same : (new old : List Paired) → map (λ paired. paired.definition) new
    ≡ map (λ paired. paired.definition) old
    → map (λ paired. only_compared paired.definition) new
    ≡ map (λ paired. only_compared paired.definition) old
only-same [] [] same = refl
only-same [] (one ∷ old) same = absurd (cc (same))
only-same (one ∷ new) [] same = absurd (cc (same))
only-same (one ∷ new) (other ∷ old) same =
    let own : one.definition ≡ other.definition = cc (same) in
    ap₂ (λ x xs. x ∷ xs) (ap only_compared own) (only-same new old (cc (same)))

pub pairs-declared : (all : List SignalDefined) (names : List (List ℕ)) (sieve : List ℕ)
    (kept : Pairs) (past : List Statement) (tokens : List (List ℕ)) (list : Vec Paired)
    → is_defined past ≡ false
    → map (λ paired. paired.definition) list.items
    ≡ map (λ paired. paired.definition) kept.list.items
    → ((k : ℕ) → KnowsPairAt (var tokens ∷ past) (slice_get list.items k) (bit_at kept.values k))
    → KnowsPairs all names sieve kept past
    → KnowsPairs all names sieve (record kept { list = list }) (var tokens ∷ past)
pairs-declared all names sieve kept past tokens list before same each knows = record {
  few = omega (
    arith,
    knows.few,
    ap length same,
    length-map list.items (λ (paired : Paired). paired.definition),
    length-map kept.list.items (λ (paired : Paired). paired.definition),
  );
  definitions = subst (AreDefined all names) (sym same) knows.definitions;
  each = each;
  sifted = λ e. absurd (false≢true (sym before ∙ e));
  compared = λ k. knows.compared k ∙ ap (λ own. bit_of (has_at own k)) (sym (only-same _ _ same));
}

-- ---- changes

either-read : (one other : Bool) → (one || other) ≡ false → (one ≡ false) × (other ≡ false)
either-read true other is = absurd (cc (is))
either-read false other is = (refl, is)

read-changed : (past : List Statement) (form : Form) (identifier letters : List ℕ)
    (text : Option (List ℕ))
    → side_read (change form identifier letters ∷ past) text ≡ side_read past text
read-changed past form identifier letters None = refl
read-changed past form identifier letters (Some text) = refl

letters-untold : (past : List Statement) (form : Form) (identifier letters : List ℕ)
    (asked : Option (Asked Part)) → reads_part asked identifier ≡ false
    → letters_of (change form identifier letters ∷ past) asked ≡ letters_of past asked
letters-untold past form identifier letters None other = refl
letters-untold past form identifier letters (Some own) other = search rules

side-untold : (past : List Statement) (form : Form) (identifier letters : List ℕ)
    (text : Option (List ℕ)) (side : Side) → reads_part (side_asked side) identifier ≡ false
    → KnowsSide past text side → KnowsSide (change form identifier letters ∷ past) text side
side-untold past form identifier letters text side other knows = record {
  asked = knows.asked ∙ sym (read-changed past form identifier letters text);
  letters = knows.letters
      ∙ sym (letters-untold past form identifier letters (side_asked side) other);
}

-- a change of an identifier that isn't read
pub paired-untold : (past : List Statement) (form : Form) (identifier letters : List ℕ)
    (paired : Option Paired) (value : ℕ) → reads_at paired identifier ≡ false
    → KnowsPairAt past paired value
    → KnowsPairAt (change form identifier letters ∷ past) paired value
paired-untold past form identifier letters None value other knows = knows
paired-untold past form identifier letters (Some paired) value other knows =
    let both = either-read (reads_part (side_asked paired.one) identifier) _ other in (
      record {
        one = side-untold past form identifier letters _ paired.one both.0 knows.0.one;
        other = side-untold past form identifier letters _ paired.other both.1 knows.0.other;
      },
      knows.1,
    )

pub pairs-changed : (all : List SignalDefined) (names : List (List ℕ)) (sieve : List ℕ)
    (kept : Pairs) (past : List Statement) (form : Form) (identifier letters : List ℕ)
    (list : Vec Paired) (values : ℕ) → is_defined past ≡ true
    → SamePaired kept.list.items list.items
    → ((k : ℕ) → KnowsPairAt (change form identifier letters ∷ past) (slice_get list.items k)
    (bit_at values k))
    → KnowsPairs all names sieve kept past
    → KnowsPairs all names sieve (record kept { list = list; values = values })
    (change form identifier letters ∷ past)
pairs-changed all names sieve kept past form identifier letters list values ended same each knows =
    record {
      few = omega (
        arith,
        knows.few,
        ap length same.definitions,
        length-map list.items (λ (paired : Paired). paired.definition),
        length-map kept.list.items (λ (paired : Paired). paired.definition),
      );
      definitions = subst (AreDefined all names) (sym same.definitions) knows.definitions;
      each = each;
      sifted = λ e k other reads. knows.sifted ended k other (sym (same.reads k other) ∙ reads);
      compared = λ k. knows.compared k
          ∙ ap (λ own. bit_of (has_at own k)) (sym (only-same _ _ same.definitions));
    }

-- what is read is compared
text-none : (comparison : Option Comparison) (text : List ℕ) → is_some comparison ≡ false
    → text_of comparison text ≡ None
text-none None text none = refl
text-none (Some comparison) text none = absurd (cc (none))

side-unread : (past : List Statement) (text : Option (List ℕ)) (side : Side)
    (identifier : List ℕ) → text ≡ None → KnowsSide past text side
    → reads_part (side_asked side) identifier ≡ false
side-unread past text side identifier none knows =
    ap (λ o. reads_part o identifier) (knows.asked ∙ ap (side_read past) none)

definition-unread : (definition : Option SignalDefined) → is_some (only_compared definition) ≡ false
    → (one_text definition ≡ None) × (other_text definition ≡ None)
definition-unread None none = (refl, refl)
definition-unread (Some defined) none = by (comparison_of defined.reads) none
  where
    by : (comparison : Option Comparison)
        → is_some (if is_some comparison then Some defined else None) ≡ false
        → (text_of comparison defined.signal ≡ None) × (text_of comparison defined.other ≡ None)
    by None none = (refl, refl)
    by (Some comparison) none = absurd (cc (none))

only-at : (list : List Paired) (k : ℕ) → has_at (map (λ paired. only_compared paired.definition) list) k
    ≡ option_map_or (λ paired. is_some (only_compared paired.definition)) (slice_get list k) false
only-at [] k = refl
only-at (paired ∷ list) zero = refl
only-at (paired ∷ list) (suc k) = only-at list k

uncompared : (past : List Statement) (paired : Option Paired) (value : ℕ) (identifier : List ℕ)
    → option_map_or (λ own. is_some (only_compared own.definition)) paired false ≡ false
    → KnowsPairAt past paired value → reads_at paired identifier ≡ false
uncompared past None value identifier none knows = refl
uncompared past (Some paired) value identifier none knows =
    let texts = definition-unread paired.definition none in
    rw (
      side-unread past _ paired.one identifier texts.0 knows.0.one,
      side-unread past _ paired.other identifier texts.1 knows.0.other,
    ) refl

-- a name that reads values of the identifier compares two signals
read-compared : (all : List SignalDefined) (names : List (List ℕ)) (sieve : List ℕ)
    (kept : Pairs) (past : List Statement) (identifier : List ℕ)
    → KnowsPairs all names sieve kept past → (k : ℕ)
    → reads_at (slice_get kept.list.items k) identifier ≡ true → (has : Bool)
    → has_at (map (λ paired. only_compared paired.definition) kept.list.items) k ≡ has
    → has ≡ true
read-compared all names sieve kept past identifier knows k is true e = refl
read-compared all names sieve kept past identifier knows k is false e =
    absurd (false≢true (sym (uncompared past (slice_get kept.list.items k) _ identifier
    (sym (only-at kept.list.items k) ∙ e) (knows.each k)) ∙ is))

-- A name whose number is left out, or that compares nothing, reads no value of the identifier.
pub pairs-unread : (all : List SignalDefined) (names : List (List ℕ)) (sieve : List ℕ)
    (kept : Pairs) (past : List Statement) (identifier : List ℕ) (numbers : ℕ)
    → is_defined past ≡ true → ((k : ℕ) → MayBe sieve identifier k → bit_at numbers k ≡ 1)
    → KnowsPairs all names sieve kept past → (k : ℕ)
    → bit_at (bit_and numbers kept.compared) k ≢ 1
    → reads_at (slice_get kept.list.items k) identifier ≡ false
pairs-unread all names sieve kept past identifier numbers ended may knows k clear =
    by (reads_at (slice_get kept.list.items k) identifier) refl
  where
    by : (reads : Bool) → reads_at (slice_get kept.list.items k) identifier ≡ reads → reads ≡ false
    by false is = refl
    by true is =
        let numbered : bit_at numbers k ≡ 1 = may k (knows.sifted ended k identifier is) in
        let has : has_at (map (λ paired. only_compared paired.definition) kept.list.items) k ≡ true =
        read-compared all names sieve kept past identifier knows k is _ refl in
        let own : bit_at kept.compared k ≡ 1 = knows.compared k ∙ ap bit_of has in
        absurd (clear (bit_at_and numbers kept.compared k ∙ ap₂ min numbered own))

-- no name reads an identifier that has no number
pub pairs-unsieved : (all : List SignalDefined) (names : List (List ℕ)) (sieve : List ℕ)
    (kept : Pairs) (past : List Statement) (form : Form) (identifier letters : List ℕ)
    → is_defined past ≡ true → ((k : ℕ) → MayBe sieve identifier k → ⊥)
    → KnowsPairs all names sieve kept past
    → KnowsPairs all names sieve kept (change form identifier letters ∷ past)
pairs-unsieved all names sieve kept past form identifier letters ended none knows =
    pairs-changed all names sieve kept past form identifier letters kept.list kept.values ended
    (record { definitions = refl; reads = λ k other. refl })
    (λ k. paired-untold past form identifier letters _ _
    (unread k (reads_at (slice_get kept.list.items k) identifier) refl) (knows.each k)) knows
  where
    unread : (k : ℕ) (reads : Bool)
        → reads_at (slice_get kept.list.items k) identifier ≡ reads → reads ≡ false
    unread k false is = refl
    unread k true is = absurd (none k (knows.sifted ended k identifier is))

-- before the declarations end any sieve will do
pub pairs-before : (all : List SignalDefined) (names : List (List ℕ)) (sieve now : List ℕ)
    (kept : Pairs) (past : List Statement) → is_defined past ≡ false
    → KnowsPairs all names sieve kept past → KnowsPairs all names now kept past
pairs-before all names sieve now kept past before knows = record {
  few = knows.few;
  definitions = knows.definitions;
  each = knows.each;
  sifted = λ e. absurd (false≢true (sym before ∙ e));
  compared = knows.compared;
}

-- no name reads an identifier of whose numbers none is that of a comparison
pub pairs-passed : (all : List SignalDefined) (names : List (List ℕ)) (sieve : List ℕ)
    (kept : Pairs) (past : List Statement) (form : Form) (identifier letters : List ℕ)
    → is_defined past ≡ true
    → ((k : ℕ) → MayBe sieve identifier k → bit_at kept.compared k ≡ 1 → ⊥)
    → KnowsPairs all names sieve kept past
    → KnowsPairs all names sieve kept (change form identifier letters ∷ past)
pairs-passed all names sieve kept past form identifier letters ended apart knows =
    pairs-changed all names sieve kept past form identifier letters kept.list kept.values ended
    (record { definitions = refl; reads = λ k other. refl })
    (λ k. paired-untold past form identifier letters _ _
    (unread k (reads_at (slice_get kept.list.items k) identifier) refl) (knows.each k)) knows
  where
    unread : (k : ℕ) (reads : Bool)
        → reads_at (slice_get kept.list.items k) identifier ≡ reads → reads ≡ false
    unread k false is = refl
    unread k true is =
        let has : has_at (map (λ paired. only_compared paired.definition) kept.list.items) k ≡ true =
        read-compared all names sieve kept past identifier knows k is _ refl in
        absurd (apart k (knows.sifted ended k identifier is) (knows.compared k ∙ ap bit_of has))

pub paired-moved : (past : List Statement) (old new : Option Paired) (was now : ℕ)
    → (new ≡ old) × (now ≡ was) → KnowsPairAt past old was → KnowsPairAt past new now
paired-moved past old new was now same knows =
    subst (λ (o : Option Paired). KnowsPairAt past o now) (sym same.0)
    (subst (KnowsPairAt past old) (sym same.1) knows)

-- ---- places

pub each-cons : (past : List Statement) (first : Paired) (list : List Paired) (value : ℕ → ℕ)
    → KnowsPairAt past (Some first) (value 0)
    → ((k : ℕ) → KnowsPairAt past (slice_get list k) (value (suc k))) → (k : ℕ)
    → KnowsPairAt past (slice_get (first ∷ list) k) (value k)
each-cons past first list value own others zero = own
each-cons past first list value own others (suc k) = others k

pub paired-set : (list : List Paired) (k : ℕ) (new : Paired) → k < length list
    → slice_get (set list k new) k ≡ Some new
paired-set [] k new within = absurd (omega (arith, within))
paired-set (paired ∷ list) zero new within = refl
paired-set (paired ∷ list) (suc k) new within = paired-set list k new (omega (arith, within))

pub paired-set_other : (list : List Paired) (i k : ℕ) (new : Paired) → k ≢ i
    → slice_get (set list i new) k ≡ slice_get list k
paired-set_other [] i k new other = refl
paired-set_other (paired ∷ list) zero zero new other = absurd (other refl)
paired-set_other (paired ∷ list) zero (suc k) new other = refl
paired-set_other (paired ∷ list) (suc i) zero new other = refl
paired-set_other (paired ∷ list) (suc i) (suc k) new other =
    paired-set_other list i k new (λ same. other (ap suc same))

definitions-set : (list : List Paired) (i : ℕ) (new d : Paired) → i < length list
    → new.definition ≡ (get_or list i d).definition
    → map (λ paired. paired.definition) (set list i new)
    ≡ map (λ paired. paired.definition) list
definitions-set [] i new d within same = absurd (omega (arith, within))
definitions-set (paired ∷ list) zero new d within same =
    ap (λ x. x ∷ map (λ own. own.definition) list) same
definitions-set (paired ∷ list) (suc i) new d within same =
    ap (λ xs. paired.definition ∷ xs) (definitions-set list i new d (omega (arith, within)) same)

reads-set : (list : List Paired) (i : ℕ) (new d : Paired) → i < length list
    → ((identifier : List ℕ) → reads_pair new identifier ≡ reads_pair (get_or list i d) identifier)
    → (k : ℕ) (identifier : List ℕ)
    → reads_at (slice_get (set list i new) k) identifier ≡ reads_at (slice_get list k) identifier
reads-set [] i new d within same k identifier = absurd (omega (arith, within))
reads-set (paired ∷ list) zero new d within same zero identifier = same identifier
reads-set (paired ∷ list) zero new d within same (suc k) identifier = refl
reads-set (paired ∷ list) (suc i) new d within same zero identifier = refl
reads-set (paired ∷ list) (suc i) new d within same (suc k) identifier =
    reads-set list i new d (omega (arith, within)) same k identifier

pub same-set : (list : List Paired) (i : ℕ) (new d : Paired) → i < length list
    → new.definition ≡ (get_or list i d).definition → new.one.asked ≡ (get_or list i d).one.asked
    → new.other.asked ≡ (get_or list i d).other.asked → SamePaired list (set list i new)
same-set list i new d within same one other = record {
  definitions = definitions-set list i new d within same;
  reads = reads-set list i new d within (λ identifier. ap₂ (λ a b. a || b)
      (ap (λ o. reads_part (option_map asked_of_part o) identifier) one)
      (ap (λ o. reads_part (option_map asked_of_part o) identifier) other));
}

-- what stands at a place, whatever stands where there is none
pub defaults : (list : List Paired) (k : ℕ) (d e : Paired) → k < length list
    → get_or list k d ≡ get_or list k e
defaults [] k d e within = absurd (omega (arith, within))
defaults (paired ∷ list) zero d e within = refl
defaults (paired ∷ list) (suc k) d e within = defaults list k d e (omega (arith, within))

-- ---- the declarations end

pub pairs-sifted : (all : List SignalDefined) (names : List (List ℕ)) (sieve now : List ℕ)
    (kept : Pairs) (past : List Statement)
    → ((k : ℕ) (paired : Paired) → k < 64 → slice_get kept.list.items k ≡ Some paired
    → (identifier : List ℕ) → reads_pair paired identifier ≡ true → MayBe now identifier k)
    → KnowsPairs all names sieve kept past → KnowsPairs all names now kept (definitions ∷ past)
pairs-sifted all names sieve now kept past sifted knows = record {
  few = knows.few;
  definitions = knows.definitions;
  each = λ k. paired-alike past (definitions ∷ past) _ _ (read-defined past) (λ identifier. refl)
      (knows.each k);
  sifted = λ e k identifier reads. at (slice_get kept.list.items k) k refl identifier reads;
  compared = knows.compared;
}
  where
    read-defined : (past : List Statement) (text : Option (List ℕ))
        → side_read (definitions ∷ past) text ≡ side_read past text
    read-defined past None = refl
    read-defined past (Some text) = refl

    at : (paired : Option Paired) (k : ℕ) → slice_get kept.list.items k ≡ paired
        → (identifier : List ℕ) → reads_at paired identifier ≡ true → MayBe now identifier k
    at None k is identifier reads = absurd (false≢true reads)
    at (Some paired) k is identifier reads =
        sifted k paired
        (omega (arith, knows.few, slice_get_within kept.list.items k paired is)) is identifier reads

-- ---- one name more

pub none-quiet : IsQuiet []
none-quiet = record { values = λ identifier. refl; events = λ identifier. refl }

none-read : (text : Option (List ℕ)) → None ≡ side_read [] text
none-read None = refl
none-read (Some text) = refl

none-known : (text : Option (List ℕ)) (side : Side) → side_asked side ≡ None
    → letters_kept side.latest ≡ None → KnowsSide [] text side
none-known text side none silent = record {
  asked = none ∙ none-read text;
  letters = silent ∙ sym (ap (letters_of []) none);
}

at-push : (list : List Paired) (paired : Paired) (k value : ℕ) → KnowsPaired [] paired
    → KnowsPairAt [] (slice_get list k) value
    → KnowsPairAt [] (slice_get (list ++ paired ∷ []) k) value
at-push [] paired zero value own knows =
    (own, knows ∙ sym (ap bit_of (quiet-holds [] paired none-quiet own)))
at-push [] paired (suc k) value own knows = knows
at-push (one ∷ list) paired zero value own knows = knows
at-push (one ∷ list) paired (suc k) value own knows = at-push list paired k value own knows

pub only-some : (definition : Option SignalDefined)
    → is_some (only_compared definition) ≡ is_some (compared_by definition)
only-some None = refl
only-some (Some defined) = by (comparison_of defined.reads)
  where
    by : (comparison : Option Comparison)
        → is_some (if is_some comparison then Some defined else None) ≡ is_some comparison
    by None = refl
    by (Some comparison) = refl

pub pairs-pushed : (all : List SignalDefined) (names : List (List ℕ)) (sieve name : List ℕ)
    (kept : Pairs) (list : Vec Paired) (paired : Paired) (compared number : ℕ)
    → list.items ≡ kept.list.items ++ paired ∷ []
    → side_asked paired.one ≡ None → letters_kept paired.one.latest ≡ None
    → side_asked paired.other ≡ None → letters_kept paired.other.latest ≡ None
    → length kept.list.items ≡ length names → length kept.list.items < 64
    → number ≡ length kept.list.items → paired.definition ≡ signal_definition_of all name
    → bit_at compared number ≡ bit_of (is_some (only_compared paired.definition))
    → ((k : ℕ) → k ≢ number → bit_at compared k ≡ bit_at kept.compared k)
    → KnowsPairs all names sieve kept [] → KnowsPairs all (names ++ name ∷ []) sieve
    (record kept { list = list; compared = compared }) []
pairs-pushed all names sieve name kept list paired compared number is one_none one_silent
    other_none other_silent same few at own this others knows =
    let f = λ (one : Paired). one.definition in
    let g = λ (one : Paired). only_compared one.definition in
    let kept_is : map f list.items ≡ map f kept.list.items ++ paired.definition ∷ [] =
    ap (map f) is ∙ map-append f kept.list.items (paired ∷ []) in
    let only_is : map g list.items ≡ map g kept.list.items ++ only_compared paired.definition ∷ [] =
    ap (map g) is ∙ map-append g kept.list.items (paired ∷ []) in
    record {
      few = omega (arith, few, ap length is, length-append kept.list.items (paired ∷ []));
      definitions = subst (AreDefined all (names ++ name ∷ [])) (sym kept_is)
          (defined-push all names name (map f kept.list.items) paired.definition
          (length-map kept.list.items f ∙ same) own knows.definitions);
      each = λ k. subst (λ own_list. KnowsPairAt [] (slice_get own_list k) (bit_at kept.values k))
          (sym is)
          (at-push kept.list.items paired k (bit_at kept.values k) (record {
            one = none-known _ paired.one one_none one_silent;
            other = none-known _ paired.other other_none other_silent;
          }) (knows.each k));
      sifted = λ e. absurd (false≢true e);
      compared = λ k.
          bits-push (map g kept.list.items) (only_compared paired.definition) kept.compared compared
          number (at ∙ sym (length-map kept.list.items g)) this others knows.compared k
          ∙ ap (λ all_kept. bit_of (has_at all_kept k)) (sym only_is);
    }

-- ---- the values

known-none : (comparison : Comparison) (number : Option ℕ)
    → compares_known comparison number None ≡ false
known-none comparison None = refl
known-none comparison (Some number) = refl

-- both are compared where both are declared
pair-value : (past : List Statement) (comparison : Comparison) (one other : Option (Asked Part))
    → compares_known comparison (option_and_then (number_at past) one)
    (option_and_then (number_at past) other)
    ≡ option_map_or (pair_holds past) (pair_by (Beside comparison) one other) false
pair-value past comparison None other = refl
pair-value past comparison (Some one) None = known-none comparison (number_at past one)
pair-value past comparison (Some one) (Some other) = refl

number-said : (past : List Statement) (asked : Option (Asked Part))
    → number_of asked (letters_of past asked) ≡ option_and_then (number_at past) asked
number-said past None = refl
number-said past (Some own) = by (letters_at past own.identifier)
  where
    by : (letters : Option (List ℕ))
        → number_of (Some own) letters ≡ option_and_then (number_of_part own.asks) letters
    by None = refl
    by (Some letters) = refl

side-number : (past : List Statement) (text : Option (List ℕ)) (side : Side)
    → KnowsSide past text side → number_of (side_asked side) (letters_kept side.latest)
    ≡ option_and_then (number_at past) (side_read past text)
side-number past text side knows =
    ap (number_of (side_asked side)) knows.letters ∙ number-said past (side_asked side)
    ∙ ap (option_and_then (number_at past)) knows.asked

paired-value : (past : List Statement) (paired : Paired) (defined : SignalDefined) (reads : Reads)
    → paired.definition ≡ Some defined → defined.reads ≡ reads → KnowsPaired past paired
    → compares_by (comparison_of reads) (number_of (side_asked paired.one)
    (letters_kept paired.one.latest)) (number_of (side_asked paired.other)
    (letters_kept paired.other.latest))
    ≡ option_map_or (pair_holds past) (pair_by reads (first_read (part_in defined.signal) past)
    (first_read (part_in defined.other) past)) false
paired-value past paired defined Bit is reads knows = refl
paired-value past paired defined (Compared comparison number) is reads knows = refl
paired-value past paired defined Changes is reads knows = refl
paired-value past paired defined (Has letter) is reads knows = refl
paired-value past paired defined (Beside comparison) is reads knows =
    let one : one_text paired.definition ≡ Some defined.signal =
    ap one_text is ∙ ap (λ own. text_of (comparison_of own) defined.signal) reads in
    let other : other_text paired.definition ≡ Some defined.other =
    ap other_text is ∙ ap (λ own. text_of (comparison_of own) defined.other) reads in
    ap₂ (compares_known comparison)
    (side-number past _ paired.one knows.one
    ∙ ap (λ text. option_and_then (number_at past) (side_read past text)) one)
    (side-number past _ paired.other knows.other
    ∙ ap (λ text. option_and_then (number_at past) (side_read past text)) other)
    ∙ pair-value past comparison (first_read (part_in defined.signal) past)
    (first_read (part_in defined.other) past)

compared-one : (all : List SignalDefined) (past : List Statement) (name : List ℕ)
    (paired : Paired) (definition : Option SignalDefined) → paired.definition ≡ definition
    → definition ≡ signal_definition_of all name → KnowsPaired past paired
    → holds paired ≡ compared_at all past name
compared-one all past name paired None own is knows = search rules
compared-one all past name paired (Some defined) own is knows =
    ap (λ it. compares_by (compared_by it) (number_of (side_asked paired.one)
    (letters_kept paired.one.latest)) (number_of (side_asked paired.other)
    (letters_kept paired.other.latest))) own
    ∙ paired-value past paired defined defined.reads own refl knows
    ∙ ap (λ it. option_map_or (pair_holds past) (pair_read past it) false) is

none-compared : (all : List SignalDefined) (past : List Statement) (name : List ℕ)
    → signal_definition_of all name ≡ None → compared_at all past name ≡ false
none-compared all past name none =
    ap (λ it. option_map_or (pair_holds past) (pair_read past it) false) none

compared : (all : List SignalDefined) (past : List Statement) (names : List (List ℕ))
    (list : List Paired) (k value : ℕ)
    → AreDefined all names (map (λ paired. paired.definition) list)
    → KnowsPairAt past (slice_get list k) value
    → value ≡ bit_of (passes_at Some (compared_at all past) names k)
compared all past [] [] k value defined knows = knows
compared all past [] (paired ∷ list) k value defined knows = absurd (cc (defined))
compared all past (name ∷ names) [] zero value defined knows =
    knows ∙ sym (ap bit_of (none-compared all past name defined.0))
compared all past (name ∷ names) [] (suc k) value defined knows =
    compared all past names [] k value defined.1 knows
compared all past (name ∷ names) (paired ∷ list) zero value defined knows =
    knows.1 ∙ ap bit_of (compared-one all past name paired paired.definition refl defined.0 knows.0)
compared all past (name ∷ names) (paired ∷ list) (suc k) value defined knows =
    compared all past names list k value defined.1 knows

either-passes : (f g : List ℕ → Bool) (names : List (List ℕ)) (k : ℕ)
    → (passes_at Some f names k || passes_at Some g names k)
    ≡ passes_at Some (λ name. f name || g name) names k
either-passes f g [] k = refl
either-passes f g (name ∷ names) zero = refl
either-passes f g (name ∷ names) (suc k) = either-passes f g names k

either-bit : (one other : Bool) → max (bit_of one) (bit_of other) ≡ bit_of (one || other)
either-bit true true = refl
either-bit true false = refl
either-bit false true = refl
either-bit false false = refl

pub pairs-valued : (all : List SignalDefined) (past : List Statement) (names : List (List ℕ))
    (sieve : List ℕ) (kept : Pairs) (tested : ℕ) → KnowsPairs all names sieve kept past
    → tested ≡ bits_of (tested_at all past) names
    → bit_or tested kept.values ≡ bits_of (true_at all past) names
pairs-valued all past names sieve kept tested knows is =
    same_from_bits (bit_or tested kept.values) (mask_from Some (true_at all past) 0 names) (λ k.
    bit_at_or tested kept.values k
    ∙ ap₂ max (ap (λ n. bit_at n k) (is ∙ sym (mask-bits Some (tested_at all past) names))
    ∙ bit_in Some (tested_at all past) names k)
    (compared all past names kept.list.items k (bit_at kept.values k) knows.definitions
    (knows.each k))
    ∙ either-bit (passes_at Some (tested_at all past) names k) _
    ∙ ap bit_of (either-passes (tested_at all past) (compared_at all past) names k)
    ∙ sym (bit_in Some (true_at all past) names k))
    ∙ mask-bits Some (true_at all past) names
