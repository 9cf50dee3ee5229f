-- Which names that are needed are declared, some of them by definitions.
use Rattle.std.proofs.Common.{◌≡◌, ℕ, zero, suc, ◌+◌, ◌<◌, ◌≤◌, ◌&&◌, ◌||◌, not, Bool, true, false, List, [], ◌∷◌, ◌++◌, length, map, get_or, set, Option, None, Some, refl, sym, ap, ap₂, ◌∙◌, arith, if◌then◌else◌, rules}
use Rattle.std.proofs.Math.Path.{fun_ext}
use Rattle.std.specs.Prelude.{All}
use Rattle.std.specs.List.{list_all}
use Rattle.std.specs.Option.{is_some, option_and_then, option_map, option_or}
use Rattle.std.proofs.lemmas.List.Elements.{All-head, All-tail}
use Rattle.tre_define.specs.Signals.{SignalDefined, part_of_text, signal_definition_of, changes_in, test_in, test_of}
use Rattle.tre_define.specs.declared.comparison.Comparison.{Comparison}
use Rattle.tre_define.specs.declared.part.Part.{Part}
use Rattle.tre_define.specs.declared.reads.Reads.{Reads}
use Rattle.tre_define.specs.declared.reads.Reads.TheVariants.{Beside, Bit, Changes, Compared, Has}
use Rattle.tre_vcd.specs.VcdReading.{Statement, scope, upscope, var, timescale, definitions, time, change, dump, dump_end, scopes_at, is_signal, is_event, Offer, offer_in, Asked, asked_in, is_proposition, pair_by, pair_read, part_in, occasion_in, signal_in, event_read_by, first_read, of_changes, event_asked}
use Rattle.tre_vcd.specs.Kept.{identifier_of, flags_of}
use Rattle.tre_vcd.specs.Offers.{has_first, has_other, is_compared, reads_first, reads_other}
use Rattle.tre_vcd.specs.Pairs.{comparison_of}
use Rattle.tre_vcd.specs.Signals.{test_read, part_read}
use Rattle.tre_vcd.specs.Sorted.{AreSorted, is_undefined, wanted}
use Rattle.tre_vcd.proofs.Flagging.{all-flags}
use Rattle.tre_vcd.proofs.Testing.{plain-read, test-next}
use Rattle.tre_vcd.proofs.Watching.{plain-event}

-- ---- flags of definitions, the first of which were looked at

abbrev pub flagged : ℕ → (SignalDefined → Bool) → (SignalDefined → Bool) → List SignalDefined
    → List Bool
flagged i old new [] = []
flagged zero old new (one ∷ all) = old one ∷ flagged zero old new all
flagged (suc i) old new (one ∷ all) = new one ∷ flagged i old new all

pub flagged-none : (old new : SignalDefined → Bool) (all : List SignalDefined)
    → flagged 0 old new all ≡ map old all
flagged-none old new [] = refl
flagged-none old new (one ∷ all) = ap (λ flags. old one ∷ flags) (flagged-none old new all)

pub flagged-all : (i : ℕ) (old new : SignalDefined → Bool) (all : List SignalDefined)
    → length all ≤ i → flagged i old new all ≡ map new all
flagged-all i old new [] past = refl
flagged-all zero old new (one ∷ all) past = absurd (omega (arith, past))
flagged-all (suc i) old new (one ∷ all) past =
    ap (λ flags. new one ∷ flags) (flagged-all i old new all (omega (arith, past)))

pub flagged-set : (i : ℕ) (old new : SignalDefined → Bool) (all : List SignalDefined)
    (d : SignalDefined) → i < length all → new (get_or all i d) ≡ true
    → set (flagged i old new all) i true ≡ flagged (suc i) old new all
flagged-set i old new [] d below is = absurd (omega (arith, below))
flagged-set zero old new (one ∷ all) d below is = search rules
flagged-set (suc i) old new (one ∷ all) d below is =
    ap (λ flags. new one ∷ flags) (flagged-set i old new all d (omega (arith, below)) is)

pub flagged-kept : (i : ℕ) (old new : SignalDefined → Bool) (all : List SignalDefined)
    (d : SignalDefined) → i < length all → new (get_or all i d) ≡ old (get_or all i d)
    → flagged i old new all ≡ flagged (suc i) old new all
flagged-kept i old new [] d below is = absurd (omega (arith, below))
flagged-kept zero old new (one ∷ all) d below is = search rules
flagged-kept (suc i) old new (one ∷ all) d below is =
    ap (λ flags. new one ∷ flags) (flagged-kept i old new all d (omega (arith, below)) is)

or-true : (b : Bool) → (b || true) ≡ true
or-true true = refl
or-true false = refl

or-false : (b : Bool) → (b || false) ≡ b
or-false true = refl
or-false false = refl

-- one place more
raised-next : (i : ℕ) (old new : SignalDefined → Bool) (all : List SignalDefined)
    (d : SignalDefined) (raised : Bool) → i < length all
    → new (get_or all i d) ≡ (old (get_or all i d) || raised)
    → (if raised then set (flagged i old new all) i true else flagged i old new all)
    ≡ flagged (suc i) old new all
raised-next i old new all d true below is =
    flagged-set i old new all d below (is ∙ or-true (old (get_or all i d)))
raised-next i old new all d false below is =
    flagged-kept i old new all d below (is ∙ or-false (old (get_or all i d)))

pub flagged-raised : (i : ℕ) (old new : SignalDefined → Bool) (all : List SignalDefined)
    (d : SignalDefined) (raised : Bool) (flags : List Bool) → i < length all
    → flags ≡ flagged i old new all
    → new (get_or all i d) ≡ (old (get_or all i d) || raised)
    → (if raised then set flags i true else flags) ≡ flagged (i + 1) old new all
flagged-raised i old new all d raised flags below is one = search (rules, raised-next)

pub flagged-long : (i : ℕ) (old new : SignalDefined → Bool) (all : List SignalDefined)
    → length (flagged i old new all) ≡ length all
flagged-long i old new [] = refl
flagged-long zero old new (one ∷ all) = ap suc (flagged-long zero old new all)
flagged-long (suc i) old new (one ∷ all) = ap suc (flagged-long i old new all)

-- those too of which one test more holds
module _ (i : ℕ) (old hits : SignalDefined → Bool) (all : List SignalDefined) (flags : List Bool)
    (before : flags ≡ flagged i old (λ one. old one || hits one) all) where
  pub flagged-or : (own : SignalDefined) (raised : Bool) → own ≡ get_or all i own
      → raised ≡ hits own → i < length all
      → (if raised then set flags i true else flags)
      ≡ flagged (i + 1) old (λ one. old one || hits one) all
  flagged-or own raised is found below = search (rules, flagged-raised)

  pub flagged-end : (length flags ≡ length all → length all ≤ i)
      → flags ≡ map (λ one. old one || hits one) all
  flagged-end past = search (rules, flagged-long, flagged-all)

-- ---- one declaration later

or-some : {X : Type 0} (one other : Option X) → (is_some one || is_some other)
    ≡ is_some (option_or one other)
or-some None other = refl
or-some (Some own) other = refl

map-some : {X Y : Type 0} (f : X → Y) (o : Option X) → is_some o ≡ is_some (option_map f o)
map-some f None = refl
map-some f (Some x) = refl

asked-some : {X : Type 0} (asks : List ℕ → ℕ → Option X) (offer : Offer)
    → is_some (asks offer.full_name offer.size) ≡ is_some (asked_in asks offer)
asked-some asks offer = map-some _ (asks offer.full_name offer.size)

-- what a text names of what is offered
text-next : (past : List Statement) (tokens : List (List ℕ)) (offer : Offer) (text : List ℕ)
    → offer_in (scopes_at past) tokens ≡ Some offer
    → (is_some (first_read (part_in text) past)
    || is_some (part_of_text text offer.full_name offer.size))
    ≡ is_some (first_read (part_in text) (var tokens ∷ past))
text-next past tokens offer text offered =
    ap (λ b. is_some (first_read (part_in text) past) || b) (asked-some (part_of_text text) offer)
    ∙ or-some (first_read (part_in text) past) (asked_in (part_of_text text) offer)
    ∙ ap (λ found. is_some (option_or (first_read (part_in text) past)
    (option_and_then (asked_in (part_of_text text)) found))) (sym offered)

either-if : (test a b c d : Bool)
    → ((if test then a else b) || (if test then c else d))
    ≡ (if test then a || c else (b || d))
either-if true a b c d = refl
either-if false a b c d = refl

pub tests-flagged : (past : List Statement) (tokens : List (List ℕ)) (offer : Offer)
    (own : List SignalDefined) (flags : List Bool) → offer_in (scopes_at past) tokens ≡ Some offer
    → flags ≡ map (λ one. has_first past one || reads_first one offer.full_name offer.size) own
    → flags ≡ map (has_first (var tokens ∷ past)) own
tests-flagged past tokens offer own flags offered is =
    is ∙ ap (λ (f : SignalDefined → Bool). map f own) (fun_ext (λ one.
    either-if (is_compared one) _ _ _ _
    ∙ ap₂ (λ a b. if is_compared one then a else b) (text-next past tokens offer one.signal offered)
    (ap (λ b. is_some (test_read past (Some one)) || b) (asked-some (test_in one) offer)
    ∙ or-some (test_read past (Some one)) (asked_in (test_in one) offer)
    ∙ ap is_some (sym (test-next past tokens one offer offered)))))

either-guarded : (test a b : Bool)
    → ((not test || (test && a)) || (test && b)) ≡ (not test || (test && (a || b)))
either-guarded true a b = refl
either-guarded false a b = refl

pub others-flagged : (past : List Statement) (tokens : List (List ℕ)) (offer : Offer)
    (own : List SignalDefined) (flags : List Bool) → offer_in (scopes_at past) tokens ≡ Some offer
    → flags ≡ map (λ one. has_other past one || reads_other one offer.full_name offer.size) own
    → flags ≡ map (has_other (var tokens ∷ past)) own
others-flagged past tokens offer own flags offered is =
    is ∙ ap (λ (f : SignalDefined → Bool). map f own) (fun_ext (λ one.
    either-guarded (is_compared one) _ _
    ∙ ap (λ b. not (is_compared one) || (is_compared one && b))
    (text-next past tokens offer one.other offered)))

pub parts-flagged : (past : List Statement) (tokens : List (List ℕ)) (offer : Offer)
    (own : List SignalDefined) (flags : List Bool) → offer_in (scopes_at past) tokens ≡ Some offer
    → flags ≡ map (λ one. is_some (part_read past (Some one))
    || is_some (changes_in one offer.full_name offer.size)) own
    → flags ≡ map (λ one. is_some (part_read (var tokens ∷ past) (Some one))) own
parts-flagged past tokens offer own flags offered is =
    search (rules, fun_ext, part_read, map-some, changes_in, asked-some, occasion_in)

-- ---- all names

and-assoc : (a b c : Bool) → (a && (b && c)) ≡ ((a && b) && c)
and-assoc true b c = refl
and-assoc false b c = refl

all-append : {X : Type 0} (test : X → Bool) (xs ys : List X)
    → list_all test (xs ++ ys) ≡ (list_all test xs && list_all test ys)
all-append test [] ys = refl
all-append test (x ∷ xs) ys =
    ap (λ b. test x && b) (all-append test xs ys)
    ∙ and-assoc (test x) (list_all test xs) (list_all test ys)

all-alike : {X : Type 0} (test other : X → Bool) (xs : List X)
    → All (λ x. test x ≡ other x) xs → list_all test xs ≡ list_all other xs
all-alike test other [] same = refl
all-alike test other (x ∷ xs) same =
    ap₂ (λ a b. a && b) (All-head (λ y. test y ≡ other y) x xs same)
    (all-alike test other xs (All-tail (λ y. test y ≡ other y) x xs same))

all-map : {X Y : Type 0} (test : Y → Bool) (f : X → Y) (xs : List X)
    → list_all test (map f xs) ≡ list_all (λ x. test (f x)) xs
all-map test f [] = refl
all-map test f (x ∷ xs) = ap (λ b. test (f x) && b) (all-map test f xs)

signal-plain : (all : List SignalDefined) (past : List Statement) (name : List ℕ)
    → signal_definition_of all name ≡ None
    → is_some (identifier_of is_signal past name) ≡ is_proposition all past name
signal-plain all past name none =
    sym (or-false (is_some (identifier_of is_signal past name)))
    ∙ ap₂ (λ a b. a || b) (map-some _ (identifier_of is_signal past name)
    ∙ ap is_some (sym (plain-read past name))
    ∙ ap (λ it. is_some (first_read (signal_in it name) past)) (sym none))
    (ap (λ it. is_some (pair_read past it)) (sym none))

event-plain : (all : List SignalDefined) (past : List Statement) (name : List ℕ)
    → signal_definition_of (of_changes all) name ≡ None
    → is_some (identifier_of is_event past name) ≡ is_some (event_asked all past name)
event-plain all past name none =
    search (rules, map-some, identifier_of, is_event, plain-event, first_read, event_read_by)

event-own : (all : List SignalDefined) (past : List Statement) (one : SignalDefined)
    → signal_definition_of (of_changes all) one.name ≡ Some one
    → is_some (part_read past (Some one)) ≡ is_some (event_asked all past one.name)
event-own all past one some = search rules

both-true : (a b : Bool) → (a && b) ≡ true → (a ≡ true) × (b ≡ true)
both-true true true is = (refl, refl)
both-true true false is = absurd (cc (is))
both-true false b is = absurd (cc (is))

all-guarded : (test other guard : List ℕ → Bool) (xs : List (List ℕ))
    → list_all guard xs ≡ true → ((x : List ℕ) → guard x ≡ true → test x ≡ other x)
    → list_all test xs ≡ list_all other xs
all-guarded test other guard [] all same = refl
all-guarded test other guard (x ∷ xs) all same =
    let both = both-true (guard x) (list_all guard xs) all in
    ap₂ (λ a b. a && b) (same x both.0) (all-guarded test other guard xs both.1 same)

none-of : (definition : Option SignalDefined) → not (is_some definition) ≡ true
    → definition ≡ None
none-of None is = refl
none-of (Some one) is = absurd (cc (is))

-- of names without a definition, and of the definitions of others
both-declared : (plain : List ℕ → Bool) (own : SignalDefined → Bool) (whole : List ℕ → Bool)
    (names : List (List ℕ)) (defined : List SignalDefined)
    → list_all plain names ≡ list_all whole names
    → All (λ one. own one ≡ whole one.name) defined
    → (list_all plain names && list_all own defined) ≡ list_all whole (wanted names defined)
both-declared plain own whole names defined one other =
    search (rules, all-alike, all-map, all-append)

all-flagged : (own : SignalDefined → Bool) (defined : List SignalDefined) (flags : List Bool)
    → flags ≡ map own defined → list_all (λ flag. flag) flags ≡ list_all own defined
all-flagged own defined flags is =
    ap (list_all (λ flag. flag)) is ∙ all-map (λ flag. flag) own defined

-- what is read of no declaration
first-none : {X : Type 0} (reads : List (List ℕ) → List (List ℕ) → Option X)
    → ((scopes tokens : List (List ℕ)) → reads scopes tokens ≡ None) → (past : List Statement)
    → first_read reads past ≡ None
first-none reads none [] = refl
first-none reads none (scope name ∷ past) = first-none reads none past
first-none reads none (upscope ∷ past) = first-none reads none past
first-none reads none (var tokens ∷ past) =
    ap₂ option_or (first-none reads none past) (none (scopes_at past) tokens)
first-none reads none (timescale tokens ∷ past) = first-none reads none past
first-none reads none (definitions ∷ past) = first-none reads none past
first-none reads none (time ticks ∷ past) = first-none reads none past
first-none reads none (change form identifier letters ∷ past) = first-none reads none past
first-none reads none (dump ∷ past) = first-none reads none past
first-none reads none (dump_end ∷ past) = first-none reads none past

-- a definition that compares two signals asks no test
beside-none : (one : SignalDefined) (comparison : Comparison) → one.reads ≡ Beside comparison
    → (offer : Option Offer) → option_and_then (asked_in (test_in one)) offer ≡ None
beside-none one comparison is None = refl
beside-none one comparison is (Some offer) =
    ap (option_map (λ asks. record { identifier = offer.identifier; asks = asks }))
    (ap (λ reads. option_and_then (test_of reads) (part_of_text one.signal offer.full_name offer.size)) is
    ∙ nothing (part_of_text one.signal offer.full_name offer.size))
  where
    nothing : (part : Option Part) → option_and_then (test_of (Beside comparison)) part ≡ None
    nothing None = refl
    nothing (Some part) = refl

both-some : (comparison : Comparison) (one other : Option (Asked Part))
    → (is_some one && (false || is_some other))
    ≡ is_some (pair_by (Beside comparison) one other)
both-some comparison None other = refl
both-some comparison (Some one) None = refl
both-some comparison (Some one) (Some other) = refl

and-true : (b : Bool) → (b && true) ≡ (b || false)
and-true true = refl
and-true false = refl

-- what is declared of a definition
own-declared : (past : List Statement) (one : SignalDefined) (reads : Reads) → one.reads ≡ reads
    → ((if is_some (comparison_of reads) then is_some (first_read (part_in one.signal) past)
    else is_some (test_read past (Some one)))
    && (not (is_some (comparison_of reads)) || (is_some (comparison_of reads)
    && is_some (first_read (part_in one.other) past))))
    ≡ (is_some (test_read past (Some one)) || is_some (pair_by reads
    (first_read (part_in one.signal) past) (first_read (part_in one.other) past)))
own-declared past one Bit is = and-true _
own-declared past one (Compared comparison number) is = and-true _
own-declared past one Changes is = and-true _
own-declared past one (Has letter) is = and-true _
own-declared past one (Beside comparison) is =
    both-some comparison (first_read (part_in one.signal) past)
    (first_read (part_in one.other) past)
    ∙ sym (ap (λ test. is_some test || is_some (pair_by (Beside comparison)
    (first_read (part_in one.signal) past) (first_read (part_in one.other) past)))
    (first-none (signal_in (Some one) [])
    (λ scopes tokens. beside-none one comparison is (offer_in scopes tokens)) past))

signal-own : (all : List SignalDefined) (past : List Statement) (one : SignalDefined)
    → signal_definition_of all one.name ≡ Some one
    → (has_first past one && has_other past one) ≡ is_proposition all past one.name
signal-own all past one some =
    own-declared past one one.reads refl
    ∙ sym (ap (λ it. is_some (first_read (signal_in it one.name) past) || is_some (pair_read past it))
    some)

both-all : {X : Type 0} (f g : X → Bool) (xs : List X)
    → (list_all f xs && list_all g xs) ≡ list_all (λ x. f x && g x) xs
both-all f g [] = refl
both-all f g (x ∷ xs) =
    shuffle (f x) (g x) (list_all f xs) (list_all g xs) ∙ ap (λ b. (f x && g x) && b) (both-all f g xs)
  where
    shuffle : (a b c d : Bool) → ((a && c) && (b && d)) ≡ ((a && b) && (c && d))
    shuffle true true c d = refl
    shuffle true false true d = refl
    shuffle true false false d = refl
    shuffle false b c d = refl

pub signals-declared : (all : List SignalDefined) (past : List Statement)
    (names : List (List ℕ)) (defined : List SignalDefined) (flags tests others : List Bool)
    → AreSorted all names defined → flags ≡ flags_of is_signal past names
    → tests ≡ map (has_first past) defined → others ≡ map (has_other past) defined
    → ((list_all (λ flag. flag) flags && list_all (λ flag. flag) tests)
    && list_all (λ flag. flag) others)
    ≡ list_all (is_proposition all past) (wanted names defined)
signals-declared all past names defined flags tests others sorted is own other =
    sym (and-assoc (list_all (λ flag. flag) flags) _ _)
    ∙ ap₂ (λ a b. a && b) (all-flags is_signal past names flags is)
    (ap₂ (λ a b. a && b) (all-flagged (has_first past) defined tests own)
    (all-flagged (has_other past) defined others other)
    ∙ both-all (has_first past) (has_other past) defined)
    ∙ both-declared (λ name. is_some (identifier_of is_signal past name))
    (λ one. has_first past one && has_other past one)
    (is_proposition all past) names defined
    (all-guarded _ _ (is_undefined all) names sorted.plain
    (λ name none. signal-plain all past name (none-of (signal_definition_of all name) none)))
    (λ k d below. signal-own all past (get_or defined k d) (sorted.defined k d below))

pub events-declared : (all : List SignalDefined) (past : List Statement)
    (names : List (List ℕ)) (defined : List SignalDefined) (flags tests : List Bool)
    → AreSorted (of_changes all) names defined → flags ≡ flags_of is_event past names
    → tests ≡ map (λ one. is_some (part_read past (Some one))) defined
    → (list_all (λ flag. flag) flags && list_all (λ flag. flag) tests)
    ≡ list_all (λ name. is_some (event_asked all past name)) (wanted names defined)
events-declared all past names defined flags tests sorted is own =
    ap₂ (λ a b. a && b) (all-flags is_event past names flags is)
    (all-flagged (λ one. is_some (part_read past (Some one))) defined tests own)
    ∙ both-declared (λ name. is_some (identifier_of is_event past name))
    (λ one. is_some (part_read past (Some one)))
    (λ name. is_some (event_asked all past name)) names defined
    (all-guarded _ _ (is_undefined (of_changes all)) names sorted.plain
    (λ name none. event-plain all past name
    (none-of (signal_definition_of (of_changes all) name) none)))
    (λ k d below. event-own all past (get_or defined k d) (sorted.defined k d below))
