-- What a dump must declare, by the names of all patterns.
use Rattle.std.proofs.Common.{◌≡◌, ◌∙◌, ◌&&◌, ℕ, ◌+◌, ◌<◌, ◌≤◌, Bool, true, false, List, [], ◌∷◌, ◌++◌, length, Option, get_or, map, take, refl, sym, ap, ap₂, subst, rules}
use Rattle.std.specs.List.{list_all}
use Rattle.std.proofs.lemmas.List.{map_more, take_all}
use Rattle.tre_define.specs.Signals.{SignalDefined}
use Rattle.tre_trace.specs.Reading.{Vocabulary}
use Rattle.tre_feed.specs.Dump.{NeedsAll}
use Rattle.tre_vcd.specs.Sorted.{JoinsNames}
use Rattle.tre_feed.specs.Dump.{dump_terms}
use Rattle.tre_vcd.proofs.Listing.{listed-alike}
use Rattle.tre_unit.specs.declared.unit.TimeUnit.{TimeUnit}
use Rattle.tre_vcd.specs.VcdReading.{Statement, vcd_recording, are_declared}

crossed : (a b c d : Bool) → ((a && b) && (c && d)) ≡ ((a && c) && (b && d))
crossed true true c d = refl
crossed true false true d = refl
crossed true false false d = refl
crossed false b c d = refl

-- with these names too
joined : (definitions : List SignalDefined) (past : List Statement) (old added new : Vocabulary)
    → JoinsNames old.names added.names new.names → JoinsNames old.events added.events new.events
    → are_declared definitions past new
    ≡ (are_declared definitions past old && are_declared definitions past added)
joined definitions past old added new names events = search rules

and-true : (b : Bool) → (b && true) ≡ b
and-true true = refl
and-true false = refl

and-assoc : (a b c : Bool) → (a && (b && c)) ≡ ((a && b) && c)
and-assoc true b c = refl
and-assoc false b c = refl

all-push : {X : Type 0} (test : X → Bool) (xs : List X) (x : X)
    → list_all test (xs ++ x ∷ []) ≡ (list_all test xs && test x)
all-push test [] x = and-true (test x)
all-push test (first ∷ xs) x =
    ap (λ b. test first && b) (all-push test xs x) ∙ and-assoc (test first) (list_all test xs) (test x)

pub needs-none : (set : Vocabulary) → set ≡ record { names = []; events = [] } → NeedsAll set []
needs-none set is = search rules

pub needs-more : {X : Type 0} (f : X → Vocabulary) (xs : List X) (i : ℕ) (x : X)
    (old added new : Vocabulary) → i < length xs → x ≡ get_or xs i x → added ≡ f x
    → JoinsNames old.names added.names new.names → JoinsNames old.events added.events new.events
    → NeedsAll old (map f (take i xs)) → NeedsAll new (map f (take (i + 1) xs))
needs-more f xs i x old added new below here is names events needs = record {
  declared = λ definitions past.
      joined definitions past old added new names events
      ∙ ap₂ (λ (a b : Bool). a && b) (needs.declared definitions past)
      (ap (are_declared definitions past) (is ∙ ap f here))
      ∙ sym (all-push (are_declared definitions past) (map f (take i xs)) (f (get_or xs i x)))
      ∙ ap (list_all (are_declared definitions past)) (sym (map_more f xs i x below));
}

pub needs-all : {X : Type 0} (f : X → Vocabulary) (xs : List X) (i : ℕ) (set : Vocabulary)
    → length xs ≤ i → NeedsAll set (map f (take i xs)) → NeedsAll set (map f xs)
needs-all f xs i set past needs =
    subst (λ all. NeedsAll set (map f all)) (take_all i xs past) needs

-- so a dump that must declare the set says what one does that must declare all lists
pub needs-alike : (set : Vocabulary) (all : List Vocabulary) (scale : ℕ)
    (unit : Option TimeUnit) (definitions : List SignalDefined) → NeedsAll set all
    → vcd_recording (dump_terms (set ∷ []) scale unit definitions)
    ≡ vcd_recording (dump_terms all scale unit definitions)
needs-alike set all scale unit definitions needs =
    listed-alike (set ∷ []) all scale unit definitions
    (λ past. and-true (are_declared definitions past set) ∙ needs.declared definitions past)
