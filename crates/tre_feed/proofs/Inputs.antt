-- How an input stands after a call.
use Rattle.std.proofs.Common.{◌≡◌, ◌∙◌, ℕ, ◌<◌, Bool, List, [], ◌∷◌, length, Result, Ok, Err, OnOk, IfOk, sym, arith, rules}
use Rattle.tre_trace.specs.Reading.{Recording, Stretch, Vocabulary}
use Rattle.tre_feed.specs.Each.{RowsAre, all_asked, groups_in}
use Rattle.tre_feed.specs.Packing.{KeepsViews}
use Rattle.tre_feed.specs.Standing.{IsAsked}
use Rattle.tre_feed.specs.declared.input.Input.{Input}
use Rattle.tre_feed.specs.declared.each.Fed.{Fed}
use Rattle.tre_feed.proofs.Standing.{first_length, groups_same, recording_same}

-- an input whose readers and views are asked what they were
pub IsAsked-same : {R Terms : Type 0} (names : R → Vocabulary) (terms : R → Terms)
    (recording : Terms → Bool → List ℕ → Recording) (old new : Input R)
    → all_asked names terms new.each.items ≡ all_asked names terms old.each.items
    → new.views.items ≡ old.views.items → new.limit ≡ old.limit
    → IsAsked names terms recording old new
IsAsked-same names terms recording old new same views limit =
    search (rules, groups_in, groups_same, recording_same, new.each.items, old.each.items)

-- and by the same views
pub KeepsViews-same : {R Terms : Type 0} (names : R → Vocabulary) (terms : R → Terms)
    (old new : Input R)
    → all_asked names terms new.each.items ≡ all_asked names terms old.each.items
    → new.views.items ≡ old.views.items → KeepsViews names old new
KeepsViews-same names terms old new same views = record {
  groups = groups_same names terms new.each.items old.each.items same;
  views = views;
}

-- as many stretches wait, whatever they are
pub same_count : {R : Type 0} (names : R → Vocabulary) (each : List (Fed R))
    (one other : List Stretch) → 0 < length each → RowsAre names each one
    → RowsAre names each other → length one ≡ length other
same_count names [] one other some rows others = absurd (omega (arith, some))
same_count names (fed ∷ each) one other some rows others =
    sym (first_length names fed each one rows) ∙ first_length names fed each other others

pub on_ok_then : {T E : Type 0} (result : Result T E) (P Q : Type 0) → (P → Q) → OnOk result P
    → OnOk result Q
on_ok_then (Ok value) P Q then is = then is
on_ok_then (Err fault) P Q then is = tt

pub if_ok_then : {T E : Type 0} (result : Result T E) (P Q : T → Type 0)
    → ((value : T) → P value → Q value) → IfOk result P → IfOk result Q
if_ok_then (Ok value) P Q then is = then value is
if_ok_then (Err fault) P Q then is = tt
