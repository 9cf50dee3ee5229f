-- Views of groups stay right when groups grow.
use Rattle.std.proofs.Common.{◌≡◌, ◌≢◌, ℕ, ◌+◌, ◌<◌, ◌≤◌, List, [], ◌∷◌, ◌++◌, length, get_or, set, Some, Result, Ok, Err, OnOk, ap, ◌∙◌, arith, length-append, rules}
use Rattle.std.specs.Prelude.{slice_get}
use Rattle.std.proofs.lemmas.List.{length-set, get_or-set_same, get_or-set_other}
use Rattle.std.proofs.lemmas.Bool.{cases_eq}
use Rattle.std.proofs.lemmas.Option.{slice_get-get_or, slice_get_within, get_or_from_slice_get}
use Rattle.std.specs.List.{AllZip}
use Rattle.tre_trace.specs.Reading.{Vocabulary}
use Rattle.tre_feed.specs.Growth.{IsWider, HasWider, Keep}
use Rattle.tre_feed.specs.Places.{places_of, ArePlaces}
use Rattle.tre_feed.specs.Shares.{Shows, IsViewOf}
use Rattle.tre_feed.specs.declared.view.View.{View}
use Rattle.tre_feed.proofs.Among.{get_or-front, get_or-last, places-kept, Extends-trans}

-- a view by the places of its names
pub shows : (asked all : Vocabulary) (view : View)
    → ArePlaces asked.names all.names (places_of view.names)
    → ArePlaces asked.events all.events (places_of view.events) → Shows asked all view
shows asked all view names events = search rules

pub shows-kept : (asked old new : Vocabulary) (view : View) → IsWider old new
    → Shows asked old view → Shows asked new view
shows-kept asked old new view wider is =
    shows asked new view
    (places-kept old.names new.names asked.names (places_of view.names) wider.names is.names)
    (places-kept old.events new.events asked.events (places_of view.events) wider.events is.events)

view-kept : (old new : List Vocabulary) (asked : Vocabulary) (view : View) → Keep old new
    → IsViewOf old asked view → IsViewOf new asked view
view-kept old new asked view keep is =
    let has = keep.each view.group is.all is.group in
    record {
      all = has.new;
      group = has.is;
      shows = shows-kept asked is.all has.new view has.wider is.shows;
    }

pub views-kept : (old new asked : List Vocabulary) (views : List View) → Keep old new
    → AllZip (IsViewOf old) asked views → AllZip (IsViewOf new) asked views
views-kept old new [] [] keep are = are
views-kept old new [] (view ∷ views) keep are = absurd are
views-kept old new (names ∷ asked) [] keep are = absurd are
views-kept old new (names ∷ asked) (view ∷ views) keep are =
    (view-kept old new names view keep are.0, views-kept old new asked views keep are.1)

pub views-push : (groups asked : List Vocabulary) (views : List View) (names : Vocabulary)
    (view : View) → AllZip (IsViewOf groups) asked views → IsViewOf groups names view
    → AllZip (IsViewOf groups) (asked ++ names ∷ []) (views ++ view ∷ [])
views-push groups [] [] names view are is = (is, tt)
views-push groups [] (other ∷ views) names view are is = absurd are
views-push groups (first ∷ asked) [] names view are is = absurd are
views-push groups (first ∷ asked) (other ∷ views) names view are is =
    (are.0, views-push groups asked views names view are.1 is)

-- ---- groups that keep their names

pub IsWider-none : (names : Vocabulary) → IsWider names names
IsWider-none names = search rules

IsWider-trans : (old mid new : Vocabulary) → IsWider old mid → IsWider mid new → IsWider old new
IsWider-trans old mid new one two = record {
  names = Extends-trans old.names mid.names new.names one.names two.names;
  events = Extends-trans old.events mid.events new.events one.events two.events;
}

-- a group that is still there
there : (groups : List Vocabulary) (number : ℕ) (group : Vocabulary)
    → slice_get groups number ≡ Some group → HasWider groups number group
there groups number group is = record { new = group; is = is; wider = IsWider-none group }

pub Keep-trans : (old mid new : List Vocabulary) → Keep old mid → Keep mid new → Keep old new
Keep-trans old mid new one two = record {
  each = λ number group is.
      let first = one.each number group is in
      let second = two.each number first.new first.is in
      record {
        new = second.new;
        is = second.is;
        wider = IsWider-trans group first.new second.new first.wider second.wider;
      };
}

-- elements behind change none of those before
get-front : {X : Type 0} (xs ys : List X) (i : ℕ) (x : X) → slice_get xs i ≡ Some x
    → slice_get (xs ++ ys) i ≡ Some x
get-front xs ys i x is =
    let within = slice_get_within xs i x is in
    slice_get-get_or (xs ++ ys) i x (omega (arith, within, length-append xs ys))
    ∙ ap Some (get_or-front xs ys i x within ∙ get_or_from_slice_get xs i x x is)

get-last : {X : Type 0} (xs : List X) (x : X) → slice_get (xs ++ x ∷ []) (length xs) ≡ Some x
get-last xs x =
    slice_get-get_or (xs ++ x ∷ []) (length xs) x (omega (arith, length-append xs (x ∷ [])))
    ∙ ap Some (get_or-last xs x)

pub Keep-push : (groups : List Vocabulary) (group : Vocabulary) → Keep groups (groups ++ group ∷ [])
Keep-push groups group = search (rules, there, get-front)

-- where a call succeeded, a group has begun behind those that are there
pub Keep-begun : {T E : Type 0} (result : Result T E) (old mid items new : List Vocabulary)
    (group : Vocabulary) → Keep old mid → items ≡ mid → OnOk result (new ≡ items ++ group ∷ [])
    → OnOk result (Keep old new)
Keep-begun (Ok value) old mid items new group keep same is =
    rw (is, same) (Keep-trans old mid (mid ++ group ∷ []) keep (Keep-push mid group))
Keep-begun (Err fault) old mid items new group keep same is = tt

pub few-begun : {T E : Type 0} (result : Result T E) (items new : List Vocabulary)
    (group : Vocabulary) (count : ℕ) → length items ≡ count
    → OnOk result (new ≡ items ++ group ∷ []) → OnOk result (length new ≤ count + 1)
few-begun (Ok value) items new group count same is =
    omega (arith, ap length is, length-append items (group ∷ []), same)
few-begun (Err fault) items new group count same is = tt

pub on_ok_so : {T E : Type 0} (result : Result T E) {P : Type 0} → P → OnOk result P
on_ok_so (Ok value) so = so
on_ok_so (Err fault) so = tt

-- the group of one number takes names in
set-here : (groups : List Vocabulary) (number : ℕ) (new : Vocabulary) → number < length groups
    → slice_get (set groups number new) number ≡ Some new
set-here groups number new within =
    slice_get-get_or (set groups number new) number new
    (omega (arith, within, length-set groups number new))
    ∙ ap Some (get_or-set_same groups number new new within)

set-other : (groups : List Vocabulary) (number i : ℕ) (new group : Vocabulary) → i ≢ number
    → slice_get groups i ≡ Some group → slice_get (set groups number new) i ≡ Some group
set-other groups number i new group other is =
    let within = slice_get_within groups i group is in
    slice_get-get_or (set groups number new) i group
    (omega (arith, within, length-set groups number new))
    ∙ ap Some (get_or-set_other groups number i new group other
    ∙ get_or_from_slice_get groups i group group is)

set-keeps : (groups : List Vocabulary) (number : ℕ) (old new : Vocabulary)
    → slice_get groups number ≡ Some old → IsWider old new → Keep groups (set groups number new)
set-keeps groups number old new here wider =
    search (rules, cases_eq, set-here, slice_get_within, there, set-other)

pub Keep-set : (first groups : List Vocabulary) (number : ℕ) (any new : Vocabulary)
    → Keep first groups → number < length groups → IsWider (get_or groups number any) new
    → Keep first (set groups number new)
Keep-set first groups number any new keep within wider =
    search (rules, Keep-trans, set-keeps, slice_get-get_or)

-- the view of a group that has just taken the names in
pub view-here : (groups : List Vocabulary) (number : ℕ) (asked new : Vocabulary) (view : View)
    → number < length groups → view.group ≡ number → Shows asked new view
    → IsViewOf (set groups number new) asked view
view-here groups number asked new view within group is = search (rules, set-here, shows)

-- and of one that has just begun
pub view-last : (groups : List Vocabulary) (asked new : Vocabulary) (view : View)
    → view.group ≡ length groups → Shows asked new view
    → IsViewOf (groups ++ new ∷ []) asked view
view-last groups asked new view group is = search (rules, get-last, shows)
