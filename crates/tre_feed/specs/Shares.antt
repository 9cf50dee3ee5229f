-- Who shares a reader.
use Rattle.std.specs.Prelude.{◌≡◌, ℕ, ◌≤◌, List, length, Some, slice_get}
use Rattle.std.specs.List.{AllZip}
use Rattle.tre_trace.specs.Reading.{Vocabulary}
use Rattle.tre_feed.specs.Places.{places_of, ArePlaces}
use Rattle.tre_feed.specs.declared.shares.Shares.{Shares}
use Rattle.tre_feed.specs.declared.view.View.{View}

-- The names that each reader reads.
abbrev pub groups_of : Shares → List Vocabulary
groups_of shares = shares.groups.items

-- The views, one for each pattern.
abbrev pub views_of : Shares → List View
views_of shares = shares.views.items

-- Which of the groups a view is of.
abbrev pub group_of : View → ℕ
group_of view = view.group

-- The view shows what is read for all names as it is for the asked ones.
pub record Shows (asked all : Vocabulary) (view : View) : Type 0 where
  pub names : ArePlaces asked.names all.names (places_of view.names)
  pub events : ArePlaces asked.events all.events (places_of view.events)

-- The view is of one of the groups, and shows what is read for it as it is for the asked names.
pub record IsViewOf (groups : List Vocabulary) (asked : Vocabulary) (view : View) : Type 0 where
  pub all : Vocabulary
  pub group : slice_get groups (group_of view) ≡ Some all
  pub shows : Shows asked all view

-- There is a view for the names of each pattern, and at most one group for each.
pub record AreShared (asked : List Vocabulary) (shares : Shares) : Type 0 where
  pub each : AllZip (IsViewOf (groups_of shares)) asked (views_of shares)
  pub few : length (groups_of shares) ≤ length asked
