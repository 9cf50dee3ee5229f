-- Where names stand among others.
use Rattle.std.specs.Prelude.{◌≡◌, ℕ, List, Some}
use Rattle.std.specs.List.{AllZip}
use Rattle.tre_state.specs.Names.{place_of}
use Rattle.tre_feed.specs.declared.places.Places.{Places}

-- The places, one for each asked name.
abbrev pub places_of : Places → List ℕ
places_of places = places.places.items

-- Each asked name stands at its place among all.
abbrev pub ArePlaces : List (List ℕ) → List (List ℕ) → List ℕ → Type 0
ArePlaces asked all places = AllZip (λ name place. place_of all name ≡ Some place) asked places
