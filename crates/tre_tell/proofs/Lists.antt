-- Lists, and when segments end.
use Rattle.std.proofs.Common.{◌≡◌, ◌∙◌, ℕ, suc, ◌+◌, ◌<◌, List, [], ◌∷◌, ◌++◌, length, map, take, drop, get_or, refl, sym, ap, drop-cons, take-append-drop}
use Rattle.tre_trace.specs.Trace.{end_of}
use Rattle.tre_trace.specs.declared.segment.Segment.{Segment}

-- one segment more
pub end_of-more : (start : ℕ) (segments : List Segment) (segment : Segment)
    → end_of start (segments ++ segment ∷ []) ≡ end_of start segments + segment.len
end_of-more start [] segment = refl
end_of-more start (first ∷ rest) segment = end_of-more (start + first.len) rest segment

-- a function of what another gives
pub map-map : {X Y Z : Type 0} (f : X → Y) (g : Y → Z) (xs : List X)
    → map g (map f xs) ≡ map (λ x. g (f x)) xs
map-map f g [] = refl
map-map f g (x ∷ xs) = ap (λ rest. g (f x) ∷ rest) (map-map f g xs)

-- a list around one of its places
pub split_around : {X : Type 0} (xs : List X) (k : ℕ) (d : X) → k < length xs
    → xs ≡ take k xs ++ get_or xs k d ∷ drop (suc k) xs
split_around xs k d below = sym (take-append-drop k xs)
    ∙ ap (λ rest. take k xs ++ rest) (drop-cons xs k d below)
