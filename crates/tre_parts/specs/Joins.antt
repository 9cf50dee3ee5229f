-- The parts of some bytes and of more, one behind the other.
use Rattle.std.proofs.Common.{◌≡◌, ℕ, Bool, true, false, cond, List, [], ◌∷◌, ◌++◌, refl, ap, ◌∙◌}
use Rattle.std.specs.List.{slice_split, onto_first}

-- the parts of some bytes and those of more: the last of the first and the first of the second are
-- one
abbrev pub join_parts : List (List ℕ) → List (List ℕ) → List (List ℕ)
join_parts [] others = others
join_parts (part ∷ []) [] = part ∷ []
join_parts (part ∷ []) (other ∷ others) = (part ++ other) ∷ others
join_parts (part ∷ next ∷ parts) others = part ∷ join_parts (next ∷ parts) others

-- a list of one part at least
pub record HasFirst (parts : List (List ℕ)) : Type 0 where
  pub first : List ℕ
  pub later : List (List ℕ)
  pub is : parts ≡ first ∷ later

onto_first-has : (byte : ℕ) (parts : List (List ℕ)) → HasFirst (onto_first byte parts)
onto_first-has byte [] = record { first = byte ∷ []; later = []; is = refl }
onto_first-has byte (part ∷ parts) = record { first = byte ∷ part; later = parts; is = refl }

cond-has : (b : Bool) (byte : ℕ) (parts : List (List ℕ))
    → HasFirst (cond b ([] ∷ parts) (onto_first byte parts))
cond-has true byte parts = record { first = []; later = parts; is = refl }
cond-has false byte parts = onto_first-has byte parts

pub slice_split-has : (p : ℕ → Bool) (bytes : List ℕ) → HasFirst (slice_split p bytes)
slice_split-has p [] = record { first = []; later = []; is = refl }
slice_split-has p (byte ∷ bytes) = cond-has (p byte) byte (slice_split p bytes)

join-empty : (others : List (List ℕ)) → HasFirst others → others ≡ join_parts ([] ∷ []) others
join-empty [] has = cc
join-empty (other ∷ others) has = refl

join-onto : (byte : ℕ) (parts others : List (List ℕ)) → HasFirst parts → HasFirst others
    → onto_first byte (join_parts parts others) ≡ join_parts (onto_first byte parts) others
join-onto byte [] others has other = cc
join-onto byte (part ∷ []) [] has other = cc
join-onto byte (part ∷ []) (first ∷ others) has other = refl
join-onto byte (part ∷ next ∷ parts) others has other = refl

join-cons : (parts others : List (List ℕ)) → HasFirst parts → [] ∷ join_parts parts others
    ≡ join_parts ([] ∷ parts) others
join-cons [] others has = cc
join-cons (part ∷ parts) others has = refl

join-cond : (b : Bool) (byte : ℕ) (parts others : List (List ℕ)) → HasFirst parts → HasFirst others
    → cond b ([] ∷ join_parts parts others) (onto_first byte (join_parts parts others)) ≡ join_parts
    (cond b ([] ∷ parts) (onto_first byte parts)) others
join-cond true byte parts others has other = join-cons parts others has
join-cond false byte parts others has other = join-onto byte parts others has other

pub slice_split-append : (p : ℕ → Bool) (bytes more : List ℕ) → slice_split p (bytes ++ more)
    ≡ join_parts (slice_split p bytes) (slice_split p more)
slice_split-append p [] more = join-empty (slice_split p more) (slice_split-has p more)
slice_split-append p (byte ∷ bytes) more =
    ap (λ parts. cond (p byte) ([] ∷ parts) (onto_first byte parts)) (slice_split-append p bytes
    more)
    ∙ join-cond (p byte) byte (slice_split p bytes) (slice_split p more) (slice_split-has p bytes)
    (slice_split-has p more)
