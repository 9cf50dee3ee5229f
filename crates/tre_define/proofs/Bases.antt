-- A text that names a part of a signal begins with the base of its name.
use Rattle.std.proofs.Common.{◌≡◌, ℕ, Bool, true, false, ◌==◌, List, [], ◌∷◌, ◌++◌, append-nil, length, take, drop, Option, None, Some, inl, inr, refl, sym, ap, subst, ◌∙◌, arith}
use Rattle.std.specs.Prelude.{◌&&◌, option_and_then, option_map, if◌then◌else◌}
use Rattle.std.specs.Option.{option_map_or, option_or}
use Rattle.std.specs.Str.{bytes_eq}
use Rattle.std.proofs.lemmas.Bool.Decides.{nat_tests}
use Rattle.std.proofs.lemmas.List.{take-append-drop}
use Rattle.std.proofs.lemmas.Slice.Eq.{bytes_eq-Decides}
use Rattle.tre_define.specs.Named.{IsFront, Ranged, base_of, counted_bits, longer, number_in, part_behind, part_in, part_named, range_between, range_in, ranged, ranged_in}
use Rattle.tre_define.specs.declared.named.Range.{Range}
use Rattle.tre_define.specs.declared.part.Part.{Part}

is-bracket : (byte : ℕ) → (byte == 91) ≡ true → byte ≡ 91
is-bracket byte is = grind (arith, nat_tests)

-- It begins with a bracket, if it has a byte.
abbrev Opens : List ℕ → Type 0
Opens [] = Unit {0}
Opens (byte ∷ bytes) = (byte == 91) ≡ true

front-opens : (front behind : List ℕ) → Opens behind → IsFront front (front ++ behind)
front-opens front [] opens = inl (append-nil front)
front-opens front (byte ∷ bytes) opens =
    inr (bytes, ap (λ first. front ++ first ∷ bytes) (is-bracket byte opens))

front-more : (byte : ℕ) (front text : List ℕ) → IsFront front text
    → IsFront (byte ∷ front) (byte ∷ text)
front-more byte front text (inl same) = inl (ap (λ all. byte ∷ all) same)
front-more byte front text (inr (back, is)) = inr (back, ap (λ all. byte ∷ all) is)

-- ---- ranges

range-opens : (opens closes : Bool) (inner : List ℕ) (range : Range)
    → option_and_then range_between (if opens && closes then Some inner else None) ≡ Some range
    → opens ≡ true
range-opens true closes inner range is = refl
range-opens false closes inner range is = absurd (cc (is))

select-opens : (opens closes : Bool) (inner : List ℕ) (all : Range) (part : Part)
    → option_and_then (part_in all)
    (option_or (option_and_then range_between (if opens && closes then Some inner else None))
    (option_map (λ number. record { left = number; right = number })
    (option_and_then number_in (if opens && closes then Some inner else None)))) ≡ Some part
    → opens ≡ true
select-opens true closes inner all part is = refl
select-opens false closes inner all part is = absurd (cc (is))

part-opens : (all : Range) (size : ℕ) (behind : List ℕ) (part : Part)
    → part_behind all size behind ≡ Some part → Opens behind
part-opens all size [] part is = tt
part-opens all size (byte ∷ bytes) part is = select-opens (byte == 91) _ _ all part is

front-ranged : (byte : ℕ) (bytes : List ℕ) (here : Option Range) (more : Option Ranged)
    (found : Ranged) → range_in (byte ∷ bytes) ≡ here
    → ((later : Ranged) → more ≡ Some later → IsFront later.base bytes)
    → option_or (option_map (λ range. record { base = []; range = range }) here)
    (option_map (longer byte) more) ≡ Some found → IsFront found.base (byte ∷ bytes)
front-ranged byte bytes (Some range) more found here later is =
    let own : record { base = []; range = range } ≡ found = cc (is) in
    subst (λ (one : Ranged). IsFront one.base (byte ∷ bytes)) own
    (front-opens [] (byte ∷ bytes) (range-opens (byte == 91) _ _ range here))
front-ranged byte bytes None (Some one) found here later is =
    let own : longer byte one ≡ found = cc (is) in
    subst (λ (one : Ranged). IsFront one.base (byte ∷ bytes)) own
    (front-more byte one.base bytes (later one refl))
front-ranged byte bytes None None found here later is = absurd (cc (is))

front-found : (name : List ℕ) (found : Ranged) → ranged_in name ≡ Some found
    → IsFront found.base name
front-found [] found is = absurd (cc (is))
front-found (byte ∷ bytes) found is =
    front-ranged byte bytes (range_in (byte ∷ bytes)) (ranged_in bytes) found refl
    (λ later more. front-found bytes later more) is

front-whole : (name : List ℕ) (found : Option Ranged) → ranged_in name ≡ found
    → IsFront (option_map_or (λ found. found.base) found name) name
front-whole name None is = inl refl
front-whole name (Some found) is = front-found name found is

same-base : (name : List ℕ) (size : ℕ) (found : Option Ranged)
    → option_map_or (λ found. found.base) found name
    ≡ (option_map_or (λ own. own) found (record { base = name; range = counted_bits size })).base
same-base name size None = refl
same-base name size (Some found) = refl

-- ---- parts

front-cases : (text name base : List ℕ) (range : Range) (size : ℕ) (part : Part)
    (same front : Bool) → bytes_eq text name ≡ same
    → bytes_eq (take (length base) text) base ≡ front → IsFront base name
    → (if same then Some (record { low = 0; width = size })
    else (if front then part_behind range size (drop (length base) text) else None)) ≡ Some part
    → IsFront base text
front-cases text name base range size part true front same here whole is =
    subst (IsFront base) (sym ((bytes_eq-Decides text name).0 same)) whole
front-cases text name base range size part false true same here whole is =
    let len = length base in
    subst (IsFront base)
    (ap (λ all. all ++ drop len text) (sym ((bytes_eq-Decides (take len text) base).0 here))
    ∙ take-append-drop len text)
    (front-opens base (drop len text) (part-opens range size (drop len text) part is))
front-cases text name base range size part false false same here whole is = absurd (cc (is))

pub base-front : (text name : List ℕ) (size : ℕ) (part : Part)
    → part_named text name size ≡ Some part → IsFront (base_of name) text
base-front text name size part is =
    let same = same-base name size (ranged_in name) in
    subst (λ base. IsFront base text) (sym same)
    (front-cases text name (ranged name size).base (ranged name size).range size part _ _ refl refl
    (subst (λ base. IsFront base name) same (front-whole name (ranged_in name) refl)) is)
