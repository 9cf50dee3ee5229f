-- The lines of zones behind a name, and the text of all checks.
use Rattle.std.proofs.Common.{◌≡◌, ◌≢◌, ℕ, suc, ◌+◌, ◌-◌, ◌*◌, ◌/◌, ◌<◌, ◌≤◌, List, [], ◌∷◌, ◌++◌, codes, length, map, take, drop, get_or, flat_map, Bool, true, false, refl, sym, ap, ◌∙◌, arith, rules, append_assoc, append-nil, pos}
use Rattle.std.proofs.Math.Nat.{mul-le-mul_right}
use Rattle.std.proofs.lemmas.Grind.{flat_map-append}
use Rattle.std.proofs.lemmas.List.{drop_more, take-append-drop, take_more}
use Rattle.std.proofs.lemmas.Nat.{le-div}
use Rattle.std.specs.List.{slice_range, sum_by, count_by, fold}
use Rattle.tre_decimal.specs.Decimal.{number_text}
use Rattle.tre_judge.specs.declared.verdict.Verdict.{Verdict}
use Rattle.tre_judge.specs.declared.verdict.Verdict.TheVariants.{Unjudged, Passed, Failed, Waiting, Vacuous}
use Rattle.tre_show.specs.Line.{line_of}
use Rattle.tre_tell.specs.Blocks.{lines_with}
use Rattle.tre_zone.specs.declared.zone_bounds.ZoneBounds.{ZoneBounds}
use Rattle.tre_zoneset.proofs.Stretches.{take_to}
use Rattle.tre_answer.specs.Findings.{Finding, findings_text, finding_text, is_failed}

-- ---- lines

pub named_none : (scale : ℕ) (label : List ℕ) (zones : List ZoneBounds) (place : ℕ)
    → lines_with scale label (slice_range zones place place) ≡ []
named_none scale label zones place = search rules

pub named_before : (scale : ℕ) (label : List ℕ) (zones : List ZoneBounds) (place to : ℕ)
    (zone : ZoneBounds) → place < to → to ≤ length zones
    → lines_with scale label (slice_range zones place to)
    ≡ (label ++ line_of scale (get_or zones place zone))
    ++ lines_with scale label (slice_range zones (place + 1) to)
named_before scale label zones place to zone before within =
    let rest = to - (place + 1) in
    let count : to - place ≡ suc rest = omega (arith, before) in
    ap (λ count. lines_with scale label (take count (drop place zones))) count
    ∙ ap (λ all. lines_with scale label (take (suc rest) all))
    (drop_more zones place zone (omega (arith, before, within)))

-- the lines of some first zones, and of those behind them
pub named_to : (scale : ℕ) (label : List ℕ) (zones : List ZoneBounds) (from to : ℕ) → from ≤ to
    → lines_with scale label (take to zones)
    ≡ lines_with scale label (take from zones)
    ++ lines_with scale label (slice_range zones from to)
named_to scale label zones from to rises =
    ap (lines_with scale label) (sym (take_to zones from to rises))
    ∙ flat_map-append (λ (zone : ZoneBounds). label ++ line_of scale zone) (take from zones)
    (slice_range zones from to)

pub named_all : (scale : ℕ) (label : List ℕ) (zones : List ZoneBounds) (from : ℕ)
    → lines_with scale label zones
    ≡ lines_with scale label (take from zones) ++ lines_with scale label (drop from zones)
named_all scale label zones from =
    ap (lines_with scale label) (sym (take-append-drop from zones))
    ∙ flat_map-append (λ (zone : ZoneBounds). label ++ line_of scale zone) (take from zones)
    (drop from zones)

pub named_around : (scale : ℕ) (label : List ℕ) (zones : List ZoneBounds) (from to : ℕ)
    → from ≤ to → lines_with scale label zones
    ≡ lines_with scale label (take from zones)
    ++ (lines_with scale label (slice_range zones from to)
    ++ lines_with scale label (drop to zones))
named_around scale label zones from to rises =
    named_all scale label zones to
    ∙ ap (λ lines. lines ++ lines_with scale label (drop to zones))
    (named_to scale label zones from to rises)
    ∙ append_assoc (lines_with scale label (take from zones))
    (lines_with scale label (slice_range zones from to)) (lines_with scale label (drop to zones))

-- ---- room

-- so many lines of this width have room, if one has
pub fit_lines : (lines width room : ℕ) → lines ≤ room / width → 0 < width → lines * width ≤ room
fit_lines lines width room few some =
    let less = mul-le-mul_right width few in
    omega (arith, less, some)

pub some_lines : (width room : ℕ) → 0 < width → width ≤ room → 1 ≤ room / width
some_lines width room some fits = le-div 1 room width some (omega (arith, fits))

-- ---- checks

pub texts_to : {X : Type 0} (text : X → List ℕ) (checks : List X) (place : ℕ) (other : X)
    → place < length checks
    → flat_map text (take (place + 1) checks)
    ≡ flat_map text (take place checks) ++ text (get_or checks place other)
texts_to text checks place other inside =
    rw (take_more checks place other inside)
    (flat_map-append text (take place checks) (get_or checks place other ∷ [])
    ∙ ap (λ rest. flat_map text (take place checks) ++ rest)
    (append-nil (text (get_or checks place other))))

pub texts_around : {X : Type 0} (text : X → List ℕ) (checks : List X) (place : ℕ) (other : X)
    → place < length checks
    → flat_map text checks
    ≡ flat_map text (take place checks)
    ++ (text (get_or checks place other) ++ flat_map text (drop (place + 1) checks))
texts_around text checks place other inside =
    ap (flat_map text) (sym (take-append-drop place checks))
    ∙ flat_map-append text (take place checks) (drop place checks)
    ∙ ap (λ all. flat_map text (take place checks) ++ flat_map text all)
    (drop_more checks place other inside)

pub flat_map-map : {X Y : Type 0} (text : Y → List ℕ) (f : X → Y) (checks : List X)
    → flat_map text (map f checks) ≡ flat_map (λ x. text (f x)) checks
flat_map-map text f [] = refl
flat_map-map text f (check ∷ checks) = ap (λ rest. text (f check) ++ rest) (flat_map-map text f checks)

-- the lines of all checks, and that of the end
pub findings_split : (scale : ℕ) (findings : List Finding) (end : ℕ)
    → findings_text scale findings end
    ≡ flat_map (finding_text scale) findings
    ++ (codes "end " ++ number_text scale end ++ codes "\n")
unfolding findings_text
findings_split scale findings end = simp append_assoc

sum_from : {X Y : Type 0} (count : Y → ℕ) (f : X → Y) (start : ℕ) (checks : List X)
    → fold (λ a y. a + count y) start (map f checks)
    ≡ fold (λ a x. a + count (f x)) start checks
sum_from count f start [] = refl
sum_from count f start (check ∷ checks) = sum_from count f (start + count (f check)) checks

pub sum_by-map : {X Y : Type 0} (count : Y → ℕ) (f : X → Y) (checks : List X)
    → sum_by count (map f checks) ≡ sum_by (λ x. count (f x)) checks
sum_by-map count f checks = sum_from count f 0 checks

pub is_failed_so : (verdict : Verdict) → verdict ≡ Failed → is_failed verdict ≡ true
is_failed_so verdict is = rw is refl

pub is_failed_not : (verdict : Verdict) → (verdict ≡ Failed → ⊥) → is_failed verdict ≡ false
is_failed_not Unjudged not = refl
is_failed_not Passed not = refl
is_failed_not Failed not = absurd (not refl)
is_failed_not Waiting not = refl
is_failed_not Vacuous not = refl

-- any zone
pub blank : ZoneBounds
blank = record {
  begin_low = pos 0;
  begin_high = pos 0;
  end_low = pos 0;
  end_high = pos 0;
  dur_low = pos 0;
  dur_high = pos 0;
}
