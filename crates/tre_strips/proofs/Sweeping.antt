-- One pass over time: what is open, what waits, and the profiles of the columns.
use Rattle.std.proofs.Common.{◌≡◌, ℕ, zero, suc, ◌+◌, ◌-◌, ◌*◌, ◌<◌, ◌≤◌, ◌⊎◌, ◌↔◌, Bool, true, false, MatchBool, List, [], ◌∷◌, ◌++◌, length, get_or, take, drop, nat_lt, ltb-false, refl, sym, ap, subst, ◌∙◌, arith, inl, inr, ⊎_elim, mul-le-mul_right, rules}
use Rattle.std.specs.List.{items_where_true}
use Rattle.std.specs.List.Retain.{ReturnsInTurn, IsFiltered}
use Rattle.std.proofs.lemmas.List.{drop-drop, drop_all, get_or-drop, get_or_default, length-drop, take-append-drop}
use Rattle.tre_zone.specs.Bound.{value_of, weakness_of}
use Rattle.tre_zone.specs.Zone.{ZoneHolds, IsCanonical}
use Rattle.tre_zone.specs.ZoneList.{SetHolds, AreCanonical}
use Rattle.tre_zone.specs.declared.zone_bounds.ZoneBounds.{ZoneBounds}
use Rattle.tre_zone.proofs.Ranges.{canonical-ranges}
use Rattle.tre_zone.proofs.ZoneListLemmas.{SetHolds-empty, SetHolds-append}
use Rattle.tre_strips.specs.Profile.{IsIn, IsProfile}
use Rattle.tre_strips.specs.Sweep.{begin_of, last_begin_of, BeginInTurn, IsSwept, PairsBeginFrom, BeginsBehind, SameBehind}
use Rattle.tre_strips.specs.declared.bar.Bar.{Bar}

-- ---- when pairs of a zone begin

low : (weak : Bool) (v a n : ℕ) → MatchBool weak (v * n ≤ a) (v * n < a) → v * n ≤ a
low true v a n h = h
low false v a n h = omega arith

high : (weak : Bool) (v a n : ℕ) → MatchBool weak (a ≤ v * n) (a < v * n) → a ≤ v * n
high true v a n h = h
high false v a n h = omega arith

begins_from : (zone : ZoneBounds) → IsCanonical zone → (a b n : ℕ) → 0 < n
    → ZoneHolds zone a b n → begin_of zone * n ≤ a
unfolding begin_of
begins_from z canonical a b n some h = search (rules, low, weakness_of, value_of, canonical-ranges)

begins_until : (zone : ZoneBounds) → IsCanonical zone → (a b n : ℕ) → 0 < n
    → ZoneHolds zone a b n → a ≤ last_begin_of zone * n
unfolding last_begin_of
begins_until z canonical a b n some h =
    search (rules, high, weakness_of, value_of, canonical-ranges)

pub BeginsBehind-last : (zone : ZoneBounds) → IsCanonical zone → (time last : ℕ)
    → last ≡ last_begin_of zone → BeginsBehind time (nat_lt time last) zone
BeginsBehind-last zone canonical time last is = by (nat_lt time last) refl
  where
    by : (behind : Bool) → nat_lt time last ≡ behind → BeginsBehind time behind zone
    by true e = record { told = tt }
    by false e = record {
      told = λ a b n some h.
          let until = begins_until zone canonical a b n some h in
          let le : last_begin_of zone ≤ time = rw (← is) (ltb-false time last e) in
          let wide = mul-le-mul_right n le in
          omega arith;
    }

-- ---- the zones that wait

waits_at : (zones : List ZoneBounds) (least : ℕ) → AreCanonical zones
    → ((k : ℕ) (d : ZoneBounds) → k < length zones → least ≤ begin_of (get_or zones k d))
    → PairsBeginFrom least zones
unfolding SetHolds AreCanonical
waits_at [] least canonical each = record { begin = λ a b n some h. absurd h }
waits_at (zone ∷ zones) least canonical each =
    let rest = waits_at zones least canonical.1
    (λ k d below. each (suc k) d (omega (arith, below))) in
    record {
      begin = λ a b n some h. ⊎_elim
          (λ x.
          let own = begins_from zone canonical.0 a b n some x in
          let le = each 0 zone (omega arith) in
          let wide = mul-le-mul_right n le in
          omega arith)
          (λ x. rest.begin a b n some x) h;
    }

canonical_drop : (i : ℕ) (zones : List ZoneBounds) → AreCanonical zones
    → AreCanonical (drop i zones)
unfolding AreCanonical
canonical_drop zero zones canonical = canonical
canonical_drop (suc i) [] canonical = tt
canonical_drop (suc i) (zone ∷ zones) canonical = canonical_drop i zones canonical.1

pub BeginFrom-waiting : (zones : List ZoneBounds) (place : ℕ) → BeginInTurn zones
    → place < length zones → (d : ZoneBounds)
    → PairsBeginFrom (begin_of (get_or zones place d)) (drop place zones)
BeginFrom-waiting zones place turn within d =
    waits_at (drop place zones) _ (canonical_drop place zones turn.canonical)
    (λ k e below.
    let long = length-drop place zones in
    rw (get_or-drop place zones k e)
    (rw (get_or_default zones place d e within)
    (turn.order place (place + k) e (omega arith) (omega (arith, below)))))

pub BeginFrom-none : (zones : List ZoneBounds) (place time : ℕ) → length zones ≤ place
    → PairsBeginFrom time (drop place zones)
BeginFrom-none zones place time past = search (rules, SetHolds-empty, drop_all)

-- ---- the open zones

pub IsSwept-first : (zones : List ZoneBounds) → IsSwept zones [] 0 0
IsSwept-first zones = search (rules, SetHolds-empty)

split : (zones : List ZoneBounds) (from to : ℕ) → from ≤ to
    → take (to - from) (drop from zones) ++ drop to zones ≡ drop from zones
split zones from to le =
    let sum : from + (to - from) ≡ to = omega arith in
    ap (λ (k : ℕ). take (to - from) (drop from zones) ++ drop k zones) (sym sum)
    ∙ (ap (λ (l : List ZoneBounds). take (to - from) (drop from zones) ++ l)
    (sym (drop-drop (to - from) from zones))
    ∙ take-append-drop (to - from) (drop from zones))

-- Zones that waited are open.
pub IsSwept-more : (zones here here' : List ZoneBounds) (waiting next time : ℕ)
    → waiting ≤ next → next ≤ length zones
    → here' ≡ here ++ take (next - waiting) (drop waiting zones)
    → IsSwept zones here waiting time → IsSwept zones here' next time
IsSwept-more zones here here' waiting next time rising count is now =
    let part : List ZoneBounds = take (next - waiting) (drop waiting zones) in
    record {
      count = count;
      held = λ a b n some from.
          let was = now.held a b n some from in
          let left = subst (λ (l : List ZoneBounds). SetHolds l a b n
          ↔ (SetHolds here a b n ⊎ SetHolds part a b n)) (sym is)
          (SetHolds-append here part a b n) in
          let right = subst (λ (l : List ZoneBounds). SetHolds l a b n
          ↔ (SetHolds part a b n ⊎ SetHolds (drop next zones) a b n))
          (split zones waiting next rising) (SetHolds-append part (drop next zones) a b n) in (
            (λ h. ⊎_elim (λ x. inl (left.1 (inl x)))
                (λ x. ⊎_elim (λ y. inl (left.1 (inr y))) (λ y. inr y) (right.0 x)) (was.0 h)),
            (λ h. was.1 (⊎_elim
                (λ x. ⊎_elim (λ y. inl y) (λ y. inr (right.1 (inl y))) (left.0 x))
                (λ x. inr (right.1 (inr x))) h)),
          );
    }

-- What is dropped begins nowhere behind the time.
module _ {F : Type 0} (R : F → ZoneBounds → Bool → F → Type 0) (time : ℕ) (f : F)
    (says : (zone : ZoneBounds) (behind : Bool) (f' : F) → R f zone behind f'
    → BeginsBehind time behind zone × (f' ≡ f)) where
  in_turn : (zones : List ZoneBounds) (answers : List Bool) (last : F)
      → length answers ≡ length zones → ReturnsInTurn R f answers zones last
      → SameBehind time zones (items_where_true answers zones)
  unfolding SetHolds
  in_turn [] [] last same turns = record { same = λ a b n some lt. ((λ h. h), (λ h. h)) }
  in_turn [] (behind ∷ answers) last same turns = absurd (omega arith)
  in_turn (zone ∷ zones) [] last same turns = absurd (omega arith)
  in_turn (zone ∷ zones) (true ∷ answers) last same turns =
      let one = says zone true turns.0 turns.1 in
      let rest = in_turn zones answers last (omega arith)
      (subst (λ (g : F). ReturnsInTurn R g answers zones last) one.1 turns.2) in
      record {
        same = λ a b n some lt.
            let both = rest.same a b n some lt in (
              (λ h. ⊎_elim (λ x. inl x) (λ x. inr (both.0 x)) h),
              (λ h. ⊎_elim (λ x. inl x) (λ x. inr (both.1 x)) h),
            );
      }
  in_turn (zone ∷ zones) (false ∷ answers) last same turns =
      let one = says zone false turns.0 turns.1 in
      let rest = in_turn zones answers last (omega arith)
      (subst (λ (g : F). ReturnsInTurn R g answers zones last) one.1 turns.2) in
      record {
        same = λ a b n some lt.
            let both = rest.same a b n some lt in (
              (λ h. inr (both.0 h)),
              (λ h. ⊎_elim
                  (λ x. let le = one.0.told a b n some x in absurd (omega arith))
                  (λ x. both.1 x) h),
            );
      }

  pub SameBehind-from_retain : (zones kept : List ZoneBounds) → IsFiltered R f zones kept
      → SameBehind time zones kept
  SameBehind-from_retain zones kept (answers, last, same, turns, is) =
      subst (SameBehind time zones) (sym is) (in_turn zones answers last same turns)

-- ---- a column

-- At the time no zone that waits begins.
pub IsProfile-there : (zones here : List ZoneBounds) (bars : List Bar)
    (waiting time next from until : ℕ) → from ≡ time → until ≡ time
    → IsSwept zones here waiting time → time < next → PairsBeginFrom next (drop waiting zones)
    → IsProfile (SetHolds here) bars from until → IsProfile (SetHolds zones) bars time time
IsProfile-there zones here bars waiting time next from until is is' now later ahead profile =
    record {
      each = λ a n some inside.
          let at = at_one time a n inside in
          let start = ap (λ k. k * n) is in
          let own = profile.each a n some (inl (omega arith, omega arith)) in
          record {
            rising = own.rising;
            exact = λ b.
                let one = own.exact b in
                let both = now.held a b n some (omega arith) in (
                  (λ h. both.1 (inl (one.0 h))),
                  (λ h. ⊎_elim (λ x. one.1 x)
                      (λ x.
                      let begin = ahead.begin a b n some x in
                      let wide = mul-le-mul_right n later in
                      absurd (omega arith)) (both.0 h)),
                );
          };
    }
  where
    at_one : (time a n : ℕ) → IsIn time time a n → a ≡ time * n
    at_one time a n inside = ⊎_elim (λ one. one.1) (λ many.
        let low = many.0 in let high = many.1 in absurd (omega arith)) inside

pub IsProfile-behind : (zones here kept : List ZoneBounds) (bars : List Bar)
    (waiting time next from until : ℕ) → from ≡ time → from < until → until ≤ next
    → IsSwept zones here waiting time → SameBehind time here kept
    → PairsBeginFrom next (drop waiting zones)
    → IsProfile (SetHolds kept) bars from until → IsProfile (SetHolds zones) bars time until
IsProfile-behind zones here kept bars waiting time next from until is many within now same ahead
    profile = record {
      each = λ a n some inside.
          let at = at_many time until a n (omega arith) inside in
          let low = at.0 in
          let high = at.1 in
          let start = ap (λ k. k * n) is in
          let own = profile.each a n some (inr (omega arith, high)) in
          record {
            rising = own.rising;
            exact = λ b.
                let one = own.exact b in
                let kept_same = same.same a b n some low in
                let both = now.held a b n some (omega arith) in (
                  (λ h. both.1 (inl (kept_same.0 (one.0 h)))),
                  (λ h. ⊎_elim (λ x. one.1 (kept_same.1 x))
                      (λ x.
                      let begin = ahead.begin a b n some x in
                      let wide = mul-le-mul_right n within in
                      absurd (omega arith)) (both.0 h)),
                );
          };
    }
  where
    at_many : (from until a n : ℕ) → from < until → IsIn from until a n
        → (from * n < a) × (a < until * n)
    at_many from until a n less inside =
        ⊎_elim (λ one. let same = one.0 in absurd (omega arith)) (λ many. many) inside

pub IsSwept-behind : (zones here kept : List ZoneBounds) (waiting time until : ℕ) → time < until
    → SameBehind time here kept → IsSwept zones here waiting time
    → IsSwept zones kept waiting until
IsSwept-behind zones here kept waiting time until less same now = search rules
