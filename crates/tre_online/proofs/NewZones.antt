-- The zones of a list that were not told earlier.
use Rattle.std.proofs.Common.{◌≡◌, ℕ, suc, zero, ◌<◌, ◌≤◌, ◌⊎◌, ◌↔◌, Bool, IsTrue, not, true, false, List, [], ◌∷◌, length, get_or, refl, sym, subst, inl, inr, ⊎_elim, arith}
use Rattle.std.specs.List.{items_where_true}
use Rattle.std.specs.List.Retain.{ReturnsInTurn, IsFiltered}
use Rattle.tre_zone.specs.Zone.{ZoneHolds}
use Rattle.tre_zone.specs.ZoneList.{SetHolds, IsApartFrom, IsApart}
use Rattle.tre_zone.specs.declared.zone_bounds.ZoneBounds.{ZoneBounds}
use Rattle.tre_zoneset.specs.ZoneSet.{Without}
use Rattle.tre_zoneset.proofs.Unions.{SetHolds-included}
use Rattle.tre_online.specs.Told.{WasTold, IsNew}

pub is_new : (earlier : List ZoneBounds) (zone : ZoneBounds) (told : Bool)
    → (IsTrue told ↔ WasTold earlier zone) → IsNew earlier zone (not told)
is_new earlier zone true is = record { told = is.0 refl }
is_new earlier zone false is = record { told = λ was. let yes = is.1 was in cc }

-- What a test that changes nothing leaves of a list.
module _ {F : Type 0} (R : F → ZoneBounds → Bool → F → Type 0) (earlier : List ZoneBounds) (f : F)
    (says : (zone : ZoneBounds) (new : Bool) (f' : F) → R f zone new f'
    → IsNew earlier zone new × (f' ≡ f)) where
  in_turn : (zones : List ZoneBounds) (answers : List Bool) (last : F)
      → length answers ≡ length zones → ReturnsInTurn R f answers zones last
      → Without (WasTold earlier) zones (items_where_true answers zones)
  unfolding Without
  in_turn [] [] last same turns = refl
  in_turn [] (new ∷ answers) last same turns = absurd (omega arith)
  in_turn (zone ∷ zones) [] last same turns = absurd (omega arith)
  in_turn (zone ∷ zones) (true ∷ answers) last same turns =
      let one = says zone true turns.0 turns.1 in
      let rest = subst (λ (g : F). ReturnsInTurn R g answers zones last) one.1 turns.2 in
      inr (
        one.0.told,
        (items_where_true answers zones, refl, in_turn zones answers last (omega arith) rest),
      )
  in_turn (zone ∷ zones) (false ∷ answers) last same turns =
      let one = says zone false turns.0 turns.1 in
      let rest = subst (λ (g : F). ReturnsInTurn R g answers zones last) one.1 turns.2 in
      inl (one.0.told, in_turn zones answers last (omega arith) rest)

  pub new_from_retain : (zones kept : List ZoneBounds) → IsFiltered R f zones kept
      → Without (WasTold earlier) zones kept
  new_from_retain zones kept (answers, last, same, turns, is) =
      subst (Without (WasTold earlier) zones) (sym is) (in_turn zones answers last same turns)

module _ (P : ZoneBounds → Type 0) where
  -- P holds of none that stays.
  pub never_kept : (old kept : List ZoneBounds) → Without P old kept → (k : ℕ) (d : ZoneBounds)
      → k < length kept → P (get_or kept k d) → ⊥
  unfolding Without
  never_kept [] kept is k d below =
      absurd (let none : k < 0 = subst (λ (list : List ZoneBounds). k < length list) is below in
      omega (arith, none))
  never_kept (first ∷ old) kept (inl gone) k d below = never_kept old kept gone.1 k d below
  never_kept (first ∷ old) kept (inr (stays, (rest, is, w))) k d below =
      let head : (j : ℕ) → j < length (first ∷ rest) → P (get_or (first ∷ rest) j d) → ⊥ =
      elim [ zero ↦ λ b. stays | suc j ↦ λ b. never_kept old rest w j d (omega (arith, b)) ] in
      subst (λ (list : List ZoneBounds). k < length list → P (get_or list k d) → ⊥) (sym is)
      (head k) below

  -- What doesn't stay is held by a zone of which P holds.
  pub held_or_gone : (old kept : List ZoneBounds) → Without P old kept → (a b n : ℕ)
      → SetHolds old a b n
      → SetHolds kept a b n ⊎ ((zone : ZoneBounds) × P zone × ZoneHolds zone a b n)
  unfolding Without SetHolds
  held_or_gone [] kept is a b n h = absurd h
  held_or_gone (first ∷ old) kept (inl gone) a b n h =
      ⊎_elim (λ x. inr (first, gone.0, x)) (λ x. held_or_gone old kept gone.1 a b n x) h
  held_or_gone (first ∷ old) kept (inr (stays, (rest, is, w))) a b n h =
      ⊎_elim (λ x. inl (subst (λ (zones : List ZoneBounds). SetHolds zones a b n) (sym is) (inl x)))
      (λ x. ⊎_elim
      (λ y. inl (subst (λ (zones : List ZoneBounds). SetHolds zones a b n) (sym is) (inr y)))
      (λ y. inr y) (held_or_gone old rest w a b n x))
      h

-- What was found and doesn't stay is held by what was told earlier.
pub held_or_told : (earlier found told : List ZoneBounds) → Without (WasTold earlier) found told
    → (a b n : ℕ) → 0 < n → a ≤ b → SetHolds found a b n
    → SetHolds told a b n ⊎ SetHolds earlier a b n
held_or_told earlier found told without a b n some le h =
    ⊎_elim (λ x. inl x)
    (λ x. inr (SetHolds-included earlier x.0 x.1.included a b n some le x.2))
    (held_or_gone (WasTold earlier) found told without a b n h)

-- Where there is at most one zone, none is included in another.
pub one_apart : (zones : List ZoneBounds) → length zones < 2 → IsApart zones
unfolding IsApart IsApartFrom
one_apart [] few = tt
one_apart (zone ∷ []) few = (tt, tt)
one_apart (zone ∷ other ∷ zones) few = absurd (omega (arith, few))

pub none_apart : IsApart []
unfolding IsApart
none_apart = tt
