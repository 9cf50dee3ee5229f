-- Values of an enum that the derived `==` takes for the same are the same.
use Rattle.std.proofs.Common.{◌≡◌, ℕ, Bool, true, false, inl, inr, List, [], ◌∷◌, refl, ap}
use Rattle.std.specs.Prelude.{◌==◌}
use Rattle.std.proofs.lemmas.Bool.{eqb-true}
use denote.Struct.Field.{Field}
use denote.Struct.Values.{Values}
use denote.Enum.Declared.{Choice}
use denote.Enum.Compared.{Each, by}

-- Values of one variant are the same where they are taken for it. Those of a variant with no field
-- always are.
abbrev pub Tells : (Fss : List (List Field)) → Each Bool Fss → Type 0
Tells [] each = Unit {0}
Tells ([] ∷ Fss) each = Tells Fss each.1
Tells ((F ∷ Fs) ∷ Fss) each =
    ((x y : Values (F ∷ Fs)) → each.0 x y ≡ true → x ≡ y) × Tells Fss each.1

pub same_choice : (Fss : List (List Field)) (each : Each Bool Fss) → Tells Fss each
    → (c d : Choice Fss) → by false false Fss each c d ≡ true → c ≡ d
same_choice [] each h c d e = absurd c
same_choice ([] ∷ Fss) each h (inl x) (inl y) e = refl
same_choice ((F ∷ Fs) ∷ Fss) each h (inl x) (inl y) e = ap inl (h.0 x y e)
same_choice ([] ∷ Fss) each h (inr c) (inr d) e = ap inr (same_choice Fss each.1 h c d e)
same_choice ((F ∷ Fs) ∷ Fss) each h (inr c) (inr d) e = ap inr (same_choice Fss each.1 h.1 c d e)
same_choice ([] ∷ Fss) each h (inl x) (inr d) e = absurd (cc)
same_choice ((F ∷ Fs) ∷ Fss) each h (inl x) (inr d) e = absurd (cc)
same_choice ([] ∷ Fss) each h (inr c) (inl y) e = absurd (cc)
same_choice ((F ∷ Fs) ∷ Fss) each h (inr c) (inl y) e = absurd (cc)

-- A variant of one number.
pub same_number : (x y : ℕ × Unit {0}) → x.0 == y.0 ≡ true → x ≡ y
same_number x y e = ap (λ n. (n, tt)) (eqb-true x.0 y.0 e)
