-- What the newest says that says anything.
use Rattle.std.proofs.Common.{◌≡◌, ◌↔◌, List, [], ◌∷◌, ◌++◌, Option, None, Some, refl, ap, ◌∙◌, subst, append-nil}
use Rattle.std.specs.Option.{option_or}
use Rattle.tre_vcd.specs.VcdReading.{latest}
use Rattle.tre_vcd.specs.Looking.{Silent, Latest}

module _ {X Y : Type 0} (says : X → List X → Option Y) where
  pub latest-behind : (later rest : List X) → Silent says later rest
      → latest says (later ++ rest) ≡ latest says rest
  latest-behind [] rest silent = refl
  latest-behind (x ∷ later) rest silent =
      ap (λ o. option_or o (latest says (later ++ rest))) silent.0
      ∙ latest-behind later rest silent.1

  pub latest-none : (past : List X) → Silent says past [] → latest says past ≡ None
  latest-none [] silent = refl
  latest-none (x ∷ past) silent =
      ap (λ o. option_or o (latest says past))
      (subst (λ (p : List X). says x p ≡ None) (append-nil past) silent.0)
      ∙ latest-none past silent.1

  latest-said : (past : List X) (y : Y) → Latest says past y → latest says past ≡ Some y
  latest-said past y found =
      ap (λ p. latest says p) found.parts
      ∙ latest-behind found.later (found.one ∷ found.earlier) found.silent
      ∙ ap (λ o. option_or o (latest says found.earlier)) found.here

  latest-later : (x : X) (past : List X) (y : Y) → says x past ≡ None → Latest says past y
      → Latest says (x ∷ past) y
  latest-later x past y none found = record {
    later = x ∷ found.later;
    one = found.one;
    earlier = found.earlier;
    parts = ap (λ p. x ∷ p) found.parts;
    here = found.here;
    silent = (subst (λ (p : List X). says x p ≡ None) found.parts none, found.silent);
  }

  latest-at : (x : X) (past : List X) (y : Y) (o : Option Y) → says x past ≡ o
      → (latest says past ≡ Some y → Latest says past y)
      → option_or o (latest says past) ≡ Some y → Latest says (x ∷ past) y
  latest-at x past y (Some z) e more is = record {
    later = [];
    one = x;
    earlier = past;
    parts = refl;
    here = e ∙ is;
    silent = tt;
  }
  latest-at x past y None e more is = latest-later x past y e (more is)

  latest-of : (past : List X) (y : Y) → latest says past ≡ Some y → Latest says past y
  latest-of [] y is = absurd (cc is)
  latest-of (x ∷ past) y is = latest-at x past y (says x past) refl (latest-of past y) is

  pub latest-is : (past : List X) (y : Y) → Latest says past y ↔ (latest says past ≡ Some y)
  latest-is past y = (latest-said past y, latest-of past y)
