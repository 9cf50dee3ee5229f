-- What is told and what is left, each with its own property.
use Rattle.std.proofs.Common.{◌≡◌, List, Result, Ok, Err, IfOk}
use Rattle.std.proofs.lemmas.Result.{IfOk-at_ok}
use Rattle.tre_zone.specs.declared.zone_bounds.ZoneBounds.{ZoneBounds}
use Rattle.tre_residual.specs.declared.residual.Residual.{Residual}
use Rattle.tre_derive.specs.declared.stepped.Stepped.{Stepped}

-- What is made of two parts, each of which has a property, has what follows from both.
pub both_parts : {E : Type 0} (whole : Result Stepped E) (told : Result (List ZoneBounds) E)
    (rest : Result Residual E) (P : List ZoneBounds → Type 0) (Q : Residual → Type 0)
    (S : Stepped → Type 0)
    → ((s : Stepped) → P s.told → Q s.rest → S s)
    → IfOk whole (λ s. told ≡ Ok s.told) → IfOk whole (λ s. rest ≡ Ok s.rest)
    → IfOk told P → IfOk rest Q → IfOk whole S
both_parts (Ok s) told rest P Q S law is_told is_rest p q =
    law s (IfOk-at_ok P is_told p) (IfOk-at_ok Q is_rest q)
both_parts (Err e) told rest P Q S law is_told is_rest p q = tt
