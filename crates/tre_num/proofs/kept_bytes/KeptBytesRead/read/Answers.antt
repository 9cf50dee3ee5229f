use Rattle.std.proofs.Common.{◌≡◌, Ok, Err}
use Rattle.tre_num.proofs.kept_bytes.KeptBytesRead.read.Goals as goal

-- reading bytes in memory never fails
no-err : {T E : Type 0} (e : E) (n : T) → Err e ≡ Ok n → ⊥
no-err e n same = cc

pub returns-in_err-count-in-Some-clause-bound : goal.returns-in_err-count-in-Some-clause-bound
returns-in_err-count-in-Some-clause-bound c =
    absurd (no-err _ _ c.in_err-count-in-Some.ensures.count)

pub returns-in_err-count-in-Some-clause-bytes : goal.returns-in_err-count-in-Some-clause-bytes
returns-in_err-count-in-Some-clause-bytes c =
    absurd (no-err _ _ c.in_err-count-in-Some.ensures.count)

pub returns-in_err-count-in-Some-clause-never_fails :
    goal.returns-in_err-count-in-Some-clause-never_fails
returns-in_err-count-in-Some-clause-never_fails c =
    absurd (no-err _ _ c.in_err-count-in-Some.ensures.count)
