use Rattle.std.proofs.Common.{◌≡◌, ◌<◌, ℕ, zero, suc, nat_eq, nat_lt, true, false, List, length, arith, if◌then◌else◌}
use Rattle.tre_watch.specs.declared.form.Form.TheVariants.{Never, Found}
use Rattle.tre_zone.specs.ZoneList.{AreTight, SetHolds}
use Rattle.tre_zone.specs.declared.zone_bounds.ZoneBounds.{ZoneBounds}
use Rattle.tre_judge.specs.Verdicts.{IsVerdict, Nothing}
use Rattle.tre_judge.specs.declared.verdict.Verdict.TheVariants.{Passed, Failed}
use Rattle.tre_judge.proofs.Deciding.{none_of, some_of}
use Rattle.tre_judge.proofs.judging.judge_alone.Goals as goal

other_test : (m n : ℕ) → m < n → nat_eq n m ≡ false
other_test m n e = grind (arith, e)

later_test : (m n : ℕ) → m < n → nat_lt m n ≡ true
later_test m n e = grind (arith, e)

never : (zones : List ZoneBounds) (count : ℕ) → AreTight zones → length zones ≡ count
    → IsVerdict Never (if nat_eq count 0 then Passed else Failed) (SetHolds zones) Nothing Nothing
never zones zero tight same = none_of zones same
never zones (suc count) tight same =
    rw (other_test 0 (suc count) (omega arith)) (some_of zones tight (omega (arith, same)))

found : (zones : List ZoneBounds) (count : ℕ) → AreTight zones → length zones ≡ count
    → IsVerdict Found (if nat_lt 0 count then Passed else Failed) (SetHolds zones) Nothing Nothing
found zones zero tight same = none_of zones same
found zones (suc count) tight same =
    rw (later_test 0 (suc count) (omega arith)) (some_of zones tight (omega (arith, same)))

pub returns-in-Never : goal.returns-in-Never
returns-in-Never c = λ zones tight same.
    rw (c.in-Never.is, c.passing.ensures) (never zones c.args.zones tight same)

pub returns-in-Found : goal.returns-in-Found
returns-in-Found c = λ zones tight same.
    rw (c.in-Found.is, c.passing-in-Found.ensures) (found zones c.args.zones tight same)
