use Rattle.std.proofs.Common.{◌≡◌, ◌||◌, Bool, map}
use Rattle.tre_define.specs.Signals.{SignalDefined}
use Rattle.tre_vcd.specs.Offers.{reads_first}
use Rattle.tre_vcd.proofs.Offering.{flagged}
use Rattle.tre_vcd.proofs.found.flag_tests.Given as goal

-- those so far are flagged
abbrev pub invariant-loop-place : goal.invariant-loop-place
invariant-loop-place l = (test : SignalDefined → Bool)
    → l.fn.flags ≡ map test l.definitions
    → l.flags ≡ flagged l.place test (λ one. test one
    || reads_first one l.offered.full_name.items l.offered.size) l.definitions
