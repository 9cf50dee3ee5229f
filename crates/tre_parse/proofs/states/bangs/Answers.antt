use Rattle.std.proofs.Common.{◌≡◌, ◌-◌, List, ◌++◌, length, replicate, ap, arith}
use Rattle.tre_parse.specs.declared.token.Token.{Token}
use Rattle.tre_parse.specs.declared.token.Token.TheVariants.{Bang}
use Rattle.tre_parse.proofs.states.bangs.Goals as goal

bang_none : (all : List Token) → all ≡ replicate (length all - length all) Bang ++ all
bang_none all = let none : 0 ≡ length all - length all = omega arith in
    ap (λ n. replicate n Bang ++ all) none

pub loop-init : goal.loop-init
loop-init c = record { bangs = bang_none _; shorter = omega arith }
