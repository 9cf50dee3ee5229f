use Rattle.std.proofs.Common.{◌≡◌, drop}
use Rattle.tre_parse.specs.Lexeme.{first_sign}
use Rattle.tre_parse.proofs.lexeme.first_sign.Given as goal

abbrev pub invariant-loop-spelling : goal.invariant-loop-spelling
invariant-loop-spelling l =
    first_sign (λ sign. sign.0.now) (λ sign. sign.1) (drop l.spelling-index l.signs) l.rest
    ≡ first_sign (λ sign. sign.0.now) (λ sign. sign.1) l.signs l.rest
