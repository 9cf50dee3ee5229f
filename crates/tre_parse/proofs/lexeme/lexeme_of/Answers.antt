use Rattle.std.proofs.Common.{length, sym, subst}
use Rattle.tre_parse.specs.Lexeme.{FitsIn}
use Rattle.tre_parse.proofs.Fronts.{sign_fits}
use Rattle.tre_parse.proofs.lexeme.lexeme_of.Goals as goal

pub returns-clause-fits : goal.returns-clause-fits
returns-clause-fits c =
    let rest = c.args.rest.now in
    subst (FitsIn (length rest)) (sym c.first_sign.ensures) (sign_fits rest c.requires)
