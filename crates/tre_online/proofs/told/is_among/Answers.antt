use Rattle.tre_online.proofs.NewZones.{is_new}
use Rattle.tre_online.proofs.told.is_among.Goals as goal

pub returns : goal.returns
returns c =
    is_new c.args.earlier.now c.args.zone.now c.includes.result (
      (λ yes. record { included = c.includes.ensures.0 yes }),
      (λ told. c.includes.ensures.1 told.included),
    )
