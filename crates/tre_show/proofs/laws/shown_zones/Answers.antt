use Rattle.tre_show.proofs.Shown.{shown_holds, shown_tight}
use Rattle.tre_show.proofs.laws.shown_zones.Goals as goal

pub returns : goal.returns
returns c = record { holds = shown_holds; tight = shown_tight }
