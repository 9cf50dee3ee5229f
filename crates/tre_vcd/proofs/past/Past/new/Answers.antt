use Rattle.std.proofs.Common.{refl}
use Rattle.tre_vcd.proofs.Pasts.{knows-begins}
use Rattle.tre_vcd.proofs.past.Past.new.Goals as goal

pub returns : goal.returns
returns c = λ names event_names. knows-begins names event_names _ refl refl refl c.new.ensures refl (c.new-2.ensures names)
    (c.new-3.ensures event_names) refl refl
