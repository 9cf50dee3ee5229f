use Rattle.std.proofs.Common.{refl}
use Rattle.std.proofs.lemmas.Result.{on_ok_weaker}
use Rattle.tre_vcd.specs.VcdReading.{scope, scopes_at}
use Rattle.tre_vcd.proofs.Pasts.{knows-later}
use Rattle.tre_vcd.proofs.past.Past.enter.Goals as goal

pub returns : goal.returns
returns c = λ names event_names past known.
    on_ok_weaker c.enter.result (λ are. knows-later names event_names c.args.self.now past
    (scope c.args.name.now) c.args.self.now.is_defined c.args.self.now.in_dump c.enter.new.self
    c.args.self.now.tick known.defined known.dump refl (record {
      identifiers = λ test name. refl;
      values = λ identifier. refl;
      events = λ identifier. refl;
    }) (λ e. e) known.brief are known.tick known)
    (c.enter.ensures (scopes_at past) known.scopes)
