use Rattle.std.proofs.Common.{false, refl}
use Rattle.tre_vcd.specs.VcdReading.{dump_end}
use Rattle.tre_vcd.proofs.Pasts.{knows-later}
use Rattle.tre_vcd.proofs.past.Past.close_dump.Goals as goal

pub returns : goal.returns
returns c = λ names event_names past known.
    let kept = c.args.self.now in
    knows-later names event_names kept past dump_end kept.is_defined false kept.scopes kept.tick known.defined refl refl
    (record {
      identifiers = λ test name. refl;
      values = λ identifier. refl;
      events = λ identifier. refl;
    }) (λ e. e) known.brief known.scopes known.tick known
