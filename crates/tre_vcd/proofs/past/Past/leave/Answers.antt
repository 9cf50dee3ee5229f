use Rattle.std.proofs.Common.{refl}
use Rattle.tre_vcd.specs.VcdReading.{upscope, scopes_at}
use Rattle.tre_vcd.proofs.Pasts.{knows-later}
use Rattle.tre_vcd.proofs.past.Past.leave.Goals as goal

pub returns : goal.returns
returns c = λ names event_names past known.
    let kept = c.args.self.now in
    knows-later names event_names kept past upscope kept.is_defined kept.in_dump c.leave.new.self
    kept.tick known.defined known.dump refl (record {
      identifiers = λ test name. refl;
      values = λ identifier. refl;
      events = λ identifier. refl;
    }) (λ e. e) known.brief (c.leave.ensures (scopes_at past) known.scopes) known.tick known
