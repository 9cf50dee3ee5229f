use Rattle.std.specs.Option.{is_some}
use Rattle.tre_vcd.specs.VcdReading.{is_signal, is_event}
use Rattle.tre_vcd.specs.Kept.{identifier_of, plain_of}
use Rattle.tre_vcd.proofs.Flagging.{flags-declared, flags-undeclared}
use Rattle.tre_vcd.proofs.Needing.{offers-found}
use Rattle.tre_vcd.proofs.found.Found.declare.Goals as goal

pub returns-clause-knows : goal.returns-clause-knows
returns-clause-knows c = λ past identifier tokens knows declares none.
    let found = c.args.self.now in
    record {
      names =
          flags-declared is_signal past identifier c.args.path.now tokens
          (plain_of found).names c.flag.new.flags.items declares
          ((rw c.deref.ensures at c.flag.ensures) (λ name. is_some (identifier_of is_signal past name)) knows.names);
      events =
          flags-undeclared is_event past tokens (plain_of found).events found.events.items
          none knows.events;
    }

pub returns-clause-offers : goal.returns-clause-offers
returns-clause-offers c = λ all past knows. offers-found all past c.args.self.now _ _ knows
