use Rattle.std.proofs.lemmas.Result.{on_ok_weaker}
use Rattle.tre_vcd.proofs.pairs.Paired.say.Goals as goal

pub returns-clause-knows : goal.returns-clause-knows
returns-clause-knows c = λ past form knows.
    on_ok_weaker c.say-2.result (λ other. record {
      one = c.in_ok-say.ensures.knows past form _ knows.one;
      other = other;
    }) (c.say-2.ensures.knows past form _ knows.other)
