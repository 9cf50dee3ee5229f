use Rattle.std.proofs.lemmas.Result.{IfOk-weaker}
use Rattle.tre_zone.proofs.ZoneListLemmas.{AreCanonical-tight}
use Rattle.tre_tell.proofs.Printing.{printed_rising}
use Rattle.tre_tell.proofs.text.put_set.Goals as goal

pub returns-then-are_rising-clause-put : goal.returns-then-are_rising-clause-put
returns-then-are_rising-clause-put c =
    let zones = c.args.set.now in
    IfOk-weaker c.put_lines.result _ _
    (λ at lines. record {
      zones = zones;
      printed = printed_rising zones (c.are_rising.ensures c.if-are_rising.true) c.requires.set
          (AreCanonical-tight zones c.requires.set.canonical);
      is_text = lines;
    })
    c.put_lines.ensures.lines
