use Rattle.std.proofs.Common.{◌≡◌, ◌+◌, ◌-◌, arith}
use Rattle.std.proofs.lemmas.List.{drop-set}
use Rattle.tre_show.proofs.line.write_sign.Goals as goal

pub returns-clause-text : goal.returns-clause-text
returns-clause-text c =
    let e : c.args.end - 1 + 1 ≡ c.args.end = omega arith in
    rw (drop-set c.args.buffer.now (c.args.end - 1) _ (omega arith), e)
