use Rattle.std.proofs.Common.{List, ℕ, ◌++◌, codes, ap, sym}
use Rattle.tre_tell.specs.Blocks.{lines_with}
use Rattle.tre_answer.specs.Findings.{verdict_line}
use Rattle.tre_answer.specs.Listed.{listed_zones}
use Rattle.tre_answer.proofs.TextPieces.{EndsPutting-last}
use Rattle.tre_answer.proofs.verdicts.put_check.Goals as goal

pub returns : goal.returns
returns g c =
    let checked = c.args.checked.now in
    EndsPutting-last _ _ _ _ _ c.in_ok-put_verdict.ensures _
    (ap (λ (name : List ℕ). verdict_line checked.verdict name
    ++ lines_with c.args.scale (name ++ codes " ") (listed_zones checked.zones))
    (sym c.as_str-name.ensures.value)) c.put_zones.result c.put_zones.ensures
