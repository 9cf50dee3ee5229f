use Rattle.std.proofs.Common.{◌≡◌, [], length, drop, arith}
use Rattle.std.proofs.lemmas.Bool.Decides.{nat_tests}
use Rattle.std.proofs.lemmas.List.{nil_from_length}
use Rattle.tre_parts.proofs.Cuts.{take-rest}
use Rattle.tre_parts.proofs.Skimming.{fed-none, fed-skimmed}
use Rattle.tre_parts.proofs.walk.Walk.skim.Goals as goal

pub returns-then-not-is_empty-clause-fed : goal.returns-then-not-is_empty-clause-fed
returns-then-not-is_empty-clause-fed g c = fed-none _ _ _ _ _ _ _ _ _

pub returns-clause-fed : goal.returns-clause-fed
returns-clause-fed g c =
    let front = c.first_bytes.result.now in
    let bytes = c.args.bytes.now in
    let empty : c.args.self.now.part.items ≡ [] = nil_from_length _ (grind (arith, nat_tests, c.is_empty.ensures, c.if-not-is_empty.false)) in
    rw (take-rest c.skim-read.result.bytes bytes, empty)
    (fed-skimmed _ _ _ _ _ _ _ _ _ _ bytes front (drop (length front) bytes) c.skim-read.result
    c.first_bytes.ensures.cut c.skim-read.ensures.within c.skim-read.ensures.same_terms
    c.skim-read.ensures.same_names c.skim-read.ensures.skims c.behind-self.ensures)
