use Rattle.std.proofs.Common.{◌≡◌, ◌+◌, ◌≤◌, refl, arith}
use Rattle.tre_pairs.specs.declared.TheConstants.{TIME_MAX}
use Rattle.tre_text.proofs.Opened.{blank-adds, entered-adds, entered-fits}
use Rattle.tre_text.proofs.open_line.OpenLine.end.Goals as goal

pub returns-then-self-eq0 : goal.returns-then-self-eq0
returns-then-self-eq0 c = λ names events fields scale past distinct knows opened.
    blank-adds names events scale past c.args.self c.args.known.now fields knows c.if-self-eq0.true
    opened _

pub returns-in-Ok : goal.returns-in-Ok
returns-in-Ok c = λ names events fields scale past distinct knows opened.
    let known = c.args.known.now in
    let line = c.args.self in
    let fits : known.end + line.len ≤ TIME_MAX =
    entered-fits names events scale past line known fields knows c.if-self-eq0.false opened in
    let exact : c.saturating_add-known.result ≡ known.end + line.len =
    omega (arith, c.saturating_add-known.ensures, fits) in
    rw c.in-Ok.ensures.items
    (entered-adds names events scale past line known fields knows c.if-self-eq0.false opened
    distinct (record { end = c.saturating_add-known.result; pending = 0 }) exact refl
    c.args.segments.now.items)
