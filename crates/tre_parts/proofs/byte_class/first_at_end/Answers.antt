use Rattle.std.proofs.Common.{◌≡◌, ◌+◌, ◌-◌, ◌≤◌, length, subst, arith}
use Rattle.tre_parts.specs.Bytes.{NoneBetween}
use Rattle.tre_parts.proofs.Lanes.{first_found, none_found, none_joined, next_after}
use Rattle.tre_parts.proofs.byte_class.first_at_end.Goals as goal

pub returns-then-found-eq0-clause-none : goal.returns-then-found-eq0-clause-none
returns-then-found-eq0-clause-none g c =
    let bytes = c.args.bytes.now in
    let has = g.C.ByteClass.has in
    let place = c.args.place in
    let start = length bytes - 16 in
    let room : start + 16 ≤ length bytes = omega (arith, c.requires.long) in
    let at : place ≡ start + (place - start) = omega (arith, c.requires.short) in
    let end : start + 16 ≡ length bytes = omega (arith, c.requires.long) in
    none_joined has bytes c.args.from place (length bytes) c.requires.before
    (subst (λ n. NoneBetween has bytes place n) end
    (none_found has bytes start c.among-all.result room c.among-all.ensures (place - start) place at
    c.if-found-eq0.true))

pub returns-clause-first : goal.returns-clause-first
returns-clause-first g c =
    let bytes = c.args.bytes.now in
    let has = g.C.ByteClass.has in
    let place = c.args.place in
    let start = length bytes - 16 in
    let room : start + 16 ≤ length bytes = omega (arith, c.requires.long) in
    let at : place ≡ start + (place - start) = omega (arith, c.requires.short) in
    next_after has bytes c.args.from place _ c.requires.behind c.requires.before
    (first_found has bytes start c.among-all.result room c.among-all.ensures (place - start) place at
    c.if-found-eq0.false c.among-all.type_inv)
