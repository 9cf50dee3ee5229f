use Rattle.std.proofs.Common.{◌≡◌, ◌+◌, length, length-append, ap, ◌∙◌, arith}
use Rattle.tre_vcd.specs.VcdReading.{path}
use Rattle.tre_vcd.proofs.Scoping.{is-less, path-prefix}
use Rattle.tre_vcd.proofs.scopes.Scopes.is_path_longer.Goals as goal

pub returns : goal.returns
returns c = λ scopes are longer.
    let reference = c.args.reference.now in
    let prefix = c.args.self.now.prefix in
    let long : length (path scopes reference) ≡ length prefix.items + length reference =
    ap length (path-prefix scopes prefix.items c.args.self.now.lens.items reference are)
    ∙ length-append prefix.items reference in
    let less = is-less c.args.most c.saturating_add.result longer in
    omega (arith, long, less, c.len.ensures, prefix.ok.0, c.saturating_add.ensures)
