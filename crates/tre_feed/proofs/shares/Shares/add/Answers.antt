use Rattle.std.proofs.Common.{[], ◌∷◌, length-append, arith}
use Rattle.tre_syntax.specs.Pattern.{names_of}
use Rattle.tre_feed.proofs.Sharing.{views-kept, views-push}
use Rattle.tre_feed.proofs.shares.Shares.add.Goals as goal

pub returns : goal.returns
returns c asked are =
    let old = c.args.self.now in
    let groups = c.view_for.new.groups.items in
    let names = names_of c.args.pattern.now in
    let told = c.in_ok-view.ensures in
    record {
      each = rw c.in_ok-put_last.ensures
          (views-push groups asked old.views.items names c.in_ok-view.view
          (views-kept old.groups.items groups asked old.views.items told.keep are.each) told.view);
      few = omega (arith, are.few, told.count, length-append asked (names ∷ []));
    }
