use Rattle.std.proofs.Common.{◌∙◌, subst}
use Rattle.std.proofs.lemmas.Result.{on_ok_weaker}
use Rattle.tre_node.specs.Outer.{JoinsAll}
use Rattle.tre_node.proofs.Joins.{joins_none, joins_again, behind_place}
use Rattle.tre_node.proofs.joining.put_again.Goals as goal

pub returns-then-old-eq0 : goal.returns-then-old-eq0
returns-then-old-eq0 c = joins_none c.args.outer.now.items

pub returns : goal.returns
returns c =
    on_ok_weaker c.put_all_near.result
    (λ h. joins_again c.args.outer.now.items c.deref-2.result.now
    c.put_all_near.new.outer.items c.args.old
    (c.deref-2.ensures.value
    ∙ behind_place c.clear.new.self.items c.args.outer.now.items c.deref.result.now
    c.put_behind.new.found.items c.args.old c.clear.ensures.items c.deref.ensures.value
    c.in_ok-put_behind.ensures)
    (subst (λ list. JoinsAll list c.deref-2.result.now c.put_all_near.new.outer.items)
    c.truncate.ensures.items h)) c.put_all_near.ensures
