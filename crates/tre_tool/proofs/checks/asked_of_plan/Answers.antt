use Rattle.std.proofs.Common.{codes, map, string_bytes}
use Rattle.tre_tool.proofs.Plans.{labelled_as, labels-count}
use Rattle.tre_tool.proofs.checks.asked_of_plan.Goals as goal

pub returns-clause-sought : goal.returns-clause-sought
returns-clause-sought c = labelled_as (map string_bytes c.in_ok-labels.labels.items) _
    c.args.plan.patterns.items (rw c.deref.ensures.value at c.in_ok-labels.ensures)

pub returns-clause-labels : goal.returns-clause-labels
returns-clause-labels c = labels-count c.in_ok-labels.labels.items (codes " ") c.args.plan.names
    c.args.plan.forms.items c.requires (rw c.deref.ensures.value at c.in_ok-labels.ensures)
