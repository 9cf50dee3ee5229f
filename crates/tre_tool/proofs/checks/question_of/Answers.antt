use Rattle.std.proofs.Common.{[], ◌∙◌, map, string_bytes}
use Rattle.tre_tool.specs.Checks.{names_each}
use Rattle.tre_tool.proofs.Plans.{labelled_as, labels-count, names_alone}
use Rattle.tre_tool.proofs.checks.question_of.Goals as goal

pub returns-clause-sought : goal.returns-clause-sought
returns-clause-sought c = labelled_as (map string_bytes c.in_ok-labels.labels.items) _
    c.args.read.patterns.items ((rw c.deref.ensures.value at c.in_ok-labels.ensures)
    ∙ names_alone (names_each c.args.read.names c.args.read.forms.items))

pub returns-clause-labels : goal.returns-clause-labels
returns-clause-labels c = labels-count c.in_ok-labels.labels.items [] c.args.read.names
    c.args.read.forms.items c.requires (rw c.deref.ensures.value at c.in_ok-labels.ensures)
