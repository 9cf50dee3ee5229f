use Rattle.std.proofs.Common.{rules}
use Rattle.std.proofs.lemmas.Result.{on_ok_weaker}
use Rattle.tre_show.proofs.Parenthesised.{put_joined, put_three, put_two}
use Rattle.tre_show.proofs.pattern.+push_operand.Goals as goal

pub returns-in_ok-push_operand-in-Seq-2-clause-text :
    goal.returns-in_ok-push_operand-in-Seq-2-clause-text
returns-in_ok-push_operand-in-Seq-2-clause-text t c =
    search (rules, on_ok_weaker, put_joined, c.in_ok-push_operand-in-Seq.ensures.text)

pub returns-in_ok-push_operand-in-Meet-2-clause-text :
    goal.returns-in_ok-push_operand-in-Meet-2-clause-text
returns-in_ok-push_operand-in-Meet-2-clause-text t c =
    search (rules, on_ok_weaker, put_joined, c.in_ok-push_operand-in-Meet.ensures.text)

pub returns-in_ok-push_operand-in-Alt-2-clause-text :
    goal.returns-in_ok-push_operand-in-Alt-2-clause-text
returns-in_ok-push_operand-in-Alt-2-clause-text t c =
    search (rules, on_ok_weaker, put_joined, c.in_ok-push_operand-in-Alt.ensures.text)

pub returns-in_ok-push_operand-in-Star-clause-text :
    goal.returns-in_ok-push_operand-in-Star-clause-text
returns-in_ok-push_operand-in-Star-clause-text t c =
    search (rules, on_ok_weaker, put_two, c.in_ok-push_operand-in-Star.ensures.text)

pub returns-in_ok-push_operand-in-Within-clause-text :
    goal.returns-in_ok-push_operand-in-Within-clause-text
returns-in_ok-push_operand-in-Within-clause-text t c =
    search (rules, on_ok_weaker, put_three, c.in_ok-push_operand-in-Within.ensures.text)
