use Rattle.std.proofs.Common.{rules}
use Rattle.std.proofs.lemmas.Result.{on_ok_weaker}
use Rattle.tre_show.proofs.Parenthesised.{put_joined, put_two}
use Rattle.tre_show.proofs.state.+push_state_operand.Goals as goal

pub returns-in_ok-push_state_operand-in-And-2 : goal.returns-in_ok-push_state_operand-in-And-2
returns-in_ok-push_state_operand-in-And-2 t c =
    search (rules, on_ok_weaker, put_joined, c.in_ok-push_state_operand-in-And.ensures)

pub returns-in_ok-push_state_operand-in-Or-2 : goal.returns-in_ok-push_state_operand-in-Or-2
returns-in_ok-push_state_operand-in-Or-2 t c =
    search (rules, on_ok_weaker, put_joined, c.in_ok-push_state_operand-in-Or.ensures)

pub returns-in_ok-push_text-in-Not : goal.returns-in_ok-push_text-in-Not
returns-in_ok-push_text-in-Not t c =
    on_ok_weaker c.push_state_operand.result
    (λ closed. rw (c.in-Not.is, ← c.deref.ensures)
    (put_two _ _ _ _ _ c.in_ok-push_text-in-Not.ensures closed))
    c.push_state_operand.ensures
