use Rattle.tre_syntax.proofs.Repeating.{repetition_steps, repetition_nested}
use Rattle.tre_syntax.proofs.laws.repeating.Goals as goal

pub returns : goal.returns
returns c = record { steps = repetition_steps; nested = repetition_nested }
