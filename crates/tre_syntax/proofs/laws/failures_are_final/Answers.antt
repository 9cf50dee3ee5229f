use Rattle.tre_syntax.proofs.Late.{same_before, led_before}
use Rattle.tre_syntax.proofs.laws.failures_are_final.Goals as goal

pub returns : goal.returns
returns c = record {
  same = λ tree cut a b n long some le within h. same_before cut long tree a b n some le within h;
  follows = λ tree cut b n long some within h. led_before cut long tree b n some within h;
}
