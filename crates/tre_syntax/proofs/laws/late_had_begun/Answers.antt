use Rattle.tre_syntax.proofs.Late.{late, had}
use Rattle.tre_syntax.proofs.laws.late_had_begun.Goals as goal

pub returns : goal.returns
returns c = record {
  matched = λ tree cut a b n long some h. late cut long tree a b n some h;
  begun = λ tree cut a b n long some early h. had cut long tree a b n some early h;
}
