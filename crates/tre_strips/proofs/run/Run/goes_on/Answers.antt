use Rattle.std.proofs.Common.{◌≡◌, ℕ, ◌<◌, List, subst, rules}
use Rattle.tre_strips.specs.Found.{AreSamePlaces}
use Rattle.tre_strips.specs.Times.{sample_of}
use Rattle.tre_strips.specs.declared.bar.Bar.{Bar}
use Rattle.tre_strips.specs.declared.times.Times.{Times}
use Rattle.tre_strips.proofs.Comparing.{sample_many}
use Rattle.tre_strips.proofs.Unique.{same_list}
use Rattle.tre_strips.proofs.Fitting.{AreSamePlaces-itself}
use Rattle.tre_strips.proofs.run.Run.goes_on.Goals as goal

same_at : (times : Times) (bars others : List Bar) → times.from < times.until
    → AreSamePlaces bars others (sample_of times) 2 → bars ≡ others
same_at times bars others less same =
    same_list bars others times.from
    (subst (λ (s : ℕ). AreSamePlaces bars others s 2) (sample_many times less) same)

alike_at : (times : Times) (bars others : List Bar) → bars ≡ others
    → AreSamePlaces bars others (sample_of times) 2
alike_at times bars others e =
    subst (λ (l : List Bar). AreSamePlaces bars l (sample_of times) 2) e
    (AreSamePlaces-itself bars (sample_of times) 2)

pub returns-then-are_alike : goal.returns-then-are_alike
returns-then-are_alike c =
    search (rules, same_at, c.are_alike.ensures, c.are_same_at.ensures, c.args.self.now.bars.items)

pub returns-else-are_alike : goal.returns-else-are_alike
returns-else-are_alike c =
    search (rules, alike_at, c.are_alike.ensures, c.args.column.now.behind.items)
