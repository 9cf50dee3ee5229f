use Rattle.std.proofs.Common.{◌++◌, ◌∷◌, [], map, take, refl, subst, rules}
use Rattle.std.proofs.lemmas.List.{take_all}
use Rattle.tre_syntax.specs.Pattern.{names_of}
use Rattle.tre_feed.specs.Shares.{AreShared}
use Rattle.tre_feed.proofs.Seeing.{mapped-next}
use Rattle.tre_feed.proofs.shares.share.Goals as goal

pub loop-pattern-preserved : goal.loop-pattern-preserved
loop-pattern-preserved c =
    let patterns = c.args.patterns.now in
    let index = c.loop-pattern.pattern-index in
    let so_far = map names_of (take index patterns) in
    let one = names_of c.pattern-item.result in
    subst (λ asked. AreShared asked c.add.new.self)
    (mapped-next names_of patterns index c.pattern-item.result so_far (so_far ++ one ∷ []) one refl
    c.loop-pattern-test.true c.pattern-item.is refl refl)
    (c.in_ok-add.ensures so_far c.loop-pattern.invariant)

pub returns : goal.returns
returns c = search (rules, names_of, take_all, c.loop-pattern.pattern-index, c.args.patterns.now)
