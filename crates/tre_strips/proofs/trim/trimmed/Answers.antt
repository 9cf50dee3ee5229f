use Rattle.std.proofs.lemmas.Result.{IfOk-weaker}
use Rattle.tre_zoneset.proofs.Thinning.{SetHolds-permutation}
use Rattle.tre_strips.proofs.trim.trimmed.Goals as goal

pub returns-clause-held : goal.returns-clause-held
returns-clause-held c =
    let order = rw c.in_ok-sorted.ensures.items at c.sort_unstable_by_key.ensures.permutation in
    IfOk-weaker c.each_trimmed-2.result _ _
    (λ kept told.
    let held = rw c.deref.ensures.value at told in
    record {
      exact = λ a b n some le.
          let own = held.exact a b n some le in
          let both = SetHolds-permutation _ _ a b n order in
          ((λ h. both.0 (own.0 h)), (λ h. own.1 (both.1 h)));
    })
    c.each_trimmed-2.ensures.held
