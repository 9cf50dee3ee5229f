use Rattle.std.proofs.Common.{◌≡◌, ◌∙◌, ◌<◌, List, length, get_or, refl, sym, ap, subst, arith, rules}
use Rattle.std.proofs.lemmas.List.{with_items_is}
use Rattle.tre_feed.specs.Each.{all_asked}
use Rattle.tre_feed.specs.declared.each.Fed.{Fed}
use Rattle.tre_feed.proofs.Inputs.{IsAsked-same, KeepsViews-same}
use Rattle.tre_feed.specs.Shares.{group_of}
use Rattle.tre_feed.proofs.input.Input.next.Goals as goal

pub returns-clause-same : goal.returns-clause-same
returns-clause-same g c =
    let reader = g.R.TraceReader in
    let own = c.args.self.now.each in
    let fed = c.feed_next.new.each in
    let same : length fed ≡ own.len =
    omega (arith, c.feed_next.auto.each, c.deref_mut-2.ensures.len) in
    let asked = λ (each : List (Fed g.row.R.Denot)). all_asked reader.names reader.terms each in
    IsAsked-same reader.names reader.terms reader.recording c.args.self.now _
    (ap asked (with_items_is own fed same)
    ∙ (c.feed_next.ensures.same ∙ ap asked c.deref_mut-2.ensures.value)) refl refl

pub returns-clause-views : goal.returns-clause-views
returns-clause-views g c =
    let reader = g.R.TraceReader in
    let own = c.args.self.now.each in
    let fed = c.feed_next.new.each in
    let same : length fed ≡ own.len =
    omega (arith, c.feed_next.auto.each, c.deref_mut-2.ensures.len) in
    let asked = λ (each : List (Fed g.row.R.Denot)). all_asked reader.names reader.terms each in
    KeepsViews-same reader.names reader.terms c.args.self.now _
    (ap asked (with_items_is own fed same)
    ∙ (c.feed_next.ensures.same ∙ ap asked c.deref_mut-2.ensures.value)) refl

pub returns-clause-ends : goal.returns-clause-ends
returns-clause-ends g c =
    let own = c.args.self.now.each in
    let fed = c.feed_next.new.each in
    let same : length fed ≡ own.len =
    omega (arith, c.feed_next.auto.each, c.deref_mut-2.ensures.len) in
    rw (with_items_is own fed same) (rw c.deref_mut-2.ensures.value at c.feed_next.ensures.ends)

pub returns-clause-source : goal.returns-clause-source
returns-clause-source g c = c.feed_next.ensures.source

pub invariant_of-self : goal.invariant_of-self
invariant_of-self g c =
    let own = c.args.self.now in
    let buffer = c.feed_next.new.buffer in
    let fed = c.feed_next.new.each in
    let same_buffer : length buffer ≡ own.buffer.len =
    omega (arith, c.feed_next.ensures.length, c.deref_mut.ensures.len) in
    let same : length fed ≡ own.each.len =
    omega (arith, c.feed_next.auto.each, c.deref_mut-2.ensures.len) in
    let count = ap length (with_items_is own.each fed same) ∙ c.feed_next.auto.each
    ∙ ap length c.deref_mut-2.ensures.value in
    record {
      bounded = own.bounded;
      size = ap length (with_items_is own.buffer buffer same_buffer) ∙ c.feed_next.ensures.length
          ∙ ap length c.deref_mut.ensures.value ∙ own.size;
      some = subst (λ n. 0 < n) (sym count) own.some;
      within = λ k d below. subst (λ n. group_of (get_or own.views.items k d) < n) (sym count)
          (own.within k d below);
    }

pub feed_next-requires-clause-fits : goal.feed_next-requires-clause-fits
feed_next-requires-clause-fits g c = c.args.self.now.bounded
