use Rattle.std.proofs.Common.{◌≡◌, ◌∙◌, ◌<◌, List, length, get_or, refl, sym, ap, subst, arith, rules}
use Rattle.std.proofs.lemmas.List.{with_items_is}
use Rattle.tre_feed.specs.Each.{AllStand, LastsAre, all_asked}
use Rattle.tre_feed.specs.declared.each.Fed.{Fed}
use Rattle.tre_feed.proofs.Inputs.{IsAsked-same, KeepsViews-same}
use Rattle.tre_feed.specs.Shares.{group_of}
use Rattle.tre_feed.proofs.input.Input.clear.Goals as goal

pub returns-clause-fed : goal.returns-clause-fed
returns-clause-fed g c =
    let reader = g.R.TraceReader in
    let own = c.args.self.now.each in
    let cleared = c.clear_each.new.each in
    let same : length cleared ≡ own.len =
    omega (arith, c.clear_each.auto.each, c.deref_mut.ensures.len) in
    λ bytes were. record {
      all = were.all;
      stand = subst (λ (each : List (Fed g.row.R.Denot)).
          AllStand reader.terms reader.represents were.all bytes each)
          (sym (with_items_is own cleared same))
          (c.clear_each.ensures.fed were.all bytes
          (subst (λ (each : List (Fed g.row.R.Denot)).
          AllStand reader.terms reader.represents were.all bytes each)
          (sym c.deref_mut.ensures.value) were.stand));
    }

pub returns-clause-ended : goal.returns-clause-ended
returns-clause-ended g c =
    let reader = g.R.TraceReader in
    let own = c.args.self.now.each in
    let cleared = c.clear_each.new.each in
    let same : length cleared ≡ own.len =
    omega (arith, c.clear_each.auto.each, c.deref_mut.ensures.len) in
    λ last ended. record {
      lasts = subst (λ (each : List (Fed g.row.R.Denot)). LastsAre reader.names each last)
          (sym (with_items_is own cleared same))
          (c.clear_each.ensures.lasts last
          (subst (λ (each : List (Fed g.row.R.Denot)). LastsAre reader.names each last)
          (sym c.deref_mut.ensures.value) ended.lasts));
    }

pub returns-clause-same : goal.returns-clause-same
returns-clause-same g c =
    let reader = g.R.TraceReader in
    let own = c.args.self.now.each in
    let cleared = c.clear_each.new.each in
    let same : length cleared ≡ own.len =
    omega (arith, c.clear_each.auto.each, c.deref_mut.ensures.len) in
    let asked = λ (each : List (Fed g.row.R.Denot)). all_asked reader.names reader.terms each in
    IsAsked-same reader.names reader.terms reader.recording c.args.self.now _
    (ap asked (with_items_is own cleared same)
    ∙ (c.clear_each.ensures.same ∙ ap asked c.deref_mut.ensures.value)) refl refl

pub returns-clause-views : goal.returns-clause-views
returns-clause-views g c =
    let reader = g.R.TraceReader in
    let own = c.args.self.now.each in
    let cleared = c.clear_each.new.each in
    let same : length cleared ≡ own.len =
    omega (arith, c.clear_each.auto.each, c.deref_mut.ensures.len) in
    let asked = λ (each : List (Fed g.row.R.Denot)). all_asked reader.names reader.terms each in
    KeepsViews-same reader.names reader.terms c.args.self.now _
    (ap asked (with_items_is own cleared same)
    ∙ (c.clear_each.ensures.same ∙ ap asked c.deref_mut.ensures.value)) refl

pub invariant_of-self : goal.invariant_of-self
invariant_of-self g c =
    let own = c.args.self.now in
    let cleared = c.clear_each.new.each in
    let same : length cleared ≡ own.each.len =
    omega (arith, c.clear_each.auto.each, c.deref_mut.ensures.len) in
    let count = ap length (with_items_is own.each cleared same) ∙ c.clear_each.auto.each
    ∙ ap length c.deref_mut.ensures.value in
    record {
      bounded = own.bounded;
      size = own.size;
      some = subst (λ n. 0 < n) (sym count) own.some;
      within = λ k d below. subst (λ n. group_of (get_or own.views.items k d) < n) (sym count)
          (own.within k d below);
    }

pub returns-clause-none : goal.returns-clause-none
returns-clause-none g c =
    search (rules, with_items_is, c.args.self.now.each, c.clear_each.new.each)
