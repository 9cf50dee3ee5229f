use Rattle.std.specs.Global.{Vec}
use Rattle.std.proofs.Common.{◌≡◌, ◌∷◌, ℕ, false, map, refl, sym, ap, ◌∙◌, subst}
use Rattle.std.proofs.lemmas.Result.{on_ok_weaker}
use Rattle.tre_vcd.specs.VcdReading.{var, is_defined}
use Rattle.tre_vcd.specs.Kept.{plain_by}
use Rattle.tre_vcd.specs.Offers.{KnowsOffers}
use Rattle.tre_vcd.proofs.Needing.{within-same}
use Rattle.tre_vcd.proofs.Undefined.{offers-empty, signals-undefined}
use Rattle.tre_vcd.proofs.Declarations.{knows-moved, quiet-before, signals-moved}
use Rattle.tre_vcd.proofs.token_reader.TokenReader.declare_all.Goals as goal

pub returns-then-is_empty-clause-knows : goal.returns-then-is_empty-clause-knows
returns-then-is_empty-clause-knows c = λ past word tokens holds.
    let reader = c.args.self.now in
    let after = c.declare.new.self in
    let declared = c.in_ok-declare.ensures.knows past word tokens holds in
    let empty = sym c.is_empty.ensures ∙ c.if-is_empty.true in
    let signals = c.declare.ensures.same_signals.0 in
    record {
      past = declared.0;
      needed = declared.1;
      signals = signals-undefined after.names after.events after.signals past _ empty
          (signals-moved reader.names after.names reader.events after.events reader.signals
          after.signals past (ap (λ own. own.names) c.declare.ensures.same_names)
          (ap (λ own. own.events) c.declare.ensures.same_names) signals holds.knows.signals);
      offers = offers-empty after.signals.definitions.items past _ after.needed empty
          (subst (λ own. KnowsOffers own.definitions.items past after.needed) (sym signals)
          (c.declare.ensures.offers reader.signals.definitions.items past holds.knows.offers));
      within = within-same _ _ _ _ c.declare.ensures.same_longest c.declare.ensures.same_names
          holds.knows.within;
      needed_within = within-same _ _ _ _ c.declare.ensures.same_longest
          (ap (λ needed. plain_by needed.value) c.declare.ensures.same_needed) holds.knows.needed_within;
    }

pub returns-clause-knows : goal.returns-clause-knows
returns-clause-knows c = λ past word tokens holds.
    let reader = c.args.self.now in
    let after = c.declare.new.self in
    let last = c.declare_offered.new.self in
    let declared = c.in_ok-declare.ensures.knows past word tokens holds in
    let signals = c.declare.ensures.same_signals.0 in
    let kept = c.declare_offered.ensures.same_past in
    let before : is_defined past ≡ false = holds.suits in
    let offered =
    c.declare_offered.ensures.knows past tokens (quiet-before past tokens (declared.0.quiet before))
    before declared.0.scopes (ap (λ (own : Vec (Vec ℕ)). map (λ token. token.items) own.items)
    c.declare.ensures.same_signals.1
    ∙ holds.tokens)
    (signals-moved reader.names after.names reader.events after.events reader.signals
    after.signals past (ap (λ own. own.names) c.declare.ensures.same_names)
    (ap (λ own. own.events) c.declare.ensures.same_names) signals holds.knows.signals)
    (subst (λ own. KnowsOffers own.definitions.items past after.needed) (sym signals)
    (c.declare.ensures.offers reader.signals.definitions.items past holds.knows.offers)) in
    let names = c.declare_offered.ensures.same_names in
    on_ok_weaker c.declare_offered.result (λ both. record {
      past = knows-moved after.names last.names after.events last.events after.past last.past _
          (ap (λ own. own.names) names) (ap (λ own. own.events) names) kept.0 declared.0;
      needed = c.declare_offered.ensures.needed (var tokens ∷ past) declared.1;
      signals = signals-moved after.names last.names after.events last.events last.signals
          last.signals _ (ap (λ own. own.names) names) (ap (λ own. own.events) names) refl
          both.0;
      offers = subst (λ all. KnowsOffers all (var tokens ∷ past) last.needed)
          (sym (ap (λ terms. terms.definitions) c.declare_offered.ensures.same_terms)) both.1;
      within = within-same _ _ _ _ (kept.1 ∙ c.declare.ensures.same_longest)
          (names ∙ c.declare.ensures.same_names) holds.knows.within;
      needed_within = within-same _ _ _ _ (kept.1 ∙ c.declare.ensures.same_longest)
          (ap (λ needed. plain_by needed.value) (c.declare_offered.ensures.same_needed ∙ c.declare.ensures.same_needed))
          holds.knows.needed_within;
    }) offered
