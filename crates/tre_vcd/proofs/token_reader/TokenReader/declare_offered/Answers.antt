use Rattle.std.proofs.Common.{◌≡◌, ◌∷◌, Some, None, map, sym, ap, subst, ◌∙◌}
use Rattle.std.specs.Option.{option_map}
use Rattle.std.proofs.lemmas.Result.{on_ok_weaker}
use Rattle.tre_vcd.specs.VcdReading.{var, scopes_at, offer_in}
use Rattle.tre_vcd.specs.Needs.{needs}
use Rattle.tre_vcd.specs.Signals.{offer_kept}
use Rattle.tre_vcd.specs.Unread.{AreUnread}
use Rattle.tre_vcd.proofs.Declarations.{offer-six}
use Rattle.tre_vcd.proofs.Needing.{same-terms}
use Rattle.tre_vcd.proofs.Standing.{stays-unoffered}
use Rattle.tre_vcd.proofs.Staying.{offers-stay, signals-stay}
use Rattle.tre_vcd.proofs.Unread.{offers-unread, signals-unread}
use Rattle.tre_vcd.proofs.token_reader.TokenReader.declare_offered.Goals as goal

pub returns-in_default-clause-knows : goal.returns-in_default-clause-knows
returns-in_default-clause-knows c = λ past tokens quiet before scopes kept knows offers.
    let reader = c.args.self.now in
    let none : offer_in (scopes_at past) tokens ≡ None =
    sym (offer-six (scopes_at past) tokens)
    ∙ ap (offer_in (scopes_at past)) (sym (ap (map _) c.deref.ensures.value ∙ kept))
    ∙ sym (c.in_ok-offered.ensures (scopes_at past) scopes)
    ∙ ap (option_map offer_kept) c.in_default.is in
    let stays = stays-unoffered past tokens none in (
      signals-stay past (var tokens ∷ past) reader.names reader.events reader.signals stays knows,
      offers-stay reader.signals.definitions.items past (var tokens ∷ past) reader.needed
          stays.reads offers,
    )

pub returns-then-not-may_read-clause-knows : goal.returns-then-not-may_read-clause-knows
returns-then-not-may_read-clause-knows c = λ past tokens quiet before scopes kept knows offers.
    let reader = c.args.self.now in
    let all = reader.signals.definitions.items in
    let offer = offer_kept c.in-Some.offered in
    let offered : offer_in (scopes_at past) tokens ≡ Some offer =
    sym (offer-six (scopes_at past) tokens)
    ∙ ap (offer_in (scopes_at past)) (sym (ap (map _) c.deref.ensures.value ∙ kept))
    ∙ sym (c.in_ok-offered.ensures (scopes_at past) scopes)
    ∙ ap (option_map offer_kept) c.in-Some.is in
    let unread : AreUnread all offer.full_name =
    subst (λ own. AreUnread own offer.full_name) offers.same
    (c.may_read.ensures c.if-not-may_read.true) in (
      signals-unread past tokens offer offered reader.names reader.events reader.signals unread
          knows,
      offers-unread past tokens offer offered all reader.needed unread offers,
    )

pub returns-clause-knows : goal.returns-clause-knows
returns-clause-knows c = λ past tokens quiet before scopes kept knows offers.
    let reader = c.args.self.now in
    let all = reader.signals.definitions.items in
    let offered : offer_in (scopes_at past) tokens ≡ Some (offer_kept c.in-Some.offered) =
    sym (offer-six (scopes_at past) tokens)
    ∙ ap (offer_in (scopes_at past)) (sym (ap (map _) c.deref.ensures.value ∙ kept))
    ∙ sym (c.in_ok-offered.ensures (scopes_at past) scopes)
    ∙ ap (option_map offer_kept) c.in-Some.is in
    on_ok_weaker c.declare.result (λ signals. (
      signals,
      c.declare_offered.ensures.offers all past tokens offered offers,
    ))
    (c.declare.ensures.knows reader.names reader.events past tokens offered quiet before knows)

pub returns-clause-needed : goal.returns-clause-needed
returns-clause-needed c = λ past knows. c.declare_offered.ensures.knows past knows

pub returns-clause-same_terms : goal.returns-clause-same_terms
returns-clause-same_terms c = same-terms c.args.self.now.scale.exponent
    c.args.self.now.scale.unit
    (ap (λ needed. needs needed.value) c.declare_offered.ensures.same_names)
    (ap (λ own. own.items) c.declare.ensures.kept)
