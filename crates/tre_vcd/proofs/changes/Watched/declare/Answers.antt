use Rattle.std.proofs.Common.{◌≡◌, ◌∷◌, List, ℕ, true, false, None, Some, Option, sym, ap, ◌∙◌}
use Rattle.std.specs.Option.{is_some, option_map, option_or}
use Rattle.std.proofs.lemmas.Bool.{false≢true}
use Rattle.std.proofs.lemmas.Result.{err_from_is_err_and}
use Rattle.tre_define.specs.Signals.{SignalDefined, changes_in}
use Rattle.tre_define.specs.declared.part.Part.{Part}
use Rattle.tre_vcd.specs.VcdReading.{Statement, var, scopes_at, Offer, offer_in, Asked, Occasion, bits_changed, asked_in, occasion_in}
use Rattle.tre_vcd.specs.Signals.{asked_of_part, occasion_of, offer_kept, part_read}
use Rattle.tre_vcd.specs.declared.changes.AskedPart.{AskedPart}
use Rattle.tre_vcd.proofs.Testing.{or-none}
use Rattle.tre_vcd.proofs.Watching.{part-next}
use Rattle.tre_vcd.proofs.changes.Watched.declare.Goals as goal

-- what was asked before stays asked,
part-kept-on : (past : List Statement) (tokens : List (List ℕ)) (one : SignalDefined)
    (offer : Offer) (asked : Option AskedPart) → offer_in (scopes_at past) tokens ≡ Some offer
    → is_some asked ≡ true
    → option_map occasion_of (option_map asked_of_part asked) ≡ part_read past (Some one)
    → option_map occasion_of (option_map asked_of_part asked)
    ≡ part_read (var tokens ∷ past) (Some one)
part-kept-on past tokens one offer None is some known = absurd (false≢true some)
part-kept-on past tokens one offer (Some own) is some known =
    ap (λ (read : Option (Asked Occasion)). option_or read (asked_in (occasion_in one) offer))
    known
    ∙ sym (part-next past tokens one offer is)

-- and else what an offer has of it is, if it has anything
part-first : (past : List Statement) (tokens : List (List ℕ)) (one : SignalDefined)
    (offer : Offer) (asked : Option AskedPart) → offer_in (scopes_at past) tokens ≡ Some offer
    → is_some asked ≡ false
    → option_map occasion_of (option_map asked_of_part asked) ≡ part_read past (Some one)
    → asked_in (occasion_in one) offer ≡ part_read (var tokens ∷ past) (Some one)
part-first past tokens one offer (Some own) is none known = absurd (false≢true (sym none))
part-first past tokens one offer None is none known =
    ap (λ (read : Option (Asked Occasion)). option_or read (asked_in (occasion_in one) offer))
    known
    ∙ sym (part-next past tokens one offer is)

part-none : (past : List Statement) (tokens : List (List ℕ)) (one : SignalDefined)
    (offer : Offer) → offer_in (scopes_at past) tokens ≡ Some offer
    → changes_in one offer.full_name offer.size ≡ None
    → part_read (var tokens ∷ past) (Some one) ≡ part_read past (Some one)
part-none past tokens one offer is none =
    part-next past tokens one offer is
    ∙ ap (λ (it : Option Part). option_or (part_read past (Some one))
    (option_map (λ asks. record { identifier = offer.identifier; asks = asks })
    (option_map bits_changed it))) none
    ∙ or-none (part_read past (Some one))

pub returns-in_default-clause-asks : goal.returns-in_default-clause-asks
returns-in_default-clause-asks c = λ past tokens offered known.
    known ∙ ap (part_read past) c.in_default.is
    ∙ sym (ap (part_read (var tokens ∷ past)) c.in_default.is)

pub returns-then-is_some-clause-asks : goal.returns-then-is_some-clause-asks
returns-then-is_some-clause-asks c = λ past tokens offered known.
    part-kept-on past tokens c.in-Some.definition (offer_kept c.args.offered.now)
    c.args.self.now.asked offered (sym c.is_some.ensures ∙ c.if-is_some.true)
    (known ∙ ap (part_read past) c.in-Some.is)
    ∙ sym (ap (part_read (var tokens ∷ past)) c.in-Some.is)

pub returns-in_default-changes_in-clause-asks : goal.returns-in_default-changes_in-clause-asks
returns-in_default-changes_in-clause-asks c = λ past tokens offered known.
    let one = c.in-Some.definition in
    let size = c.args.offered.now.size in
    let nothing : changes_in one c.args.offered.now.full_name.items size ≡ None =
    ap (λ name. changes_in one name size) (sym c.deref.ensures.value)
    ∙ sym c.changes_in.ensures ∙ c.in_default-changes_in.is in
    known ∙ ap (part_read past) c.in-Some.is
    ∙ sym (part-none past tokens one (offer_kept c.args.offered.now) offered nothing)
    ∙ sym (ap (part_read (var tokens ∷ past)) c.in-Some.is)

pub returns-in_err-from_slice-clause-asks : goal.returns-in_err-from_slice-clause-asks
returns-in_err-from_slice-clause-asks c = λ past tokens offered known.
    let p = err_from_is_err_and c.from_residual.result c.from_residual.ensures.1 in rw p.1 tt

pub returns-clause-asks : goal.returns-clause-asks
returns-clause-asks c = λ past tokens offered known.
    let one = c.in-Some.definition in
    let offer = offer_kept c.args.offered.now in
    let part = c.in-Some-changes_in.part in
    let found : changes_in one offer.full_name offer.size ≡ Some part =
    ap (λ name. changes_in one name offer.size) (sym c.deref.ensures.value)
    ∙ sym c.changes_in.ensures ∙ c.in-Some-changes_in.is in
    ap (λ (identifier : List ℕ). Some (record { identifier = identifier; asks = bits_changed part }))
    (c.in_ok-from_slice.ensures.items ∙ c.deref-2.ensures.value)
    ∙ sym (ap (λ (it : Option Part). option_map
    (λ asks. record { identifier = offer.identifier; asks = asks }) (option_map bits_changed it)) found)
    ∙ part-first past tokens one offer c.args.self.now.asked offered
    (sym c.is_some.ensures ∙ c.if-is_some.false) (known ∙ ap (part_read past) c.in-Some.is)
    ∙ sym (ap (part_read (var tokens ∷ past)) c.in-Some.is)
