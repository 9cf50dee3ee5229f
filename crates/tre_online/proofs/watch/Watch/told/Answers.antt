use Rattle.std.proofs.Common.{◌≡◌, ◌≤◌, ◌∙◌, Some, ap, get_or, length, map, refl, rules, subst, sym}
use Rattle.std.specs.Option.{option_map}
use Rattle.std.proofs.lemmas.Bool.{ltb-false, ltb-true}
use Rattle.std.proofs.lemmas.List.{length-map}
use Rattle.std.proofs.lemmas.Option.{slice_get-map, slice_get_past, slice_get_read}
use Rattle.tre_online.specs.Session.{ended_of}
use Rattle.tre_online.proofs.watch.Watch.told.Goals as goal

pub returns-in-Some-clause-told : goal.returns-in-Some-clause-told
returns-in-Some-clause-told c =
    let sessions = c.deref.result.now in
    let session = c.in-Some.session.now in
    let read : session ≡ get_or sessions c.args.place session = search rules in
    rw (sym c.deref.ensures.value) (ap Some c.told.ensures.told
    ∙ sym (slice_get-map (λ s. ended_of s) sessions c.args.place
    ∙ ap (option_map (λ s. ended_of s)) (slice_get_read sessions (length sessions) c.args.place
    session refl (ltb-true _ _ (sym c.in-Some.ensures.lookup.0)) read)))

pub returns-in-None-clause-told : goal.returns-in-None-clause-told
returns-in-None-clause-told c =
    let sessions = c.deref.result.now in
    rw (sym c.deref.ensures.value) (sym (slice_get_past (map (λ s. ended_of s) sessions) c.args.place
    (subst (λ n. n ≤ c.args.place) (sym (length-map sessions _))
    (ltb-false _ _ (sym c.in-None.ensures.lookup.0)))))
