use Rattle.std.proofs.Common.{◌≡◌, ◌++◌, [], ◌∷◌, None, map, sym, subst, ap, ◌∙◌}
use Rattle.std.specs.String.{string_bytes}
use Rattle.tre_state.specs.Names.{place_of}
use Rattle.tre_state.proofs.Places.{insert_index-absent, texts-insert_key}
use Rattle.tre_state.proofs.names.insert_last.Goals as goal

pub returns-clause-place : goal.returns-clause-place
returns-clause-place c =
    let absent = subst (λ text. place_of (map string_bytes c.args.names.now.keys) text ≡ None)
    (sym c.in_ok-owned.ensures.ok) c.requires.absent in
    c.in_ok-place.ensures.index
    ∙ insert_index-absent c.args.names.now.keys c.in_ok-owned.owned absent

pub returns-clause-ok : goal.returns-clause-ok
returns-clause-ok c =
    let absent = subst (λ text. place_of (map string_bytes c.args.names.now.keys) text ≡ None)
    (sym c.in_ok-owned.ensures.ok) c.requires.absent in
    ap (map string_bytes) c.in_ok-place.ensures.keys
    ∙ texts-insert_key c.args.names.now.keys c.in_ok-owned.owned absent
    ∙ ap (λ text. map string_bytes c.args.names.now.keys ++ text ∷ []) c.in_ok-owned.ensures.ok
