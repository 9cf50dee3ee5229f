use Rattle.std.proofs.Common.{◌+◌, map, sym, length, ⊎_elim, arith}
use Rattle.std.proofs.lemmas.Bool.{cases_lt}
use Rattle.std.proofs.lemmas.List.{length-map}
use Rattle.tre_index.proofs.Turns.{IsStretch-of}
use Rattle.tre_index.proofs.turn.find_stretch.Goals as goal

pub returns : goal.returns
returns g c =
    let items = c.args.items.now in
    let to = c.find_late-to.result in
    let all = c.find_first-from.result + length items in
    IsStretch-of (map g.T.HasRow.row_of items) _ _ _ (length items) c.requires
    (sym (length-map items g.T.HasRow.row_of)) c.find_first-from.ensures
    c.find_late-to.ensures.rising c.find_late-to.ensures.within
    (⊎_elim c.find_late-to.ensures.none
    (λ past. record {
      none = λ k starts ends within reaches.
          absurd (omega (arith, past, starts, within, length-map items g.T.HasRow.row_of));
    })
    (cases_lt to all))
    c.find_late-to.ensures.near
