use Rattle.std.proofs.Common.{◌∙◌, [], map, string_bytes, sym, arith}
use Rattle.std.proofs.lemmas.Option.{slice_get-get_or}
use Rattle.tre_tool.proofs.Plans.{labels-push}
use Rattle.tre_tool.proofs.checks.labels_of.Goals as goal
use Rattle.tre_tool.proofs.checks.labels_of.Goals.{in-Some+in_ok-add_labels, in_default}

pub loop-place-preserved : goal.loop-place-preserved
loop-place-preserved c = elim c.match-name.branch [
  | in-Some+in_ok-add_labels w ↦
      rw w.labels-is (labels-push (map string_bytes c.loop-place.labels.items) _
      c.args.behind.now c.args.names.now c.args.forms.now c.loop-place.place w.in-Some.name.now _
      c.loop-place.invariant (sym w.in-Some.ensures)
      (slice_get-get_or c.args.forms.now c.loop-place.place _
      (omega (arith, c.loop-place-test.true, c.len-place-end.ensures.len, c.requires)))
      w.in_ok-add_labels.ensures)
  | in_default w ↦
      let some = w.in_default.ensures ∙ slice_get-get_or c.args.names.now c.loop-place.place []
      (omega (arith, c.loop-place-test.true, c.len-place-end.ensures.len)) in
      absurd (cc)
]
