use Rattle.std.proofs.Common.{◌≡◌, ◌-◌, ◌∙◌, drop, take, length, map, string_bytes, sym, arith}
use Rattle.std.proofs.lemmas.List.{drop-map, length-drop, take_all}
use Rattle.std.proofs.lemmas.Result.{IfOk-weaker}
use Rattle.tre_words.proofs.Jobs.{first_made, first_made-none, first_checked, first_plain, first_watched}
use Rattle.tre_words.proofs.words.read_words.Goals as goal

pub returns-then-begins_with-clause-ok : goal.returns-then-begins_with-clause-ok
returns-then-begins_with-clause-ok c = IfOk-weaker c.read_made_run.result _ _ (λ job gives.
    first_made (map string_bytes c.args.words.now) job
    (sym c.begins_with.ensures ∙ c.if-begins_with.true) gives) c.read_made_run.ensures.ok

pub returns-then-begins_with-clause-usage : goal.returns-then-begins_with-clause-usage
returns-then-begins_with-clause-usage c = λ usage job gives.
    first_made-none (map string_bytes c.args.words.now) job
    (sym c.begins_with.ensures ∙ c.if-begins_with.true)
    (c.read_made_run.ensures.usage usage) gives

pub returns-then-begins_with-2-clause-ok : goal.returns-then-begins_with-2-clause-ok
returns-then-begins_with-2-clause-ok c =
    let words = c.args.words.now in
    let rest : take (length words - 1) (drop 1 words) ≡ drop 1 words =
    take_all (length words - 1) (drop 1 words) (omega (arith, length-drop 1 words)) in
    IfOk-weaker c.read_watch.result _ _ (λ job gives.
    (first_watched (map string_bytes words) job
    (sym c.begins_with.ensures ∙ c.if-begins_with.false)
    (sym c.begins_with-2.ensures ∙ c.if-begins_with-2.true)).0
    (rw (drop-map string_bytes 1 words) gives)) (rw rest at c.read_watch.ensures.ok)

pub returns-then-begins_with-2-clause-usage : goal.returns-then-begins_with-2-clause-usage
returns-then-begins_with-2-clause-usage c = λ usage job given.
    let words = c.args.words.now in
    let rest : take (length words - 1) (drop 1 words) ≡ drop 1 words =
    take_all (length words - 1) (drop 1 words) (omega (arith, length-drop 1 words)) in
    let gives =
    (first_watched (map string_bytes words) job
    (sym c.begins_with.ensures ∙ c.if-begins_with.false)
    (sym c.begins_with-2.ensures ∙ c.if-begins_with-2.true)).1 given in
    c.read_watch.ensures.usage usage job (rw (drop-map string_bytes 1 words, ← rest) at gives)

pub returns-then-begins_with-3-clause-ok : goal.returns-then-begins_with-3-clause-ok
returns-then-begins_with-3-clause-ok c =
    let words = c.args.words.now in
    let rest : take (length words - 1) (drop 1 words) ≡ drop 1 words =
    take_all (length words - 1) (drop 1 words) (omega (arith, length-drop 1 words)) in
    IfOk-weaker c.read_check.result _ _ (λ job gives.
    (first_checked (map string_bytes words) job
    (sym c.begins_with.ensures ∙ c.if-begins_with.false)
    (sym c.begins_with-2.ensures ∙ c.if-begins_with-2.false)
    (sym c.begins_with-3.ensures ∙ c.if-begins_with-3.true)).0
    (rw (drop-map string_bytes 1 words) gives)) (rw rest at c.read_check.ensures.ok)

pub returns-then-begins_with-3-clause-usage : goal.returns-then-begins_with-3-clause-usage
returns-then-begins_with-3-clause-usage c = λ usage job given.
    let words = c.args.words.now in
    let rest : take (length words - 1) (drop 1 words) ≡ drop 1 words =
    take_all (length words - 1) (drop 1 words) (omega (arith, length-drop 1 words)) in
    let gives =
    (first_checked (map string_bytes words) job
    (sym c.begins_with.ensures ∙ c.if-begins_with.false)
    (sym c.begins_with-2.ensures ∙ c.if-begins_with-2.false)
    (sym c.begins_with-3.ensures ∙ c.if-begins_with-3.true)).1 given in
    c.read_check.ensures.usage usage job (rw (drop-map string_bytes 1 words, ← rest) at gives)

pub returns-clause-ok : goal.returns-clause-ok
returns-clause-ok c = IfOk-weaker c.read_options.result _ _ (λ job gives.
    (first_plain (map string_bytes c.args.words.now) job
    (sym c.begins_with.ensures ∙ c.if-begins_with.false)
    (sym c.begins_with-2.ensures ∙ c.if-begins_with-2.false)
    (sym c.begins_with-3.ensures ∙ c.if-begins_with-3.false)).0 gives) c.read_options.ensures.ok

pub returns-clause-usage : goal.returns-clause-usage
returns-clause-usage c = λ usage job given.
    c.read_options.ensures.usage usage job
    ((first_plain (map string_bytes c.args.words.now) job
    (sym c.begins_with.ensures ∙ c.if-begins_with.false)
    (sym c.begins_with-2.ensures ∙ c.if-begins_with-2.false)
    (sym c.begins_with-3.ensures ∙ c.if-begins_with-3.false)).1 given)
