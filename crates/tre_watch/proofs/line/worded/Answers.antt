use Rattle.std.proofs.Common.{◌≡◌, ◌∙◌, ℕ, List, codes, subst, sym}
use Rattle.std.proofs.lemmas.Slice.Eq.{bytes_eq-Decides}
use Rattle.tre_watch.specs.declared.form.Form.{Form}
use Rattle.tre_watch.specs.Lines.{word_in}
use Rattle.tre_watch.specs.Steps.{IsLet, IsWorded, said_on}
use Rattle.tre_watch.proofs.Standing.{let_stands, none_stands}
use Rattle.tre_watch.proofs.line.worded.Goals as goal

pub returns-then-eq : goal.returns-then-eq
returns-then-eq c =
    let word : c.ascii_text-word.result.now ≡ word_in c.args.content.now =
    c.ascii_text-word.ensures ∙ c.name_before.ensures in
    let_stands c.args.content.now (said_on c.definition_on.result) c.requires.ascii
    c.requires.unnamed
    (sym word
    ∙ (bytes_eq-Decides c.ascii_text-word.result.now (codes "let")).0
    (sym c.eq.ensures ∙ c.if-eq.true))
    (subst (λ (rest : List ℕ). IsLet rest (said_on c.definition_on.result))
    c.behind_word-rest.ensures c.definition_on.ensures)

pub returns-in-None : goal.returns-in-None
returns-in-None c =
    let word : c.ascii_text-word.result.now ≡ word_in c.args.content.now =
    c.ascii_text-word.ensures ∙ c.name_before.ensures in
    none_stands c.args.content.now c.requires.unnamed
    (λ is.
    let told = (bytes_eq-Decides c.ascii_text-word.result.now (codes "let")).1 (word ∙ is) in
    absurd (cc (c.eq.ensures, c.if-eq.false)))
    (subst (λ (rest : List ℕ). (form : Form) (name : List ℕ) (texts : List (List ℕ))
    → ¬ IsWorded (word_in c.args.content.now) rest form name texts) c.behind_word-rest.ensures
    (subst (λ (front : List ℕ). (form : Form) (name : List ℕ) (texts : List (List ℕ))
    → ¬ IsWorded front c.behind_word-rest.result.now form name texts) word c.in-None.ensures))
