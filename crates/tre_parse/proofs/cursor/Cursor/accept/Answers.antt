use Rattle.std.proofs.Common.{◌≡◌, sym, ◌∙◌, subst, Bool}
use denote.Enum.Declared.{values_one}
use Rattle.tre_parse.specs.contracts.token.Token.{enum, the_parts}
use Rattle.tre_parse.specs.Reading.{Accepts}
use Rattle.tre_parse.proofs.Steps.{goes_past}
use Rattle.tre_parse.proofs.Same.{same_choice, same_number}
use Rattle.tre_parse.proofs.cursor.Cursor.accept.Goals as goal

same : (c : goal.After-advance) → c.peek.result ≡ c.args.token
same c = values_one enum _ _ (same_choice the_parts _
    (same_number, (same_number, (same_number, tt))) _ _ (sym c.eq-next.ensures ∙ c.if-next.true))

pub returns-then-next : goal.returns-then-next
returns-then-next c =
    let P = λ (b : Bool). Accepts c.args.token b c.args.self.now c.advance.new.self in
    subst P (sym c.if-next.true) (goes_past c.args.self.now c.advance.new.self c.args.token
    (sym (same c) ∙ c.peek.ensures) c.requires c.advance.ensures)
