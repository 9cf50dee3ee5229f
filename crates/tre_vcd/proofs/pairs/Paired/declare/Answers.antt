use Rattle.std.proofs.Common.{◌≡◌, List, ℕ, true, sym, ap, ◌∙◌, subst, rules}
use Rattle.std.specs.Option.{is_some, option_map, option_or}
use Rattle.std.proofs.lemmas.Result.{on_ok_weaker}
use Rattle.tre_define.specs.Signals.{part_of_text}
use Rattle.tre_vcd.specs.Pairs.{comparison_of, side_asked}
use Rattle.tre_vcd.specs.Signals.{offer_kept}
use Rattle.tre_vcd.proofs.Pairing.{paired-declared}
use Rattle.tre_vcd.proofs.pairs.Paired.declare.Goals as goal

pub returns-clause-knows : goal.returns-clause-knows
returns-clause-knows c = λ past tokens quiet offered knows.
    let paired = c.args.self.now in
    let one = c.in-Some.definition in
    let offer = offer_kept c.args.offered.now in
    let size = c.args.offered.now.size in
    let some : is_some (comparison_of one.reads) ≡ true = search rules in
    on_ok_weaker c.declare-2.result (λ asks. paired-declared past tokens offer paired one
    c.declare.new.self c.declare-2.new.self c.signal_part-one.result c.other_part-other.result
    quiet offered c.in-Some.is some
    (c.signal_part-one.ensures ∙ ap (λ name. part_of_text one.signal name size) c.deref.ensures.value)
    (c.other_part-other.ensures ∙ ap (λ name. part_of_text one.other name size) c.deref-2.ensures.value)
    (c.in_ok-declare.ensures.asks
    ∙ ap (λ (own : List ℕ). option_or (side_asked paired.one)
    (option_map (λ it. record { identifier = own; asks = it }) c.signal_part-one.result))
    c.deref-3.ensures.value)
    c.declare.ensures.same
    (asks ∙ ap (λ (own : List ℕ). option_or (side_asked paired.other)
    (option_map (λ it. record { identifier = own; asks = it }) c.other_part-other.result))
    c.deref-4.ensures.value)
    c.declare-2.ensures.same knows) c.declare-2.ensures.asks
