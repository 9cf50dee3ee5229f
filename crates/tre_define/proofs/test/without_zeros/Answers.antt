use Rattle.std.proofs.Common.{◌≡◌, drop, sym, ap, subst, ◌∙◌}
use Rattle.std.specs.Prelude.{slice_index}
use Rattle.std.specs.List.{list_all}
use Rattle.std.specs.Str.Parse.{digits_value}
use Rattle.std.proofs.lemmas.List.{take_rest}
use Rattle.tre_define.specs.Values.{is_bit}
use Rattle.tre_define.proofs.Bits.{bits-left, zeros-end, zeros-past}
use Rattle.tre_define.proofs.test.without_zeros.Goals as goal

pub returns-clause-value : goal.returns-clause-value
returns-clause-value c =
    ap (digits_value 2) (take_rest c.args.bits.now c.zeros_len.result
    ∙ ap (λ n. drop n c.args.bits.now) c.zeros_len.ensures.len)
    ∙ zeros-past c.args.bits.now

pub returns-clause-bits : goal.returns-clause-bits
returns-clause-bits c =
    ap (list_all is_bit) (take_rest c.args.bits.now c.zeros_len.result)
    ∙ bits-left c.zeros_len.result c.args.bits.now c.requires

pub returns-clause-first : goal.returns-clause-first
returns-clause-first c = λ is.
    zeros-end c.args.bits.now
    (sym (ap (λ xs. slice_index xs 0) (take_rest c.args.bits.now c.zeros_len.result
    ∙ ap (λ n. drop n c.args.bits.now) c.zeros_len.ensures.len)) ∙ is)
