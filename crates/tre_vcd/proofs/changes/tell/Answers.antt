use Rattle.std.proofs.Common.{◌≢◌, ◌∷◌, inl, inr, refl, sym, ap, ◌∙◌, subst, arith, rules}
use Rattle.std.specs.Int.{bit_at}
use Rattle.std.proofs.lemmas.Bool.{cases_eq}
use Rattle.std.proofs.lemmas.Nat.Bits.{bit_at-zero}
use Rattle.tre_vcd.specs.VcdReading.{change}
use Rattle.tre_vcd.specs.Signals.{KnowsAt, watched_at}
use Rattle.tre_vcd.proofs.Watching.{at-moved, watched-untold}
use Rattle.tre_vcd.proofs.changes.tell.Goals as goal

pub loop-left-init : goal.loop-left-init
loop-left-init c = record {
  told = λ past form knows other k clear.
      watched-untold past form c.args.identifier.now c.args.letters.now
      (watched_at c.args.list.now k) (bit_at c.args.said.now k) (bit_at c.args.happened.now k)
      (other k clear) (knows k);
  left = λ past knows k set. knows k;
  same = (refl, refl);
}

pub loop-left-preserved : goal.loop-left-preserved
loop-left-preserved c =
    let number = c.lowest-number.result in
    let before = c.loop-left.invariant in
    let rest = c.without-left.ensures in
    let told = c.in_ok-tell_at.ensures in
    record {
      told = λ past form knows other k clear. elim (cases_eq k number) [
        | inl same ↦
            subst (λ n. KnowsAt (watched_at c.tell_at.new.list n) (bit_at c.tell_at.new.said n)
            (bit_at c.tell_at.new.happened n)
            (change form c.args.identifier.now c.args.letters.now ∷ past)) (sym same)
            (told.told past form (before.left past knows number c.lowest-number.ensures.set))
        | inr apart ↦
            at-moved _ _ _ _ _ _ _ (told.others k apart)
            (before.told past form knows other k (λ set. clear (rest.kept k apart set)))
      ];
      left = λ past knows k set.
          let apart : k ≢ number = λ same.
          absurd (omega (arith, set, ap (bit_at c.without-left.result) same, rest.gone)) in
          at-moved _ _ _ _ _ _ _ (told.others k apart)
          (before.left past knows k (rest.no_more k set));
      same = (told.same.0 ∙ before.same.0, told.same.1 ∙ before.same.1);
    }

pub returns-clause-told : goal.returns-clause-told
returns-clause-told c = search (rules, bit_at-zero, c.loop-left.left, c.loop-left.invariant.told)
