use Rattle.std.proofs.Common.{◌≢◌, ◌∷◌, inl, inr, refl, sym, ap, ◌∙◌, subst, arith, rules}
use Rattle.std.specs.Int.{bit_at}
use Rattle.std.specs.List.{slice_get}
use Rattle.std.proofs.lemmas.Bool.{cases_eq}
use Rattle.std.proofs.lemmas.Nat.Bits.{bit_at-zero}
use Rattle.tre_vcd.specs.VcdReading.{change}
use Rattle.tre_vcd.specs.Pairs.{KnowsPairAt}
use Rattle.tre_vcd.proofs.Pairing.{paired-moved, paired-untold}
use Rattle.tre_vcd.proofs.pairs.tell.Goals as goal

pub loop-left-init : goal.loop-left-init
loop-left-init c = record {
  told = λ past form knows other k clear.
      paired-untold past form c.args.identifier.now c.args.letters.now _ _ (other k clear)
      (knows k);
  left = λ past knows k set. knows k;
  same = record { definitions = refl; reads = λ k identifier. refl };
}

pub loop-left-preserved : goal.loop-left-preserved
loop-left-preserved c =
    let number = c.lowest-number.result in
    let before = c.loop-left.invariant in
    let rest = c.without-left.ensures in
    let told = c.in_ok-tell_at.ensures in
    record {
      told = λ past form knows other k clear. elim (cases_eq k number) [
        | inl same ↦
            subst (λ n. KnowsPairAt (change form c.args.identifier.now c.args.letters.now ∷ past)
            (slice_get c.tell_at.new.list n) (bit_at c.tell_at.new.values n)) (sym same)
            (told.told past form (before.left past knows number c.lowest-number.ensures.set))
        | inr apart ↦
            paired-moved _ _ _ _ _ (told.others k apart)
            (before.told past form knows other k (λ set. clear (rest.kept k apart set)))
      ];
      left = λ past knows k set.
          let apart : k ≢ number = λ same.
          absurd (omega (arith, set, ap (bit_at c.without-left.result) same, rest.gone)) in
          paired-moved _ _ _ _ _ (told.others k apart)
          (before.left past knows k (rest.no_more k set));
      same = record {
        definitions = told.same.definitions ∙ before.same.definitions;
        reads = λ k identifier. told.same.reads k identifier ∙ before.same.reads k identifier;
      };
    }

pub returns-clause-told : goal.returns-clause-told
returns-clause-told c = search (rules, bit_at-zero, c.loop-left.left, c.loop-left.invariant.told)
