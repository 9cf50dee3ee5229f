use Rattle.std.proofs.Common.{◌≡◌, ◌+◌, ◌≤◌, ◌∷◌, ◌++◌, [], Some, inl, inr, refl, ap, ◌∙◌, arith}
use Rattle.tre_decimal.specs.Decimal.{units_of}
use Rattle.tre_pairs.specs.declared.TheConstants.{TIME_MAX}
use Rattle.tre_text.proofs.Entries.{number-no_comment, number-no_events}
use Rattle.tre_text.proofs.Heads.{told}
use Rattle.tre_text.proofs.open_line.OpenLine.add_length.Goals as goal

pub returns : goal.returns
returns c = λ names fields opened yes.
    let word = c.args.word.now in
    let scale = c.args.scale in
    let digits = c.begins_with_a_digit.ensures in
    let is = told (units_of scale word) c.in-Some.len c.in-Some.ensures in
    let fits : c.args.known.end + c.in-Some.len ≤ TIME_MAX =
    omega (arith, c.saturating_add.ensures, c.if-saturating_add-gt-TIME_MAX.false) in
    let exact : is.whole ≡ c.in-Some.len = omega (arith, is.value, fits) in
    elim opened [
      | inl blank ↦ inr (record {
        first = word;
        others = [];
        is = ap (λ front. front ++ word ∷ []) blank.none;
        no_comment = number-no_comment digits scale is.whole word is.is;
        length = record {
          no_events = number-no_events digits scale is.whole word is.is;
          is = is.is ∙ ap Some exact;
          some = c.if-len-eq0.false;
          fits = fits;
        };
        words = refl;
        val = blank.val;
      })
      | inr entered ↦ absurd (entered.length.some c.requires.begun)
    ]
