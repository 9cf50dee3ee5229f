use Rattle.std.proofs.Common.{◌≡◌, ℕ, ◌+◌, ◌-◌, List, sym, ◌∙◌, ap, subst, arith, take, drop, length, length-drop, rules}
use Rattle.std.proofs.lemmas.List.{take_rest}
use Rattle.tre_parse.specs.Tokens.{name, number, sign}
use Rattle.tre_parse.specs.Lexeme.{lexeme_of}
use Rattle.tre_parse.specs.Scan.{ScanGoesOn}
use Rattle.tre_parse.proofs.Words.{name_bytes}
use Rattle.tre_parse.proofs.Scans.{rest_blank, rest_name, rest_number, rest_sign, leads_word, leads_same, same_bytes}
use Rattle.tre_parse.proofs.scan.Scan.step.Goals as goal

pub name_at-requires : goal.name_at-requires
name_at-requires c = search (rules, take_rest, name, name_bytes, lexeme_of)

pub put_name-requires : goal.put_name-requires
put_name-requires c =
    search (rules, name_bytes, lexeme_of, take_rest, c.as_bytes.result.now, c.args.at)

pub returns-in-Blank-clause-ok : goal.returns-in-Blank-clause-ok
returns-in-Blank-clause-ok c =
    search (rules, rest_blank, lexeme_of, take_rest, leads_same, c.as_bytes.result.now)

pub returns-in_ok-put_name-in-Name-clause-ok : goal.returns-in_ok-put_name-in-Name-clause-ok
returns-in_ok-put_name-in-Name-clause-ok c =
    let bytes = c.as_bytes.result.now in let at = c.args.at in let len = c.in-Name.len in
    let same = c.as_bytes.ensures.value in
    let whole = ap length (take_rest bytes at) in
    let size = length-drop at bytes in
    let P = λ (bs : List ℕ). ScanGoesOn bs c.args.self.now at c.put_name.new.self (at + len) in
    let e = rest_name bytes at len (omega (arith, c.requires.place, ap length same))
    (omega (arith, c.in-Name.ensures.fits)) (omega (arith, c.in-Name.ensures.fits, whole))
    (ap lexeme_of (sym (take_rest bytes at)) ∙ sym c.in-Name.ensures.value) in
    let taken = same_bytes name c.args.self.now c.put_name.new.self at (take len (drop at bytes))
    c.name_at.result.now (ap (λ bs. take len (drop at bs)) same ∙ sym c.name_at.ensures)
    c.in_ok-put_name-in-Name.ensures.ok in
    subst P same (record {
      leads = leads_word bytes c.args.self.now c.put_name.new.self at (at + len)
          (name (take len (drop at bytes))) taken e;
      further = omega (arith, c.in-Name.ensures.fits);
      within = omega (arith, c.in-Name.ensures.fits, whole, size);
    })

pub returns-in_ok-put_number-in-Number-clause-ok : goal.returns-in_ok-put_number-in-Number-clause-ok
returns-in_ok-put_number-in-Number-clause-ok c =
    let bytes = c.as_bytes.result.now in let at = c.args.at in let len = c.in-Number.len in
    let same = c.as_bytes.ensures.value in
    let whole = ap length (take_rest bytes at) in
    let size = length-drop at bytes in
    let P = λ (bs : List ℕ). ScanGoesOn bs c.args.self.now at c.put_number.new.self (at + len) in
    let e = rest_number bytes at len (omega (arith, c.requires.place, ap length same))
    (omega (arith, c.in-Number.ensures.fits)) (omega (arith, c.in-Number.ensures.fits, whole))
    (ap lexeme_of (sym (take_rest bytes at)) ∙ sym c.in-Number.ensures.value) in
    let again = c.as_bytes-in-Number.result.now in
    let count : len ≡ at + len - at = omega arith in
    let taken = same_bytes number c.args.self.now c.put_number.new.self at (take len
    (drop at bytes))
    (take (at + len - at) (drop at again))
    (ap (λ bs. take len (drop at bs)) (same ∙ sym c.as_bytes-in-Number.ensures.value)
    ∙ ap (λ n. take n (drop at again)) count) c.in_ok-put_number-in-Number.ensures in
    subst P same (record {
      leads = leads_word bytes c.args.self.now c.put_number.new.self at (at + len)
          (number (take len (drop at bytes))) taken e;
      further = omega (arith, c.in-Number.ensures.fits);
      within = omega (arith, c.in-Number.ensures.fits, whole, size);
    })

pub returns-in_ok-put_sign-in-Sign-clause-ok : goal.returns-in_ok-put_sign-in-Sign-clause-ok
returns-in_ok-put_sign-in-Sign-clause-ok c =
    let bytes = c.as_bytes.result.now in let at = c.args.at in let len = c.in-Sign.len in
    let same = c.as_bytes.ensures.value in
    let whole = ap length (take_rest bytes at) in
    let size = length-drop at bytes in
    let P = λ (bs : List ℕ). ScanGoesOn bs c.args.self.now at c.put_sign.new.self (at + len) in
    let e = rest_sign bytes at len c.in-Sign.token (omega (arith, c.requires.place, ap length same))
    (omega (arith, c.in-Sign.ensures.fits)) (omega (arith, c.in-Sign.ensures.fits, whole))
    (ap lexeme_of (sym (take_rest bytes at)) ∙ sym c.in-Sign.ensures.value) in
    subst P same (record {
      leads = leads_word bytes c.args.self.now c.put_sign.new.self at (at + len)
          (sign c.in-Sign.token) c.in_ok-put_sign-in-Sign.ensures e;
      further = omega (arith, c.in-Sign.ensures.fits);
      within = omega (arith, c.in-Sign.ensures.fits, whole, size);
    })
