use Rattle.std.proofs.Common.{Err, inr, refl, arith}
use Rattle.std.proofs.lemmas.Result.{err_from_is_err_and}
use Rattle.tre_parse.proofs.Agreement.{scanned, scanned_outcome}
use Rattle.tre_parse.proofs.Judging.{scan_numbered, scan_tokens, answered, answer_meant, long_outcome, bad_outcome}
use Rattle.tre_parse.proofs.Spelling.{answer_spells}
use Rattle.tre_parse.specs.declared.fault.ParseFault.TheVariants.{TooLong}
use Rattle.tre_parse.proofs.parser.parse.Goals as goal

pub parse_words-requires-clause-numbered : goal.parse_words-requires-clause-numbered
parse_words-requires-clause-numbered c = scan_numbered _ _ c.in_ok-scan.scan c.in_ok-scan.ensures.ok

pub parse_words-requires-clause-text : goal.parse_words-requires-clause-text
parse_words-requires-clause-text c = record {
  scale = c.args.scale;
  text = c.args.text.now;
  read = scanned c.args.scale c.args.text.now;
  tokens = scan_tokens c.args.scale c.args.text.now c.in_ok-scan.scan (omega arith)
      c.in_ok-scan.ensures.ok;
}

pub returns : goal.returns
returns c =
    let scale = c.args.scale in
    let text = c.args.text.now in
    let answer = c.parse_words.result in
    let answers = c.parse_words.ensures scale text (scanned scale text)
    (scan_tokens scale text c.in_ok-scan.scan (omega arith) c.in_ok-scan.ensures.ok) in
    let meant = answer_meant scale text answer answers in
    record {
      spelling = answer_spells scale text answer meant;
      outcome = meant;
      only = λ outcome h. answered scale text outcome answer answers
          (scanned_outcome scale text outcome h);
      too_long = λ long. absurd (omega (arith, long));
    }

pub returns-then-text-gt-TEXT_MAX : goal.returns-then-text-gt-TEXT_MAX
returns-then-text-gt-TEXT_MAX c =
    let scale = c.args.scale in
    let text = c.args.text.now in
    let is = inr (long_outcome scale text (omega arith)) in
    record {
      spelling = tt;
      outcome = answer_meant scale text (Err TooLong) is;
      only = λ outcome h. answered scale text outcome (Err TooLong) is
          (scanned_outcome scale text outcome h);
      too_long = λ long. refl;
    }

pub returns-in_err-scan : goal.returns-in_err-scan
returns-in_err-scan c =
    let p = err_from_is_err_and c.from_residual.result c.from_residual.ensures.1 in
    let scale = c.args.scale in
    let text = c.args.text.now in
    let fault = c.in_err-scan.field-0.0 in
    let is = bad_outcome scale text fault (omega arith) c.in_err-scan.ensures.err in
    rw (p.1, p.2) (record {
      spelling = tt;
      outcome = answer_meant scale text (Err fault) is;
      only = λ outcome h. answered scale text outcome (Err fault) is
          (scanned_outcome scale text outcome h);
      too_long = λ long. absurd (omega (arith, long));
    })
