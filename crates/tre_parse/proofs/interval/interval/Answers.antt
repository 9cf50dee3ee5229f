use Rattle.std.proofs.Common.{◌≡◌, ◌≢◌, ℕ, Bool, Option, None, Ok, List, ◌∷◌, refl, sym, ◌∙◌, ap}
use Rattle.std.proofs.lemmas.Result.{err_from_is_err_and}
use Rattle.tre_zone.specs.Interval.{ends_of, kept_weak}
use Rattle.tre_parse.specs.declared.token.Token.{Token}
use Rattle.tre_parse.specs.declared.token.Token.TheVariants.{Number, Comma}
use Rattle.tre_parse.specs.Front.{front, tail}
use Rattle.tre_parse.specs.Reader.{give, opened_by, low_end_of, high_end_of, closed_by, behind_high, behind_comma, behind_low, behind_opening, of_interval, run, read}
use Rattle.tre_parse.specs.Reading.{IsReadPart}
use Rattle.tre_parse.proofs.Fixpoint.{interval_fixed}
use Rattle.tre_parse.proofs.Equations.{passed, unpassed, part_said, part_unsaid}
use Rattle.tre_parse.proofs.Steps.{goes_here, stops_here}
use Rattle.tre_parse.proofs.interval.interval.Goals as goal

past_opening : (old ts : List Token) (weak : Bool) → IsReadPart opened_by (Ok weak) old ts
    → read of_interval old ≡ run read (behind_opening weak) ts
past_opening old ts weak h = interval_fixed old
    ∙ part_said opened_by (λ weak. behind_opening weak) weak old ts h

past_low : (old ts us : List Token) (weak : Bool) (low : ℕ) → IsReadPart opened_by (Ok weak) old ts
    → Number low ≡ front ts → us ≡ tail ts
    → read of_interval old ≡ run read (behind_low weak low) us
past_low old ts us weak low h e f = past_opening old ts weak h
    ∙ part_said low_end_of (λ low. behind_low weak low) low ts us (ap low_end_of (sym e), f)

past_comma : (old us vs : List Token) (weak : Bool) (low : ℕ)
    → read of_interval old ≡ run read (behind_low weak low) us → us ≡ Comma ∷ vs
    → read of_interval old ≡ run read (behind_comma weak low) vs
past_comma old us vs weak low h e = h ∙ passed Comma (behind_comma weak low) us vs refl e

past_high : (old vs ws : List Token) (weak : Bool) (low : ℕ) (high : Option ℕ)
    → read of_interval old ≡ run read (behind_comma weak low) vs → IsReadPart high_end_of (Ok high) vs ws
    → read of_interval old ≡ run read (behind_high weak low high) ws
past_high old vs ws weak low high h e = h
    ∙ part_said high_end_of (λ high. behind_high weak low high) high vs ws e

no_number : (token : Token) → ((n : ℕ) → token ≢ Number n) → low_end_of token ≡ None
no_number (Number n) h = absurd (h n refl)
no_number _ h = refl

pub returns-in_err-low_weak : goal.returns-in_err-low_weak
returns-in_err-low_weak c =
    let p = err_from_is_err_and c.from_residual.result c.from_residual.ensures.1 in
    let s = part_unsaid opened_by (λ weak. behind_opening weak) c.in_err-low_weak.field-0.0
    c.args.tokens.now c.opening.new.tokens c.in_err-low_weak.ensures in
    rw (p.1, p.2) (record {
      reads = stops_here (read of_interval c.args.tokens.now) c.in_err-low_weak.field-0.0
          c.opening.new.tokens s.0 (interval_fixed c.args.tokens.now ∙ s.1);
      shorter = tt;
    })

pub returns-in_default : goal.returns-in_default
returns-in_default c =
    let s = part_unsaid low_end_of (λ low. behind_low c.in_ok-low_weak.low_weak low)
    c.refused.result c.opening.new.tokens c.opening.new.tokens (
      no_number (front c.opening.new.tokens)
          (λ n q. c.in_default.not-Number n (c.peek.ensures ∙ q)),
      refl,
      c.refused.ensures,
    ) in
    record {
      reads = stops_here (read of_interval c.args.tokens.now) c.refused.result
          c.opening.new.tokens s.0
          (past_opening c.args.tokens.now c.opening.new.tokens c.in_ok-low_weak.low_weak
          c.in_ok-low_weak.ensures ∙ s.1);
      shorter = tt;
    }

pub returns-in_err-expect : goal.returns-in_err-expect
returns-in_err-expect c =
    let b = past_low c.args.tokens.now c.opening.new.tokens c.advance.new.self
    c.in_ok-low_weak.low_weak c.in-Number.low c.in_ok-low_weak.ensures c.in-Number.ensures
    c.advance.ensures in
    let p = err_from_is_err_and c.from_residual-in_err-expect.result
    c.from_residual-in_err-expect.ensures.1 in
    let s = unpassed Comma (behind_comma c.in_ok-low_weak.low_weak c.in-Number.low)
    c.in_err-expect.field-0.0 c.advance.new.self c.expect.new.self c.in_err-expect.ensures in
    rw (p.1, p.2) (record {
      reads = stops_here (read of_interval c.args.tokens.now) c.in_err-expect.field-0.0
          c.expect.new.self s.0 (b ∙ s.1);
      shorter = tt;
    })

pub returns-in_err-high : goal.returns-in_err-high
returns-in_err-high c =
    let weak = c.in_ok-low_weak.low_weak in
    let low = c.in-Number.low in
    let b = past_low c.args.tokens.now c.opening.new.tokens c.advance.new.self weak low
    c.in_ok-low_weak.ensures c.in-Number.ensures c.advance.ensures in
    let d = past_comma c.args.tokens.now c.advance.new.self c.expect.new.self weak low b
    c.in_ok-expect.ensures in
    let p = err_from_is_err_and c.from_residual-in_err-high.result
    c.from_residual-in_err-high.ensures.1 in
    let s = part_unsaid high_end_of (λ high. behind_high weak low high) c.in_err-high.field-0.0
    c.expect.new.self c.high.new.tokens c.in_err-high.ensures in
    rw (p.1, p.2) (record {
      reads = stops_here (read of_interval c.args.tokens.now) c.in_err-high.field-0.0
          c.high.new.tokens s.0 (d ∙ s.1);
      shorter = tt;
    })

pub returns-in_err-high_weak : goal.returns-in_err-high_weak
returns-in_err-high_weak c =
    let weak = c.in_ok-low_weak.low_weak in
    let low = c.in-Number.low in
    let high = c.in_ok-high.high in
    let b = past_low c.args.tokens.now c.opening.new.tokens c.advance.new.self weak low
    c.in_ok-low_weak.ensures c.in-Number.ensures c.advance.ensures in
    let d = past_comma c.args.tokens.now c.advance.new.self c.expect.new.self weak low b
    c.in_ok-expect.ensures in
    let e = past_high c.args.tokens.now c.expect.new.self c.high.new.tokens weak low high d
    c.in_ok-high.ensures in
    let p = err_from_is_err_and c.from_residual-in_err-high_weak.result
    c.from_residual-in_err-high_weak.ensures.1 in
    let s = part_unsaid (closed_by high)
    (λ high_weak. give (ends_of low weak high (kept_weak high high_weak)))
    c.in_err-high_weak.field-0.0 c.high.new.tokens c.closing.new.tokens
    c.in_err-high_weak.ensures in
    rw (p.1, p.2) (record {
      reads = stops_here (read of_interval c.args.tokens.now) c.in_err-high_weak.field-0.0
          c.closing.new.tokens s.0 (e ∙ s.1);
      shorter = tt;
    })

pub returns-clause-reads : goal.returns-clause-reads
returns-clause-reads c =
    let weak = c.in_ok-low_weak.low_weak in
    let low = c.in-Number.low in
    let high = c.in_ok-high.high in
    let b = past_low c.args.tokens.now c.opening.new.tokens c.advance.new.self weak low
    c.in_ok-low_weak.ensures c.in-Number.ensures c.advance.ensures in
    let d = past_comma c.args.tokens.now c.advance.new.self c.expect.new.self weak low b
    c.in_ok-expect.ensures in
    let e = past_high c.args.tokens.now c.expect.new.self c.high.new.tokens weak low high d
    c.in_ok-high.ensures in
    let ends = ends_of low weak high (kept_weak high c.in_ok-high_weak.high_weak) in
    goes_here c.made.result ends (read of_interval c.args.tokens.now) c.closing.new.tokens
    (e ∙ part_said (closed_by high)
    (λ high_weak. give (ends_of low weak high (kept_weak high high_weak)))
    c.in_ok-high_weak.high_weak c.high.new.tokens c.closing.new.tokens
    c.in_ok-high_weak.ensures) c.made.ensures
