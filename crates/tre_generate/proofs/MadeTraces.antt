-- The made trace, one segment after another.
use Rattle.std.proofs.Common.{◌≡◌, ℕ, zero, suc, ◌+◌, ◌*◌, ◌%◌, ◌<◌, ◌≤◌, [], ◌∷◌, ◌++◌, length, refl, ap, ◌∙◌, add-one, length-append, arith}
use Rattle.std.proofs.Math.Nat.{mod-lt}
use Rattle.tre_trace.specs.Trace.{end_of, Fits}
use Rattle.tre_trace.proofs.Segments.{end_of-append}
use Rattle.tre_generate.specs.Made.{made_segment, made_trace}
use Rattle.tre_generate.specs.declared.made_run.TheConstants.{SEGMENTS_MAX}

pub made_trace-none : made_trace 0 ≡ []
unfolding made_trace
made_trace-none = refl

pub made_trace-next : (number : ℕ) → made_trace (number + 1)
    ≡ made_trace number ++ made_segment number ∷ []
unfolding made_trace
made_trace-next number = rw (add-one number) refl

pub made_trace-length : (count : ℕ) → length (made_trace count) ≡ count
unfolding made_trace
made_trace-length zero = refl
made_trace-length (suc count) =
    length-append (made_trace count) (made_segment count ∷ [])
    ∙ ap (λ (n : ℕ). n + 1) (made_trace-length count) ∙ add-one count

short : (number : ℕ) → (made_segment number).len ≤ 3
short number =
    let below : number % 3 < 3 = mod-lt number (omega arith) in
    omega (arith, below)

ends_early : (count : ℕ) → end_of 0 (made_trace count) ≤ 3 * count
unfolding made_trace
ends_early zero = omega arith
ends_early (suc count) =
    let last : end_of 0 (made_trace count ++ made_segment count ∷ [])
    ≡ end_of 0 (made_trace count) + (made_segment count).len =
    end_of-append 0 (made_trace count) (made_segment count ∷ []) in
    let before = ends_early count in
    let len = short count in
    omega (arith, last, before, len)

-- each segment that a made trace may have fits
pub made_fits : (number : ℕ) → number < SEGMENTS_MAX → Fits (made_trace number)
    (made_segment number)
made_fits number few = record {
  long = omega arith;
  in_time = omega (arith, ends_early number, short number, few);
}
