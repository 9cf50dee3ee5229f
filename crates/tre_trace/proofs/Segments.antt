-- Lists of segments, and one more behind them.
use Rattle.std.proofs.Common.{◌≡◌, ℕ, zero, suc, take, drop, drop-cons, length, slice_index_or, ◌+◌, ◌-◌, ◌<◌, ◌≤◌, List, [], ◌∷◌, ◌++◌, refl, ap, arith, rules}
use Rattle.tre_pairs.specs.declared.TheConstants.{TIME_MAX}
use Rattle.std.specs.Prelude.{fold, sum_by}
use Rattle.tre_trace.specs.declared.segment.Segment.{Segment}
use Rattle.tre_trace.specs.Trace.{end_of, AreLong, IsTrace, Fits}

pub end_of-append : (start : ℕ) (xs ys : List Segment) → end_of start (xs ++ ys)
    ≡ end_of (end_of start xs) ys
end_of-append start [] ys = refl
end_of-append start (x ∷ xs) ys = end_of-append (start + x.len) xs ys

-- time never runs back
pub end_of-le : (start : ℕ) (segments : List Segment) → start ≤ end_of start segments
end_of-le start [] = omega arith
end_of-le start (segment ∷ rest) = omega (arith, end_of-le (start + segment.len) rest)

-- the last segment ends when all their lengths have passed
end_of-fold : (start : ℕ) (segments : List Segment) → end_of start segments
    ≡ fold (λ time segment. time + segment.len) start segments
end_of-fold start [] = refl
end_of-fold start (segment ∷ rest) = end_of-fold (start + segment.len) rest

pub end_of-sum : (segments : List Segment) → end_of 0 segments ≡ sum_by (λ segment. segment.len)
    segments
end_of-sum segments = end_of-fold 0 segments

pub AreLong-push : (xs : List Segment) (y : Segment) → AreLong xs → 1 ≤ y.len
    → AreLong (xs ++ y ∷ [])
AreLong-push [] y long last = (last, tt)
AreLong-push (x ∷ xs) y long last = (long.0, AreLong-push xs y long.1 last)

-- a segment that fits makes a longer trace
pub IsTrace-push : (xs : List Segment) (y : Segment) → IsTrace xs → Fits xs y
    → IsTrace (xs ++ y ∷ [])
IsTrace-push xs y trace fits = search (rules, AreLong-push, end_of-append, trace.long)

-- the segment at a place ends within what the rest of the list does
pub place-in_time : (segments : List Segment) (i end : ℕ) (d : Segment) → i < length segments
    → end_of end (drop i segments) ≡ end_of 0 segments
    → IsTrace segments → end + (slice_index_or segments i d).len ≤ TIME_MAX
place-in_time segments i end d below same trace =
    let last : end_of (end + (slice_index_or segments i d).len) (drop (suc i) segments)
    ≡ end_of 0 segments = rw (drop-cons segments i d below) at same in
    omega (
      arith,
      end_of-le (end + (slice_index_or segments i d).len) (drop (suc i) segments),
      last,
      trace.in_time,
    )

-- the next segment of a list ends within what the rest of the list does
pub next-in_time : (segments : List Segment) (i start limit : ℕ) (d : Segment)
    → i < length segments → end_of start (drop i segments) ≤ limit
    → start + (slice_index_or segments i d).len ≤ limit
next-in_time segments i start limit d below within =
    let ends : end_of (start + (slice_index_or segments i d).len) (drop (suc i) segments) ≤ limit =
    rw (drop-cons segments i d below) at within in
    omega (
      arith,
      end_of-le (start + (slice_index_or segments i d).len) (drop (suc i) segments),
      ends,
    )

pub end_of-take-le : (start : ℕ) (segments : List Segment) (place : ℕ)
    → end_of start (take place segments) ≤ end_of start segments
end_of-take-le start [] zero = omega arith
end_of-take-le start [] (suc place) = omega arith
end_of-take-le start (segment ∷ rest) zero = end_of-le start (segment ∷ rest)
end_of-take-le start (segment ∷ rest) (suc place) =
    end_of-take-le (start + segment.len) rest place

-- the first segments in two steps
pub end_of-from : (start : ℕ) (segments : List Segment) (from to : ℕ) → from ≤ to
    → end_of (end_of start (take from segments)) (take (to - from) (drop from segments))
    ≡ end_of start (take to segments)
end_of-from start segments zero to order = ap (λ n. end_of start (take n segments)) (omega arith)
end_of-from start segments (suc from) zero order = absurd (omega arith)
end_of-from start [] (suc from) (suc to) order = nothing (suc to - suc from) where
  nothing : (n : ℕ) → end_of start (take n []) ≡ start
  nothing zero = refl
  nothing (suc n) = refl
end_of-from start (segment ∷ rest) (suc from) (suc to) order =
    let step : suc to - suc from ≡ to - from = omega arith in
    rw step (end_of-from (start + segment.len) rest from to (omega arith))
