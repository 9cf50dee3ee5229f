use Rattle.std.proofs.Common.{◌≡◌, ℕ, ◌+◌, ◌*◌, Bool, true, false, cond, arith, rules}
use Rattle.tre_strips.specs.Bar.{place_of}
use Rattle.tre_strips.specs.Times.{sample_of}
use Rattle.tre_strips.specs.declared.bar.BarEnd.{BarEnd}
use Rattle.tre_strips.proofs.times.Times.place.Goals as goal
use Rattle.tre_strips.proofs.times.Times.place.Goals.{then-end, else-end}

abbrev bit : Bool → ℕ
bit flag = cond flag 1 0

at : (end : BarEnd) (moves after_it : Bool) (sample moment : ℕ) → end.moves ≡ moves
    → end.after ≡ after_it → moment ≡ 2 * end.ticks + cond moves sample 0
    → 2 * moment + bit after_it ≡ place_of end sample 2
unfolding place_of
at end moves after_it sample moment e e' is = search (rules, end.moves)

pub returns-then-end-2 : goal.returns-then-end-2
returns-then-end-2 c = elim c.if-end.branch [
  | then-end w ↦
      let is = w.moment-is in
      let ticks = c.from-ticks.ensures in
      let sample = w.sample.ensures.same in
      at c.args.end.now true true (sample_of c.args.self.now) c.if-end.moment w.if-end.true
      c.if-end-2.true (omega arith)
  | else-end w ↦
      let is = w.moment-is in
      let ticks = c.from-ticks.ensures in
      at c.args.end.now false true (sample_of c.args.self.now) c.if-end.moment w.if-end.false
      c.if-end-2.true (omega arith)
]

pub returns-else-end-2 : goal.returns-else-end-2
returns-else-end-2 c = elim c.if-end.branch [
  | then-end w ↦
      let is = w.moment-is in
      let ticks = c.from-ticks.ensures in
      let sample = w.sample.ensures.same in
      let whole = at c.args.end.now true false (sample_of c.args.self.now) c.if-end.moment
      w.if-end.true c.if-end-2.false (omega arith) in omega arith
  | else-end w ↦
      let is = w.moment-is in
      let ticks = c.from-ticks.ensures in
      let whole = at c.args.end.now false false (sample_of c.args.self.now) c.if-end.moment
      w.if-end.false c.if-end-2.false (omega arith) in omega arith
]
