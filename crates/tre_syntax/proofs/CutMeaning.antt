-- Every expression is cut as its atoms are, and what crosses comes from its parts.
use Rattle.std.proofs.Common.{ℕ, ◌*◌, ◌<◌, ◌≤◌, ◌↔◌, refl, arith, rules}
use Rattle.std.proofs.Math.Nat.{mul-le-mul_right}
use Rattle.tre_pairs.specs.Cuts.{IsMoment}
use Rattle.tre_pairs.specs.Pairs.{Pairs, Composed, Either}
use Rattle.tre_pairs.proofs.CutLaws.{ImpliesFrom, IsCut, ImpliesFrom-Composed, ImpliesFrom-Either, ImpliesFrom-Both, ImpliesFrom-Lasting, ImpliesFrom-Chain, crossing_composed, crossing_chain}
use Rattle.tre_pairs.proofs.Laws.{Scales, IsOrdered, IsInstant, IsBounded}
use Rattle.tre_trace.specs.Trace.{end_of, AreLong}
use Rattle.tre_trace.proofs.Segments.{end_of-append}
use Rattle.tre_zone.specs.Interval.{LastsWithin}
use Rattle.tre_syntax.specs.Cut.{CutRest, time_of, uncut, front_of, back_of, MatchesBefore, MatchesBehind, MatchesAcross}
use Rattle.tre_syntax.specs.Meaning.{Meaning, MatchesRest}
use Rattle.tre_syntax.specs.PatternTree.{Atom, PatternTree, empty, atom, sequence, alternation, intersection, repetition, restriction}
use Rattle.tre_syntax.specs.Rest.{Rest, AtomMatches}
use Rattle.tre_syntax.proofs.AtomCuts.{Implies-behind, ImpliesFrom-late}
use Rattle.tre_syntax.proofs.Atoms.{end_of-le, Scales-Atom, IsOrdered-Atom, IsInstant-Empty, IsBounded-Atom}
use Rattle.tre_syntax.proofs.Growth.{Implies-grown, ImpliesBefore-cut}
use Rattle.tre_syntax.proofs.MeaningLaws.{Scales-Meaning, IsOrdered-Meaning, IsBounded-Meaning, Implies-Meaning, ImpliesBefore-Meaning}

module _ (reading reading' : Atom → Pairs) (cut : ℕ) (ordered : (x : Atom) → IsOrdered (reading x))
    (same : IsInstant (reading empty))
    (atoms : (x : Atom) → ImpliesFrom cut (reading x) (reading' x)) where
  pub ImpliesFrom-Meaning : (tree : PatternTree)
      → ImpliesFrom cut (Meaning reading tree) (Meaning reading' tree)
  ImpliesFrom-Meaning (atom x) = atoms x
  ImpliesFrom-Meaning (sequence e f) =
      ImpliesFrom-Composed cut (Meaning reading e) (Meaning reading' e) (Meaning reading f)
      (Meaning reading' f) (IsOrdered-Meaning reading ordered same e) (ImpliesFrom-Meaning e)
      (ImpliesFrom-Meaning f)
  ImpliesFrom-Meaning (alternation e f) =
      ImpliesFrom-Either cut (Meaning reading e) (Meaning reading' e) (Meaning reading f)
      (Meaning reading' f) (ImpliesFrom-Meaning e) (ImpliesFrom-Meaning f)
  ImpliesFrom-Meaning (intersection e f) =
      ImpliesFrom-Both cut (Meaning reading e) (Meaning reading' e) (Meaning reading f)
      (Meaning reading' f) (ImpliesFrom-Meaning e) (ImpliesFrom-Meaning f)
  ImpliesFrom-Meaning (repetition e) =
      ImpliesFrom-Chain cut (Meaning reading e) (Meaning reading' e) (reading empty)
      (reading' empty) (IsOrdered-Meaning reading ordered same e) (ImpliesFrom-Meaning e)
      (atoms empty)
  ImpliesFrom-Meaning (restriction e ends) =
      ImpliesFrom-Lasting cut (LastsWithin ends) (Meaning reading e) (Meaning reading' e)
      (ImpliesFrom-Meaning e)

pub IsOrdered-rest : (tree : PatternTree) (rest : Rest) → IsOrdered (MatchesRest tree rest)
IsOrdered-rest tree rest = search (rules, IsOrdered-Meaning, IsOrdered-Atom, IsInstant-Empty)

pub Scales-rest : (tree : PatternTree) (rest : Rest) → Scales (MatchesRest tree rest)
Scales-rest tree rest = Scales-Meaning (AtomMatches rest) (Scales-Atom rest) tree

pub IsBounded-rest : (tree : PatternTree) (rest : Rest)
    → IsBounded rest.start (end_of rest.start rest.segments) (MatchesRest tree rest)
IsBounded-rest tree rest =
    IsBounded-Meaning (AtomMatches rest) rest.start (end_of rest.start rest.segments)
    (IsBounded-Atom rest) tree

module _ (cut : CutRest) (long : AreLong cut.front) where
  pub IsCut-Matches : (tree : PatternTree) → IsCut (time_of cut) (MatchesRest tree (uncut cut))
      (MatchesBefore tree cut) (MatchesBehind tree cut)
  IsCut-Matches tree =
      let s = cut.start in
      let l = cut.before in
      let u = cut.front in
      let v = cut.back in
      let whole = AtomMatches (uncut cut) in
      record {
        grows = Implies-Meaning (AtomMatches (front_of cut)) whole (Implies-grown s l u v) tree;
        early = ImpliesBefore-Meaning whole (AtomMatches (front_of cut)) (time_of cut)
            (IsOrdered-Atom (uncut cut)) (IsInstant-Empty (uncut cut))
            (ImpliesBefore-cut s l u v) tree;
        behind = Implies-Meaning (AtomMatches (back_of cut)) whole (Implies-behind s l u v) tree;
        late = ImpliesFrom-Meaning whole (AtomMatches (back_of cut)) (time_of cut)
            (IsOrdered-Atom (uncut cut)) (IsInstant-Empty (uncut cut))
            (ImpliesFrom-late s l u v long) tree;
        ends = (IsBounded-rest tree (front_of cut)).end;
        begins = (IsBounded-rest tree (back_of cut)).begin;
      }

  pub crossing_sequence : (left right : PatternTree) (a b n : ℕ) → 0 < n
      → MatchesAcross (sequence left right) cut a b n
      ↔ Either (Composed (MatchesAcross left cut) (MatchesBehind right cut))
      (Composed (MatchesBefore left cut) (MatchesAcross right cut)) a b n
  crossing_sequence left right =
      crossing_composed (time_of cut) (MatchesRest left (uncut cut)) (MatchesBefore left cut)
      (MatchesBehind left cut) (MatchesRest right (uncut cut)) (MatchesBefore right cut)
      (MatchesBehind right cut) (IsCut-Matches left) (IsCut-Matches right)
      (IsOrdered-rest left (uncut cut)) (IsOrdered-rest right (uncut cut))

  from_here : (tree : PatternTree) (a b n : ℕ) → MatchesRest tree (uncut cut) a b n
      → a ≤ time_of cut * n → AtomMatches (front_of cut) empty a a n
  from_here tree a b n h early = record {
    begin = (IsBounded-rest tree (uncut cut)).begin a b n h;
    same = refl;
    end = early;
  }

  to_here : (tree : PatternTree) (a b n : ℕ) → MatchesRest tree (uncut cut) a b n
      → AtomMatches (uncut cut) empty b b n
  to_here tree a b n h =
      let begin = (IsBounded-rest tree (uncut cut)).begin a b n h in
      let rising = (IsOrdered-rest tree (uncut cut)).le a b n h in
      record {
        begin = omega (arith, begin, rising);
        same = refl;
        end = (IsBounded-rest tree (uncut cut)).end a b n h;
      }

  at_cut : (n : ℕ) → AtomMatches (uncut cut) empty (time_of cut * n) (time_of cut * n) n
  at_cut n = search (rules, mul-le-mul_right, end_of-le, end_of-append, time_of)

  pub crossing_repetition : (tree : PatternTree) (a b n : ℕ) → 0 < n
      → MatchesAcross (repetition tree) cut a b n
      ↔ Either (IsMoment (time_of cut)) (Composed (MatchesBefore (repetition tree) cut)
      (Composed (MatchesAcross tree cut) (MatchesBehind (repetition tree) cut))) a b n
  crossing_repetition tree =
      crossing_chain (time_of cut) (MatchesRest tree (uncut cut)) (MatchesBefore tree cut)
      (MatchesBehind tree cut) (AtomMatches (uncut cut) empty) (AtomMatches (front_of cut) empty)
      (AtomMatches (back_of cut) empty) (IsCut-Matches tree) (IsCut-Matches (atom empty))
      (IsOrdered-rest tree (uncut cut)) (IsInstant-Empty (uncut cut))
      (Scales-rest tree (uncut cut)) (Scales-rest tree (front_of cut))
      (Scales-rest tree (back_of cut)) (Scales-Atom (uncut cut) empty)
      (Scales-Atom (front_of cut) empty) (Scales-Atom (back_of cut) empty)
      (from_here tree) (to_here tree) at_cut
