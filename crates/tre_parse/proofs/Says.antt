-- What is read is spelt, and where reading stops the words before it begin the rule.
use Rattle.std.proofs.Common.{◌≡◌, ℕ, ◌+◌, ◌*◌, ◌<◌, ◌≤◌, zero, suc, Bool, true, false, List, [], ◌∷◌, ◌++◌, length, map, refl, sym, ◌∙◌, ap, subst, arith, append_assoc, length-append, rules}
use Rattle.std.specs.Prelude.{if◌then◌else◌}
use Rattle.std.proofs.lemmas.List.{map-append, length-map, append-nil}
use Rattle.tre_trace.specs.Reading.{Vocabulary}
use Rattle.tre_state.specs.StateTree.{StateTree}
use Rattle.tre_syntax.specs.PatternTree.{PatternTree}
use Rattle.tre_parse.specs.declared.token.Token.{Token}
use Rattle.tre_parse.specs.declared.token.Token.TheVariants.{Name, EventName, Number}
use Rattle.tre_parse.specs.TokenWords.{Stands, Piece, words_by, tokens_by}
use Rattle.tre_parse.specs.Grammar.{SpellsState, SpellsInterval, Spells}
use Rattle.tre_parse.specs.Grammar.{post, primary}
use Rattle.tre_parse.specs.Begins.{BeginsState, BeginsInterval, Begins}
use Rattle.tre_parse.specs.Front.{front, tail}
use Rattle.tre_parse.specs.Joins.{connected_rule, operand_in, joined_rule}
use Rattle.tre_parse.specs.Reader.{Reading, got, stop, and_then, StateTask, state_by, state_after, state_operand, PatternTask, expression_by, expression_after, operand, operand_after, unsigned, Task, of_state, of_pattern, of_interval, Made, Program, give, halt, look, call, program, past, run, height, read}
use Rattle.tre_parse.proofs.Fixpoint.{left, size, IsGuarded, guarded, read_fixed, some_next}
use Rattle.tre_parse.specs.Words.{Words}

-- The same reading before other tokens.
abbrev pub before : {A : Type 0} → List Token → Reading A → Reading A
before tokens (got x rest) = got x tokens
before tokens (stop rest) = stop tokens

-- Tokens that begin alike.
front_alike : (taken rest other : List Token) → front other ≡ front rest
    → front (taken ++ other) ≡ front (taken ++ rest)
front_alike [] rest other e = e
front_alike (t ∷ taken) rest other e = refl

abbrev Reads : Type 0
Reads = (task : Task) → List Token → Reading (Made task)

module _ (scale : ℕ) (known : Vocabulary) where
  pub tokens_split : (pieces taken rest : List (Piece scale known)) → pieces ≡ taken ++ rest
      → tokens_by scale known pieces ≡ tokens_by scale known taken ++ tokens_by scale known rest
  tokens_split pieces taken rest e = ap (tokens_by scale known) e ∙ map-append (λ (piece : Piece scale known). piece.token) taken rest

  -- the first word, nothing where there is none
  abbrev front_word : List (Piece scale known) → List ℕ
  front_word [] = []
  front_word (piece ∷ rest) = piece.word

  front_stands : (pieces : List (Piece scale known)) → Stands scale known (front_word pieces) (front (tokens_by scale known pieces))
  front_stands [] = refl
  front_stands (piece ∷ rest) = piece.stands

  abbrev past_piece : Bool → List (Piece scale known) → List (Piece scale known)
  past_piece true (piece ∷ rest) = rest
  past_piece is pieces = pieces

  -- The words spell what a state's task reads.
  abbrev pub StateSpelt : StateTask → Words → StateTree → Type 0
  StateSpelt (state_by how) xs s = SpellsState scale known (connected_rule how) xs s
  StateSpelt (state_after how t) xs s = (ys : Words) → SpellsState scale known (connected_rule how) ys t
      → SpellsState scale known (connected_rule how) (ys ++ xs) s
  StateSpelt (state_operand braces) xs s = SpellsState scale known (operand_in braces) xs s

  abbrev pub PatternSpelt : PatternTask → Words → PatternTree → Type 0
  PatternSpelt (expression_by how) xs e = Spells scale known (joined_rule how) xs e
  PatternSpelt (expression_after how f) xs e = (ys : Words) → Spells scale known (joined_rule how) ys f
      → Spells scale known (joined_rule how) (ys ++ xs) e
  PatternSpelt operand xs e = Spells scale known post xs e
  PatternSpelt (operand_after f) xs e = (ys : Words) → Spells scale known post ys f
      → Spells scale known post (ys ++ xs) e
  PatternSpelt unsigned xs e = Spells scale known primary xs e

  abbrev pub Spelt : (task : Task) → Words → Made task → Type 0
  Spelt (of_state task) xs s = StateSpelt task xs s
  Spelt (of_pattern task) xs e = PatternSpelt task xs e
  Spelt of_interval xs ends = SpellsInterval scale known xs ends

  -- The words begin what a task reads.
  abbrev pub StateBegun : StateTask → Words → Type 0
  StateBegun (state_by how) xs = BeginsState scale known (connected_rule how) xs
  StateBegun (state_after how t) xs = (ys : Words) → SpellsState scale known (connected_rule how) ys t
      → BeginsState scale known (connected_rule how) (ys ++ xs)
  StateBegun (state_operand braces) xs = BeginsState scale known (operand_in braces) xs

  abbrev pub PatternBegun : PatternTask → Words → Type 0
  PatternBegun (expression_by how) xs = Begins scale known (joined_rule how) xs
  PatternBegun (expression_after how f) xs = (ys : Words) → Spells scale known (joined_rule how) ys f
      → Begins scale known (joined_rule how) (ys ++ xs)
  PatternBegun operand xs = Begins scale known post xs
  PatternBegun (operand_after f) xs = (ys : Words) → Spells scale known post ys f → Begins scale known post (ys ++ xs)
  PatternBegun unsigned xs = Begins scale known primary xs

  abbrev pub Begun : Task → Words → Type 0
  Begun (of_state task) xs = StateBegun task xs
  Begun (of_pattern task) xs = PatternBegun task xs
  Begun of_interval xs = BeginsInterval scale known xs

  -- Behind the words that it has taken, a program comes to what is spelt, and halts where they
  -- begin the rule.
  abbrev pub Holds : {A : Type 0} → (Words → A → Type 0) → (Words → Type 0) → Program A →
      Words → Type 0
  Holds Gives Halts (give x) xs = Gives xs x
  Holds Gives Halts halt xs = Halts xs
  Holds Gives Halts (look takes next) xs = (token : Token) (word : List ℕ) → Stands scale known word token →
      Holds Gives Halts (next token) (if takes token then xs ++ word ∷ [] else xs)
  Holds Gives Halts (call task next) xs =
      ((ys : Words) (x : Made task) → Spelt task ys x → Holds Gives Halts (next x) (xs ++ ys))
      × ((ys : Words) → Begun task ys → Halts (xs ++ ys))

  -- What a reading says of the words that it takes.
  abbrev pub Says : {A : Type 0} → (Words → A → Type 0) → (Words → Type 0) → Words →
      Reading A → Type 0
  Says Gives Halts xs (got x rest) = Gives xs x
  Says Gives Halts xs (stop rest) = Halts xs

  pub record IsSaid {A : Type 0} (Gives : Words → A → Type 0) (Halts : Words → Type 0)
      (xs : Words) (reads : List Token → Reading A) (pieces : List (Piece scale known)) : Type 0 where
    pub taken : List (Piece scale known)
    pub rest : List (Piece scale known)
    pub split : pieces ≡ taken ++ rest
    pub stays : left (reads (tokens_by scale known pieces)) ≡ tokens_by scale known rest
    pub says : Says Gives Halts (xs ++ words_by scale known taken) (reads (tokens_by scale known pieces))
    pub alike : (other : List Token) → front other ≡ front (tokens_by scale known rest)
        → reads (tokens_by scale known taken ++ other) ≡ before other (reads (tokens_by scale known pieces))

  look_said : {A : Type 0} (Gives : Words → A → Type 0) (Halts : Words → Type 0)
      (xs : Words) (reads : Reads) (takes : Token → Bool) (next : Token → Program A)
      (pieces : List (Piece scale known)) (is : Bool) → takes (front (tokens_by scale known pieces)) ≡ is →
      (is ≡ true → tokens_by scale known pieces ≡ front (tokens_by scale known pieces) ∷ tail (tokens_by scale known pieces)) →
      IsSaid Gives Halts (if is then xs ++ front_word pieces ∷ [] else xs)
      (run reads (next (front (tokens_by scale known pieces)))) (past_piece is pieces)
      → IsSaid Gives Halts xs (run reads (look takes next)) pieces
  look_said {A = A} Gives Halts xs reads takes next pieces false e some h =
      let tokens = tokens_by scale known pieces in
      let same = ap (λ (is : Bool). run reads (next (front tokens)) (past is tokens)) e in
      let Q = λ (o : Reading A). Says Gives Halts (xs ++ words_by scale known h.taken) o in
      record {
        taken = h.taken;
        rest = h.rest;
        split = h.split;
        stays = ap left same ∙ h.stays;
        says = subst Q (sym same) h.says;
        alike = λ other q.
            let f : front (tokens_by scale known h.taken ++ other) ≡ front tokens =
            front_alike (tokens_by scale known h.taken) (tokens_by scale known h.rest) other q
            ∙ sym (ap front (tokens_split pieces h.taken h.rest h.split)) in
            ap (λ (token : Token). run reads (next token) (past (takes token) (tokens_by scale known h.taken ++ other))) f
            ∙ ap (λ (is : Bool). run reads (next (front tokens)) (past is (tokens_by scale known h.taken ++ other))) e
            ∙ h.alike other q ∙ ap (before other) (sym same);
      }
  look_said {A = A} Gives Halts xs reads takes next [] true e some h =
      let none = some refl in absurd (cc)
  look_said {A = A} Gives Halts xs reads takes next (piece ∷ pieces) true e some h =
      let tokens = tokens_by scale known (piece ∷ pieces) in
      let same = ap (λ (is : Bool). run reads (next piece.token) (past is tokens)) e in
      let Q = λ (o : Reading A). Says Gives Halts (xs ++ words_by scale known (piece ∷ h.taken)) o in
      let R = λ (l : Words). Says Gives Halts l (run reads (next piece.token) (tokens_by scale known pieces)) in
      record {
        taken = piece ∷ h.taken;
        rest = h.rest;
        split = ap (λ l. piece ∷ l) h.split;
        stays = ap left same ∙ h.stays;
        says = subst Q (sym same)
            (subst R (append_assoc xs (piece.word ∷ []) (words_by scale known h.taken)) h.says);
        alike = λ other q.
            ap (λ (is : Bool). run reads (next piece.token)
            (past is (piece.token ∷ (tokens_by scale known h.taken ++ other)))) e
            ∙ h.alike other q ∙ ap (before other) (sym same);
      }

  fewer : (pieces taken rest : List (Piece scale known)) → pieces ≡ taken ++ rest → length rest ≤ length pieces
  fewer pieces taken rest e =
      let size = ap length e in
      let sum = length-append taken rest in
      omega (arith, size, sum)

  call_said : {A B : Type 0} (Gives : Words → A → Type 0) (Halts : Words → Type 0)
      (Given : Words → B → Type 0) (Begin : Words → Type 0) (xs : Words)
      (reads : List Token → Reading B) (next : B → List Token → Reading A) (pieces : List (Piece scale known)) →
      IsSaid Given Begin [] reads pieces →
      ((ys : Words) (x : B) (rest : List (Piece scale known)) → Given ys x → length rest ≤ length pieces →
      IsSaid Gives Halts (xs ++ ys) (next x) rest) → ((ys : Words) → Begin ys → Halts (xs ++ ys))
      → IsSaid Gives Halts xs (λ ts. and_then (reads ts) next) pieces
  call_said {A = A} {B = B} Gives Halts Given Begin xs reads next pieces h go begun =
      by (reads (tokens_by scale known pieces)) refl h.stays h.says h.alike
    where
      by : (o : Reading B) → reads (tokens_by scale known pieces) ≡ o → left o ≡ tokens_by scale known h.rest
          → Says Given Begin (words_by scale known h.taken) o →
          ((other : List Token) → front other ≡ front (tokens_by scale known h.rest)
          → reads (tokens_by scale known h.taken ++ other) ≡ before other o)
          → IsSaid Gives Halts xs (λ ts. and_then (reads ts) next) pieces
      by (stop rest) e stays says alike =
          let same = ap (λ o. and_then o next) e in
          let Q = λ (o : Reading A). Says Gives Halts (xs ++ words_by scale known h.taken) o in
          record {
            taken = h.taken;
            rest = h.rest;
            split = h.split;
            stays = ap left same ∙ stays;
            says = subst Q (sym same) (begun (words_by scale known h.taken) says);
            alike = λ other q.
                ap (λ o. and_then o next) (alike other q) ∙ ap (before other) (sym same);
          }
      by (got x rest) e stays says alike =
          let k = go (words_by scale known h.taken) x h.rest says (fewer pieces h.taken h.rest h.split) in
          let same = ap (λ o. and_then o next) e ∙ ap (next x) stays in
          let Q = λ (o : Reading A). Says Gives Halts (xs ++ words_by scale known (h.taken ++ k.taken)) o in
          let R = λ (l : Words). Says Gives Halts l (next x (tokens_by scale known h.rest)) in
          record {
            taken = h.taken ++ k.taken;
            rest = k.rest;
            split = h.split ∙ ap (λ l. h.taken ++ l) k.split
                ∙ sym (append_assoc h.taken k.taken k.rest);
            stays = ap left same ∙ k.stays;
            says = subst Q (sym same) (subst R (append_assoc xs (words_by scale known h.taken) (words_by scale known k.taken)
                ∙ ap (λ l. xs ++ l) (sym (map-append (λ (piece : Piece scale known). piece.word) h.taken k.taken)))
                k.says);
            alike = λ other q.
                ap (λ ts. and_then (reads (ts ++ other)) next)
                (map-append (λ (piece : Piece scale known). piece.token) h.taken k.taken)
                ∙ ap (λ ts. and_then (reads ts) next)
                (append_assoc (tokens_by scale known h.taken) (tokens_by scale known k.taken) other)
                ∙ ap (λ o. and_then o next) (alike (tokens_by scale known k.taken ++ other)
                (front_alike (tokens_by scale known k.taken) (tokens_by scale known k.rest) other q
                ∙ sym (ap front (tokens_split h.rest k.taken k.rest k.split))))
                ∙ k.alike other q ∙ ap (before other) (sym same);
          }

  -- ---- a program, and each task

  -- What a task says by itself.
  abbrev pub TaskSays : Task → List (Piece scale known) → Type 0
  TaskSays task pieces = IsSaid (Spelt task) (Begun task) [] (read task) pieces

  look_says : {A : Type 0} (Gives : Words → A → Type 0) (Halts : Words → Type 0)
      (takes : Token → Bool) (next : Token → Program A) (m bound : ℕ) (xs : Words)
      (pieces : List (Piece scale known)) (is : Bool) → takes (front (tokens_by scale known pieces)) ≡ is →
      (takes (front (tokens_by scale known pieces)) ≡ true
      → tokens_by scale known pieces ≡ front (tokens_by scale known pieces) ∷ tail (tokens_by scale known pieces)) →
      IsGuarded (if is then 8 else bound) (next (front (tokens_by scale known pieces))) →
      8 * length pieces + bound ≤ m →
      Holds Gives Halts (next (front (tokens_by scale known pieces)))
      (if is then xs ++ front_word pieces ∷ [] else xs) →
      ((b : ℕ) → IsGuarded b (next (front (tokens_by scale known pieces))) → (ys : Words) (ps : List (Piece scale known)) →
      8 * length ps + b ≤ m → Holds Gives Halts (next (front (tokens_by scale known pieces))) ys →
      IsSaid Gives Halts ys (run read (next (front (tokens_by scale known pieces)))) ps) →
      IsSaid Gives Halts xs (run read (look takes next)) pieces
  look_says Gives Halts takes next m bound xs pieces false e some k le l go =
      look_said Gives Halts xs (λ t ts. read t ts) takes next pieces false e (λ q. some (e ∙ q))
      (go bound k xs pieces le l)
  look_says Gives Halts takes next m bound xs [] true e some k le l go =
      let none = some e in absurd (cc)
  look_says Gives Halts takes next m bound xs (piece ∷ pieces) true e some k le l go =
      look_said Gives Halts xs (λ t ts. read t ts) takes next (piece ∷ pieces) true e (λ q. some e)
      (go 8 k (xs ++ piece.word ∷ []) pieces (omega (arith, le)) l)

  program_says : {A : Type 0} (Gives : Words → A → Type 0) (Halts : Words → Type 0)
      (m : ℕ) → ((task : Task) (ps : List (Piece scale known)) → size task (tokens_by scale known ps) < m → TaskSays task ps) →
      (p : Program A) (bound : ℕ) → IsGuarded bound p → (xs : Words) (pieces : List (Piece scale known)) →
      8 * length pieces + bound ≤ m → Holds Gives Halts p xs
      → IsSaid Gives Halts xs (run read p) pieces
  program_says Gives Halts m says (give x) bound g xs pieces le h = record {
    taken = [];
    rest = pieces;
    split = refl;
    stays = refl;
    says = subst (λ (l : Words). Gives l x) (sym (append-nil xs)) h;
    alike = λ other q. refl;
  }
  program_says Gives Halts m says halt bound g xs pieces le h = record {
    taken = [];
    rest = pieces;
    split = refl;
    stays = refl;
    says = subst Halts (sym (append-nil xs)) h;
    alike = λ other q. refl;
  }
  program_says Gives Halts m says (look takes next) bound g xs pieces le h =
      look_says Gives Halts takes next m bound xs pieces
      (takes (front (tokens_by scale known pieces))) refl (some_next takes (tokens_by scale known pieces) g.0)
      (g.1 (front (tokens_by scale known pieces))) le
      (h (front (tokens_by scale known pieces)) (front_word pieces) (front_stands pieces))
      (λ b k ys ps lt l. program_says Gives Halts m says (next (front (tokens_by scale known pieces))) b k ys ps lt l)
  program_says Gives Halts m says (call task next) bound g xs pieces le h =
      let count = length-map pieces (λ (piece : Piece scale known). piece.token) in
      call_said Gives Halts (Spelt task) (Begun task) xs (read task)
      (λ x rest. run read (next x) rest) pieces (says task pieces (omega (arith, g.0, le, count)))
      (λ ys x rest k lt. program_says Gives Halts m says (next x) bound (g.1 x) (xs ++ ys) rest
      (omega (arith, le, lt)) (h.0 ys x k)) h.1

  abbrev pub ProgramHolds : Task → Type 0
  ProgramHolds task = Holds (Spelt task) (Begun task) (program task) []

  fixed_says : (task : Task) (pieces : List (Piece scale known))
      → IsSaid (Spelt task) (Begun task) [] (run read (program task)) pieces → TaskSays task pieces
  fixed_says task pieces h =
      let same = sym (read_fixed task (tokens_by scale known pieces)) in
      let Q = λ (o : Reading (Made task)). Says (Spelt task) (Begun task) (words_by scale known h.taken) o in
      record {
        taken = h.taken;
        rest = h.rest;
        split = h.split;
        stays = ap left (sym same) ∙ h.stays;
        says = subst Q same h.says;
        alike = λ other q. read_fixed task (tokens_by scale known h.taken ++ other)
            ∙ h.alike other q ∙ ap (before other) same;
      }

  deep_says : ((task : Task) → ProgramHolds task) → (n : ℕ) (task : Task) (pieces : List (Piece scale known))
      → size task (tokens_by scale known pieces) < n → TaskSays task pieces
  deep_says holds zero task pieces lt = absurd (omega arith)
  deep_says holds (suc n) task pieces lt =
      let count = length-map pieces (λ (piece : Piece scale known). piece.token) in
      fixed_says task pieces
      (program_says (Spelt task) (Begun task) (size task (tokens_by scale known pieces))
      (λ t ps less. deep_says holds n t ps (omega (arith, lt, less))) (program task) (height task)
      (guarded task) [] pieces (omega (arith, count)) (holds task))

  -- Where each program holds, each task says so.
  pub says_by : ((task : Task) → ProgramHolds task) → (task : Task) (pieces : List (Piece scale known))
      → TaskSays task pieces
  says_by holds task pieces =
      deep_says holds (suc (size task (tokens_by scale known pieces))) task pieces (omega arith)
