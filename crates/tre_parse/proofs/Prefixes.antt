-- What begins a rule is what some tokens complete: both directions.
use Rattle.std.proofs.Common.{◌≡◌, ◌⊎◌, inl, inr, true, false, List, [], ◌∷◌, ◌++◌, refl, sym, ◌∙◌, ap, subst, arith, append_assoc}
use Rattle.std.proofs.lemmas.List.{append-nil}
use Rattle.tre_state.specs.StateTree.{StateTree, always, disjunction, conjunction, negation}
use Rattle.tre_syntax.specs.PatternTree.{PatternTree, atom, literal, rise, fall, event, alternation, intersection, sequence, restriction}
use Rattle.tre_parse.specs.declared.token.Token.{Token}
use Rattle.tre_parse.specs.declared.connective.Connective.TheVariants.{And, Or}
use Rattle.tre_parse.specs.declared.connective.Join.TheVariants.{Sequence, Intersection, Alternation}
use Rattle.tre_trace.specs.Reading.{Vocabulary}
use Rattle.tre_parse.specs.declared.before.Before.TheVariants.{Other}
use Rattle.tre_parse.specs.Grammar as grammar
use Rattle.tre_parse.specs.Grammar.{StateRule, state, conj, unary, Rule, expr, meet, seq, post, primary}
use Rattle.tre_parse.specs.Grammar.{SpellsState, Spells}
use Rattle.tre_parse.specs.Begins as begin
use Rattle.tre_parse.specs.Begins.{BeginsState, Begins, IsCompletable}
use Rattle.tre_parse.specs.Front.{front}
use Rattle.tre_parse.specs.Reader.{Reading, got, stop, StateTask, state_by, state_operand, PatternTask, expression_by, operand, unsigned, Task, of_state, of_pattern, Made, read, read_state, read_pattern}
use Rattle.tre_parse.proofs.Fixpoint.{left}
use Rattle.tre_parse.proofs.Spelt.{whole_state, whole_expression, whole_operand}
use Rattle.tre_parse.proofs.Spelt.{after, spread, state_is_read, is_read}
use Rattle.tre_parse.specs.TokenWords.{AreTheirs, tokens_for, tokens_as, Piece, words_by, tokens_by}
use Rattle.tre_parse.proofs.Says.{tokens_split, Spelt, Begun, before, Says, TaskSays}
use Rattle.tre_parse.proofs.Rules.{task_says, begun_state, begun}
use Rattle.tre_parse.specs.Words.{Words, place_in}
use Rattle.std.specs.Prelude.{ℕ, codes, not}

module _ (scale : ℕ) (known : Vocabulary) where
  -- ---- what is spelt is read to its end

  abbrev pub state_task : StateRule → StateTask
  state_task (unary inside) = state_operand (not inside)
  state_task conj = state_by And
  state_task state = state_by Or

  abbrev pub pattern_task : Rule → PatternTask
  pattern_task expr = expression_by Alternation
  pattern_task meet = expression_by Intersection
  pattern_task seq = expression_by Sequence
  pattern_task post = operand
  pattern_task primary = unsigned

  state_end : (r : StateRule) (xs : Words) (s : StateTree) → SpellsState scale known r xs s
      → read_state (state_task r) (tokens_as scale known xs ++ []) ≡ got s []
  state_end (unary inside) xs s h = state_is_read scale known (unary inside) xs s h []
  state_end conj xs s h = state_is_read scale known conj xs s h [] (omega arith)
      ∙ whole_state And s [] (omega arith)
  state_end state xs s h = state_is_read scale known state xs s h [] (omega arith)
      ∙ whole_state Or s [] (omega arith)

  pattern_end : (r : Rule) (xs : Words) (e : PatternTree) → Spells scale known r xs e
      → read_pattern (pattern_task r) (tokens_as scale known xs ++ []) ≡ got e []
  pattern_end expr xs e h = is_read scale known expr xs e h [] (omega arith)
      ∙ whole_expression Alternation e [] (omega arith)
  pattern_end meet xs e h = is_read scale known meet xs e h [] (omega arith)
      ∙ whole_expression Intersection e [] (omega arith)
  pattern_end seq xs e h = is_read scale known seq xs e h [] (omega arith)
      ∙ whole_expression Sequence e [] (omega arith)
  pattern_end post xs e h = is_read scale known post xs e h [] (omega arith) ∙ whole_operand e [] (omega arith)
  pattern_end primary xs e h = is_read scale known primary xs e h [] (omega arith)

  -- The same of the tokens alone.
  pub pattern_whole : (r : Rule) (xs : Words) (e : PatternTree) → Spells scale known r xs e
      → read_pattern (pattern_task r) (tokens_as scale known xs) ≡ got e []
  pattern_whole r xs e h =
      ap (λ ts. read_pattern (pattern_task r) ts) (sym (append-nil (tokens_as scale known xs)))
      ∙ pattern_end r xs e h

  -- ---- each front of what is spelt begins the rule

  -- What is read to its end with more tokens is read to its end without them.
  none_left : (task : Task) (xs : List (Piece scale known)) (ys : List Token)
      (taken rest : List (Piece scale known)) (o : Reading (Made task))
      → xs ≡ taken ++ rest → left (read task (tokens_by scale known xs ++ ys)) ≡ [] →
      ((other : List Token) → front other ≡ front (tokens_by scale known rest)
      → read task (tokens_by scale known taken ++ other) ≡ before other o) → rest ≡ []
  none_left task xs ys taken [] o e q alike = refl
  none_left task xs ys taken (t ∷ rest) o e q alike =
      let more = tokens_by scale known rest ++ ys in
      let long = ap (λ ts. read task (ts ++ ys)) (tokens_split scale known xs taken (t ∷ rest) e)
      ∙ ap (λ ts. read task ts)
      (append_assoc (tokens_by scale known taken) (t.token ∷ tokens_by scale known rest) ys)
      ∙ alike (t.token ∷ more) refl in
      absurd (never o (sym (ap left long) ∙ q))
    where
      never : (r : Reading (Made task))
          → left (before (t.token ∷ (tokens_by scale known rest ++ ys)) r) ≡ [] → ⊥
      never (got x us) k = cc
      never (stop us) k = cc

  front_says : (task : Task) (xs : List (Piece scale known)) (ys : List Token)
      → left (read task (tokens_by scale known xs ++ ys)) ≡ []
      → ((x : Made task) × Spelt scale known task (words_by scale known xs) x)
      ⊎ Begun scale known task (words_by scale known xs)
  front_says task xs ys q = let s = task_says scale known task xs in
      by s (read task (tokens_by scale known xs)) s.says (ap (words_by scale known) (sym (s.split
      ∙ ap (λ ts. s.taken ++ ts)
      (none_left task xs ys s.taken s.rest (read task (tokens_by scale known xs)) s.split q s.alike)
      ∙ append-nil s.taken)))
    where
      by : (s : TaskSays scale known task xs) (o : Reading (Made task))
          → Says scale known (Spelt scale known task) (Begun scale known task)
          (words_by scale known s.taken) o
          → words_by scale known s.taken ≡ words_by scale known xs →
          ((x : Made task) × Spelt scale known task (words_by scale known xs) x)
          ⊎ Begun scale known task (words_by scale known xs)
      by s (got x rest) h e = inl (x, subst (λ (ws : Words). Spelt scale known task ws x) e h)
      by s (stop rest) h e = inr (subst (λ (ws : Words). Begun scale known task ws) e h)

  -- the tokens of words behind these
  abbrev pub behind : List (Piece scale known) → Words → List Token
  behind xs ys = tokens_for scale known (after scale known Other (words_by scale known xs)) ys

  pub beside : (xs : List (Piece scale known)) (ys : Words) → AreTheirs scale known xs
      → tokens_by scale known xs ++ behind xs ys
      ≡ tokens_as scale known (words_by scale known xs ++ ys)
  beside xs ys e =
      ap (λ ts. ts ++ behind xs ys) e
      ∙ sym (sym (append-nil (tokens_as scale known (words_by scale known xs ++ ys)))
      ∙ spread scale known (words_by scale known xs) ys []
      ∙ ap (λ ts. tokens_as scale known (words_by scale known xs) ++ ts) (append-nil (behind xs ys)))

  -- What a rule's task spells and begins the rule does.
  state_begun : (r : StateRule) (xs : Words) → ((s : StateTree)
      × Spelt scale known (of_state (state_task r)) xs s) ⊎ Begun scale known (of_state (state_task r)) xs → BeginsState scale known r xs
  state_begun (unary true) xs (inl k) = begun_state scale known (unary true) xs k.0 k.1
  state_begun (unary true) xs (inr k) = k
  state_begun (unary false) xs (inl k) = begun_state scale known (unary false) xs k.0 k.1
  state_begun (unary false) xs (inr k) = k
  state_begun conj xs (inl k) = begun_state scale known conj xs k.0 k.1
  state_begun conj xs (inr k) = k
  state_begun state xs (inl k) = begun_state scale known state xs k.0 k.1
  state_begun state xs (inr k) = k

  pub state_front : (r : StateRule) (xs : List (Piece scale known)) (ys : Words) (s : StateTree)
      → AreTheirs scale known xs → SpellsState scale known r (words_by scale known xs ++ ys) s
      → BeginsState scale known r (words_by scale known xs)
  state_front r xs ys s e h =
      state_begun r (words_by scale known xs) (front_says (of_state (state_task r)) xs (behind xs ys)
      (ap (λ us. left (read_state (state_task r) us)) (beside xs ys e
      ∙ sym (append-nil (tokens_as scale known (words_by scale known xs ++ ys))))
      ∙ ap left (state_end r (words_by scale known xs ++ ys) s h)))

  pattern_begun : (r : Rule) (xs : Words) → ((e : PatternTree)
      × Spelt scale known (of_pattern (pattern_task r)) xs e) ⊎ Begun scale known (of_pattern (pattern_task r)) xs
      → Begins scale known r xs
  pattern_begun expr xs (inl k) = begun scale known expr xs k.0 k.1
  pattern_begun expr xs (inr k) = k
  pattern_begun meet xs (inl k) = begun scale known meet xs k.0 k.1
  pattern_begun meet xs (inr k) = k
  pattern_begun seq xs (inl k) = begun scale known seq xs k.0 k.1
  pattern_begun seq xs (inr k) = k
  pattern_begun post xs (inl k) = begun scale known post xs k.0 k.1
  pattern_begun post xs (inr k) = k
  pattern_begun primary xs (inl k) = begun scale known primary xs k.0 k.1
  pattern_begun primary xs (inr k) = k

  pub front_begins : (r : Rule) (xs : List (Piece scale known)) (ys : Words) (e : PatternTree)
      → AreTheirs scale known xs → Spells scale known r (words_by scale known xs ++ ys) e
      → Begins scale known r (words_by scale known xs)
  front_begins r xs ys e own h =
      pattern_begun r (words_by scale known xs) (front_says (of_pattern (pattern_task r)) xs (behind xs ys)
      (ap (λ us. left (read_pattern (pattern_task r) us)) (beside xs ys own)
      ∙ ap left (pattern_whole r (words_by scale known xs ++ ys) e h)))

  -- Each front that begins a rule is completed by some tokens.
  abbrev pub CompletedState : StateRule → Words → Type 0
  CompletedState r xs = IsCompletable (SpellsState scale known r) xs

  abbrev pub Completed : Rule → Words → Type 0
  Completed r xs = IsCompletable (Spells scale known r) xs

  true_state : (r : StateRule) → SpellsState scale known r (codes "true" ∷ []) always
  true_state (unary inside) = grammar.unary_true inside
  true_state conj = grammar.conj_unary _ _ (grammar.unary_true true)
  true_state state = grammar.state_conj _ _ (grammar.conj_unary _ _ (grammar.unary_true true))

  alone_state : (r : StateRule) (xs : Words) (s : StateTree) → SpellsState scale known r xs s
      → CompletedState r xs
  alone_state r xs s h = let P = λ (ts : Words). SpellsState scale known r ts s in
      record { rest = []; tree = s; spells = subst P (sym (append-nil xs)) h }

  regroup : (xs ys zs : Words) (mark : List ℕ) → xs ++ mark ∷ (ys ++ zs) ≡ (xs ++ mark ∷ ys) ++ zs
  regroup xs ys zs mark = sym (append_assoc xs (mark ∷ ys) zs)

  pub state_completes : (r : StateRule) (xs : Words) → BeginsState scale known r xs → CompletedState r xs
  state_completes r _ (begin.none _) = record {
    rest = codes "true" ∷ [];
    tree = always;
    spells =
        true_state r;
  }
  state_completes _ _ (begin.unary_whole inside xs s h) = alone_state (unary inside) xs s h
  state_completes _ _ (begin.unary_bang inside xs h) =
      let c = state_completes (unary inside) xs h in record {
        rest = c.rest;
        tree = negation c.tree;
        spells =
            grammar.unary_bang inside _ _ c.spells;
      }
  state_completes _ _ (begin.braces xs h) =
      let c = state_completes state xs h in
      let P = λ (ts : Words). SpellsState scale known (unary false) (codes "{" ∷ ts) c.tree in
      record {
        rest = c.rest ++ codes "}" ∷ [];
        tree = c.tree;
        spells =
            subst P (append_assoc xs c.rest (codes "}" ∷ [])) (grammar.braces _ _ c.spells);
      }
  state_completes _ _ (begin.parens xs h) =
      let c = state_completes state xs h in
      let P = λ (ts : Words). SpellsState scale known (unary true) (codes "(" ∷ ts) c.tree in
      record {
        rest = c.rest ++ codes ")" ∷ [];
        tree = c.tree;
        spells =
            subst P (append_assoc xs c.rest (codes ")" ∷ [])) (grammar.parens _ _ c.spells);
      }
  state_completes _ _ (begin.state_conj xs h) =
      let c = state_completes conj xs h in record {
        rest = c.rest;
        tree = c.tree;
        spells =
            grammar.state_conj _ _ c.spells;
      }
  state_completes _ _ (begin.state_bars xs ys s h k) =
      let c = state_completes conj ys k in
      let P = λ (ts : Words). SpellsState scale known state ts (disjunction s c.tree) in
      record {
        rest = c.rest;
        tree = disjunction s c.tree;
        spells =
            subst P (regroup xs ys c.rest (codes "||")) (grammar.state_bars _ _ _ _ h c.spells);
      }
  state_completes _ _ (begin.conj_unary xs h) =
      let c = state_completes (unary true) xs h in record {
        rest = c.rest;
        tree = c.tree;
        spells =
            grammar.conj_unary _ _ c.spells;
      }
  state_completes _ _ (begin.conj_ampersands xs ys s h k) =
      let c = state_completes (unary true) ys k in
      let P = λ (ts : Words). SpellsState scale known conj ts (conjunction s c.tree) in
      record {
        rest = c.rest;
        tree = conjunction s c.tree;
        spells =
            subst P (regroup xs ys c.rest (codes "&&"))
            (grammar.conj_ampersands _ _ _ _ h c.spells);
      }

  true_expression : (r : Rule) → Spells scale known r (codes "true" ∷ []) (atom (literal always))
  true_expression primary = grammar.primary_lit _ _ (grammar.unary_true false)
  true_expression post = grammar.post_primary _ _ (grammar.primary_lit _ _ (grammar.unary_true false))
  true_expression seq = grammar.seq_post _ _ (grammar.post_primary _ _
      (grammar.primary_lit _ _ (grammar.unary_true false)))
  true_expression meet = grammar.meet_seq _ _ (grammar.seq_post _ _
      (grammar.post_primary _ _ (grammar.primary_lit _ _ (grammar.unary_true false))))
  true_expression expr = grammar.expr_meet _ _ (grammar.meet_seq _ _
      (grammar.seq_post _ _ (grammar.post_primary _ _ (grammar.primary_lit _ _ (grammar.unary_true false)))))

  alone_expression : (r : Rule) (xs : Words) (e : PatternTree) → Spells scale known r xs e → Completed r xs
  alone_expression r xs e h = let P = λ (ts : Words). Spells scale known r ts e in
      record { rest = []; tree = e; spells = subst P (sym (append-nil xs)) h }

  pub completes : (r : Rule) (xs : Words) → Begins scale known r xs → Completed r xs
  completes r _ (begin.none _) = record {
    rest = codes "true" ∷ [];
    tree = atom (literal always);
    spells =
        true_expression r;
  }
  completes _ _ (begin.expr_meet xs h) = let c = completes meet xs h in
      record { rest = c.rest; tree = c.tree; spells = grammar.expr_meet _ _ c.spells }
  completes _ _ (begin.meet_seq xs h) = let c = completes seq xs h in
      record { rest = c.rest; tree = c.tree; spells = grammar.meet_seq _ _ c.spells }
  completes _ _ (begin.seq_post xs h) = let c = completes post xs h in
      record { rest = c.rest; tree = c.tree; spells = grammar.seq_post _ _ c.spells }
  completes _ _ (begin.post_primary xs h) = let c = completes primary xs h in
      record { rest = c.rest; tree = c.tree; spells = grammar.post_primary _ _ c.spells }
  completes _ _ (begin.post_whole xs e h) = alone_expression post xs e h
  completes _ _ (begin.expr_bar xs ys e h k) =
      let c = completes meet ys k in
      let P = λ (ts : Words). Spells scale known expr ts (alternation e c.tree) in
      record {
        rest = c.rest;
        tree = alternation e c.tree;
        spells =
            subst P (regroup xs ys c.rest (codes "|")) (grammar.expr_bar _ _ _ _ h c.spells);
      }
  completes _ _ (begin.meet_ampersand xs ys e h k) =
      let c = completes seq ys k in
      let P = λ (ts : Words). Spells scale known meet ts (intersection e c.tree) in
      record {
        rest = c.rest;
        tree = intersection e c.tree;
        spells =
            subst P (regroup xs ys c.rest (codes "&")) (grammar.meet_ampersand _ _ _ _ h c.spells);
      }
  completes _ _ (begin.seq_semicolon xs ys e h k) =
      let c = completes post ys k in
      let P = λ (ts : Words). Spells scale known seq ts (sequence e c.tree) in
      record {
        rest = c.rest;
        tree = sequence e c.tree;
        spells =
            subst P (regroup xs ys c.rest (codes ";")) (grammar.seq_semicolon _ _ _ _ h c.spells);
      }
  completes _ _ (begin.post_percent xs ys e h k) =
      let P = λ (ts : Words). Spells scale known post ts (restriction e k.ends) in
      record {
        rest = k.more;
        tree = restriction e k.ends;
        spells =
            subst P (regroup xs ys k.more (codes "%")) (grammar.post_percent _ _ _ _ h k.spells);
      }
  completes _ _ (begin.primary_whole xs e h) = alone_expression primary xs e h
  completes _ _ (begin.primary_parens xs h) =
      let c = completes expr xs h in
      let P = λ (ts : Words). Spells scale known primary (codes "(" ∷ ts) c.tree in
      record {
        rest = c.rest ++ codes ")" ∷ [];
        tree = c.tree;
        spells =
            subst P (append_assoc xs c.rest (codes ")" ∷ [])) (grammar.primary_parens _ _ c.spells);
      }
  completes _ _ begin.primary_rise = record {
    rest = codes "(" ∷ codes "true" ∷ codes ")" ∷ [];
    tree =
        atom (rise always);
    spells = grammar.primary_rise (codes "true" ∷ []) always (true_state state);
  }
  completes _ _ begin.primary_fall = record {
    rest = codes "(" ∷ codes "true" ∷ codes ")" ∷ [];
    tree =
        atom (fall always);
    spells = grammar.primary_fall (codes "true" ∷ []) always (true_state state);
  }
  completes _ _ (begin.primary_rise_parens xs h) =
      let c = state_completes state xs h in
      let P = λ (ts : Words). Spells scale known primary (codes "rise" ∷ codes "(" ∷ ts) (atom (rise c.tree)) in
      record {
        rest = c.rest ++ codes ")" ∷ [];
        tree = atom (rise c.tree);
        spells =
            subst P (append_assoc xs c.rest (codes ")" ∷ [])) (grammar.primary_rise _ _ c.spells);
      }
  completes _ _ (begin.primary_fall_parens xs h) =
      let c = state_completes state xs h in
      let P = λ (ts : Words). Spells scale known primary (codes "fall" ∷ codes "(" ∷ ts) (atom (fall c.tree)) in
      record {
        rest = c.rest ++ codes ")" ∷ [];
        tree = atom (fall c.tree);
        spells =
            subst P (append_assoc xs c.rest (codes ")" ∷ [])) (grammar.primary_fall _ _ c.spells);
      }
  completes _ _ begin.primary_event = record {
    rest = codes "(" ∷ codes "e" ∷ codes ")" ∷ [];
    tree = atom (event (place_in known.events (codes "e")));
    spells = grammar.primary_event (codes "e") refl;
  }
  completes _ _ begin.primary_event_paren = record {
    rest = codes "e" ∷ codes ")" ∷ [];
    tree = atom (event (place_in known.events (codes "e")));
    spells = grammar.primary_event (codes "e") refl;
  }
  completes _ _ (begin.primary_event_name text is) = record {
    rest = codes ")" ∷ [];
    tree = atom (event (place_in known.events text));
    spells = grammar.primary_event text is;
  }
  completes _ _ (begin.primary_lit xs h) =
      let c = state_completes (unary false) xs h in record {
        rest = c.rest;
        tree =
            atom (literal c.tree);
        spells = grammar.primary_lit _ _ c.spells;
      }
  completes _ _ (begin.primary_begins xs h) =
      let c = state_completes (unary false) xs h in record {
        rest = c.rest;
        tree =
            sequence (atom (rise c.tree)) (atom (literal c.tree));
        spells =
            grammar.primary_begins _ _ c.spells;
      }
