-- A trace is a chain of turns.
use Rattle.std.proofs.Common.{◌≡◌, ℕ, ◌+◌, Bool, true, false, List, [], ◌∷◌, ◌++◌, map, refl, sym, ◌∙◌, subst, append-nil}
use Rattle.std.specs.Prelude.{if◌then◌else◌}
use Rattle.civl_tree.specs.declared.expr.Expr.{Expr}
use Rattle.civl_tree.specs.declared.stmt.Stmt.{Stmt, out-Stmt, roll-Stmt, out-roll-Stmt, map-Stmt}
use Rattle.civl_tree.specs.declared.stmt.Stmt.TheOpen as stmt
use Rattle.civl_tree.specs.declared.stmt.Stmt.TheFolds.{ind-Stmt}
use Rattle.civl_tree.specs.Numbering.{size_of, sizes_of, numbered}
use Rattle.civl_meaning.specs.Rest.{Rest, rest_at}
use Rattle.civl_layers.specs.declared.cut.CutKind.{CutKind}
use Rattle.civl_layers.specs.declared.cut.CutKind.TheVariants as kind
use Rattle.civl_conditions.specs.paths.Paths.{Course, Progress, Outcome, Past, Comes, Fails, Stops, tested, pass}
use Rattle.civl_traces.specs.Traces.{Trace, Onward, told_by, exits, tell, tell_all, tell_loop, tell_layer, tell_rest, tell_kind, trace_from}
use Rattle.civl_traces.specs.Turns.{Turn, turn, turn_by, turn_layer, loop_turn, cut_turn, rest_turn, first_turn, Follows, TracesAreChains}
use Rattle.civl_traces.proofs.Telling.{tells, tell_is, tell_none, tell_more}

module _ (c : Course) where
  abbrev pub Chains : Turn → Trace → Type 0
  Chains first t = Follows c first t.passed t.at t.outcome

  -- what is told behind a rest is the chain from there
  abbrev Ready : Rest → Onward → Type 0
  Ready k onward = (p : Progress) → Chains (turn c k p) (onward p)

  as_told : (first : Turn) (t u : Trace) → t ≡ u → Chains first u → Chains first t
  as_told first t u e h = subst (Chains first) (sym e) h

  -- what is to be shown of a statement
  abbrev TurnsIn : Stmt → Type 0
  TurnsIn s = (at : ℕ) (k : Rest) (onward : Onward) → Ready k onward → Ready ((at, s) ∷ k) (tell c s s at onward)

  among_turns : {S : Type 0} (ys : List S) (v : S → Stmt) → ((x : S) → TurnsIn (v x)) → (at : ℕ) (k : Rest) (onward : Onward) → Ready k onward → Ready (numbered at (map v ys) ++ k) (tell_all c (numbered at (map v ys)) onward)
  among_turns [] v f at k onward h p = as_told (turn c k p) _ _ (tell_none c onward p) (h p)
  among_turns (y ∷ ys) v f at k onward h p =
      let s = v y in
      let next = numbered (at + size_of s) (map v ys) in
      as_told (turn c ((at, s) ∷ (next ++ k)) p) _ _ (tell_more c at s next onward p)
      (f y at (next ++ k) (tell_all c next onward) (among_turns ys v f (at + size_of s) k onward h) p)

  by_outcome : (at : ℕ) (k : Rest) (onward : Onward) → Ready k onward → (p : Progress) (o : Outcome) → Chains (turn_by at p k o) (told_by at p o onward)
  by_outcome at k onward h p (Past q) = (k, refl, h q)
  by_outcome at k onward h p (Comes n q) = refl
  by_outcome at k onward h p (Fails q) = refl
  by_outcome at k onward h p (Stops q) = refl

  by_test : (at : ℕ) (k x y : Rest) (onward : Onward) (p : Progress) (t : Bool) → Ready (x ++ k) (tell_all c x onward) → Ready (y ++ k) (tell_all c y onward)
      → Chains (turn c ((if t then x else y) ++ k) p) (if t then tell_all c x onward p else tell_all c y onward p)
  by_test at k x y onward p true h g = h p
  by_test at k x y onward p false h g = g p

  layer_turns : {S : Type 0} (d : stmt.Stmt-F S) (v : S → Stmt) → ((x : S) → TurnsIn (v x)) → (s : Stmt) (at : ℕ) (k : Rest) (onward : Onward) → Ready k onward
      → (p : Progress) → Chains (turn_layer c (map-Stmt S Stmt v d) s at k p) (tells c (map-Stmt S Stmt v d) s at onward p)
  layer_turns (stmt.If e x y) v f s at k onward h p =
      let a = map v x in
      let b = map v y in (
        (if tested c e p then numbered (at + 1) a else numbered (at + 1 + sizes_of a) b) ++ k,
        refl,
        by_test at k (numbered (at + 1) a) (numbered (at + 1 + sizes_of a) b) onward p (tested c e p)
            (among_turns x v f (at + 1) k onward h) (among_turns y v f (at + 1 + sizes_of a) k onward h),
      )
  layer_turns _ v f s at k onward h p = by_outcome at k onward h p (pass c s at p)

  stmt_turns : (s : Stmt) → TurnsIn s
  stmt_turns s =
      ind-Stmt TurnsIn (λ x y e at k onward h p.
      let r = roll-Stmt x in
      let d = out-roll-Stmt x ∙ sym e in
      as_told (turn c ((at, r) ∷ k) p) _ _ (tell_is c r r at onward p)
      (subst (λ (d : stmt.Stmt-F Stmt). Chains (turn_layer c d r at k p) (tells c d r at onward p)) (sym d)
      (layer_turns y (λ z. z.0) (λ z. z.1) r at k onward h p))) s

  pub rest_turns : (r k : Rest) (onward : Onward) → Ready k onward → Ready (r ++ k) (tell_all c r onward)
  rest_turns [] k onward h p = as_told (turn c k p) _ _ (tell_none c onward p) (h p)
  rest_turns (q ∷ r) k onward h p =
      as_told (turn c (q ∷ (r ++ k)) p) _ _ (tell_more c q.0 q.1 r onward p)
      (stmt_turns q.1 q.0 (r ++ k) (tell_all c r onward) (rest_turns r k onward h) p)

  all_turns : (r : Rest) → Ready r (tell_all c r (exits c))
  all_turns r = subst (λ (k : Rest). Ready k (tell_all c r (exits c))) (append-nil r) (rest_turns r [] (exits c) (λ p. refl))

  -- ---- from a cut

  loop_turns : (e : Expr) (a : List Stmt) (r : Rest) (p : Progress) → Chains (loop_turn c e a r p) (tell_loop c e a r (exits c) p)
  loop_turns e a [] p = refl
  loop_turns e a (q ∷ k) p = (if tested c e p then numbered (q.0 + 1) a ++ q ∷ k else k, refl, by_loop (tested c e p))
    where
      by_loop : (t : Bool) → Chains (turn c (if t then numbered (q.0 + 1) a ++ q ∷ k else k) p) (if t then tell_all c (numbered (q.0 + 1) a ++ q ∷ k) (exits c) p else tell_all c k (exits c) p)
      by_loop true = all_turns (numbered (q.0 + 1) a ++ q ∷ k) p
      by_loop false = all_turns k p

  cut_turns : (d : stmt.Stmt-F Stmt) (q : ℕ × Stmt) (k : Rest) (p : Progress) → Chains (cut_turn c d (q ∷ k) p) (tell_layer c d (q ∷ k) (exits c) p)
  unfolding cut_turn tell_layer
  cut_turns (stmt.YieldLoop e i a) q k p = loop_turns e a (q ∷ k) p
  cut_turns (stmt.RankLoop e r i a) q k p = loop_turns e a (q ∷ k) p
  cut_turns _ q k p = all_turns k p

  from_rest : (r : Rest) (p : Progress) → Chains (rest_turn c r p) (tell_rest c r (exits c) p)
  from_rest [] p = refl
  from_rest (q ∷ k) p = cut_turns (out-Stmt q.1) q k p

  kind_turns : (number : ℕ) (cut : CutKind) (p : Progress) → Chains (first_turn c number cut p) (tell_kind c number cut (exits c) p)
  kind_turns number kind.Entry p = all_turns (numbered 0 c.proc.body) p
  kind_turns number kind.Yield p = from_rest (rest_at c.proc.body number) p
  kind_turns number kind.YieldLoop p = from_rest (rest_at c.proc.body number) p
  kind_turns number kind.RankLoop p = from_rest (rest_at c.proc.body number) p

pub traces_are_chains : TracesAreChains
unfolding trace_from
traces_are_chains c cut p = kind_turns c cut.statement cut.kind p
