-- Sweeping one layer at a time; a sweep over statements, and from a cut, follows the path.
use Rattle.std.proofs.Common.{◌≡◌, ◌∙◌, ℕ, ◌+◌, Bool, false, List, [], ◌∷◌, ◌++◌, map, refl, sym, ap}
use Rattle.std.specs.Prelude.{if◌then◌else◌}
use Rattle.civl_tree.specs.declared.expr.Expr.{Expr}
use Rattle.civl_tree.specs.declared.stmt.Stmt.{Stmt, out-Stmt, roll-Stmt, out-roll-Stmt, roll-out-Stmt, map-Stmt}
use Rattle.civl_tree.specs.declared.stmt.Stmt.TheOpen as stmt
use Rattle.civl_tree.specs.declared.stmt.Stmt.TheFolds.{para-roll-Stmt, ind-Stmt}
use Rattle.civl_tree.specs.Numbering.{size_of, sizes_of, numbered}
use Rattle.civl_meaning.specs.Rest.{Rest, rest_at}
use Rattle.civl_layers.specs.declared.cut.Cut.{Cut}
use Rattle.civl_layers.specs.declared.cut.CutKind.{CutKind}
use Rattle.civl_layers.specs.declared.cut.CutKind.TheVariants as kind
use Rattle.civl_conditions.specs.paths.Paths.{Course, Progress, Outcome, Past, Comes, Fails, Stops, after, tested, pass, pass_all, from_loop, from_layer, from_rest, from_kind, path_from}
use Rattle.civl_conditions.proofs.paths.Passing.{pass_layer, pass_is, pass_none, pass_more, after_same}
use Rattle.civl_conditions.proofs.paths.Going.{pass_joined}
use Rattle.civl_moves.specs.sweeps.Sweeps.{Swept, Sweeping, standing, where_onward, by_both, first_begins, second_begins, joined, gated, stopped, cut_at, with_assign, with_call, with_commit, with_intro, swept_in, sweep_in, sweep_step, sweep, sweep_all, sweep_loop, sweep_layer, sweep_rest, sweep_kind, sweep_from, sweep_begins}
use Rattle.civl_moves.specs.sweeps.Draws.{is_past, SweepsDrawRests, SweepsDrawPaths}
use Rattle.civl_moves.proofs.sweeps.Drawing.{Follows, follow, follow_onward, follow_then, follow_none, follow_as}
use Rattle.civl_moves.proofs.sweeps.Following.{assign_follows, assert_follows, commit_follows, intro_follows, stopped_follows, cut_follows}
use Rattle.civl_moves.proofs.sweeps.Calling.{call_follows}
use Rattle.civl_moves.proofs.sweeps.Branching.{both_follow, head_follows}

module _ (c : Course) where
  -- ---- one layer

  abbrev with_sweep : Stmt → Stmt × Sweeping
  with_sweep s = (s, sweep c s)

  stmts_swept : (ss : List Stmt) → swept_in (map with_sweep ss) ≡ ss
  stmts_swept [] = refl
  stmts_swept (s ∷ ss) = ap (λ (r : List Stmt). s ∷ r) (stmts_swept ss)

  sweeps_with : (ss : List Stmt) (at : ℕ) (d : Swept) → sweep_in (map with_sweep ss) at d ≡ sweep_all c (numbered at ss) d
  unfolding sweep_all
  sweeps_with [] at d = refl
  sweeps_with (s ∷ ss) at d = sweeps_with ss (at + size_of s) (where_onward (sweep c s at) d)

  abbrev pub sweep_of_layer : stmt.Stmt-F Stmt → Sweeping
  sweep_of_layer (stmt.Assign x e) at d = with_assign c x e d
  sweep_of_layer (stmt.Assert e) at d = gated (tested c e (standing d)) d
  sweep_of_layer (stmt.If e a b) at d = by_both (tested c e (standing d)) (sweep_all c (numbered (at + 1) a)) (sweep_all c (numbered (at + 1 + sizes_of a) b)) d
  sweep_of_layer (stmt.While e a) at d = stopped d
  sweep_of_layer (stmt.YieldLoop e i a) at d = cut_at at d
  sweep_of_layer (stmt.RankLoop e r i a) at d = cut_at at d
  sweep_of_layer (stmt.Call f es rs) at d = with_call c f es rs at d
  sweep_of_layer (stmt.Yield i) at d = cut_at at d
  sweep_of_layer stmt.Commit at d = with_commit d
  sweep_of_layer (stmt.Intro x e) at d = with_intro c x e d
  sweep_of_layer (stmt.Spawn f es) at d = stopped d

  both_same : (t : Bool) (f g h k : Swept → Swept) (d : Swept) → ((x : Swept) → f x ≡ h x) → ((x : Swept) → g x ≡ k x) → by_both t f g d ≡ by_both t h k d
  both_same t f g h k d p q =
      ap (λ (a : Swept). joined t a (g (second_begins t d a))) (p (first_begins t d))
      ∙ ap (λ (b : Swept). joined t (h (first_begins t d)) b) (q (second_begins t d (h (first_begins t d))))

  second_sweep : (a b : List Stmt) (at : ℕ) (d : Swept) → sweep_in (map with_sweep b) (at + 1 + sizes_of (swept_in (map with_sweep a))) d ≡ sweep_all c (numbered (at + 1 + sizes_of a) b) d
  second_sweep a b at d = ap (λ (ss : List Stmt). sweep_in (map with_sweep b) (at + 1 + sizes_of ss) d) (stmts_swept a) ∙ sweeps_with b (at + 1 + sizes_of a) d

  sweep_step_is : (d : stmt.Stmt-F Stmt) (at : ℕ) (e : Swept) → sweep_step c (map-Stmt Stmt (Stmt × Sweeping) with_sweep d) at e ≡ sweep_of_layer d at e
  sweep_step_is (stmt.If e a b) at d = both_same (tested c e (standing d)) _ _ _ _ d (sweeps_with a (at + 1)) (second_sweep a b at)
  sweep_step_is (stmt.Assign x e) at d = refl
  sweep_step_is (stmt.Assert e) at d = refl
  sweep_step_is (stmt.While e a) at d = refl
  sweep_step_is (stmt.YieldLoop e i a) at d = refl
  sweep_step_is (stmt.RankLoop e r i a) at d = refl
  sweep_step_is (stmt.Call f es rs) at d = refl
  sweep_step_is (stmt.Yield i) at d = refl
  sweep_step_is stmt.Commit at d = refl
  sweep_step_is (stmt.Intro x e) at d = refl
  sweep_step_is (stmt.Spawn f es) at d = refl

  pub sweep_is : (s : Stmt) (at : ℕ) (d : Swept) → sweep c s at d ≡ sweep_of_layer (out-Stmt s) at d
  unfolding sweep
  sweep_is s at d =
      let e : sweep c s ≡ sweep_step c (map-Stmt Stmt (Stmt × Sweeping) with_sweep (out-Stmt s)) = ap (sweep c) (sym (roll-out-Stmt s)) ∙ para-roll-Stmt Sweeping (sweep_step c) (out-Stmt s) in
      ap (λ (f : Sweeping). f at d) e ∙ sweep_step_is (out-Stmt s) at d

  pub sweep_none : (d : Swept) → sweep_all c [] d ≡ d
  unfolding sweep_all
  sweep_none d = refl

  pub sweep_more : (at : ℕ) (s : Stmt) (rest : Rest) (d : Swept) → sweep_all c ((at, s) ∷ rest) d ≡ sweep_all c rest (where_onward (sweep c s at) d)
  unfolding sweep_all
  sweep_more at s rest d = refl

  pub sweep_joined : (r k : Rest) (d : Swept) → sweep_all c (r ++ k) d ≡ sweep_all c k (sweep_all c r d)
  unfolding sweep_all
  sweep_joined [] k d = refl
  sweep_joined (q ∷ r) k d = sweep_joined r k (where_onward (sweep c q.1 q.0) d)

  -- ---- statements

  abbrev Sweeps : Stmt → Type 0
  Sweeps s = (at : ℕ) → Follows (pass c s at) (sweep c s at)

  none_follow : Follows (pass_all c []) (sweep_all c [])
  none_follow = follow_as Past (pass_all c []) (λ d. d) (sweep_all c []) (λ p. sym (pass_none c p)) (λ d. sym (sweep_none d)) follow_none

  more_follow : (at : ℕ) (s : Stmt) (rest : Rest) → Follows (pass c s at) (sweep c s at) → Follows (pass_all c rest) (sweep_all c rest) → Follows (pass_all c ((at, s) ∷ rest)) (sweep_all c ((at, s) ∷ rest))
  more_follow at s rest one others =
      follow_as _ _ _ _ (λ p. sym (pass_more c at s rest p)) (λ d. sym (sweep_more at s rest d))
      (follow_then (pass c s at) (pass_all c rest) (where_onward (sweep c s at)) (sweep_all c rest) (follow_onward (pass c s at) (sweep c s at) one) others)

  all_follow : {S : Type 0} (ys : List S) (v : S → Stmt) → ((x : S) → Sweeps (v x)) → (at : ℕ) → Follows (pass_all c (numbered at (map v ys))) (sweep_all c (numbered at (map v ys)))
  all_follow [] v f at = none_follow
  all_follow (y ∷ ys) v f at = more_follow at (v y) (numbered (at + size_of (v y)) (map v ys)) (f y at) (all_follow ys v f (at + size_of (v y)))

  layer_follows : {S : Type 0} (d : stmt.Stmt-F S) (v : S → Stmt) → ((x : S) → Sweeps (v x)) → (at : ℕ) → Follows (pass_layer c (map-Stmt S Stmt v d) at) (sweep_of_layer (map-Stmt S Stmt v d) at)
  layer_follows (stmt.Assign x e) v f at = assign_follows c x e at
  layer_follows (stmt.Assert e) v f at = assert_follows c e at
  layer_follows (stmt.If e x y) v f at = both_follow _ _ _ _ (all_follow x v f (at + 1)) (all_follow y v f (at + 1 + sizes_of (map v x))) (tested c e)
  layer_follows (stmt.While e x) v f at = stopped_follows
  layer_follows (stmt.YieldLoop e i x) v f at = cut_follows at
  layer_follows (stmt.RankLoop e r i x) v f at = cut_follows at
  layer_follows (stmt.Call g es rs) v f at = call_follows c g es rs at
  layer_follows (stmt.Yield i) v f at = cut_follows at
  layer_follows stmt.Commit v f at = commit_follows
  layer_follows (stmt.Intro x e) v f at = intro_follows c x e
  layer_follows (stmt.Spawn g es) v f at = stopped_follows

  pub stmt_follows : (s : Stmt) (at : ℕ) → Follows (pass c s at) (sweep c s at)
  stmt_follows s =
      ind-Stmt Sweeps (λ x y e at.
      let r = roll-Stmt x in
      let d = out-roll-Stmt x ∙ sym e in
      follow_as _ _ _ _
      (λ p. sym (pass_is c r at p ∙ ap (λ (d : stmt.Stmt-F Stmt). pass_layer c d at p) d))
      (λ b. sym (sweep_is r at b ∙ ap (λ (d : stmt.Stmt-F Stmt). sweep_of_layer d at b) d))
      (layer_follows y (λ z. z.0) (λ z. z.1) at)) s

  pub rest_follows : (rest : Rest) → Follows (pass_all c rest) (sweep_all c rest)
  rest_follows [] = none_follow
  rest_follows (q ∷ rest) = more_follow q.0 q.1 rest (stmt_follows q.1 q.0) (rest_follows rest)

  -- ---- from a cut

  -- a loop, before which paths end
  abbrev IsLoop : ℕ × Stmt → Type 0
  IsLoop q = (p : Progress) → pass c q.1 q.0 p ≡ Comes q.0 p

  after_comes : (at : ℕ) (o : Outcome) → is_past (after o (Comes at)) ≡ false
  after_comes at (Past p) = refl
  after_comes at (Comes n p) = refl
  after_comes at (Fails p) = refl
  after_comes at (Stops p) = refl

  comes_by : (q : ℕ × Stmt) (k : Rest) → IsLoop q → (p : Progress) → pass_all c (q ∷ k) p ≡ Comes q.0 p
  comes_by q k l p = pass_more c q.0 q.1 k p ∙ ap (λ (o : Outcome). after o (pass_all c k)) (l p)

  round_is : (r : Rest) (q : ℕ × Stmt) (k : Rest) → IsLoop q → (p : Progress) → pass_all c (r ++ q ∷ k) p ≡ after (pass_all c r p) (Comes q.0)
  round_is r q k l p = pass_joined c r (q ∷ k) p ∙ after_same (pass_all c r p) _ _ (comes_by q k l)

  loop_follows : (e : Expr) (a : List Stmt) (q : ℕ × Stmt) (k : Rest) → IsLoop q → Follows (from_loop c e a (q ∷ k)) (sweep_loop c e a (q ∷ k))
  loop_follows e a q k l =
      let body = numbered (q.0 + 1) a in
      follow_as _ _ _ _
      (λ p. ap (λ (o : Outcome). if tested c e p then o else pass_all c k p) (round_is body q [] l p ∙ sym (round_is body q k l p)))
      (λ d. refl)
      (head_follows _ _ _ _ (rest_follows (body ++ q ∷ [])) (rest_follows k) (λ p. ap is_past (round_is body q [] l p) ∙ after_comes q.0 (pass_all c body p)) (tested c e))

  is_loop : (q : ℕ × Stmt) (d : stmt.Stmt-F Stmt) → out-Stmt q.1 ≡ d → ((p : Progress) → pass_layer c d q.0 p ≡ Comes q.0 p) → IsLoop q
  is_loop q d e h p = pass_is c q.1 q.0 p ∙ ap (λ (d : stmt.Stmt-F Stmt). pass_layer c d q.0 p) e ∙ h p

  layer_from : (d : stmt.Stmt-F Stmt) (q : ℕ × Stmt) (k : Rest) → out-Stmt q.1 ≡ d → Follows (from_layer c d (q ∷ k)) (sweep_layer c d (q ∷ k))
  unfolding from_layer sweep_layer
  layer_from (stmt.YieldLoop e i a) q k h = loop_follows e a q k (is_loop q (stmt.YieldLoop e i a) h (λ p. refl))
  layer_from (stmt.RankLoop e r i a) q k h = loop_follows e a q k (is_loop q (stmt.RankLoop e r i a) h (λ p. refl))
  layer_from _ q k h = rest_follows k

  from_rest_follows : (k : Rest) → Follows (from_rest c k) (sweep_rest c k)
  from_rest_follows [] = follow_none
  from_rest_follows (q ∷ k) = layer_from (out-Stmt q.1) q k refl

  from_kind_follows : (kind : CutKind) (number : ℕ) → Follows (from_kind c number kind) (sweep_kind c number kind)
  from_kind_follows kind.Entry number = rest_follows (numbered 0 c.proc.body)
  from_kind_follows kind.Yield number = from_rest_follows (rest_at c.proc.body number)
  from_kind_follows kind.YieldLoop number = from_rest_follows (rest_at c.proc.body number)
  from_kind_follows kind.RankLoop number = from_rest_follows (rest_at c.proc.body number)

  pub path_follows : (cut : Cut) → Follows (path_from c cut) (sweep_from c cut)
  unfolding path_from sweep_from
  path_follows cut = from_kind_follows cut.kind cut.statement

pub sweeps_draw_rests : SweepsDrawRests
sweeps_draw_rests c rest o d h = follow _ _ (rest_follows c rest) o d h

pub sweeps_draw_paths : SweepsDrawPaths
sweeps_draw_paths c cut p = (path_follows c cut).on (sweep_begins p) (record { onward = refl; live = refl; whole = refl; free = tt })
