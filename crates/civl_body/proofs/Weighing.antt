-- What passing statements weighs.
use Rattle.std.specs.Prelude.{get_or, drop, if◌then◌else◌}
use Rattle.std.proofs.Common.{◌≡◌, ◌∙◌, ℕ, ◌+◌, ◌*◌, ◌<◌, ◌≤◌, Bool, true, false, List, [], ◌∷◌, ◌++◌, length, refl, sym, ap, subst, arith, append_assoc}
use Rattle.std.proofs.lemmas.Bool.{false≢true}
use Rattle.std.proofs.lemmas.List.{drop_more}
use Rattle.civl_tree.specs.declared.expr.Expr.{Expr}
use Rattle.civl_tree.specs.declared.stmt.Stmt.{Stmt, out-Stmt}
use Rattle.civl_tree.specs.declared.stmt.Stmt.TheOpen as stmt
use Rattle.civl_tree.specs.declared.program.Proc.{Proc}
use Rattle.civl_tree.specs.declared.program.Program.{Program}
use Rattle.civl_tree.specs.Numbering.{numbered, size_of, sizes_of}
use Rattle.civl_tree.specs.rules.Scopes.{bind_globals, bind_params, bind_locals}
use Rattle.civl_meaning.specs.Layers.{program_at}
use Rattle.civl_meaning.specs.Rest.{Rest}
use Rattle.civl_conditions.specs.paths.Flows.{Flow, onward_flow, flow_then, flow, flow_all, flow_rest}
use Rattle.civl_conditions.proofs.paths.Passing.{flow_of_layer, flow_is, flow_more}
use Rattle.civl_conditions.proofs.paths.Following.{flow_append}
use Rattle.civl_conditions.specs.Weights.{layer_weight, body_weight, written_in, written_bits}
use Rattle.civl_body.specs.Passing.{IsLoop, IsPlain, loop_passed}
use Rattle.civl_body.specs.Weights.{passed_weights, spent}
use Rattle.civl_body.proofs.Heads.{round}

spent_most : (o : Bool) (n : ℕ) → spent o n ≤ 4 * n
spent_most true n = omega arith
spent_most false n = omega arith

module _ (program : Program) (layer : ℕ) (proc : Proc) where
  abbrev weights : Rest → ℕ
  weights = passed_weights program layer proc

  weights_append : (p q : Rest) → weights (p ++ q) ≡ weights p + weights q
  weights_append [] q = omega arith
  weights_append (x ∷ p) q = omega (arith, weights_append p q)

  then_more : (a b : Flow) → weights a.passed ≤ weights (flow_then a b).passed
  then_more a b = by a.onward
    where
      by : (o : Bool) → weights a.passed ≤ weights (if o then record { passed = a.passed ++ b.passed; ends = a.ends ++ b.ends; onward = b.onward } else a).passed
      by true = omega (arith, weights_append a.passed b.passed)
      by false = omega arith

  then_both : (a b : Flow) → a.onward ≡ true → weights (flow_then a b).passed ≡ weights a.passed + weights b.passed
  then_both a b o = ap (λ (c : Bool). weights (if c then record { passed = a.passed ++ b.passed; ends = a.ends ++ b.ends; onward = b.onward } else a).passed) o ∙ weights_append a.passed b.passed

  then_spent : (a b : Flow) (t u : Bool) → (u ≡ true → (t ≡ true) × (a.onward ≡ true)) → spent t (weights a.passed) + spent u (weights b.passed) ≤ spent t (weights (flow_then a b).passed)
  then_spent a b true true f = omega (arith, then_both a b (f refl).1)
  then_spent a b true false f = omega (arith, then_more a b)
  then_spent a b false true f = absurd (false≢true (f refl).0)
  then_spent a b false false f = omega arith

  pub more_spent : (at : ℕ) (x : Stmt) (k : Rest) (t u : Bool) (base now new : ℕ) → (u ≡ true → (t ≡ true) × ((flow x x at).onward ≡ true)) → now + spent t (weights (flow_all ((at, x) ∷ k)).passed) ≤ base → new ≤ now + spent t (weights (flow x x at).passed)
      → new + spent u (weights (flow_all k).passed) ≤ base
  more_spent at x k t u base now new f h l =
      let e = ap (λ (g : Flow). spent t (weights g.passed)) (flow_more at x k) in
      omega (arith, h, l, e, then_spent (flow x x at) (flow_all k) t u f)

  -- in a loop over statements
  pub item_spent : (items : List Stmt) (i : ℕ) (x : Stmt) (at next : ℕ) (t u : Bool) (base now new : ℕ) → i < length items → x ≡ get_or items i x → next ≡ at + size_of x → (u ≡ true → (t ≡ true) × ((flow x x at).onward ≡ true))
      → now + spent t (weights (flow_all (numbered at (drop i items))).passed) ≤ base → new ≤ now + spent t (weights (flow x x at).passed) → new + spent u (weights (flow_all (numbered next (drop (i + 1) items))).passed) ≤ base
  item_spent items i x at next t u base now new l e n f h w =
      let is : drop i items ≡ x ∷ drop (i + 1) items = drop_more items i x l ∙ ap (λ (y : Stmt). y ∷ drop (i + 1) items) (sym e) in
      let h2 = subst (λ (ss : List Stmt). now + spent t (weights (flow_all (numbered at ss)).passed) ≤ base) is h in
      subst (λ (m : ℕ). new + spent u (weights (flow_all (numbered m (drop (i + 1) items))).passed) ≤ base) (sym n) (more_spent at x (numbered (at + size_of x) (drop (i + 1) items)) t u base now new f h2 w)

  pub rest_spent : (ks : Rest) (i : ℕ) (q : ℕ × Stmt) (t u : Bool) (base now new : ℕ) → i < length ks → q ≡ get_or ks i q → (u ≡ true → (t ≡ true) × ((flow q.1 q.1 q.0).onward ≡ true))
      → now + spent t (weights (flow_all (drop i ks)).passed) ≤ base → new ≤ now + spent t (weights (flow q.1 q.1 q.0).passed) → new + spent u (weights (flow_all (drop (i + 1) ks)).passed) ≤ base
  rest_spent ks i q t u base now new l e f h w =
      let is : drop i ks ≡ q ∷ drop (i + 1) ks = drop_more ks i q l ∙ ap (λ (y : ℕ × Stmt). y ∷ drop (i + 1) ks) (sym e) in
      more_spent q.0 q.1 (drop (i + 1) ks) t u base now new f (subst (λ (r : Rest). now + spent t (weights (flow_all r).passed) ≤ base) is h) w

  -- ---- one statement

  pub one_weighs : (at : ℕ) (x : Stmt) (o : Bool) → o ≡ true → (d : stmt.Stmt-F Stmt) → out-Stmt x ≡ d → flow_of_layer d x at ≡ onward_flow ((at, x) ∷ []) → (old new k : ℕ) → new ≤ old + k → k ≤ 4 * layer_weight (program_at program layer) proc x d
      → new ≤ old + spent o (weights (flow x x at).passed)
  one_weighs at x o on d form passed old new k h l =
      let e = ap (λ (b : Bool). spent b (weights (flow x x at).passed)) on in
      let w = ap (λ (f : Flow). weights f.passed) (flow_is x x at ∙ ap (λ (c : stmt.Stmt-F Stmt). flow_of_layer c x at) form ∙ passed) in
      let own = ap (layer_weight (program_at program layer) proc x) form in
      omega (arith, h, l, e, w, own)

  pub if_weighs : (at : ℕ) (x : Stmt) (e : Expr) (a b : List Stmt) → out-Stmt x ≡ stmt.If e a b → (o o1 o3 : Bool) → o ≡ true → (behind : ℕ) → behind ≡ at + 1 + sizes_of a → (w0 w1 w2 w3 w4 dg dl : ℕ) → w1 ≤ w0 + body_weight program proc e + 3
      → w2 ≤ w1 + spent o1 (weights (flow_all (numbered (at + 1) a)).passed) → w3 ≤ w2 + spent o3 (weights (flow_all (numbered behind b)).passed) → w4 ≤ w3 + dg + dl + 2
      → dg ≤ written_bits (written_in (program_at program layer) x) (bind_globals program.globals) → dl ≤ written_bits (written_in (program_at program layer) x) (bind_params proc.outs ++ bind_locals proc.locals)
      → w4 ≤ w0 + spent o (weights (flow x x at).passed)
  if_weighs at x e a b form o o1 o3 on behind next w0 w1 w2 w3 w4 dg dl h1 h2 h3 h4 lg ll =
      let first = flow_all (numbered (at + 1) a) in
      let second = flow_all (numbered (at + 1 + sizes_of a) b) in
      let eo = ap (λ (b : Bool). spent b (weights (flow x x at).passed)) on in
      let w = ap (λ (f : Flow). weights f.passed) (flow_is x x at ∙ ap (λ (c : stmt.Stmt-F Stmt). flow_of_layer c x at) form) in
      let own = ap (layer_weight (program_at program layer) proc x) form in
      let both = weights_append first.passed second.passed in
      let same = ap (λ (n : ℕ). weights (flow_all (numbered n b)).passed) next in
      let m1 = spent_most o1 (weights first.passed) in
      let m3 = spent_most o3 (weights (flow_all (numbered behind b)).passed) in
      omega (arith, h1, h2, h3, h4, lg, ll, eo, w, own, both, same, m1, m3)

  -- ---- from a cut

  pub loop_weighs : (inside behind : Rest) (k : ℕ) (o1 o3 : Bool) (w0 w1 w2 w3 : ℕ) → w1 ≤ w0 + k + 3 → w2 ≤ w1 + spent o1 (weights (flow_all inside).passed) → w3 ≤ w2 + spent o3 (weights (flow_all behind).passed) → w3 ≤ w0 + (k + 3) + 4 * weights (loop_passed inside behind)
  loop_weighs inside behind k o1 o3 w0 w1 w2 w3 h1 h2 h3 =
      omega (arith, h1, h2, h3, spent_most o1 (weights (flow_all inside).passed), spent_most o3 (weights (flow_all behind).passed), weights_append (flow_all inside).passed (flow_all behind).passed)

  pub spent_weighs : (p : Rest) (o : Bool) (old new : ℕ) → new ≤ old + spent o (weights p) → new ≤ old + 4 * weights p
  spent_weighs p o old new h = omega (arith, h, spent_most o (weights p))

  pub plain_weighs : (n : ℕ) (s : Stmt) (k : Rest) → IsPlain s → (o : Bool) (old new : ℕ) → new ≤ old + spent o (weights (flow_all k).passed) → new ≤ old + 4 * weights (flow_rest ((n, s) ∷ k)).passed
  plain_weighs n s k p o old new h =
      let e = ap (λ (f : Flow). weights f.passed) (p.flows ((n, s) ∷ k)) in
      omega (arith, h, e, spent_most o (weights (flow_all k).passed))

  pub head_weighs : (n : ℕ) (s : Stmt) (e : Expr) (a : List Stmt) (k : Rest) → IsLoop s e a → (old new : ℕ) → new ≤ old + (body_weight program proc e + 3) + 4 * weights (loop_passed (round n s a) k) → new ≤ old + 4 * weights (flow_rest ((n, s) ∷ k)).passed
  head_weighs n s e a k l old new h =
      let body = numbered (n + 1) a in
      let inside = flow_all (body ++ (n, s) ∷ k) in
      let whole = ap (λ (f : Flow). weights f.passed) (l.flows ((n, s) ∷ k)) in
      let both = weights_append inside.passed (flow_all k).passed in
      let once = weights_append (flow_all (round n s a)).passed (flow_all k).passed in
      let more = then_more (flow_all (round n s a)) (flow_all k) in
      let again = ap (λ (f : Flow). weights f.passed) (sym (flow_append (round n s a) k) ∙ ap flow_all (append_assoc body ((n, s) ∷ []) k)) in
      let own = l.weighs (program_at program layer) proc in
      omega (arith, h, whole, both, once, more, again, own)
