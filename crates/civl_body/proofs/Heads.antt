-- The first of some statements, which is a cut: a loop, or another.
use Rattle.std.specs.Prelude.{drop, take, get_or, slice_get}
use Rattle.std.proofs.lemmas.List.{drop_more, take_rest}
use Rattle.civl_tree.proofs.Numbers.{sizes_are_counts}
use Rattle.civl_conditions.proofs.paths.Heading.{counted}
use Rattle.civl_meaning.specs.declared.remaining.Numbered.{Numbered}
use Rattle.civl_meaning.specs.Remaining.{rest_of}
use Rattle.civl_body.proofs.RestPassing.{ends_within}
use Rattle.std.specs.List.{Contains}
use Rattle.std.proofs.Common.{◌≡◌, ◌∙◌, ℕ, suc, ◌+◌, Some, List, [], ◌∷◌, ◌++◌, refl, sym, ap, subst, arith, append_assoc, inl, inr, ◌<◌, ◌-◌, ◌≤◌, length}
use Rattle.std.proofs.lemmas.List.Elements.{Contains-append_left, Contains-append_right, Contains-append_cases}
use Rattle.civl_tree.specs.declared.name.Name.{Name}
use Rattle.civl_tree.specs.declared.expr.Expr.{Expr}
use Rattle.civl_tree.specs.declared.program.Proc.{Proc}
use Rattle.civl_tree.specs.declared.program.Program.{Program}
use Rattle.civl_tree.specs.declared.stmt.Stmt.{Stmt, out-Stmt}
use Rattle.civl_tree.specs.declared.stmt.Stmt as tree
use Rattle.civl_tree.specs.declared.stmt.Stmt.TheOpen as stmt
use Rattle.civl_tree.specs.Numbering.{statement_at, numbered, inner_of, statements_of, sizes_of}
use Rattle.civl_tree.proofs.Preorder.{inner_layer, inner_is}
use Rattle.civl_meaning.specs.Rest.{Rest}
use Rattle.civl_terms.specs.declared.node.Node.{Node}
use Rattle.civl_conditions.specs.paths.Paths.{Course}
use Rattle.civl_conditions.specs.paths.Flows.{Flow, flow_all, flow_layer, flow_rest}
use Rattle.civl_conditions.proofs.paths.Following.{flow_append}
use Rattle.civl_conditions.proofs.paths.Each.{each_numbered}
use Rattle.civl_moves.specs.sweeps.Sweeps.{Swept, sweep_all, sweep_layer, sweep_rest}
use Rattle.civl_conditions.specs.Weights.{layer_weight}
use Rattle.civl_states.specs.declared.choices.Chosen.{Chosen}
use Rattle.civl_moves.specs.declared.sweep.Sweep.{Sweep}
use Rattle.civl_moves.specs.States.{swept_at}
use Rattle.civl_body.specs.Passing.{course_in, StandIn, HasChoices, SaysChoices, ReadyRest, ReadyLoop, ReadyHead, Passes, IsLoop, IsPlain, by_loop, loop_passed}
use Rattle.civl_body.proofs.Passing.{moves_as, has_less, says_less, first_within}
use Rattle.civl_body.proofs.Typed.{first_suits, form_kept}
use Rattle.civl_body.proofs.Forms.{is_assign, is_assert, is_if, is_while, is_yield_loop, is_rank_loop, is_call, is_yield, is_commit, is_intro, is_spawn}

plain_of : (s : Stmt) (d : stmt.Stmt-F Stmt) → out-Stmt s ≡ d → ((rest : Rest) → flow_layer d rest ≡ flow_all (drop 1 rest)) → ((c : Course) (rest : Rest) (x : Swept) → sweep_layer c d rest x ≡ sweep_all c (drop 1 rest) x) → IsPlain s
plain_of s d o f g = record {
  flows = λ rest. ap (λ (y : stmt.Stmt-F Stmt). flow_layer y rest) o ∙ f rest;
  sweeps = λ c rest x. ap (λ (y : stmt.Stmt-F Stmt). sweep_layer c y rest x) o ∙ g c rest x;
}

pub plain_assign : (s : Stmt) (x : Name) (e : Expr) → s ≡ tree.Assign x e → IsPlain s
unfolding flow_layer sweep_layer
plain_assign s x e is = plain_of s _ (is_assign s x e is) (λ rest. refl) (λ c rest d. refl)

pub plain_assert : (s : Stmt) (e : Expr) → s ≡ tree.Assert e → IsPlain s
unfolding flow_layer sweep_layer
plain_assert s e is = plain_of s _ (is_assert s e is) (λ rest. refl) (λ c rest d. refl)

pub plain_if : (s : Stmt) (e : Expr) (a b : List Stmt) → s ≡ tree.If e a b → IsPlain s
unfolding flow_layer sweep_layer
plain_if s e a b is = plain_of s _ (is_if s e a b is) (λ rest. refl) (λ c rest d. refl)

pub plain_while : (s : Stmt) (e : Expr) (a : List Stmt) → s ≡ tree.While e a → IsPlain s
unfolding flow_layer sweep_layer
plain_while s e a is = plain_of s _ (is_while s e a is) (λ rest. refl) (λ c rest d. refl)

pub plain_call : (s : Stmt) (f : Name) (es : List Expr) (rs : List Name) → s ≡ tree.Call f es rs → IsPlain s
unfolding flow_layer sweep_layer
plain_call s f es rs is = plain_of s _ (is_call s f es rs is) (λ rest. refl) (λ c rest d. refl)

pub plain_yield : (s : Stmt) (i : Expr) → s ≡ tree.Yield i → IsPlain s
unfolding flow_layer sweep_layer
plain_yield s i is = plain_of s _ (is_yield s i is) (λ rest. refl) (λ c rest d. refl)

pub plain_commit : (s : Stmt) → s ≡ tree.Commit → IsPlain s
unfolding flow_layer sweep_layer
plain_commit s is = plain_of s _ (is_commit s is) (λ rest. refl) (λ c rest d. refl)

pub plain_intro : (s : Stmt) (x : Name) (e : Expr) → s ≡ tree.Intro x e → IsPlain s
unfolding flow_layer sweep_layer
plain_intro s x e is = plain_of s _ (is_intro s x e is) (λ rest. refl) (λ c rest d. refl)

pub plain_spawn : (s : Stmt) (f : Name) (es : List Expr) → s ≡ tree.Spawn f es → IsPlain s
unfolding flow_layer sweep_layer
plain_spawn s f es is = plain_of s _ (is_spawn s f es is) (λ rest. refl) (λ c rest d. refl)

pub loop_yield_loop : (s : Stmt) (e i : Expr) (a : List Stmt) → s ≡ tree.YieldLoop e i a → IsLoop s e a
unfolding flow_layer sweep_layer
loop_yield_loop s e i a is =
    let o = is_yield_loop s e i a is in
    record {
      inner = inner_is s ∙ ap inner_layer o;
      flows = λ rest. ap (λ (y : stmt.Stmt-F Stmt). flow_layer y rest) o;
      sweeps = λ c rest x. ap (λ (y : stmt.Stmt-F Stmt). sweep_layer c y rest x) o;
      suits = λ program keeps proc there number at. first_suits _ e _ _ (form_kept program keeps proc there number s _ at o);
      weighs = λ plain proc. ap (layer_weight plain proc s) o;
    }

pub loop_rank_loop : (s : Stmt) (e r i : Expr) (a : List Stmt) → s ≡ tree.RankLoop e r i a → IsLoop s e a
unfolding flow_layer sweep_layer
loop_rank_loop s e r i a is =
    let o = is_rank_loop s e r i a is in
    record {
      inner = inner_is s ∙ ap inner_layer o;
      flows = λ rest. ap (λ (y : stmt.Stmt-F Stmt). flow_layer y rest) o;
      sweeps = λ c rest x. ap (λ (y : stmt.Stmt-F Stmt). sweep_layer c y rest x) o;
      suits = λ program keeps proc there number at. first_suits _ e _ _ (form_kept program keeps proc there number s _ at o);
      weighs = λ plain proc. ap (layer_weight plain proc s) o;
    }

-- a loop's body, and the loop again
abbrev pub round : ℕ → Stmt → List Stmt → Rest
round n s a = numbered (n + 1) a ++ (n, s) ∷ []

module _ (program : Program) (layer : ℕ) (proc : Proc) (chosen : List Chosen) where
  -- ---- where it is no loop

  pub plain_ready : (ns : List Node) (t : Sweep) (n : ℕ) (s : Stmt) (k : Rest) → IsPlain s → ReadyHead ns program layer proc chosen t ((n, s) ∷ k) → ReadyRest ns program layer proc chosen t k
  plain_ready ns t n s k p r = record {
    layered = r.layered;
    there = r.there;
    stands = r.stands.1;
    can = r.can;
    choices = λ o. subst (λ (f : Flow). HasChoices ns program layer chosen f.passed) (p.flows ((n, s) ∷ k)) r.choices;
  }

  pub plain_passes : (old new : List Node) (t u : Sweep) (n : ℕ) (s : Stmt) (k : Rest) → IsPlain s → Passes old new program layer proc chosen t u (flow_all k).passed (λ c. sweep_all c k)
      → Passes old new program layer proc chosen t u (flow_rest ((n, s) ∷ k)).passed (λ c. sweep_rest c ((n, s) ∷ k))
  plain_passes old new t u n s k p m v says =
      moves_as old new program proc t u _ _ (λ env. sym (p.sweeps (course_in program layer proc (v env)) ((n, s) ∷ k) (swept_at env old t)))
      (m v (λ o. subst (λ (f : Flow). SaysChoices old program layer chosen f.passed v) (p.flows ((n, s) ∷ k)) (says o)))

  -- ---- where it is one

  more_within : (xs k : Rest) (x : ℕ × Stmt) → Contains (flow_all xs).passed x → Contains (flow_all (xs ++ k)).passed x
  more_within xs k x c = subst (λ (f : Flow). Contains f.passed x) (sym (flow_append xs k)) (first_within (flow_all xs) (flow_all k) x c)

  loop_within : (n : ℕ) (s : Stmt) (e : Expr) (a : List Stmt) (k : Rest) → IsLoop s e a → (x : ℕ × Stmt) → Contains (loop_passed (round n s a) k) x → Contains (flow_rest ((n, s) ∷ k)).passed x
  loop_within n s e a k l x c =
      let inside = flow_all (numbered (n + 1) a ++ (n, s) ∷ k) in
      subst (λ (f : Flow). Contains f.passed x) (sym (l.flows ((n, s) ∷ k)))
      (Contains-append_right ((n, s) ∷ []) (inside.passed ++ (flow_all k).passed) x
      (elim (Contains-append_cases (flow_all (round n s a)).passed (flow_all k).passed x c) [
        | inl first ↦ Contains-append_left inside.passed (flow_all k).passed x (subst (λ (r : Rest). Contains (flow_all r).passed x) (append_assoc (numbered (n + 1) a) ((n, s) ∷ []) k) (more_within (round n s a) k x first))
        | inr behind ↦ Contains-append_right inside.passed (flow_all k).passed x behind
      ]))

  abbrev Stands : ℕ → Stmt → Type 0
  Stands n y = statement_at proc.body n ≡ Some y

  pub loop_ready : (ns : List Node) (t : Sweep) (n : ℕ) (s : Stmt) (e : Expr) (a : List Stmt) (k : Rest) → IsLoop s e a → ReadyHead ns program layer proc chosen t ((n, s) ∷ k) → ReadyLoop ns program layer proc chosen t e (round n s a) k
  loop_ready ns t n s e a k l r =
      let own = r.stands.0 in
      let inner : StandIn proc (n + 1) (statements_of a) = λ j m y q g. own (suc j) m y (omega (arith, q)) (ap (λ (z : List Stmt). slice_get z j) l.inner ∙ g) in
      record {
        layered = r.layered;
        there = r.there;
        suits = l.suits program r.layered.rules proc r.there n (own 0 n s (omega arith) refl);
        first = each_numbered Stands a (n + 1) ((n, s) ∷ []) inner (own, tt);
        others = r.stands.1;
        can = r.can;
        on = r.on;
        choices = has_less ns program layer chosen _ _ (loop_within n s e a k l) r.choices;
      }

  pub loop_passes : (old new : List Node) (t u : Sweep) (n : ℕ) (s : Stmt) (e : Expr) (a : List Stmt) (k : Rest) → IsLoop s e a → Passes old new program layer proc chosen t u (loop_passed (round n s a) k) (λ c. by_loop c e (round n s a) k)
      → Passes old new program layer proc chosen t u (flow_rest ((n, s) ∷ k)).passed (λ c. sweep_rest c ((n, s) ∷ k))
  loop_passes old new t u n s e a k l m v says =
      moves_as old new program proc t u _ _ (λ env. sym (l.sweeps (course_in program layer proc (v env)) ((n, s) ∷ k) (swept_at env old t)))
      (m v (λ o. says_less old program layer chosen _ _ v (loop_within n s e a k l) (says o)))

-- ---- in code

pub items_are : (items : List Numbered) (x : Numbered) → 0 < length items → x ≡ get_or items 0 x → rest_of items ≡ (x.number, x.stmt.now) ∷ rest_of (take (length items - 1) (drop 1 items))
items_are items x h e =
    ap rest_of (drop_more items 0 x h ∙ ap (λ (y : Numbered). y ∷ drop 1 items) (sym e)) ∙ ap (λ (r : List Numbered). rest_of (x ∷ r)) (sym (take_rest items 1))

pub loop_small : (proc : Proc) (n : ℕ) (s : Stmt) (e : Expr) (a : List Stmt) → IsLoop s e a → StandIn proc n (s ∷ inner_of s) → n + 1 + sizes_of a ≤ sizes_of proc.body
loop_small proc n s e a l h =
    let size = counted s in
    let same : length (inner_of s) ≡ length (statements_of a) = ap (λ (r : List Stmt). length r) l.inner in
    omega (arith, size, same, sizes_are_counts a, ends_within proc n s h)
