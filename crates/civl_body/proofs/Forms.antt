-- The forms of statements, as arms of code name them, and their sizes.
use Rattle.std.specs.Prelude.{get_or, drop}
use Rattle.std.specs.List.{Contains}
use Rattle.std.proofs.Common.{◌≡◌, ◌∙◌, ℕ, ◌+◌, ◌<◌, ◌≤◌, List, [], length, refl, sym, ap, subst, arith}
use Rattle.civl_tree.specs.declared.name.Name.{Name}
use Rattle.civl_tree.specs.declared.expr.Expr.{Expr}
use Rattle.civl_tree.specs.declared.stmt.Stmt.{Stmt, out-Stmt, the_lemmas as of_stmt}
use Rattle.civl_tree.specs.declared.stmt.Stmt as tree
use Rattle.civl_tree.specs.declared.stmt.Stmt.TheOpen as stmt
use Rattle.civl_tree.specs.Numbering.{size_of, sizes_of}
use Rattle.civl_tree.proofs.Pairs.{contains_here}
use Rattle.civl_tree.proofs.Sizes.{size_is}
use Rattle.civl_conditions.specs.paths.Flows.{Flow, flow}
use Rattle.civl_conditions.proofs.paths.Passing.{flow_of_layer, flow_is}
use Rattle.civl_conditions.proofs.paths.Walked.{sizes_behind}

assign_out : (x : Name) (e : Expr) → out-Stmt (tree.Assign x e) ≡ stmt.Assign x e
assign_out x e = simp (of_stmt)

assert_out : (e : Expr) → out-Stmt (tree.Assert e) ≡ stmt.Assert e
assert_out e = simp (of_stmt)

if_out : (e : Expr) (a b : List Stmt) → out-Stmt (tree.If e a b) ≡ stmt.If e a b
if_out e a b = simp (of_stmt)

while_out : (e : Expr) (a : List Stmt) → out-Stmt (tree.While e a) ≡ stmt.While e a
while_out e a = simp (of_stmt)

yield_loop_out : (e i : Expr) (a : List Stmt) → out-Stmt (tree.YieldLoop e i a) ≡ stmt.YieldLoop e i a
yield_loop_out e i a = simp (of_stmt)

rank_loop_out : (e r i : Expr) (a : List Stmt) → out-Stmt (tree.RankLoop e r i a) ≡ stmt.RankLoop e r i a
rank_loop_out e r i a = simp (of_stmt)

call_out : (f : Name) (es : List Expr) (rs : List Name) → out-Stmt (tree.Call f es rs) ≡ stmt.Call f es rs
call_out f es rs = simp (of_stmt)

yield_out : (i : Expr) → out-Stmt (tree.Yield i) ≡ stmt.Yield i
yield_out i = simp (of_stmt)

commit_out : out-Stmt tree.Commit ≡ stmt.Commit
commit_out = simp (of_stmt)

intro_out : (x : Name) (e : Expr) → out-Stmt (tree.Intro x e) ≡ stmt.Intro x e
intro_out x e = simp (of_stmt)

spawn_out : (f : Name) (es : List Expr) → out-Stmt (tree.Spawn f es) ≡ stmt.Spawn f es
spawn_out f es = simp (of_stmt)

module _ (s : Stmt) where
  pub is_assign : (x : Name) (e : Expr) → s ≡ tree.Assign x e → out-Stmt s ≡ stmt.Assign x e
  is_assign x e is = ap out-Stmt is ∙ assign_out x e

  pub is_assert : (e : Expr) → s ≡ tree.Assert e → out-Stmt s ≡ stmt.Assert e
  is_assert e is = ap out-Stmt is ∙ assert_out e

  pub is_if : (e : Expr) (a b : List Stmt) → s ≡ tree.If e a b → out-Stmt s ≡ stmt.If e a b
  is_if e a b is = ap out-Stmt is ∙ if_out e a b

  pub is_while : (e : Expr) (a : List Stmt) → s ≡ tree.While e a → out-Stmt s ≡ stmt.While e a
  is_while e a is = ap out-Stmt is ∙ while_out e a

  pub is_yield_loop : (e i : Expr) (a : List Stmt) → s ≡ tree.YieldLoop e i a → out-Stmt s ≡ stmt.YieldLoop e i a
  is_yield_loop e i a is = ap out-Stmt is ∙ yield_loop_out e i a

  pub is_rank_loop : (e r i : Expr) (a : List Stmt) → s ≡ tree.RankLoop e r i a → out-Stmt s ≡ stmt.RankLoop e r i a
  is_rank_loop e r i a is = ap out-Stmt is ∙ rank_loop_out e r i a

  pub is_call : (f : Name) (es : List Expr) (rs : List Name) → s ≡ tree.Call f es rs → out-Stmt s ≡ stmt.Call f es rs
  is_call f es rs is = ap out-Stmt is ∙ call_out f es rs

  pub is_yield : (i : Expr) → s ≡ tree.Yield i → out-Stmt s ≡ stmt.Yield i
  is_yield i is = ap out-Stmt is ∙ yield_out i

  pub is_commit : s ≡ tree.Commit → out-Stmt s ≡ stmt.Commit
  is_commit is = ap out-Stmt is ∙ commit_out

  pub is_intro : (x : Name) (e : Expr) → s ≡ tree.Intro x e → out-Stmt s ≡ stmt.Intro x e
  is_intro x e is = ap out-Stmt is ∙ intro_out x e

  pub is_spawn : (f : Name) (es : List Expr) → s ≡ tree.Spawn f es → out-Stmt s ≡ stmt.Spawn f es
  is_spawn f es is = ap out-Stmt is ∙ spawn_out f es

  -- ---- sizes

  pub if_size : (e : Expr) (a b : List Stmt) → out-Stmt s ≡ stmt.If e a b → size_of s ≡ 1 + sizes_of a + sizes_of b
  if_size e a b o = size_is s ∙ rw (o) refl

  -- a call is passed
  pub call_passed : (at : ℕ) (f : Name) (es : List Expr) (rs : List Name) → out-Stmt s ≡ stmt.Call f es rs → Contains (flow s s at).passed (at, s)
  call_passed at f es rs o = subst (λ (x : Flow). Contains x.passed (at, s)) (sym (flow_is s s at ∙ ap (λ (d : stmt.Stmt-F Stmt). flow_of_layer d s at) o)) (contains_here (at, s) [])

pub item_size : (ss : List Stmt) (i : ℕ) (s : Stmt) → i < length ss → s ≡ get_or ss i s → size_of s ≤ sizes_of (drop i ss)
item_size ss i s h e = let w = sizes_behind ss i s h e in omega (arith, w)
