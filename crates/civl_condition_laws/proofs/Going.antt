-- Going over a statement, by how it is written.
use Rattle.std.proofs.Common.{◌≡◌, ℕ, ◌+◌, List, [], ◌∷◌, ap, ◌∙◌}
use Rattle.std.specs.Prelude.{if◌then◌else◌}
use Rattle.civl_tree.specs.declared.name.Name.{Name}
use Rattle.civl_tree.specs.declared.expr.Expr.{Expr}
use Rattle.civl_tree.specs.declared.stmt.Stmt.{Stmt, out-Stmt, the_lemmas as of_stmt}
use Rattle.civl_tree.specs.declared.stmt.Stmt as stmt
use Rattle.civl_tree.specs.declared.stmt.Stmt.TheOpen as layer
use Rattle.civl_tree.specs.Numbering.{sizes_of, numbered}
use Rattle.civl_conditions.specs.paths.Paths.{Course, Progress, Past, Comes, stepped, tested, committed, introduced, pass, pass_all}
use Rattle.civl_conditions.specs.paths.Flows.{onward_flow, ended_flow, flow_with, flow_or, flow, flow_all}
use Rattle.civl_conditions.proofs.paths.Passing.{pass_layer, pass_is, pass_none, pass_more, flow_of_layer, flow_is, flow_none, flow_more, from_yield_loop, from_rank_loop, from_yield, flow_yield_loop, flow_rank_loop, flow_yield}

pass_as : (c : Course) (s : Stmt) (d : layer.Stmt-F Stmt) (at : ℕ) (p : Progress) → out-Stmt s ≡ d → pass c s at p ≡ pass_layer c d at p
pass_as c s d at p e = pass_is c s at p ∙ ap (λ (d : layer.Stmt-F Stmt). pass_layer c d at p) e

flow_as : (s t : Stmt) (d : layer.Stmt-F Stmt) (at : ℕ) → out-Stmt s ≡ d → flow s t at ≡ flow_of_layer d t at
flow_as s t d at e = flow_is s t at ∙ ap (λ (d : layer.Stmt-F Stmt). flow_of_layer d t at) e

-- ---- paths

pub pass_assign : (c : Course) (x : Name) (e : Expr) (at : ℕ) (p : Progress) → pass c (stmt.Assign x e) at p ≡ stepped c (layer.Assign x e) at p
pass_assign c x e at p = pass_as c (stmt.Assign x e) (layer.Assign x e) at p (simp of_stmt)

pub pass_assert : (c : Course) (e : Expr) (at : ℕ) (p : Progress) → pass c (stmt.Assert e) at p ≡ stepped c (layer.Assert e) at p
pass_assert c e at p = pass_as c (stmt.Assert e) (layer.Assert e) at p (simp of_stmt)

pub pass_if : (c : Course) (e : Expr) (a b : List Stmt) (at : ℕ) (p : Progress) → pass c (stmt.If e a b) at p ≡ (if tested c e p then pass_all c (numbered (at + 1) a) p else pass_all c (numbered (at + 1 + sizes_of a) b) p)
pass_if c e a b at p = pass_as c (stmt.If e a b) (layer.If e a b) at p (simp of_stmt)

pub pass_yield_loop : (c : Course) (e i : Expr) (a : List Stmt) (at : ℕ) (p : Progress) → pass c (stmt.YieldLoop e i a) at p ≡ Comes at p
pass_yield_loop c e i a at p = pass_as c (stmt.YieldLoop e i a) (layer.YieldLoop e i a) at p (simp of_stmt)

pub pass_rank_loop : (c : Course) (e r i : Expr) (a : List Stmt) (at : ℕ) (p : Progress) → pass c (stmt.RankLoop e r i a) at p ≡ Comes at p
pass_rank_loop c e r i a at p = pass_as c (stmt.RankLoop e r i a) (layer.RankLoop e r i a) at p (simp of_stmt)

pub pass_call : (c : Course) (f : Name) (es : List Expr) (rs : List Name) (at : ℕ) (p : Progress) → pass c (stmt.Call f es rs) at p ≡ stepped c (layer.Call f es rs) at p
pass_call c f es rs at p = pass_as c (stmt.Call f es rs) (layer.Call f es rs) at p (simp of_stmt)

pub pass_yield : (c : Course) (i : Expr) (at : ℕ) (p : Progress) → pass c (stmt.Yield i) at p ≡ Comes at p
pass_yield c i at p = pass_as c (stmt.Yield i) (layer.Yield i) at p (simp of_stmt)

pub pass_commit : (c : Course) (at : ℕ) (p : Progress) → pass c stmt.Commit at p ≡ Past (committed p)
pass_commit c at p = pass_as c stmt.Commit layer.Commit at p (simp of_stmt)

pub pass_intro : (c : Course) (x : Name) (e : Expr) (at : ℕ) (p : Progress) → pass c (stmt.Intro x e) at p ≡ Past (introduced c x e p)
pass_intro c x e at p = pass_as c (stmt.Intro x e) (layer.Intro x e) at p (simp of_stmt)

-- ---- flows

pub flow_assign : (x : Name) (e : Expr) (t : Stmt) (at : ℕ) → flow (stmt.Assign x e) t at ≡ onward_flow ((at, t) ∷ [])
flow_assign x e t at = flow_as (stmt.Assign x e) t (layer.Assign x e) at (simp of_stmt)

pub flow_assert : (e : Expr) (t : Stmt) (at : ℕ) → flow (stmt.Assert e) t at ≡ onward_flow ((at, t) ∷ [])
flow_assert e t at = flow_as (stmt.Assert e) t (layer.Assert e) at (simp of_stmt)

pub flow_if : (e : Expr) (a b : List Stmt) (t : Stmt) (at : ℕ) → flow (stmt.If e a b) t at ≡ flow_with (at, t) (flow_or (flow_all (numbered (at + 1) a)) (flow_all (numbered (at + 1 + sizes_of a) b)))
flow_if e a b t at = flow_as (stmt.If e a b) t (layer.If e a b) at (simp of_stmt)

pub flow_yield_loop_head : (e i : Expr) (a : List Stmt) (t : Stmt) (at : ℕ) → flow (stmt.YieldLoop e i a) t at ≡ ended_flow (at ∷ [])
flow_yield_loop_head e i a t at = flow_as (stmt.YieldLoop e i a) t (layer.YieldLoop e i a) at (simp of_stmt)

pub flow_rank_loop_head : (e r i : Expr) (a : List Stmt) (t : Stmt) (at : ℕ) → flow (stmt.RankLoop e r i a) t at ≡ ended_flow (at ∷ [])
flow_rank_loop_head e r i a t at = flow_as (stmt.RankLoop e r i a) t (layer.RankLoop e r i a) at (simp of_stmt)

pub flow_call : (f : Name) (es : List Expr) (rs : List Name) (t : Stmt) (at : ℕ) → flow (stmt.Call f es rs) t at ≡ onward_flow ((at, t) ∷ [])
flow_call f es rs t at = flow_as (stmt.Call f es rs) t (layer.Call f es rs) at (simp of_stmt)

pub flow_yield_head : (i : Expr) (t : Stmt) (at : ℕ) → flow (stmt.Yield i) t at ≡ ended_flow (at ∷ [])
flow_yield_head i t at = flow_as (stmt.Yield i) t (layer.Yield i) at (simp of_stmt)

pub flow_commit : (t : Stmt) (at : ℕ) → flow stmt.Commit t at ≡ onward_flow ((at, t) ∷ [])
flow_commit t at = flow_as stmt.Commit t layer.Commit at (simp of_stmt)

pub flow_intro : (x : Name) (e : Expr) (t : Stmt) (at : ℕ) → flow (stmt.Intro x e) t at ≡ onward_flow ((at, t) ∷ [])
flow_intro x e t at = flow_as (stmt.Intro x e) t (layer.Intro x e) at (simp of_stmt)

pub ruleset froms = (from_yield_loop, from_rank_loop, from_yield, flow_yield_loop, flow_rank_loop, flow_yield)

pub ruleset passes = (pass_assign, pass_assert, pass_if, pass_yield_loop, pass_rank_loop, pass_call, pass_yield, pass_commit, pass_intro, pass_none, pass_more)

pub ruleset flows = (flow_assign, flow_assert, flow_if, flow_yield_loop_head, flow_rank_loop_head, flow_call, flow_yield_head, flow_commit, flow_intro, flow_none, flow_more)
