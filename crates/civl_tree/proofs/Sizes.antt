-- How many statements a statement is, by its form.
use Rattle.std.proofs.Common.{◌≡◌, ℕ, zero, suc, ◌+◌, ◌≤◌, List, [], ◌∷◌, take, sym, ap, ◌∙◌, arith}
use Rattle.civl_tree.specs.declared.expr.Expr.{Expr}
use Rattle.civl_tree.specs.declared.stmt.Stmt.{Stmt, out-Stmt, roll-out-Stmt, map-Stmt, the_lemmas as of_stmt}
use Rattle.civl_tree.specs.declared.stmt.Stmt as tree
use Rattle.civl_tree.specs.declared.stmt.Stmt.TheOpen.{Stmt-F, If, While, YieldLoop, RankLoop}
use Rattle.civl_tree.specs.declared.stmt.Stmt.TheFolds.{fold-roll-Stmt}
use Rattle.civl_tree.specs.Numbering.{size_step, size_of, sizes_of}
use Rattle.civl_tree.proofs.Numbers.{sizes_more}

pub size_is : (s : Stmt) → size_of s ≡ size_step (map-Stmt Stmt ℕ size_of (out-Stmt s))
size_is s = ap size_of (sym (roll-out-Stmt s)) ∙ fold-roll-Stmt ℕ size_step (out-Stmt s)

layer_is_some : (d : Stmt-F ℕ) → 1 ≤ size_step d
layer_is_some (If e a b) = omega arith
layer_is_some (While e a) = omega arith
layer_is_some (YieldLoop e i a) = omega arith
layer_is_some (RankLoop e r i a) = omega arith
layer_is_some _ = omega arith

pub size_is_some : (s : Stmt) → 1 ≤ size_of s
size_is_some s = let h = layer_is_some (map-Stmt Stmt ℕ size_of (out-Stmt s)) in let e = size_is s in omega arith

pub sizes_within : (ss : List Stmt) (i : ℕ) → sizes_of (take i ss) ≤ sizes_of ss
sizes_within [] zero = omega arith
sizes_within [] (suc i) = omega arith
sizes_within (s ∷ ss) zero = omega arith
sizes_within (s ∷ ss) (suc i) = omega (arith, sizes_within ss i, sizes_more s ss, sizes_more s (take i ss))

-- ---- by its form

pub if_out : (e : Expr) (a b : List Stmt) → out-Stmt (tree.If e a b) ≡ If e a b
if_out e a b = simp (of_stmt)

pub while_out : (e : Expr) (a : List Stmt) → out-Stmt (tree.While e a) ≡ While e a
while_out e a = simp (of_stmt)

pub yield_loop_out : (e i : Expr) (a : List Stmt) → out-Stmt (tree.YieldLoop e i a) ≡ YieldLoop e i a
yield_loop_out e i a = simp (of_stmt)

pub rank_loop_out : (e r i : Expr) (a : List Stmt) → out-Stmt (tree.RankLoop e r i a) ≡ RankLoop e r i a
rank_loop_out e r i a = simp (of_stmt)

pub size_by : (s : Stmt) (d : Stmt-F Stmt) → out-Stmt s ≡ d → size_of s ≡ size_step (map-Stmt Stmt ℕ size_of d)
size_by s d o = size_is s ∙ ap (λ (x : Stmt-F Stmt). size_step (map-Stmt Stmt ℕ size_of x)) o

module _ (s : Stmt) where
  pub size_if : (e : Expr) (a b : List Stmt) → s ≡ tree.If e a b → size_of s ≡ 1 + sizes_of a + sizes_of b
  size_if e a b is = size_by s (If e a b) (ap out-Stmt is ∙ if_out e a b)

  pub size_while : (e : Expr) (a : List Stmt) → s ≡ tree.While e a → size_of s ≡ 1 + sizes_of a
  size_while e a is = size_by s (While e a) (ap out-Stmt is ∙ while_out e a)

  pub size_yield_loop : (e i : Expr) (a : List Stmt) → s ≡ tree.YieldLoop e i a → size_of s ≡ 1 + sizes_of a
  size_yield_loop e i a is = size_by s (YieldLoop e i a) (ap out-Stmt is ∙ yield_loop_out e i a)

  pub size_rank_loop : (e r i : Expr) (a : List Stmt) → s ≡ tree.RankLoop e r i a → size_of s ≡ 1 + sizes_of a
  size_rank_loop e r i a is = size_by s (RankLoop e r i a) (ap out-Stmt is ∙ rank_loop_out e r i a)
