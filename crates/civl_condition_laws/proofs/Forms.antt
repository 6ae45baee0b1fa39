-- What is in a statement, by how it is written: its size, the statements in it, what is held behind it, and what is still to
-- run from a place in it.
use Rattle.std.proofs.Common.{◌≡◌, ℕ, ◌+◌, Bool, List, [], ◌∷◌, ◌++◌, refl, ap, ◌∙◌}
use Rattle.std.specs.Prelude.{nat_lt, if◌then◌else◌}
use Rattle.civl_tree.specs.declared.name.Name.{Name}
use Rattle.civl_tree.specs.declared.expr.Expr.{Expr}
use Rattle.civl_tree.specs.declared.stmt.Stmt.{Stmt, out-Stmt, the_lemmas as of_stmt}
use Rattle.civl_tree.specs.declared.stmt.Stmt as stmt
use Rattle.civl_tree.specs.declared.stmt.Stmt.TheOpen as layer
use Rattle.civl_tree.specs.declared.program.Program.{Program}
use Rattle.civl_tree.specs.Numbering.{size_of, sizes_of, inner_of, statements_of}
use Rattle.civl_tree.specs.rules.Names.{callee_signature}
use Rattle.civl_tree.proofs.Layers.{inner_layer, inner_is}
use Rattle.civl_tree.proofs.Sizes.{size_by}
use Rattle.civl_tree.proofs.Numbers.{sizes_more}
use Rattle.civl_meaning.specs.Rest.{Rest, rest_inside, rest_among}
use Rattle.civl_meaning.proofs.Rests.{rest_layer, rest_is, among_rest, rest_none}
use Rattle.civl_linear.specs.Held.{traced, traced_all, trace_one, trace_if, trace_loop, call_held}
use Rattle.civl_linear.proofs.Examples.{traced_form, traced_is}

inner_as : (s : Stmt) (d : layer.Stmt-F Stmt) → out-Stmt s ≡ d → inner_of s ≡ inner_layer d
inner_as s d e = inner_is s ∙ ap inner_layer e

traced_as : (program : Program) (names : List Name) (s : Stmt) (held : List Bool) (d : layer.Stmt-F Stmt) → out-Stmt s ≡ d → traced program names s held ≡ traced_form program names d held
traced_as program names s held d e = traced_is program names s held ∙ ap (λ (d : layer.Stmt-F Stmt). traced_form program names d held) e

rest_as : (s t : Stmt) (at : ℕ) (k : Rest) (wanted : ℕ) (d : layer.Stmt-F Stmt) → out-Stmt s ≡ d → rest_inside s t at k wanted ≡ rest_layer d t at k wanted
rest_as s t at k wanted d e = rest_is s t at k wanted ∙ ap (λ (d : layer.Stmt-F Stmt). rest_layer d t at k wanted) e

-- ---- sizes

pub sizes_none : sizes_of [] ≡ 0
sizes_none = refl

pub size_assign : (x : Name) (e : Expr) → size_of (stmt.Assign x e) ≡ 1
size_assign x e = size_by (stmt.Assign x e) (layer.Assign x e) (simp of_stmt)

pub size_assert : (e : Expr) → size_of (stmt.Assert e) ≡ 1
size_assert e = size_by (stmt.Assert e) (layer.Assert e) (simp of_stmt)

pub size_if : (e : Expr) (a b : List Stmt) → size_of (stmt.If e a b) ≡ 1 + sizes_of a + sizes_of b
size_if e a b = size_by (stmt.If e a b) (layer.If e a b) (simp of_stmt)

pub size_yield_loop : (e i : Expr) (a : List Stmt) → size_of (stmt.YieldLoop e i a) ≡ 1 + sizes_of a
size_yield_loop e i a = size_by (stmt.YieldLoop e i a) (layer.YieldLoop e i a) (simp of_stmt)

pub size_rank_loop : (e r i : Expr) (a : List Stmt) → size_of (stmt.RankLoop e r i a) ≡ 1 + sizes_of a
size_rank_loop e r i a = size_by (stmt.RankLoop e r i a) (layer.RankLoop e r i a) (simp of_stmt)

pub size_call : (f : Name) (es : List Expr) (rs : List Name) → size_of (stmt.Call f es rs) ≡ 1
size_call f es rs = size_by (stmt.Call f es rs) (layer.Call f es rs) (simp of_stmt)

pub size_yield : (i : Expr) → size_of (stmt.Yield i) ≡ 1
size_yield i = size_by (stmt.Yield i) (layer.Yield i) (simp of_stmt)

pub size_commit : size_of stmt.Commit ≡ 1
size_commit = size_by stmt.Commit layer.Commit (simp of_stmt)

pub size_intro : (x : Name) (e : Expr) → size_of (stmt.Intro x e) ≡ 1
size_intro x e = size_by (stmt.Intro x e) (layer.Intro x e) (simp of_stmt)

pub ruleset sizes = (size_assign, size_assert, size_if, size_yield_loop, size_rank_loop, size_call, size_yield, size_commit, size_intro, sizes_more, sizes_none)

-- ---- statements in it

pub inner_assign : (x : Name) (e : Expr) → inner_of (stmt.Assign x e) ≡ []
inner_assign x e = inner_as (stmt.Assign x e) (layer.Assign x e) (simp of_stmt)

pub inner_assert : (e : Expr) → inner_of (stmt.Assert e) ≡ []
inner_assert e = inner_as (stmt.Assert e) (layer.Assert e) (simp of_stmt)

pub inner_if : (e : Expr) (a b : List Stmt) → inner_of (stmt.If e a b) ≡ statements_of a ++ statements_of b
inner_if e a b = inner_as (stmt.If e a b) (layer.If e a b) (simp of_stmt)

pub inner_yield_loop : (e i : Expr) (a : List Stmt) → inner_of (stmt.YieldLoop e i a) ≡ statements_of a
inner_yield_loop e i a = inner_as (stmt.YieldLoop e i a) (layer.YieldLoop e i a) (simp of_stmt)

pub inner_rank_loop : (e r i : Expr) (a : List Stmt) → inner_of (stmt.RankLoop e r i a) ≡ statements_of a
inner_rank_loop e r i a = inner_as (stmt.RankLoop e r i a) (layer.RankLoop e r i a) (simp of_stmt)

pub inner_call : (f : Name) (es : List Expr) (rs : List Name) → inner_of (stmt.Call f es rs) ≡ []
inner_call f es rs = inner_as (stmt.Call f es rs) (layer.Call f es rs) (simp of_stmt)

pub inner_yield : (i : Expr) → inner_of (stmt.Yield i) ≡ []
inner_yield i = inner_as (stmt.Yield i) (layer.Yield i) (simp of_stmt)

pub inner_commit : inner_of stmt.Commit ≡ []
inner_commit = inner_as stmt.Commit layer.Commit (simp of_stmt)

pub inner_intro : (x : Name) (e : Expr) → inner_of (stmt.Intro x e) ≡ []
inner_intro x e = inner_as (stmt.Intro x e) (layer.Intro x e) (simp of_stmt)

pub ruleset inners = (inner_assign, inner_assert, inner_if, inner_yield_loop, inner_rank_loop, inner_call, inner_yield, inner_commit, inner_intro)

-- ---- what is held

pub traced_assign : (program : Program) (names : List Name) (x : Name) (e : Expr) (held : List Bool) → traced program names (stmt.Assign x e) held ≡ trace_one held held
traced_assign program names x e held = traced_as program names (stmt.Assign x e) held (layer.Assign x e) (simp of_stmt)

pub traced_assert : (program : Program) (names : List Name) (e : Expr) (held : List Bool) → traced program names (stmt.Assert e) held ≡ trace_one held held
traced_assert program names e held = traced_as program names (stmt.Assert e) held (layer.Assert e) (simp of_stmt)

pub traced_if : (program : Program) (names : List Name) (e : Expr) (a b : List Stmt) (held : List Bool) → traced program names (stmt.If e a b) held ≡ trace_if held (traced_all program names a held) (traced_all program names b held)
traced_if program names e a b held = traced_as program names (stmt.If e a b) held (layer.If e a b) (simp of_stmt)

pub traced_yield_loop : (program : Program) (names : List Name) (e i : Expr) (a : List Stmt) (held : List Bool) → traced program names (stmt.YieldLoop e i a) held ≡ trace_loop held (traced_all program names a held)
traced_yield_loop program names e i a held = traced_as program names (stmt.YieldLoop e i a) held (layer.YieldLoop e i a) (simp of_stmt)

pub traced_rank_loop : (program : Program) (names : List Name) (e r i : Expr) (a : List Stmt) (held : List Bool) → traced program names (stmt.RankLoop e r i a) held ≡ trace_loop held (traced_all program names a held)
traced_rank_loop program names e r i a held = traced_as program names (stmt.RankLoop e r i a) held (layer.RankLoop e r i a) (simp of_stmt)

pub traced_call : (program : Program) (names : List Name) (f : Name) (es : List Expr) (rs : List Name) (held : List Bool) → traced program names (stmt.Call f es rs) held ≡ trace_one held (call_held names (callee_signature program f) es rs held)
traced_call program names f es rs held = traced_as program names (stmt.Call f es rs) held (layer.Call f es rs) (simp of_stmt)

pub traced_yield : (program : Program) (names : List Name) (i : Expr) (held : List Bool) → traced program names (stmt.Yield i) held ≡ trace_one held held
traced_yield program names i held = traced_as program names (stmt.Yield i) held (layer.Yield i) (simp of_stmt)

pub traced_commit : (program : Program) (names : List Name) (held : List Bool) → traced program names stmt.Commit held ≡ trace_one held held
traced_commit program names held = traced_as program names stmt.Commit held layer.Commit (simp of_stmt)

pub traced_intro : (program : Program) (names : List Name) (x : Name) (e : Expr) (held : List Bool) → traced program names (stmt.Intro x e) held ≡ trace_one held held
traced_intro program names x e held = traced_as program names (stmt.Intro x e) held (layer.Intro x e) (simp of_stmt)

pub ruleset traces = (traced_assign, traced_assert, traced_if, traced_yield_loop, traced_rank_loop, traced_call, traced_yield, traced_commit, traced_intro)

-- ---- what is still to run

pub rest_assign : (x : Name) (e : Expr) (t : Stmt) (at : ℕ) (k : Rest) (wanted : ℕ) → rest_inside (stmt.Assign x e) t at k wanted ≡ k
rest_assign x e t at k wanted = rest_as (stmt.Assign x e) t at k wanted (layer.Assign x e) (simp of_stmt)

pub rest_assert : (e : Expr) (t : Stmt) (at : ℕ) (k : Rest) (wanted : ℕ) → rest_inside (stmt.Assert e) t at k wanted ≡ k
rest_assert e t at k wanted = rest_as (stmt.Assert e) t at k wanted (layer.Assert e) (simp of_stmt)

pub rest_if : (e : Expr) (a b : List Stmt) (t : Stmt) (at : ℕ) (k : Rest) (wanted : ℕ) → rest_inside (stmt.If e a b) t at k wanted ≡ (if nat_lt wanted (at + 1 + sizes_of a) then rest_among a (at + 1) k wanted else rest_among b (at + 1 + sizes_of a) k wanted)
rest_if e a b t at k wanted = rest_as (stmt.If e a b) t at k wanted (layer.If e a b) (simp of_stmt)

pub rest_yield_loop : (e i : Expr) (a : List Stmt) (t : Stmt) (at : ℕ) (k : Rest) (wanted : ℕ) → rest_inside (stmt.YieldLoop e i a) t at k wanted ≡ rest_among a (at + 1) ((at, t) ∷ k) wanted
rest_yield_loop e i a t at k wanted = rest_as (stmt.YieldLoop e i a) t at k wanted (layer.YieldLoop e i a) (simp of_stmt)

pub rest_rank_loop : (e r i : Expr) (a : List Stmt) (t : Stmt) (at : ℕ) (k : Rest) (wanted : ℕ) → rest_inside (stmt.RankLoop e r i a) t at k wanted ≡ rest_among a (at + 1) ((at, t) ∷ k) wanted
rest_rank_loop e r i a t at k wanted = rest_as (stmt.RankLoop e r i a) t at k wanted (layer.RankLoop e r i a) (simp of_stmt)

pub rest_call : (f : Name) (es : List Expr) (rs : List Name) (t : Stmt) (at : ℕ) (k : Rest) (wanted : ℕ) → rest_inside (stmt.Call f es rs) t at k wanted ≡ k
rest_call f es rs t at k wanted = rest_as (stmt.Call f es rs) t at k wanted (layer.Call f es rs) (simp of_stmt)

pub rest_yield : (i : Expr) (t : Stmt) (at : ℕ) (k : Rest) (wanted : ℕ) → rest_inside (stmt.Yield i) t at k wanted ≡ k
rest_yield i t at k wanted = rest_as (stmt.Yield i) t at k wanted (layer.Yield i) (simp of_stmt)

pub rest_commit : (t : Stmt) (at : ℕ) (k : Rest) (wanted : ℕ) → rest_inside stmt.Commit t at k wanted ≡ k
rest_commit t at k wanted = rest_as stmt.Commit t at k wanted layer.Commit (simp of_stmt)

pub rest_intro : (x : Name) (e : Expr) (t : Stmt) (at : ℕ) (k : Rest) (wanted : ℕ) → rest_inside (stmt.Intro x e) t at k wanted ≡ k
rest_intro x e t at k wanted = rest_as (stmt.Intro x e) t at k wanted (layer.Intro x e) (simp of_stmt)

pub ruleset rests = (rest_assign, rest_assert, rest_if, rest_yield_loop, rest_rank_loop, rest_call, rest_yield, rest_commit, rest_intro, among_rest, rest_none, sizes)
