-- Filling in changes annotations alone.
use Rattle.std.proofs.Common.{◌≡◌, ℕ, List, [], ◌∷◌, drop, map, refl, sym, ap, ◌∙◌}
use Rattle.civl_tree.specs.declared.name.Name.{Name}
use Rattle.civl_tree.specs.declared.expr.Expr.{Expr}
use Rattle.civl_tree.specs.declared.expr.Expr as expr
use Rattle.civl_tree.specs.declared.stmt.Stmt.{Stmt, out-Stmt, roll-Stmt, roll-out-Stmt, out-roll-Stmt, map-Stmt, the_lemmas as of_stmt}
use Rattle.civl_tree.specs.declared.stmt.Stmt as tree
use Rattle.civl_tree.specs.declared.stmt.Stmt.TheOpen.{Stmt-F, Assign, Assert, If, While, YieldLoop, RankLoop, Call, Yield, Commit, Intro, Spawn}
use Rattle.civl_tree.specs.declared.stmt.Stmt.TheFolds.{fold-roll-Stmt, ind-Stmt}
use Rattle.civl_tree.specs.declared.program.Proc.{Proc}
use Rattle.civl_tree.proofs.Sizes.{if_out, while_out, yield_loop_out, rank_loop_out}
use Rattle.civl_annotations.specs.Bare.{bare_stmt, bare_proc}
use Rattle.civl_annotations.specs.Filled.{Filling, filled_expr, fill_each, fill_layer, fill_stmt, fill_stmts, fill_procs}
use Rattle.civl_annotations.specs.FilledLaws.{FilledIsBare}
use Rattle.civl_annotations.proofs.Baring.{bare_layer, bare_is}
use Rattle.civl_annotations.proofs.Keeping.{with_body, with_procs}

abbrev pub by_layer : Stmt-F Stmt → Filling Stmt
by_layer d = fill_layer (map-Stmt Stmt (Filling Stmt) fill_stmt d)

pub fill_is : (s : Stmt) → fill_stmt s ≡ by_layer (out-Stmt s)
fill_is s = ap fill_stmt (sym (roll-out-Stmt s)) ∙ fold-roll-Stmt (Filling Stmt) fill_layer (out-Stmt s)

pub fill_at : (s : Stmt) (found : List Expr) → fill_stmt s found ≡ by_layer (out-Stmt s) found
fill_at s found = ap (λ (f : Filling Stmt). f found) (fill_is s)

abbrev bare_roll : Stmt-F Stmt → Stmt
bare_roll d = roll-Stmt (bare_layer d)

bare_form : (s : Stmt) (d : Stmt-F Stmt) → out-Stmt s ≡ d → bare_stmt s ≡ bare_roll d
bare_form s d o = bare_is s ∙ ap bare_roll o

-- ---- forms

pub assign_out : (x : Name) (e : Expr) → out-Stmt (tree.Assign x e) ≡ Assign x e
assign_out x e = simp (of_stmt)

pub assert_out : (e : Expr) → out-Stmt (tree.Assert e) ≡ Assert e
assert_out e = simp (of_stmt)

pub call_out : (f : Name) (es : List Expr) (rs : List Name) → out-Stmt (tree.Call f es rs) ≡ Call f es rs
call_out f es rs = simp (of_stmt)

pub yield_out : (i : Expr) → out-Stmt (tree.Yield i) ≡ Yield i
yield_out i = simp (of_stmt)

pub commit_out : out-Stmt tree.Commit ≡ Commit
commit_out = simp (of_stmt)

pub intro_out : (x : Name) (e : Expr) → out-Stmt (tree.Intro x e) ≡ Intro x e
intro_out x e = simp (of_stmt)

pub spawn_out : (f : Name) (es : List Expr) → out-Stmt (tree.Spawn f es) ≡ Spawn f es
spawn_out f es = simp (of_stmt)

-- ---- statements

abbrev Bares : Stmt → Type 0
Bares s = (found : List Expr) → bare_stmt (fill_stmt s found).0 ≡ bare_stmt s

parts_bare : {S : Type 0} (ys : List S) (v : S → Stmt) → ((x : S) → Bares (v x)) → (found : List Expr) → map bare_stmt (fill_each (map fill_stmt (map v ys)) found).0 ≡ map bare_stmt (map v ys)
parts_bare [] v h found = refl
parts_bare (y ∷ ys) v h found =
    let rest = (fill_stmt (v y) found).1 in
    ap (λ (s : Stmt). s ∷ map bare_stmt (fill_each (map fill_stmt (map v ys)) rest).0) (h y found) ∙ ap (λ (l : List Stmt). bare_stmt (v y) ∷ l) (parts_bare ys v h rest)

layer_bares : {S : Type 0} (y : Stmt-F S) (v : S → Stmt) → ((x : S) → Bares (v x)) → (found : List Expr) → bare_stmt (by_layer (map-Stmt S Stmt v y) found).0 ≡ bare_roll (map-Stmt S Stmt v y)
layer_bares (If e a b) v h found =
    let first = fill_each (map fill_stmt (map v a)) found in
    let second = fill_each (map fill_stmt (map v b)) first.1 in
    bare_form (tree.If e first.0 second.0) (If e first.0 second.0) (if_out e first.0 second.0)
    ∙ ap (λ (l : List Stmt). roll-Stmt (If e l (map bare_stmt second.0))) (parts_bare a v h found)
    ∙ ap (λ (l : List Stmt). roll-Stmt (If e (map bare_stmt (map v a)) l)) (parts_bare b v h first.1)
layer_bares (While e a) v h found =
    let body = (fill_each (map fill_stmt (map v a)) found).0 in
    bare_form (tree.While e body) (While e body) (while_out e body) ∙ ap (λ (l : List Stmt). roll-Stmt (While e l)) (parts_bare a v h found)
layer_bares (YieldLoop e i a) v h found =
    let body = (fill_each (map fill_stmt (map v a)) (drop 1 found)).0 in
    let j = filled_expr i found in
    bare_form (tree.YieldLoop e j body) (YieldLoop e j body) (yield_loop_out e j body) ∙ ap (λ (l : List Stmt). roll-Stmt (YieldLoop e expr.True l)) (parts_bare a v h (drop 1 found))
layer_bares (RankLoop e r i a) v h found =
    let body = (fill_each (map fill_stmt (map v a)) (drop 1 found)).0 in
    let j = filled_expr i found in
    bare_form (tree.RankLoop e r j body) (RankLoop e r j body) (rank_loop_out e r j body) ∙ ap (λ (l : List Stmt). roll-Stmt (RankLoop e r expr.True l)) (parts_bare a v h (drop 1 found))
layer_bares (Assign x e) v h found = bare_form (tree.Assign x e) (Assign x e) (assign_out x e)
layer_bares (Assert e) v h found = bare_form (tree.Assert e) (Assert e) (assert_out e)
layer_bares (Call f es rs) v h found = bare_form (tree.Call f es rs) (Call f es rs) (call_out f es rs)
layer_bares (Yield i) v h found = bare_form (tree.Yield (filled_expr i found)) (Yield (filled_expr i found)) (yield_out (filled_expr i found))
layer_bares Commit v h found = bare_form tree.Commit Commit commit_out
layer_bares (Intro x e) v h found = bare_form (tree.Intro x e) (Intro x e) (intro_out x e)
layer_bares (Spawn f es) v h found = bare_form (tree.Spawn f es) (Spawn f es) (spawn_out f es)

bares : (s : Stmt) → Bares s
bares s =
    ind-Stmt Bares (λ x y e found.
    let t = roll-Stmt x in
    let q = out-roll-Stmt x ∙ sym e in
    ap (λ (f : Filling Stmt). bare_stmt (f found).0) (fill_is t ∙ ap by_layer q) ∙ layer_bares y (λ z. z.0) (λ z. z.1) found ∙ sym (bare_form t _ q)) s

stmts_bare : (ss : List Stmt) (found : List Expr) → map bare_stmt (fill_stmts ss found).0 ≡ map bare_stmt ss
stmts_bare [] found = refl
stmts_bare (s ∷ ss) found =
    let rest = (fill_stmt s found).1 in
    ap (λ (t : Stmt). t ∷ map bare_stmt (fill_stmts ss rest).0) (bares s found) ∙ ap (λ (l : List Stmt). bare_stmt s ∷ l) (stmts_bare ss rest)

-- ---- procedures and the program

procs_bare : (ps : List Proc) (found : List Expr) → map bare_proc (fill_procs ps found).0 ≡ map bare_proc ps
procs_bare [] found = refl
procs_bare (p ∷ ps) found =
    let rest = (fill_stmts p.body found).1 in
    ap (λ (b : List Stmt). with_body p b ∷ map bare_proc (fill_procs ps rest).0) (stmts_bare p.body found) ∙ ap (λ (l : List Proc). bare_proc p ∷ l) (procs_bare ps rest)

pub filled_is_bare : FilledIsBare
filled_is_bare program found added = ap (with_procs program) (procs_bare program.procs found)
