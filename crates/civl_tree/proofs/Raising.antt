-- What the grammar can write in some version it can write in version 2.
use Rattle.std.proofs.Common.{Bool, true, false, ◌&&◌, List, [], ◌∷◌, map, refl, sym, ◌∙◌, subst, Option, None, Some}
use Rattle.std.proofs.lemmas.Bool.{and_parts, and_from}
use Rattle.std.specs.Prelude.{IsTrue, if◌then◌else◌, ◌==◌}
use Rattle.std.specs.List.{list_all}
use Rattle.civl_tree.specs.declared.expr.Two.{Two}
use Rattle.civl_tree.specs.declared.expr.Two.TheVariants.{Add, Sub, Mul, BitAnd, BitOr, BitXor, Shl, Shr, Lt, Le, Eq, Ne, And, Or, Implies, Udiv, Urem, Slt, Sle, Sar}
use Rattle.civl_tree.specs.declared.expr.Expr.{Expr, map-Expr}
use Rattle.civl_tree.specs.declared.expr.Expr.TheOpen as expr
use Rattle.civl_tree.specs.declared.expr.Expr.TheFolds.{fold-roll-Expr, ind-Expr}
use Rattle.civl_tree.specs.declared.stmt.Stmt.{Stmt, map-Stmt}
use Rattle.civl_tree.specs.declared.stmt.Stmt.TheOpen as stmt
use Rattle.civl_tree.specs.declared.stmt.Stmt.TheFolds.{fold-roll-Stmt, ind-Stmt}
use Rattle.civl_tree.specs.declared.action.Choice.{Choice}
use Rattle.civl_tree.specs.declared.action.Update.{Update}
use Rattle.civl_tree.specs.declared.action.Action.{Action}
use Rattle.civl_tree.specs.declared.program.Refines.{Refines}
use Rattle.civl_tree.specs.declared.program.Proc.{Proc}
use Rattle.civl_tree.specs.declared.program.Invariant.{Invariant}
use Rattle.civl_tree.specs.declared.program.Thread.{Thread}
use Rattle.civl_tree.specs.declared.program.Program.{Program}
use Rattle.civl_tree.specs.SpellingDomain.{allows_name, allows_param, allows_out, allows_local, allows_op, allows_expr_step, allows_expr, all_hold, allows_stmt_step, allows_stmt, allows_invariant, allows_choice, allows_update, allows_action, allows_rank_of, allows_proc, allows_thread, allows_items, HasSpelling}
use Rattle.civl_tree.specs.Raised.{raised}

-- the second test passes where the first one does
abbrev Grows : Bool → Bool → Type 0
Grows a b = IsTrue a → IsTrue b

same : (a : Bool) → Grows a a
same a h = h

both : (a b c d : Bool) → Grows a c → Grows b d → Grows (a && b) (c && d)
both a b c d first second h = let parts = and_parts a b h in and_from c d (first parts.0) (second parts.1)

behind : (a b d : Bool) → Grows b d → Grows (a && b) (a && d)
behind a b d second = both a b a d (same a) second

each : {X : Type 0} (p q : X → Bool) → ((x : X) → Grows (p x) (q x)) → (xs : List X) → Grows (list_all p xs) (list_all q xs)
each p q grows [] = same true
each p q grows (x ∷ xs) = both (p x) (list_all p xs) (q x) (list_all q xs) (grows x) (each p q grows xs)

op_grows : (new : Bool) (op : Two) → Grows (allows_op new op) (allows_op true op)
op_grows new Add h = h
op_grows new Sub h = h
op_grows new Mul h = h
op_grows new BitAnd h = h
op_grows new BitOr h = h
op_grows new BitXor h = h
op_grows new Shl h = h
op_grows new Shr h = h
op_grows new Lt h = h
op_grows new Le h = h
op_grows new Eq h = h
op_grows new Ne h = h
op_grows new And h = h
op_grows new Or h = h
op_grows new Implies h = h
op_grows new Udiv h = refl
op_grows new Urem h = refl
op_grows new Slt h = refl
op_grows new Sle h = refl
op_grows new Sar h = refl

abbrev ExprGrows : Bool → Expr → Type 0
ExprGrows new e = Grows (allows_expr new e) (allows_expr true e)

-- a layer over the parts of a real expression
abbrev layer_of : Bool → expr.Expr-F Expr → Bool
layer_of new layer = allows_expr_step new (map-Expr Expr Bool (allows_expr new) layer)

layer_grows : {S : Type 0} (new : Bool) (layer : expr.Expr-F S) (v : S → Expr) → ((s : S) → ExprGrows new (v s)) → Grows (layer_of new (map-Expr S Expr v layer)) (layer_of true (map-Expr S Expr v layer))
layer_grows new (expr.Name n) v h = same _
layer_grows new (expr.Literal value width) v h = same _
layer_grows new expr.True v h = same _
layer_grows new expr.False v h = same _
layer_grows new expr.Done v h = same _
layer_grows new (expr.Old n) v h = same _
layer_grows new expr.OldDone v h = same _
layer_grows new (expr.One op a) v h = h a
layer_grows new (expr.Two op a b) v h = both _ _ _ _ (h a) (both _ _ _ _ (op_grows new op) (h b))
layer_grows new (expr.Pick c a b) v h = both _ _ _ _ (h c) (both _ _ _ _ (h a) (h b))
layer_grows new (expr.Get r i) v h = both _ _ _ _ (h r) (h i)
layer_grows new (expr.Set r i c) v h = both _ _ _ _ (h r) (both _ _ _ _ (h i) (h c))
layer_grows new (expr.Fill k c) v h = h c
layer_grows new (expr.Slice a high low) v h = h a
layer_grows new (expr.Widen a width) v h = h a
layer_grows new (expr.Join a b) v h = both _ _ _ _ (h a) (h b)

pub expr_grows : (new : Bool) (e : Expr) → ExprGrows new e
expr_grows new e =
    ind-Expr (ExprGrows new) (λ x y q h.
    let grows = layer_grows new y (λ z. z.0) (λ z. z.1) in
    let here = subst (λ (layer : expr.Expr-F Expr). Grows (layer_of new layer) (layer_of true layer)) q grows in
    fold-roll-Expr Bool (allows_expr_step true) x ∙ here (sym (fold-roll-Expr Bool (allows_expr_step new) x) ∙ h)) e

exprs_grow : (new : Bool) (es : List Expr) → Grows (list_all (allows_expr new) es) (list_all (allows_expr true) es)
exprs_grow new es = each (allows_expr new) (allows_expr true) (expr_grows new) es

abbrev StmtGrows : Bool → Stmt → Type 0
StmtGrows new s = Grows (allows_stmt new s) (allows_stmt true s)

parts_grow : {S : Type 0} (new : Bool) (ys : List S) (v : S → Stmt) → ((s : S) → StmtGrows new (v s)) → Grows (all_hold (map (allows_stmt new) (map v ys))) (all_hold (map (allows_stmt true) (map v ys)))
parts_grow new [] v h = same true
parts_grow new (y ∷ ys) v h = both _ _ _ _ (h y) (parts_grow new ys v h)

abbrev stmt_layer_of : Bool → stmt.Stmt-F Stmt → Bool
stmt_layer_of new layer = allows_stmt_step new (map-Stmt Stmt Bool (allows_stmt new) layer)

stmt_layer_grows : {S : Type 0} (new : Bool) (layer : stmt.Stmt-F S) (v : S → Stmt) → ((s : S) → StmtGrows new (v s)) → Grows (stmt_layer_of new (map-Stmt S Stmt v layer)) (stmt_layer_of true (map-Stmt S Stmt v layer))
stmt_layer_grows new (stmt.Assign x e) v h = both _ _ _ _ (same _) (expr_grows new e)
stmt_layer_grows new (stmt.Assert e) v h = expr_grows new e
stmt_layer_grows new (stmt.If e a b) v h = both _ _ _ _ (expr_grows new e) (both _ _ _ _ (parts_grow new a v h) (parts_grow new b v h))
stmt_layer_grows new (stmt.While e a) v h = both _ _ _ _ (expr_grows new e) (parts_grow new a v h)
stmt_layer_grows new (stmt.YieldLoop e i a) v h = both _ _ _ _ (expr_grows new e) (both _ _ _ _ (expr_grows new i) (parts_grow new a v h))
stmt_layer_grows new (stmt.RankLoop e r i a) v h = both _ _ _ _ (expr_grows new e) (both _ _ _ _ (expr_grows new r) (both _ _ _ _ (expr_grows new i) (parts_grow new a v h)))
stmt_layer_grows new (stmt.Call f es xs) v h = both _ _ _ _ (same _) (both _ _ _ _ (exprs_grow new es) (same _))
stmt_layer_grows new (stmt.Yield e) v h = expr_grows new e
stmt_layer_grows new stmt.Commit v h = same _
stmt_layer_grows new (stmt.Intro x e) v h = both _ _ _ _ (same _) (expr_grows new e)
stmt_layer_grows new (stmt.Spawn f es) v h = both new _ true _ (λ _. refl) (both _ _ _ _ (same _) (exprs_grow new es))

pub stmt_grows : (new : Bool) (s : Stmt) → StmtGrows new s
stmt_grows new s =
    ind-Stmt (StmtGrows new) (λ x y q h.
    let grows = stmt_layer_grows new y (λ z. z.0) (λ z. z.1) in
    let here = subst (λ (layer : stmt.Stmt-F Stmt). Grows (stmt_layer_of new layer) (stmt_layer_of true layer)) q grows in
    fold-roll-Stmt Bool (allows_stmt_step true) x ∙ here (sym (fold-roll-Stmt Bool (allows_stmt_step new) x) ∙ h)) s

choice_grows : (new : Bool) (c : Choice) → Grows (allows_choice new c) (allows_choice true c)
choice_grows new c = both _ _ _ _ (same _) (expr_grows new c.offer)

update_grows : (new : Bool) (u : Update) → Grows (allows_update new u) (allows_update true u)
update_grows new u = both _ _ _ _ (same _) (expr_grows new u.expr)

action_grows : (new : Bool) (a : Action) → Grows (allows_action new a) (allows_action true a)
action_grows new a =
    behind (allows_name a.name) _ _ (behind (list_all allows_param a.params) _ _ (behind (list_all allows_out a.outs) _ _
    (both _ _ _ _ (each (allows_choice new) (allows_choice true) (choice_grows new) a.choices)
    (both _ _ _ _ (expr_grows new a.gate) (both _ _ _ _ (expr_grows new a.guard) (each (allows_update new) (allows_update true) (update_grows new) a.updates))))))

rank_of_grows : (new : Bool) (r : Option Refines) → Grows (allows_rank_of new r) (allows_rank_of true r)
rank_of_grows new None = same _
rank_of_grows new (Some r) = both _ _ _ _ (same _) (exprs_grow new r.with)

proc_grows : (new : Bool) (p : Proc) → Grows (allows_proc new p) (allows_proc true p)
proc_grows new p =
    behind (allows_name p.name) _ _ (behind (list_all allows_param p.params) _ _ (behind (list_all allows_out p.outs) _ _
    (both _ _ _ _ (rank_of_grows new p.refines) (behind (list_all allows_local p.locals) _ _ (each (allows_stmt new) (allows_stmt true) (stmt_grows new) p.body)))))

invariant_grows : (new : Bool) (i : Invariant) → Grows (allows_invariant new i) (allows_invariant true i)
invariant_grows new i = expr_grows new i.expr

thread_grows : (new : Bool) (t : Thread) → Grows (allows_thread new t) (allows_thread true t)
thread_grows new t = both _ _ _ _ (same _) (exprs_grow new t.args)

items_grow : (new : Bool) (p : Program) → Grows (allows_items new p) (allows_items true p)
items_grow new p =
    both _ _ _ _ (same _) (both _ _ _ _ (expr_grows new p.init)
    (both _ _ _ _ (each (allows_invariant new) (allows_invariant true) (invariant_grows new) p.invariants)
    (both _ _ _ _ (each (allows_action new) (allows_action true) (action_grows new) p.actions)
    (both _ _ _ _ (each (allows_proc new) (allows_proc true) (proc_grows new) p.procs)
    (each (allows_thread new) (allows_thread true) (thread_grows new) p.threads)))))

raised_by : (first : Bool) (p : Program) → HasSpelling p → HasSpelling (record p { version = if first then 2 else p.version })
raised_by true p h = items_grow (p.version == 2) p h
raised_by false p h = h

-- the program that is printed has a spelling where the program has one
pub raised_has_spelling : (p : Program) → HasSpelling p → HasSpelling (raised p)
raised_has_spelling p h = raised_by (p.version == 1) p h
