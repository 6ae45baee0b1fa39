-- The tokens of what has a spelling may stand in a text.
use Rattle.std.proofs.Common.{Bool, true, false, ◌&&◌, List, [], ◌∷◌, ◌++◌, map, refl, sym, ◌∙◌, subst, Option, None, Some}
use Rattle.std.proofs.lemmas.Bool.{and_parts, and_from}
use Rattle.std.proofs.lemmas.List.Folds.{list_all-append}
use Rattle.std.specs.Prelude.{IsTrue, codes, ◌==◌, if◌then◌else◌}
use Rattle.std.specs.List.{list_all}
use Rattle.civl_tree.specs.declared.name.Name.{Name}
use Rattle.civl_tree.specs.declared.expr.Sort.{Sort}
use Rattle.civl_tree.specs.declared.expr.Sort.TheVariants as sort
use Rattle.civl_tree.specs.declared.expr.One.{One}
use Rattle.civl_tree.specs.declared.expr.One.TheVariants.{Not, Flip, Minus}
use Rattle.civl_tree.specs.declared.expr.Two.{Two}
use Rattle.civl_tree.specs.declared.expr.Two.TheVariants.{Add, Sub, Mul, BitAnd, BitOr, BitXor, Shl, Shr, Lt, Le, Eq, Ne, And, Or, Implies, Udiv, Urem, Slt, Sle, Sar}
use Rattle.civl_tree.specs.declared.expr.Expr.{Expr, map-Expr}
use Rattle.civl_tree.specs.declared.expr.Expr.TheOpen as expr
use Rattle.civl_tree.specs.declared.expr.Expr.TheFolds.{fold-roll-Expr, ind-Expr}
use Rattle.civl_tree.specs.declared.stmt.Stmt.{Stmt, map-Stmt}
use Rattle.civl_tree.specs.declared.stmt.Stmt.TheOpen as stmt
use Rattle.civl_tree.specs.declared.stmt.Stmt.TheFolds.{fold-roll-Stmt, ind-Stmt}
use Rattle.civl_tree.specs.declared.action.Mode.{Mode}
use Rattle.civl_tree.specs.declared.action.Mode.TheVariants.{Val, Lend, Take, Give}
use Rattle.civl_tree.specs.declared.action.Mover.{Mover}
use Rattle.civl_tree.specs.declared.action.Mover.TheVariants.{Atomic, Right, Left, Both}
use Rattle.civl_tree.specs.declared.action.Param.{Param}
use Rattle.civl_tree.specs.declared.action.Choice.{Choice}
use Rattle.civl_tree.specs.declared.action.Update.{Update}
use Rattle.civl_tree.specs.declared.action.Action.{Action}
use Rattle.civl_tree.specs.declared.program.Refines.{Refines}
use Rattle.civl_tree.specs.declared.program.Local.{Local}
use Rattle.civl_tree.specs.declared.program.Proc.{Proc}
use Rattle.civl_tree.specs.declared.program.Global.{Global}
use Rattle.civl_tree.specs.declared.program.Invariant.{Invariant}
use Rattle.civl_tree.specs.declared.program.Thread.{Thread}
use Rattle.civl_tree.specs.declared.program.Program.{Program}
use Rattle.civl_tree.specs.declared.script.Literal.{Literal}
use Rattle.civl_tree.specs.declared.script.Literal.TheVariants as literal
use Rattle.civl_tree.specs.declared.script.Entry.{Entry}
use Rattle.civl_tree.specs.declared.script.Told.{Told}
use Rattle.civl_tree.specs.declared.script.Script.{Script}
use Rattle.civl_tree.specs.Token.{Token, Reserved, Sign, Number}
use Rattle.civl_tree.specs.Spelling.{close_paren, semicolon, colon, name_token, comma, joined, separated, enclosed, block, optional, spell_sort, one_token, op_token, expr_step, spell_expr}
use Rattle.civl_tree.specs.SpellingStmt.{spell_name, stmt_step, spell_stmt}
use Rattle.civl_tree.specs.SpellingProgram.{spell_global, spell_init, spell_invariant, mode_token, spell_param, spell_out, spell_choice, mover_token, spell_update, spell_action, spell_rank_of, spell_local, spell_proc, spell_thread, spell_program}
use Rattle.civl_tree.specs.SpellingScript.{spell_literal, spell_value, spell_entry, spell_step, spell_script}
use Rattle.civl_tree.specs.SpellingDomain.{allows_name, allows_expr_step, allows_expr, all_hold, allows_stmt_step, allows_stmt, allows_global, allows_invariant, is_param_mode, is_out_mode, allows_param, allows_out, allows_choice, allows_update, allows_action, allows_rank_of, allows_local, allows_proc, allows_thread, allows_items, allows_entry, allows_told, allows_program, HasSpelling, ScriptHasSpelling}
use Rattle.civl_tree.specs.SpellingLaws.{may_stand, TokensMayStand}

-- each of these tokens may stand in a text
abbrev Good : List Token → Type 0
Good ts = IsTrue (list_all may_stand ts)

-- one token before others, and tokens before others
first : (t : Token) (rest : Bool) → IsTrue (may_stand t) → IsTrue rest → IsTrue (may_stand t && rest)
first t rest h k = and_from (may_stand t) rest h k

chain : (xs ys : List Token) → Good xs → Good ys → Good (xs ++ ys)
chain xs ys h k = list_all-append may_stand xs ys ∙ and_from (list_all may_stand xs) (list_all may_stand ys) h k

-- phrases each of which is good where a test passes
phrases : {X : Type 0} (p : X → Bool) (s : X → List Token) → ((x : X) → IsTrue (p x) → Good (s x)) → (xs : List X) → IsTrue (list_all p xs) → Good (joined (map s xs))
phrases p s good [] h = refl
phrases p s good (x ∷ xs) h = let parts = and_parts (p x) (list_all p xs) h in chain (s x) (joined (map s xs)) (good x parts.0) (phrases p s good xs parts.1)

commas : {X : Type 0} (p : X → Bool) (s : X → List Token) → ((x : X) → IsTrue (p x) → Good (s x)) → (xs : List X) → IsTrue (list_all p xs) → Good (separated s xs)
commas p s good [] h = refl
commas p s good (x ∷ xs) h =
    let parts = and_parts (p x) (list_all p xs) h in
    chain (s x) (joined (map (λ y. comma ∷ s y) xs)) (good x parts.0) (phrases p (λ y. comma ∷ s y) good xs parts.1)

lists : {X : Type 0} (p : X → Bool) (s : X → List Token) → ((x : X) → IsTrue (p x) → Good (s x)) → (xs : List X) → IsTrue (list_all p xs) → Good (enclosed s xs)
lists p s good xs h = chain (separated s xs) _ (commas p s good xs h) refl

-- ---- sorts and expressions

good_sort : (s : Sort) → Good (spell_sort s)
good_sort sort.Bool = refl
good_sort (sort.Word w) = refl
good_sort (sort.Row k w) = refl

good_one : (op : One) → IsTrue (may_stand (one_token op))
good_one Not = refl
good_one Flip = refl
good_one Minus = refl

good_op : (op : Two) → IsTrue (may_stand (op_token op))
good_op Add = refl
good_op Sub = refl
good_op Mul = refl
good_op BitAnd = refl
good_op BitOr = refl
good_op BitXor = refl
good_op Shl = refl
good_op Shr = refl
good_op Lt = refl
good_op Le = refl
good_op Eq = refl
good_op Ne = refl
good_op And = refl
good_op Or = refl
good_op Implies = refl
good_op Udiv = refl
good_op Urem = refl
good_op Slt = refl
good_op Sle = refl
good_op Sar = refl

abbrev GoodExpr : Bool → Expr → Type 0
GoodExpr new e = IsTrue (allows_expr new e) → Good (spell_expr e)

good_layer : {S : Type 0} (new : Bool) (layer : expr.Expr-F S) (v : S → Expr) → ((s : S) → GoodExpr new (v s)) → IsTrue (allows_expr_step new (map-Expr Expr Bool (allows_expr new) (map-Expr S Expr v layer))) → Good (expr_step (map-Expr Expr (List Token) spell_expr (map-Expr S Expr v layer)))
good_layer new (expr.Name n) v h p = first (name_token n) _ p refl
good_layer new (expr.Literal value width) v h p = refl
good_layer new expr.True v h p = refl
good_layer new expr.False v h p = refl
good_layer new expr.Done v h p = refl
good_layer new (expr.Old n) v h p = first (name_token n) _ p refl
good_layer new expr.OldDone v h p = refl
good_layer new (expr.One op a) v h p = first (one_token op) _ (good_one op) (chain (spell_expr (v a)) (close_paren ∷ []) (h a p) refl)
good_layer new (expr.Two op a b) v h p =
    let parts = and_parts _ _ p in let rest = and_parts _ _ parts.1 in
    chain (spell_expr (v a)) _ (h a parts.0) (first (op_token op) _ (good_op op) (chain (spell_expr (v b)) (close_paren ∷ []) (h b rest.1) refl))
good_layer new (expr.Pick c a b) v h p =
    let parts = and_parts _ _ p in let rest = and_parts _ _ parts.1 in
    chain (spell_expr (v c)) _ (h c parts.0) (chain (spell_expr (v a)) _ (h a rest.0) (chain (spell_expr (v b)) _ (h b rest.1) refl))
good_layer new (expr.Get r i) v h p = let parts = and_parts _ _ p in chain (spell_expr (v r)) _ (h r parts.0) (chain (spell_expr (v i)) _ (h i parts.1) refl)
good_layer new (expr.Set r i c) v h p =
    let parts = and_parts _ _ p in let rest = and_parts _ _ parts.1 in
    chain (spell_expr (v r)) _ (h r parts.0) (chain (spell_expr (v i)) _ (h i rest.0) (chain (spell_expr (v c)) _ (h c rest.1) refl))
good_layer new (expr.Fill k c) v h p = chain (spell_expr (v c)) _ (h c p) refl
good_layer new (expr.Slice a high low) v h p = chain (spell_expr (v a)) _ (h a p) refl
good_layer new (expr.Widen a w) v h p = chain (spell_expr (v a)) _ (h a p) refl
good_layer new (expr.Join a b) v h p = let parts = and_parts _ _ p in chain (spell_expr (v a)) _ (h a parts.0) (chain (spell_expr (v b)) _ (h b parts.1) refl)

good_expr : (new : Bool) (e : Expr) → GoodExpr new e
good_expr new e =
    ind-Expr (GoodExpr new) (λ x y q h.
    let here = subst (λ (layer : expr.Expr-F Expr). IsTrue (allows_expr_step new (map-Expr Expr Bool (allows_expr new) layer)) → Good (expr_step (map-Expr Expr (List Token) spell_expr layer))) q (good_layer new y (λ z. z.0) (λ z. z.1)) in
    subst Good (sym (fold-roll-Expr (List Token) expr_step x)) (here (sym (fold-roll-Expr Bool (allows_expr_step new) x) ∙ h))) e

good_exprs : (new : Bool) (es : List Expr) → IsTrue (list_all (allows_expr new) es) → Good (enclosed spell_expr es)
good_exprs new es h = lists (allows_expr new) spell_expr (good_expr new) es h

-- an expression and what stands behind it
after : (new : Bool) (e : Expr) (ts : List Token) → IsTrue (allows_expr new e) → Good ts → Good (spell_expr e ++ ts)
after new e ts h k = chain (spell_expr e) ts (good_expr new e h) k

-- ---- statements

abbrev GoodStmt : Bool → Stmt → Type 0
GoodStmt new s = IsTrue (allows_stmt new s) → Good (spell_stmt s)

good_parts : {S : Type 0} (new : Bool) (ys : List S) (v : S → Stmt) → ((s : S) → GoodStmt new (v s)) → IsTrue (all_hold (map (allows_stmt new) (map v ys))) → Good (joined (map spell_stmt (map v ys)))
good_parts new [] v h p = refl
good_parts new (y ∷ ys) v h p = let parts = and_parts _ _ p in chain (spell_stmt (v y)) _ (h y parts.0) (good_parts new ys v h parts.1)

good_block : {S : Type 0} (new : Bool) (ys : List S) (v : S → Stmt) → ((s : S) → GoodStmt new (v s)) → IsTrue (all_hold (map (allows_stmt new) (map v ys))) → Good (block (map spell_stmt (map v ys)))
good_block new ys v h p = chain (joined (map spell_stmt (map v ys))) _ (good_parts new ys v h p) refl

good_names : (ns : List Name) → IsTrue (list_all allows_name ns) → Good (enclosed spell_name ns)
good_names ns h = lists allows_name spell_name (λ n p. first (name_token n) _ p refl) ns h

good_stmt_layer : {S : Type 0} (new : Bool) (layer : stmt.Stmt-F S) (v : S → Stmt) → ((s : S) → GoodStmt new (v s)) → IsTrue (allows_stmt_step new (map-Stmt Stmt Bool (allows_stmt new) (map-Stmt S Stmt v layer))) → Good (stmt_step (map-Stmt Stmt (List Token) spell_stmt (map-Stmt S Stmt v layer)))
good_stmt_layer new (stmt.Assign x e) v h p = let parts = and_parts (allows_name x) _ p in first (name_token x) _ parts.0 (after new e _ parts.1 refl)
good_stmt_layer new (stmt.Assert e) v h p = after new e _ p refl
good_stmt_layer new (stmt.If e a b) v h p =
    let parts = and_parts (allows_expr new e) _ p in let rest = and_parts _ _ parts.1 in
    after new e _ parts.0 (chain (block (map spell_stmt (map v a))) _ (good_block new a v h rest.0) (good_block new b v h rest.1))
good_stmt_layer new (stmt.While e a) v h p = let parts = and_parts (allows_expr new e) _ p in after new e _ parts.0 (good_block new a v h parts.1)
good_stmt_layer new (stmt.YieldLoop e i a) v h p =
    let parts = and_parts (allows_expr new e) _ p in let rest = and_parts (allows_expr new i) _ parts.1 in
    after new e _ parts.0 (after new i _ rest.0 (good_block new a v h rest.1))
good_stmt_layer new (stmt.RankLoop e r i a) v h p =
    let parts = and_parts (allows_expr new e) _ p in let rest = and_parts (allows_expr new r) _ parts.1 in let last = and_parts (allows_expr new i) _ rest.1 in
    after new e _ parts.0 (after new r _ rest.0 (after new i _ last.0 (good_block new a v h last.1)))
good_stmt_layer new (stmt.Call f es xs) v h p =
    let parts = and_parts (allows_name f) _ p in let rest = and_parts (list_all (allows_expr new) es) _ parts.1 in
    first (name_token f) _ parts.0 (chain (enclosed spell_expr es) _ (good_exprs new es rest.0) (chain (enclosed spell_name xs) _ (good_names xs rest.1) refl))
good_stmt_layer new (stmt.Yield e) v h p = after new e _ p refl
good_stmt_layer new stmt.Commit v h p = refl
good_stmt_layer new (stmt.Intro x e) v h p = let parts = and_parts (allows_name x) _ p in first (name_token x) _ parts.0 (after new e _ parts.1 refl)
good_stmt_layer new (stmt.Spawn f es) v h p =
    let parts = and_parts new _ p in let rest = and_parts (allows_name f) _ parts.1 in
    first (name_token f) _ rest.0 (chain (enclosed spell_expr es) _ (good_exprs new es rest.1) refl)

good_stmt : (new : Bool) (s : Stmt) → GoodStmt new s
good_stmt new s =
    ind-Stmt (GoodStmt new) (λ x y q h.
    let here = subst (λ (layer : stmt.Stmt-F Stmt). IsTrue (allows_stmt_step new (map-Stmt Stmt Bool (allows_stmt new) layer)) → Good (stmt_step (map-Stmt Stmt (List Token) spell_stmt layer))) q (good_stmt_layer new y (λ z. z.0) (λ z. z.1)) in
    subst Good (sym (fold-roll-Stmt (List Token) stmt_step x)) (here (sym (fold-roll-Stmt Bool (allows_stmt_step new) x) ∙ h))) s

-- ---- declarations

-- a sort and what stands behind it
after_sort : (s : Sort) (ts : List Token) → Good ts → Good (spell_sort s ++ ts)
after_sort s ts k = chain (spell_sort s) ts (good_sort s) k

good_optional : (flag : Bool) (t : Token) (ts : List Token) → IsTrue (may_stand t) → Good ts → Good (optional flag t ts)
good_optional true t ts h k = first t _ h k
good_optional false t ts h k = k

good_global : (g : Global) → IsTrue (allows_global g) → Good (spell_global g)
good_global g h =
    let range = Reserved (codes "layers") ∷ Number g.first ∷ Reserved (codes "to") ∷ Number g.last ∷ semicolon ∷ [] in
    let rest = colon ∷ spell_sort g.sort ++ range in
    good_optional g.linear (Reserved (codes "linear")) (name_token g.name ∷ rest) refl (first (name_token g.name) _ h (after_sort g.sort range refl))

good_invariant : (new : Bool) (i : Invariant) → IsTrue (allows_invariant new i) → Good (spell_invariant i)
good_invariant new i h = after new i.expr _ h refl

good_mode : (m : Mode) → IsTrue (may_stand (mode_token m))
good_mode Val = refl
good_mode Lend = refl
good_mode Take = refl
good_mode Give = refl

good_param : (p : Param) → IsTrue (allows_param p) → Good (spell_param p)
good_param p h = let parts = and_parts (is_param_mode p.mode) _ h in first (mode_token p.mode) _ (good_mode p.mode) (first (name_token p.name) _ parts.1 (good_sort p.sort))

good_out : (p : Param) → IsTrue (allows_out p) → Good (spell_out p)
good_out p h = let parts = and_parts (is_out_mode p.mode) _ h in first (mode_token p.mode) _ (good_mode p.mode) (first (name_token p.name) _ parts.1 (good_sort p.sort))

good_choice : (new : Bool) (c : Choice) → IsTrue (allows_choice new c) → Good (spell_choice c)
good_choice new c h = let parts = and_parts (allows_name c.name) _ h in first (name_token c.name) _ parts.0 (after_sort c.sort _ (good_expr new c.offer parts.1))

good_mover : (m : Mover) → IsTrue (may_stand (mover_token m))
good_mover Atomic = refl
good_mover Right = refl
good_mover Left = refl
good_mover Both = refl

good_update : (new : Bool) (u : Update) → IsTrue (allows_update new u) → Good (spell_update u)
good_update new u h = let parts = and_parts (allows_name u.target) _ h in first (name_token u.target) _ parts.0 (after new u.expr _ parts.1 refl)

good_action : (new : Bool) (a : Action) → IsTrue (allows_action new a) → Good (spell_action a)
good_action new a h =
    let name = and_parts (allows_name a.name) _ h in
    let params = and_parts (list_all allows_param a.params) _ name.1 in
    let outs = and_parts (list_all allows_out a.outs) _ params.1 in
    let choices = and_parts (list_all (allows_choice new) a.choices) _ outs.1 in
    let gate = and_parts (allows_expr new a.gate) _ choices.1 in
    let guard = and_parts (allows_expr new a.guard) _ gate.1 in
    first (name_token a.name) _ name.0
    (chain (enclosed spell_param a.params) _ (lists allows_param spell_param good_param a.params params.0)
    (chain (enclosed spell_out a.outs) _ (lists allows_out spell_out good_out a.outs outs.0)
    (chain (enclosed spell_choice a.choices) _ (lists (allows_choice new) spell_choice (good_choice new) a.choices choices.0)
    (first (mover_token a.mover) _ (good_mover a.mover)
    (after new a.gate _ gate.0
    (after new a.guard _ guard.0
    (chain (joined (map spell_update a.updates)) _ (phrases (allows_update new) spell_update (good_update new) a.updates guard.1) refl)))))))

good_rank_of : (new : Bool) (r : Option Refines) → IsTrue (allows_rank_of new r) → Good (spell_rank_of r)
good_rank_of new None h = refl
good_rank_of new (Some r) h =
    let parts = and_parts (allows_name r.action) _ h in
    first (name_token r.action) _ parts.0 (chain (enclosed spell_expr r.with) _ (good_exprs new r.with parts.1) refl)

either : (flag : Bool) (t u : Token) → IsTrue (may_stand t) → IsTrue (may_stand u) → IsTrue (may_stand (if flag then t else u))
either true t u h k = h
either false t u h k = k

good_local : (l : Local) → IsTrue (allows_local l) → Good (spell_local l)
good_local l h =
    let linear = Reserved (codes "linear") in
    let var = Reserved (codes "var") in
    first (if l.linear then linear else var) _ (either l.linear linear var refl refl) (first (name_token l.name) _ h (after_sort l.sort (semicolon ∷ []) refl))

good_proc : (new : Bool) (p : Proc) → IsTrue (allows_proc new p) → Good (spell_proc p)
good_proc new p h =
    let name = and_parts (allows_name p.name) _ h in
    let params = and_parts (list_all allows_param p.params) _ name.1 in
    let outs = and_parts (list_all allows_out p.outs) _ params.1 in
    let rank = and_parts (allows_rank_of new p.refines) _ outs.1 in
    let locals = and_parts (list_all allows_local p.locals) _ rank.1 in
    first (name_token p.name) _ name.0
    (chain (enclosed spell_param p.params) _ (lists allows_param spell_param good_param p.params params.0)
    (chain (enclosed spell_out p.outs) _ (lists allows_out spell_out good_out p.outs outs.0)
    (chain (spell_rank_of p.refines) _ (good_rank_of new p.refines rank.0)
    (chain (joined (map spell_local p.locals)) _ (phrases allows_local spell_local good_local p.locals locals.0)
    (chain (joined (map spell_stmt p.body)) _ (phrases (allows_stmt new) spell_stmt (good_stmt new) p.body locals.1) refl)))))

good_thread : (new : Bool) (t : Thread) → IsTrue (allows_thread new t) → Good (spell_thread t)
good_thread new t h =
    let parts = and_parts (allows_name t.callee) _ h in
    first (name_token t.callee) _ parts.0 (chain (enclosed spell_expr t.args) _ (good_exprs new t.args parts.1) refl)

good_items : (new : Bool) (p : Program) → IsTrue (allows_items new p) → Good (spell_program p)
good_items new p h =
    let globals = and_parts (list_all allows_global p.globals) _ h in
    let init = and_parts (allows_expr new p.init) _ globals.1 in
    let invariants = and_parts (list_all (allows_invariant new) p.invariants) _ init.1 in
    let actions = and_parts (list_all (allows_action new) p.actions) _ invariants.1 in
    let procs = and_parts (list_all (allows_proc new) p.procs) _ actions.1 in
    chain (joined (map spell_global p.globals)) _ (phrases allows_global spell_global good_global p.globals globals.0)
    (chain (spell_init p.init) _ (after new p.init _ init.0 refl)
    (chain (joined (map spell_invariant p.invariants)) _ (phrases (allows_invariant new) spell_invariant (good_invariant new) p.invariants invariants.0)
    (chain (joined (map spell_action p.actions)) _ (phrases (allows_action new) spell_action (good_action new) p.actions actions.0)
    (chain (joined (map spell_proc p.procs)) (joined (map spell_thread p.threads)) (phrases (allows_proc new) spell_proc (good_proc new) p.procs procs.0)
    (phrases (allows_thread new) spell_thread (good_thread new) p.threads procs.1)))))

good_program : (p : Program) → HasSpelling p → Good (spell_program p)
good_program p h = good_items (p.version == 2) p h

-- ---- scripts

good_literal : (l : Literal) → Good (spell_literal l)
good_literal (literal.Flag true) = refl
good_literal (literal.Flag false) = refl
good_literal (literal.Number value width) = refl

-- a test that all pass
passes : {X : Type 0} → X → Bool
passes x = true

all_pass : {X : Type 0} (xs : List X) → IsTrue (list_all passes xs)
unfolding passes
all_pass [] = refl
all_pass (x ∷ xs) = all_pass xs

value_by : (row : Bool) (cells : List Literal) → Good (if row then Sign (codes "[") ∷ separated spell_literal cells ++ Sign (codes "]") ∷ [] else joined (map spell_literal cells))
value_by true cells = chain (separated spell_literal cells) _ (commas passes spell_literal (λ l h. good_literal l) cells (all_pass cells)) refl
value_by false cells = phrases passes spell_literal (λ l h. good_literal l) cells (all_pass cells)

good_value : (e : Entry) → Good (spell_value e)
good_value e = value_by e.row e.cells

good_entry : (e : Entry) → IsTrue (allows_entry e) → Good (spell_entry e)
good_entry e h = let parts = and_parts (allows_name e.name) _ h in first (name_token e.name) _ parts.0 (chain (spell_value e) (semicolon ∷ []) (good_value e) refl)

good_step : (t : Told) → IsTrue (allows_told t) → Good (spell_step t)
good_step t h = chain (enclosed spell_value t.choices) _ (lists passes spell_value (λ e p. good_value e) t.choices (all_pass t.choices)) refl

good_script : (s : Script) → ScriptHasSpelling s → Good (spell_script s)
good_script s h =
    let program = and_parts (allows_program s.program) _ h in
    let store = and_parts (list_all allows_entry s.store) _ program.1 in
    chain (spell_program s.program) _ (good_program s.program program.0)
    (chain (joined (map spell_entry s.store)) (joined (map spell_step s.moves)) (phrases allows_entry spell_entry good_entry s.store store.0) (phrases allows_told spell_step good_step s.moves store.1))

pub tokens_may_stand : TokensMayStand
tokens_may_stand = (good_program, good_script)
