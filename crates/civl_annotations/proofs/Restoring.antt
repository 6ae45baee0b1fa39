-- A program is the bare one with its own annotations filled in.
use Rattle.std.proofs.Common.{◌≡◌, ℕ, Bool, true, List, [], ◌∷◌, ◌++◌, map, refl, sym, ap, ◌∙◌, subst, map-id, append_assoc, append-nil}
use Rattle.std.specs.Prelude.{if◌then◌else◌}
use Rattle.std.specs.List.{flat_map}
use Rattle.std.proofs.lemmas.List.Concat.{flat_map-append}
use Rattle.civl_tree.specs.declared.expr.Expr.{Expr, out-Expr, the_lemmas as of_expr}
use Rattle.civl_tree.specs.declared.expr.Expr as expr
use Rattle.civl_tree.specs.declared.expr.Expr.TheOpen as part
use Rattle.civl_tree.specs.declared.expr.Two.TheVariants.{And}
use Rattle.civl_tree.specs.declared.stmt.Stmt.{Stmt, out-Stmt, roll-Stmt, roll-out-Stmt, out-roll-Stmt, map-Stmt}
use Rattle.civl_tree.specs.declared.stmt.Stmt as tree
use Rattle.civl_tree.specs.declared.stmt.Stmt.TheOpen.{Stmt-F, Assign, Assert, If, While, YieldLoop, RankLoop, Call, Yield, Commit, Intro, Spawn}
use Rattle.civl_tree.specs.declared.stmt.Stmt.TheFolds.{ind-Stmt}
use Rattle.civl_tree.specs.declared.program.Invariant.{Invariant}
use Rattle.civl_tree.specs.declared.program.Proc.{Proc}
use Rattle.civl_tree.specs.declared.program.Program.{Program}
use Rattle.civl_tree.specs.Numbering.{inner_of, statements_of}
use Rattle.civl_tree.proofs.Preorder.{inner_layer, inner_is}
use Rattle.civl_tree.proofs.Sizes.{if_out, while_out, yield_loop_out, rank_loop_out}
use Rattle.civl_annotations.specs.Bare.{bare_stmt, bare_proc, bare, DifferInAnnotations}
use Rattle.civl_annotations.specs.Annotated.{form_annotation, annotation_of, annotations_in, annotations}
use Rattle.civl_annotations.specs.Filled.{Filling, true_layer, is_blank, conjoined, fill_each, fill_loop, fill_stmt, fill_stmts, fill_procs, filled}
use Rattle.civl_annotations.specs.FilledLaws.{FilledBack, AnnotationsTell}
use Rattle.civl_annotations.proofs.Baring.{bare_layer, bare_by}
use Rattle.civl_annotations.proofs.Keeping.{with_body}
use Rattle.civl_annotations.proofs.Filling.{by_layer, fill_is, assign_out, assert_out, call_out, yield_out, commit_out, intro_out, spawn_out}

-- a statement is that of its layer
whole : (s : Stmt) (d : Stmt-F Stmt) → out-Stmt s ≡ d → s ≡ roll-Stmt d
whole s d o = sym (roll-out-Stmt s) ∙ ap roll-Stmt o

-- with this rest
abbrev beside : {A : Type 0} → List Expr → A → A × List Expr
beside rest x = (x, rest)

-- ---- a blank takes what is found

true_out : out-Expr expr.True ≡ part.True
true_out = simp (of_expr)

blank_takes : (e : Expr) → conjoined expr.True e ≡ e
blank_takes e = ap (λ (b : Bool). if b then e else (if is_blank e then expr.True else expr.Two And expr.True e)) (ap true_layer true_out)

-- ---- statements

-- the annotations of a statement and of those in it
abbrev pub annots : Stmt → List Expr
annots s = flat_map annotation_of (s ∷ inner_of s)

abbrev Back : Stmt → Type 0
Back s = (rest : List Expr) → fill_stmt (bare_stmt s) (annots s ++ rest) ≡ (s, rest)

parts_back : {S : Type 0} (ys : List S) (v : S → Stmt) → ((x : S) → Back (v x)) → (rest : List Expr) → fill_each (map fill_stmt (map bare_stmt (map v ys))) (annotations_in (map v ys) ++ rest) ≡ (map v ys, rest)
parts_back [] v h rest = refl
parts_back (y ∷ ys) v h rest =
    let s = v y in
    let fs = map fill_stmt (map bare_stmt (map v ys)) in
    let later = annotations_in (map v ys) in
    let joined = ap (λ (l : List Expr). l ++ rest) (flat_map-append annotation_of (s ∷ inner_of s) (statements_of (map v ys))) ∙ append_assoc (annots s) later rest in
    ap (fill_each (fill_stmt (bare_stmt s) ∷ fs)) joined
    ∙ ap (λ (p : Stmt × List Expr). (p.0 ∷ (fill_each fs p.1).0, (fill_each fs p.1).1)) (h y (later ++ rest))
    ∙ ap (λ (p : List Stmt × List Expr). (s ∷ p.0, p.1)) (parts_back ys v h rest)

-- the annotations of a layer and of what stands in it
abbrev pub layer_annots : Stmt-F Stmt → List Expr
layer_annots d = form_annotation d ++ flat_map annotation_of (inner_layer d)

layer_back : {S : Type 0} (y : Stmt-F S) (v : S → Stmt) → ((x : S) → Back (v x)) → (rest : List Expr) →
    by_layer (bare_layer (map-Stmt S Stmt v y)) (layer_annots (map-Stmt S Stmt v y) ++ rest) ≡ (roll-Stmt (map-Stmt S Stmt v y), rest)
layer_back (If e a b) v h rest =
    let one = map v a in
    let other = map v b in
    let second = fill_each (map fill_stmt (map bare_stmt other)) in
    let joined = ap (λ (l : List Expr). l ++ rest) (flat_map-append annotation_of (statements_of one) (statements_of other)) ∙ append_assoc (annotations_in one) (annotations_in other) rest in
    ap (by_layer (If e (map bare_stmt one) (map bare_stmt other))) joined
    ∙ ap (λ (p : List Stmt × List Expr). fill_loop (tree.If e p.0) second p.1) (parts_back a v h (annotations_in other ++ rest))
    ∙ ap (λ (p : List Stmt × List Expr). (tree.If e one p.0, p.1)) (parts_back b v h rest)
    ∙ ap (beside rest) (whole (tree.If e one other) (If e one other) (if_out e one other))
layer_back (While e a) v h rest =
    ap (λ (p : List Stmt × List Expr). (tree.While e p.0, p.1)) (parts_back a v h rest)
    ∙ ap (beside rest) (whole (tree.While e (map v a)) (While e (map v a)) (while_out e (map v a)))
layer_back (YieldLoop e i a) v h rest =
    let one = map v a in
    ap (λ (j : Expr). fill_loop (tree.YieldLoop e j) (fill_each (map fill_stmt (map bare_stmt one))) (annotations_in one ++ rest)) (blank_takes i)
    ∙ ap (λ (p : List Stmt × List Expr). (tree.YieldLoop e i p.0, p.1)) (parts_back a v h rest)
    ∙ ap (beside rest) (whole (tree.YieldLoop e i one) (YieldLoop e i one) (yield_loop_out e i one))
layer_back (RankLoop e r i a) v h rest =
    let one = map v a in
    ap (λ (j : Expr). fill_loop (tree.RankLoop e r j) (fill_each (map fill_stmt (map bare_stmt one))) (annotations_in one ++ rest)) (blank_takes i)
    ∙ ap (λ (p : List Stmt × List Expr). (tree.RankLoop e r i p.0, p.1)) (parts_back a v h rest)
    ∙ ap (beside rest) (whole (tree.RankLoop e r i one) (RankLoop e r i one) (rank_loop_out e r i one))
layer_back (Assign x e) v h rest = ap (beside rest) (whole (tree.Assign x e) (Assign x e) (assign_out x e))
layer_back (Assert e) v h rest = ap (beside rest) (whole (tree.Assert e) (Assert e) (assert_out e))
layer_back (Call f es rs) v h rest = ap (beside rest) (whole (tree.Call f es rs) (Call f es rs) (call_out f es rs))
layer_back (Yield i) v h rest = ap (λ (j : Expr). beside rest (tree.Yield j)) (blank_takes i) ∙ ap (beside rest) (whole (tree.Yield i) (Yield i) (yield_out i))
layer_back Commit v h rest = ap (beside rest) (whole tree.Commit Commit commit_out)
layer_back (Intro x e) v h rest = ap (beside rest) (whole (tree.Intro x e) (Intro x e) (intro_out x e))
layer_back (Spawn f es) v h rest = ap (beside rest) (whole (tree.Spawn f es) (Spawn f es) (spawn_out f es))

pub annots_by : (t : Stmt) (d : Stmt-F Stmt) → out-Stmt t ≡ d → annots t ≡ layer_annots d
annots_by t d o = ap (λ (x : Stmt-F Stmt). form_annotation x ++ flat_map annotation_of (inner_of t)) o ∙ ap (λ (l : List Stmt). form_annotation d ++ flat_map annotation_of l) (inner_is t ∙ ap inner_layer o)

back_by : (t : Stmt) (d : Stmt-F Stmt) → out-Stmt t ≡ d → ((rest : List Expr) → by_layer (bare_layer d) (layer_annots d ++ rest) ≡ (roll-Stmt d, rest)) → Back t
back_by t d o h rest =
    ap (λ (f : Filling Stmt). f (annots t ++ rest)) (fill_is (bare_stmt t) ∙ ap by_layer (bare_by t d o))
    ∙ ap (λ (l : List Expr). by_layer (bare_layer d) (l ++ rest)) (annots_by t d o)
    ∙ h rest
    ∙ ap (beside rest) (sym (whole t d o))

back : (s : Stmt) → Back s
back s = ind-Stmt Back (λ x y e. back_by (roll-Stmt x) _ (out-roll-Stmt x ∙ sym e) (layer_back y (λ z. z.0) (λ z. z.1))) s

stmts_back : (ss : List Stmt) (rest : List Expr) → fill_stmts (map bare_stmt ss) (annotations_in ss ++ rest) ≡ (ss, rest)
stmts_back ss rest =
    subst (λ (r : List Stmt). fill_stmts (map bare_stmt r) (annotations_in r ++ rest) ≡ (r, rest)) (map-id ss) (parts_back ss (λ (s : Stmt). s) back rest)

-- ---- procedures and the program

abbrev proc_annots : Proc → List Expr
proc_annots p = annotations_in p.body

procs_back : (ps : List Proc) (rest : List Expr) → fill_procs (map bare_proc ps) (flat_map proc_annots ps ++ rest) ≡ (ps, rest)
procs_back [] rest = refl
procs_back (p ∷ ps) rest =
    let later = flat_map proc_annots ps in
    let others = map bare_proc ps in
    ap (fill_procs (bare_proc p ∷ others)) (append_assoc (proc_annots p) later rest)
    ∙ ap (λ (q : List Stmt × List Expr). (with_body p q.0 ∷ (fill_procs others q.1).0, (fill_procs others q.1).1)) (stmts_back p.body (later ++ rest))
    ∙ ap (λ (q : List Proc × List Expr). (p ∷ q.0, q.1)) (procs_back ps rest)

abbrev with_parts : Program → List Invariant → List Proc → Program
with_parts program invariants procs = record program { invariants = invariants; procs = procs }

pub filled_back : FilledBack
filled_back program =
    ap (λ (found : List Expr). filled (bare program) found program.invariants) (sym (append-nil (annotations program)))
    ∙ ap (λ (q : List Proc × List Expr). with_parts program program.invariants q.0) (procs_back program.procs [])

pub annotations_tell : AnnotationsTell
annotations_tell one other d a i =
    sym (filled_back one)
    ∙ ap (λ (p : Program). filled p (annotations one) one.invariants) d
    ∙ ap (λ (l : List Expr). filled (bare other) l one.invariants) a
    ∙ ap (λ (l : List Invariant). filled (bare other) (annotations other) l) i
    ∙ filled_back other
