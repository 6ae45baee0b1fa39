-- The annotations of a filled program are its own with what was found for them.
use Rattle.std.proofs.Common.{◌≡◌, ℕ, zero, suc, ◌+◌, List, [], ◌∷◌, ◌++◌, length, drop, map, refl, sym, ap, ◌∙◌, subst, map-id}
use Rattle.std.specs.List.{flat_map}
use Rattle.std.proofs.lemmas.List.{length-append, drop-drop}
use Rattle.std.proofs.lemmas.List.Concat.{flat_map-append}
use Rattle.civl_tree.specs.declared.expr.Expr.{Expr}
use Rattle.civl_tree.specs.declared.stmt.Stmt.{Stmt, out-Stmt, roll-Stmt, out-roll-Stmt, map-Stmt}
use Rattle.civl_tree.specs.declared.stmt.Stmt as tree
use Rattle.civl_tree.specs.declared.stmt.Stmt.TheOpen.{Stmt-F, Assign, Assert, If, While, YieldLoop, RankLoop, Call, Yield, Commit, Intro, Spawn}
use Rattle.civl_tree.specs.declared.stmt.Stmt.TheFolds.{ind-Stmt}
use Rattle.civl_tree.specs.declared.program.Proc.{Proc}
use Rattle.civl_tree.specs.Numbering.{inner_of, statements_of}
use Rattle.civl_tree.proofs.Sizes.{if_out, while_out, yield_loop_out, rank_loop_out}
use Rattle.civl_annotations.specs.Annotated.{annotation_of, annotations_in}
use Rattle.civl_annotations.specs.Filled.{Filling, conjoined, filled_expr, fill_each, fill_stmt, fill_stmts, fill_procs}
use Rattle.civl_annotations.specs.FilledLaws.{with_found, FilledHasFound}
use Rattle.civl_annotations.proofs.Filling.{by_layer, fill_is, assign_out, assert_out, call_out, yield_out, commit_out, intro_out, spawn_out}
use Rattle.civl_annotations.proofs.Restoring.{annots, layer_annots, annots_by}

-- ---- lists

with_none : (xs : List Expr) → with_found xs [] ≡ xs
with_none [] = refl
with_none (x ∷ xs) = refl

abbrev nothing : List Expr
nothing = []

drop_none : (n : ℕ) → drop n nothing ≡ nothing
drop_none zero = refl
drop_none (suc n) = refl

with_append : (xs ys found : List Expr) → with_found (xs ++ ys) found ≡ with_found xs found ++ with_found ys (drop (length xs) found)
with_append [] ys found = refl
with_append (x ∷ xs) ys [] = ap (λ (l : List Expr). x ∷ (xs ++ l)) (sym (with_none ys))
with_append (x ∷ xs) ys (e ∷ es) = ap (λ (l : List Expr). conjoined x e ∷ l) (with_append xs ys es)

-- these are annotations with what was found for them, and this is left
abbrev pub Took : List Expr → List Expr → List Expr → List Expr → Type 0
Took xs found made rest = (made ≡ with_found xs found) × (rest ≡ drop (length xs) found)

-- one list behind the other
both_took : (xs ys found one middle other end : List Expr) → Took xs found one middle → Took ys middle other end → Took (xs ++ ys) found (one ++ other) end
both_took xs ys found one middle other end h k = (
  ap (λ (l : List Expr). l ++ other) h.0
      ∙ ap (λ (l : List Expr). with_found xs found ++ l) (k.0 ∙ ap (with_found ys) h.1)
      ∙ sym (with_append xs ys found),
  k.1 ∙ ap (drop (length ys)) h.1 ∙ drop-drop (length ys) (length xs) found ∙ ap (λ (n : ℕ). drop n found) (sym (length-append xs ys)),
)

-- an annotation in front
noted : (i : Expr) (xs found made rest : List Expr) → Took xs (drop 1 found) made rest → Took (i ∷ xs) found (filled_expr i found ∷ made) rest
noted i xs [] made rest h = (ap (λ (l : List Expr). i ∷ l) (h.0 ∙ with_none xs), h.1 ∙ drop_none (length xs))
noted i xs (e ∷ es) made rest h = (ap (λ (l : List Expr). conjoined i e ∷ l) h.0, h.1)

none_took : (found : List Expr) → Took [] found [] found
none_took found = (refl, refl)

-- the same of other lists that are equal
took_as : (xs ys found made shown rest : List Expr) → xs ≡ ys → made ≡ shown → Took xs found made rest → Took ys found shown rest
took_as xs ys found made shown rest e m h = subst (λ (l : List Expr). Took l found shown rest) e (subst (λ (l : List Expr). Took xs found l rest) m h)

-- ---- statements

abbrev Has : Stmt → Type 0
Has s = (found : List Expr) → Took (annots s) found (annots (fill_stmt s found).0) (fill_stmt s found).1

in_front : (s : Stmt) (ss : List Stmt) → annots s ++ annotations_in ss ≡ annotations_in (s ∷ ss)
in_front s ss = sym (flat_map-append annotation_of (s ∷ inner_of s) (statements_of ss))

parts_have : {S : Type 0} (ys : List S) (v : S → Stmt) → ((x : S) → Has (v x)) → (found : List Expr) →
    Took (annotations_in (map v ys)) found (annotations_in (fill_each (map fill_stmt (map v ys)) found).0) (fill_each (map fill_stmt (map v ys)) found).1
parts_have [] v h found = none_took found
parts_have (y ∷ ys) v h found =
    let s = v y in
    let f = fill_stmt s found in
    let rest = fill_each (map fill_stmt (map v ys)) f.1 in
    took_as (annots s ++ annotations_in (map v ys)) _ found (annots f.0 ++ annotations_in rest.0) _ rest.1 (in_front s (map v ys)) (in_front f.0 rest.0)
    (both_took (annots s) (annotations_in (map v ys)) found (annots f.0) f.1 (annotations_in rest.0) rest.1 (h y found) (parts_have ys v h f.1))

two_parts : (ss ts : List Stmt) → annotations_in ss ++ annotations_in ts ≡ flat_map annotation_of (statements_of ss ++ statements_of ts)
two_parts ss ts = sym (flat_map-append annotation_of (statements_of ss) (statements_of ts))

abbrev LayerHas : Stmt-F Stmt → List Expr → Type 0
LayerHas d found = Took (layer_annots d) found (annots (by_layer d found).0) (by_layer d found).1

-- what is shown of the layer of what is made
made_by : (xs found rest : List Expr) (t : Stmt) (d : Stmt-F Stmt) → out-Stmt t ≡ d → Took xs found (layer_annots d) rest → Took xs found (annots t) rest
made_by xs found rest t d o h = took_as xs xs found (layer_annots d) (annots t) rest refl (sym (annots_by t d o)) h

layer_has : {S : Type 0} (y : Stmt-F S) (v : S → Stmt) → ((x : S) → Has (v x)) → (found : List Expr) → LayerHas (map-Stmt S Stmt v y) found
layer_has (If e a b) v h found =
    let first = fill_each (map fill_stmt (map v a)) found in
    let second = fill_each (map fill_stmt (map v b)) first.1 in
    made_by _ found second.1 (tree.If e first.0 second.0) (If e first.0 second.0) (if_out e first.0 second.0)
    (took_as (annotations_in (map v a) ++ annotations_in (map v b)) _ found (annotations_in first.0 ++ annotations_in second.0) _ second.1 (two_parts (map v a) (map v b)) (two_parts first.0 second.0)
    (both_took (annotations_in (map v a)) (annotations_in (map v b)) found (annotations_in first.0) first.1 (annotations_in second.0) second.1 (parts_have a v h found) (parts_have b v h first.1)))
layer_has (While e a) v h found =
    let body = fill_each (map fill_stmt (map v a)) found in
    made_by (annotations_in (map v a)) found body.1 (tree.While e body.0) (While e body.0) (while_out e body.0) (parts_have a v h found)
layer_has (YieldLoop e i a) v h found =
    let body = fill_each (map fill_stmt (map v a)) (drop 1 found) in
    let j = filled_expr i found in
    made_by (i ∷ annotations_in (map v a)) found body.1 (tree.YieldLoop e j body.0) (YieldLoop e j body.0) (yield_loop_out e j body.0)
    (noted i (annotations_in (map v a)) found (annotations_in body.0) body.1 (parts_have a v h (drop 1 found)))
layer_has (RankLoop e r i a) v h found =
    let body = fill_each (map fill_stmt (map v a)) (drop 1 found) in
    let j = filled_expr i found in
    made_by (i ∷ annotations_in (map v a)) found body.1 (tree.RankLoop e r j body.0) (RankLoop e r j body.0) (rank_loop_out e r j body.0)
    (noted i (annotations_in (map v a)) found (annotations_in body.0) body.1 (parts_have a v h (drop 1 found)))
layer_has (Assign x e) v h found = made_by [] found found (tree.Assign x e) (Assign x e) (assign_out x e) (none_took found)
layer_has (Assert e) v h found = made_by [] found found (tree.Assert e) (Assert e) (assert_out e) (none_took found)
layer_has (Call f es rs) v h found = made_by [] found found (tree.Call f es rs) (Call f es rs) (call_out f es rs) (none_took found)
layer_has (Yield i) v h found =
    let j = filled_expr i found in
    made_by (i ∷ []) found (drop 1 found) (tree.Yield j) (Yield j) (yield_out j) (noted i [] found [] (drop 1 found) (none_took (drop 1 found)))
layer_has Commit v h found = made_by [] found found tree.Commit Commit commit_out (none_took found)
layer_has (Intro x e) v h found = made_by [] found found (tree.Intro x e) (Intro x e) (intro_out x e) (none_took found)
layer_has (Spawn f es) v h found = made_by [] found found (tree.Spawn f es) (Spawn f es) (spawn_out f es) (none_took found)

has_by : (t : Stmt) (d : Stmt-F Stmt) → out-Stmt t ≡ d → ((found : List Expr) → LayerHas d found) → Has t
has_by t d o h found =
    subst (λ (l : List Expr). Took l found (annots (fill_stmt t found).0) (fill_stmt t found).1) (sym (annots_by t d o))
    (subst (λ (f : Filling Stmt). Took (layer_annots d) found (annots (f found).0) (f found).1) (sym (fill_is t ∙ ap by_layer o)) (h found))

has : (s : Stmt) → Has s
has s = ind-Stmt Has (λ x y e. has_by (roll-Stmt x) _ (out-roll-Stmt x ∙ sym e) (layer_has y (λ z. z.0) (λ z. z.1))) s

stmts_have : (ss : List Stmt) (found : List Expr) → Took (annotations_in ss) found (annotations_in (fill_stmts ss found).0) (fill_stmts ss found).1
stmts_have ss found =
    subst (λ (r : List Stmt). Took (annotations_in r) found (annotations_in (fill_stmts r found).0) (fill_stmts r found).1) (map-id ss) (parts_have ss (λ (s : Stmt). s) has found)

-- ---- the program

abbrev proc_annots : Proc → List Expr
proc_annots p = annotations_in p.body

procs_have : (ps : List Proc) (found : List Expr) → Took (flat_map proc_annots ps) found (flat_map proc_annots (fill_procs ps found).0) (fill_procs ps found).1
procs_have [] found = none_took found
procs_have (p ∷ ps) found =
    let f = fill_stmts p.body found in
    let rest = fill_procs ps f.1 in
    both_took (proc_annots p) (flat_map proc_annots ps) found (annotations_in f.0) f.1 (flat_map proc_annots rest.0) rest.1 (stmts_have p.body found) (procs_have ps f.1)

pub filled_has_found : FilledHasFound
filled_has_found program found added = (procs_have program.procs found).0
