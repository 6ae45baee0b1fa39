-- What a program keeps without its annotations.
use Rattle.std.proofs.Common.{◌≡◌, ℕ, List, [], ◌∷◌, ◌++◌, map, refl, sym, ap, ◌∙◌, subst, map-id}
use Rattle.std.specs.Prelude.{slice_get}
use Rattle.std.proofs.lemmas.List.{map-append}
use Rattle.std.proofs.lemmas.Option.{slice_get-map}
use Rattle.civl_tree.specs.declared.stmt.Stmt.{Stmt, out-Stmt, roll-Stmt, out-roll-Stmt, map-Stmt}
use Rattle.civl_tree.specs.declared.stmt.Stmt.TheOpen.{Stmt-F, Assign, Assert, If, While, YieldLoop, RankLoop, Call, Yield, Commit, Intro, Spawn}
use Rattle.civl_tree.specs.declared.stmt.Stmt.TheFolds.{ind-Stmt}
use Rattle.civl_tree.specs.declared.expr.Expr.{Expr}
use Rattle.civl_tree.specs.declared.expr.Expr as expr
use Rattle.civl_tree.specs.declared.program.Proc.{Proc}
use Rattle.civl_tree.specs.declared.program.Program.{Program}
use Rattle.civl_tree.specs.Numbering.{sizes_of, inner_of, statements_of}
use Rattle.civl_tree.proofs.Preorder.{inner_layer, inner_is}
use Rattle.civl_annotations.specs.Bare.{bare_stmt, bare_proc, bare}
use Rattle.civl_annotations.specs.Kept.{Header, header_of, HaveOneShape, BareHasShape, BareKeepsNumbers, BareIsBare}
use Rattle.civl_annotations.proofs.Baring.{bare_layer, bare_is, bare_out, bare_by, sizes_same}

-- ---- the shape

headers_same : (procs : List Proc) → map header_of (map bare_proc procs) ≡ map header_of procs
headers_same [] = refl
headers_same (p ∷ ps) = ap (λ (hs : List Header). header_of p ∷ hs) (headers_same ps)

each_sizes : (procs : List Proc) → map (λ p. sizes_of p.body) (map bare_proc procs) ≡ map (λ p. sizes_of p.body) procs
each_sizes [] = refl
each_sizes (p ∷ ps) =
    ap (λ (n : ℕ). n ∷ map (λ q. sizes_of q.body) (map bare_proc ps)) (sizes_same p.body) ∙ ap (λ (ns : List ℕ). sizes_of p.body ∷ ns) (each_sizes ps)

pub bare_has_shape : BareHasShape
bare_has_shape program = record {
  version = refl;
  layers = refl;
  permissions = refl;
  globals = refl;
  init = refl;
  actions = refl;
  threads = refl;
  headers = headers_same program.procs;
  sizes = each_sizes program.procs;
}

-- ---- the numbers

abbrev InnerStays : Stmt → Type 0
InnerStays s = inner_of (bare_stmt s) ≡ map bare_stmt (inner_of s)

parts_stay : {S : Type 0} (ys : List S) (v : S → Stmt) → ((x : S) → InnerStays (v x)) → statements_of (map bare_stmt (map v ys)) ≡ map bare_stmt (statements_of (map v ys))
parts_stay [] v h = refl
parts_stay (y ∷ ys) v h =
    let s = v y in
    let rest = statements_of (map v ys) in
    ap (λ (l : List Stmt). bare_stmt s ∷ l ++ statements_of (map bare_stmt (map v ys))) (h y)
    ∙ ap (λ (l : List Stmt). bare_stmt s ∷ map bare_stmt (inner_of s) ++ l) (parts_stay ys v h)
    ∙ sym (map-append bare_stmt (s ∷ inner_of s) rest)

layer_stays : {S : Type 0} (y : Stmt-F S) (v : S → Stmt) → ((x : S) → InnerStays (v x)) → inner_layer (bare_layer (map-Stmt S Stmt v y)) ≡ map bare_stmt (inner_layer (map-Stmt S Stmt v y))
layer_stays (If e a b) v h =
    ap (λ (l : List Stmt). l ++ statements_of (map bare_stmt (map v b))) (parts_stay a v h)
    ∙ ap (λ (l : List Stmt). map bare_stmt (statements_of (map v a)) ++ l) (parts_stay b v h)
    ∙ sym (map-append bare_stmt (statements_of (map v a)) (statements_of (map v b)))
layer_stays (While e a) v h = parts_stay a v h
layer_stays (YieldLoop e i a) v h = parts_stay a v h
layer_stays (RankLoop e r i a) v h = parts_stay a v h
layer_stays (Assign x e) v h = refl
layer_stays (Assert e) v h = refl
layer_stays (Call f es rs) v h = refl
layer_stays (Yield i) v h = refl
layer_stays Commit v h = refl
layer_stays (Intro x e) v h = refl
layer_stays (Spawn f es) v h = refl

inner_stays : (s : Stmt) → InnerStays s
inner_stays s =
    ind-Stmt InnerStays (λ x y e.
    let t = roll-Stmt x in
    let q = out-roll-Stmt x ∙ sym e in
    inner_is (bare_stmt t) ∙ ap inner_layer (bare_by t _ q) ∙ layer_stays y (λ z. z.0) (λ z. z.1) ∙ ap (map bare_stmt) (sym (inner_is t ∙ ap inner_layer q))) s

statements_stay : (body : List Stmt) → statements_of (map bare_stmt body) ≡ map bare_stmt (statements_of body)
statements_stay body =
    subst (λ (r : List Stmt). statements_of (map bare_stmt r) ≡ map bare_stmt (statements_of r)) (map-id body) (parts_stay body (λ (s : Stmt). s) inner_stays)

pub bare_keeps_numbers : BareKeepsNumbers
bare_keeps_numbers body number = ap (λ (l : List Stmt). slice_get l number) (statements_stay body) ∙ slice_get-map bare_stmt (statements_of body) number

-- ---- twice

abbrev Again : Stmt → Type 0
Again s = bare_stmt (bare_stmt s) ≡ bare_stmt s

parts_again : {S : Type 0} (ys : List S) (v : S → Stmt) → ((x : S) → Again (v x)) → map bare_stmt (map bare_stmt (map v ys)) ≡ map bare_stmt (map v ys)
parts_again [] v h = refl
parts_again (y ∷ ys) v h = ap (λ (s : Stmt). s ∷ map bare_stmt (map bare_stmt (map v ys))) (h y) ∙ ap (λ (l : List Stmt). bare_stmt (v y) ∷ l) (parts_again ys v h)

layer_again : {S : Type 0} (y : Stmt-F S) (v : S → Stmt) → ((x : S) → Again (v x)) → bare_layer (bare_layer (map-Stmt S Stmt v y)) ≡ bare_layer (map-Stmt S Stmt v y)
layer_again (If e a b) v h =
    ap (λ (l : List Stmt). If e l (map bare_stmt (map bare_stmt (map v b)))) (parts_again a v h) ∙ ap (λ (l : List Stmt). If e (map bare_stmt (map v a)) l) (parts_again b v h)
layer_again (While e a) v h = ap (While e) (parts_again a v h)
layer_again (YieldLoop e i a) v h = ap (YieldLoop e expr.True) (parts_again a v h)
layer_again (RankLoop e r i a) v h = ap (RankLoop e r expr.True) (parts_again a v h)
layer_again (Assign x e) v h = refl
layer_again (Assert e) v h = refl
layer_again (Call f es rs) v h = refl
layer_again (Yield i) v h = refl
layer_again Commit v h = refl
layer_again (Intro x e) v h = refl
layer_again (Spawn f es) v h = refl

again : (s : Stmt) → Again s
again s =
    ind-Stmt Again (λ x y e.
    let t = roll-Stmt x in
    let q = out-roll-Stmt x ∙ sym e in
    let once = bare_is t ∙ ap (λ (d : Stmt-F Stmt). roll-Stmt (bare_layer d)) q in
    bare_is (bare_stmt t) ∙ ap (λ (d : Stmt-F Stmt). roll-Stmt (bare_layer d)) (bare_by t _ q) ∙ ap roll-Stmt (layer_again y (λ z. z.0) (λ z. z.1)) ∙ sym once) s

stmts_again : (ss : List Stmt) → map bare_stmt (map bare_stmt ss) ≡ map bare_stmt ss
stmts_again [] = refl
stmts_again (s ∷ ss) = ap (λ (t : Stmt). t ∷ map bare_stmt (map bare_stmt ss)) (again s) ∙ ap (λ (l : List Stmt). bare_stmt s ∷ l) (stmts_again ss)

abbrev pub with_body : Proc → List Stmt → Proc
with_body proc body = record proc { body = body }

procs_again : (ps : List Proc) → map bare_proc (map bare_proc ps) ≡ map bare_proc ps
procs_again [] = refl
procs_again (p ∷ ps) =
    ap (λ (b : List Stmt). with_body p b ∷ map bare_proc (map bare_proc ps)) (stmts_again p.body) ∙ ap (λ (l : List Proc). bare_proc p ∷ l) (procs_again ps)

abbrev pub with_procs : Program → List Proc → Program
with_procs program procs = record program { invariants = []; procs = procs }

pub bare_is_bare : BareIsBare
bare_is_bare program = ap (with_procs program) (procs_again program.procs)
