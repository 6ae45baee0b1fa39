-- Statements without annotations, one layer at a time: their number and which are passed over.
use Rattle.std.proofs.Common.{◌≡◌, ℕ, ◌+◌, Bool, List, [], ◌∷◌, map, sum, refl, sym, ap, ◌∙◌, subst, map-id}
use Rattle.civl_tree.specs.declared.stmt.Stmt.{Stmt, out-Stmt, roll-Stmt, roll-out-Stmt, out-roll-Stmt, map-Stmt}
use Rattle.civl_tree.specs.declared.stmt.Stmt.TheOpen.{Stmt-F, Assign, Assert, If, While, YieldLoop, RankLoop, Call, Yield, Commit, Intro, Spawn}
use Rattle.civl_tree.specs.declared.stmt.Stmt.TheFolds.{fold-roll-Stmt, ind-Stmt}
use Rattle.civl_tree.specs.Numbering.{size_step, size_of, sizes_of}
use Rattle.civl_tree.proofs.Sizes.{size_by}
use Rattle.civl_meaning.specs.Places.{skip_layer, is_skipped}
use Rattle.civl_annotations.specs.Bare.{blank, bare_stmt}

-- a layer without its annotation, of statements without theirs
abbrev pub bare_layer : Stmt-F Stmt → Stmt-F Stmt
bare_layer d = blank (map-Stmt Stmt Stmt bare_stmt d)

pub bare_is : (s : Stmt) → bare_stmt s ≡ roll-Stmt (bare_layer (out-Stmt s))
bare_is s = ap bare_stmt (sym (roll-out-Stmt s)) ∙ fold-roll-Stmt Stmt (λ layer. roll-Stmt (blank layer)) (out-Stmt s)

pub bare_out : (s : Stmt) → out-Stmt (bare_stmt s) ≡ bare_layer (out-Stmt s)
bare_out s = ap out-Stmt (bare_is s) ∙ out-roll-Stmt (bare_layer (out-Stmt s))

-- by the form of the statement
pub bare_by : (s : Stmt) (d : Stmt-F Stmt) → out-Stmt s ≡ d → out-Stmt (bare_stmt s) ≡ bare_layer d
bare_by s d o = bare_out s ∙ ap bare_layer o

-- ---- what is passed over

skip_same : (d : Stmt-F Stmt) → skip_layer (bare_layer d) ≡ skip_layer d
skip_same (Assign x e) = refl
skip_same (Assert e) = refl
skip_same (If e a b) = refl
skip_same (While e a) = refl
skip_same (YieldLoop e i a) = refl
skip_same (RankLoop e r i a) = refl
skip_same (Call f es rs) = refl
skip_same (Yield i) = refl
skip_same Commit = refl
skip_same (Intro x e) = refl
skip_same (Spawn f es) = refl

pub skipped_same : (s : Stmt) → is_skipped (bare_stmt s) ≡ is_skipped s
skipped_same s = ap skip_layer (bare_out s) ∙ skip_same (out-Stmt s)

-- ---- how many statements there are

abbrev SizeStays : Stmt → Type 0
SizeStays s = size_of (bare_stmt s) ≡ size_of s

each_size : {S : Type 0} (ys : List S) (v : S → Stmt) → ((x : S) → SizeStays (v x)) → map size_of (map bare_stmt (map v ys)) ≡ map size_of (map v ys)
each_size [] v h = refl
each_size (y ∷ ys) v h = ap (λ (n : ℕ). n ∷ map size_of (map bare_stmt (map v ys))) (h y) ∙ ap (λ (ns : List ℕ). size_of (v y) ∷ ns) (each_size ys v h)

layer_size : {S : Type 0} (y : Stmt-F S) (v : S → Stmt) → ((x : S) → SizeStays (v x)) → size_step (map-Stmt Stmt ℕ size_of (bare_layer (map-Stmt S Stmt v y))) ≡ size_step (map-Stmt Stmt ℕ size_of (map-Stmt S Stmt v y))
layer_size (If e a b) v h = ap (λ (ns : List ℕ). 1 + sum ns + sum (map size_of (map bare_stmt (map v b)))) (each_size a v h) ∙ ap (λ (ns : List ℕ). 1 + sum (map size_of (map v a)) + sum ns) (each_size b v h)
layer_size (While e a) v h = ap (λ (ns : List ℕ). 1 + sum ns) (each_size a v h)
layer_size (YieldLoop e i a) v h = ap (λ (ns : List ℕ). 1 + sum ns) (each_size a v h)
layer_size (RankLoop e r i a) v h = ap (λ (ns : List ℕ). 1 + sum ns) (each_size a v h)
layer_size (Assign x e) v h = refl
layer_size (Assert e) v h = refl
layer_size (Call f es rs) v h = refl
layer_size (Yield i) v h = refl
layer_size Commit v h = refl
layer_size (Intro x e) v h = refl
layer_size (Spawn f es) v h = refl

pub size_same : (s : Stmt) → SizeStays s
size_same s =
    ind-Stmt SizeStays (λ x y e.
    let t = roll-Stmt x in
    let q = out-roll-Stmt x ∙ sym e in
    size_by (bare_stmt t) _ (bare_by t _ q) ∙ layer_size y (λ z. z.0) (λ z. z.1) ∙ sym (size_by t _ q)) s

pub sizes_same : (ss : List Stmt) → sizes_of (map bare_stmt ss) ≡ sizes_of ss
sizes_same ss = subst (λ (r : List Stmt). sizes_of (map bare_stmt r) ≡ sizes_of r) (map-id ss) (ap sum (each_size ss (λ (s : Stmt). s) size_same))
